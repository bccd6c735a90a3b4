use Rattle.std.proofs.Common.{◌≡◌, drop}
use Rattle.line_grammar.specs.Tables.{row_from, row_at}
use Rattle.line_grammar.proofs.Steps.{table_of}
use Rattle.line_grammar.proofs.reading.Reader.one_of.Given as goal

abbrev pub invariant-loop-word : goal.invariant-loop-word
invariant-loop-word g l = row_from l.least (drop l.word-index (table_of l.rows)) l.bytes ≡ row_at (table_of l.rows) l.bytes
