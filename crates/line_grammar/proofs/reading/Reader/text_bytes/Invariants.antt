use Rattle.std.proofs.Common.{◌≡◌, drop}
use Rattle.line_grammar.specs.Automata.{run}
use Rattle.line_grammar.specs.Texts.{text_step, text_at}
use Rattle.line_grammar.proofs.reading.Reader.text_bytes.Given as goal

abbrev pub invariant-loop-i : goal.invariant-loop-i
invariant-loop-i l = run (text_step l.form) (l.stage, l.text.items) (drop l.i l.bytes) ≡ text_at l.form l.bytes
