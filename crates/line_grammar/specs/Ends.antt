-- The byte behind a word.
use Rattle.std.specs.Prelude.{ℕ}
use Rattle.line_grammar.specs.declared.ends.End.{End}
use Rattle.line_grammar.specs.declared.ends.End.TheVariants.{Space, Line}

abbrev pub end_byte : End → ℕ
end_byte Space = 32
end_byte Line = 10
