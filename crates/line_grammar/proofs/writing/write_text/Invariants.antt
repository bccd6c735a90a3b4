use Rattle.std.proofs.Common.{◌≡◌, ◌∷◌, [], ◌++◌, take}
use Rattle.line_grammar.specs.Texts.{spelled}
use Rattle.line_grammar.proofs.writing.write_text.Given as goal

abbrev pub invariant-loop-byte : goal.invariant-loop-byte
invariant-loop-byte l = l.out.items ≡ (l.fn.out.items ++ 34 ∷ []) ++ spelled (take l.byte-index l.byte-items)
