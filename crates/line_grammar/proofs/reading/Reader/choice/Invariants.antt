use Rattle.std.proofs.Common.{◌≡◌, drop, map}
use Rattle.line_grammar.specs.Choices.{words_from, words_at}
use Rattle.line_grammar.proofs.reading.Reader.choice.Given as goal

abbrev pub invariant-loop-i : goal.invariant-loop-i
invariant-loop-i l = words_from l.i l.least (drop l.i (map (λ w. w.now) l.words)) l.bytes ≡ words_at (map (λ w. w.now) l.words) l.bytes
