use Rattle.std.proofs.Common.{◌≡◌, length}
use Rattle.line_grammar.specs.Choices.{word_at}
use Rattle.line_grammar.proofs.choices.behind.Given as goal

abbrev pub invariant-loop-word : goal.invariant-loop-word
invariant-loop-word l = word_at l.word l.rest ≡ word_at l.fn.word l.bytes

abbrev pub decreases-loop-word : goal.decreases-loop-word
decreases-loop-word l = length l.word
