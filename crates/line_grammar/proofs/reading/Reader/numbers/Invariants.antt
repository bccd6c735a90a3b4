use Rattle.std.proofs.Common.{◌≡◌}
use Rattle.line_grammar.specs.Lists.{numbers_at}
use Rattle.line_grammar.proofs.Loop.{with_front}
use Rattle.line_grammar.proofs.reading.Reader.numbers.Given as goal

abbrev pub invariant-loop-others : goal.invariant-loop-others
invariant-loop-others l = with_front l.numbers.items (numbers_at l.form l.others l.self.rest.now) ≡ numbers_at l.form l.count l.fn.self.rest.now

abbrev pub decreases-loop-others : goal.decreases-loop-others
decreases-loop-others l = l.others
