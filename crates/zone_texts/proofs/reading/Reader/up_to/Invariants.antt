use Rattle.std.proofs.Common.{◌≡◌}
use Rattle.zone_texts.specs.Reading.{behind_up_to}
use Rattle.zone_texts.proofs.reading.Reader.up_to.Given as goal

abbrev pub invariant-loop-others : goal.invariant-loop-others
invariant-loop-others l = behind_up_to l.others l.class l.self.rest.now ≡ behind_up_to l.fn.most l.class l.fn.self.rest.now

abbrev pub decreases-loop-others : goal.decreases-loop-others
decreases-loop-others l = l.others
