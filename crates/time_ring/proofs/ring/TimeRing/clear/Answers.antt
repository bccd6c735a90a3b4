use Rattle.std.proofs.Common.{◌∙◌}
use Rattle.time_ring.proofs.Changes.{replicate-sixty}
use Rattle.time_ring.proofs.ring.TimeRing.clear.Goals as goal

pub returns-clause-emptied : goal.returns-clause-emptied
returns-clause-emptied c = c.clear_slots.ensures.lists ∙ replicate-sixty _ c.self.invariant
