use Rattle.std.proofs.Common.{◌∙◌, refl}
use Rattle.time_ring.proofs.Changes.{replicate-sixty}
use Rattle.time_ring.proofs.ring.TimeRing.new.Goals as goal

pub returns : goal.returns
returns c = c.in_ok-empty_slots.ensures.lists ∙ replicate-sixty _ refl
