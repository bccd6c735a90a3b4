use Rattle.std.proofs.Common.{◌∙◌, ap}
use Rattle.std.specs.Prelude.{slice_set}
use Rattle.time_ring.specs.Slot.{lists_of}
use Rattle.time_ring.proofs.Changes.{lists-set}
use Rattle.time_ring.proofs.slots.take_slot.Goals as goal

pub returns-clause-emptied : goal.returns-clause-emptied
returns-clause-emptied c =
    lists-set c.args.slots.now.items c.args.at c.take.new.self
    ∙ ap (slice_set (lists_of c.args.slots.now.items) c.args.at) c.take.ensures.emptied
