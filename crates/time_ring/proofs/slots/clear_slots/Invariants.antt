use Rattle.std.proofs.Common.{◌≡◌, [], take, replicate}
use Rattle.time_ring.specs.Slot.{lists_of}
use Rattle.time_ring.proofs.slots.clear_slots.Given as goal

abbrev pub invariant-loop-slot : goal.invariant-loop-slot
invariant-loop-slot l = lists_of (take l.slot-index l.slot-items) ≡ replicate l.slot-index []
