use Rattle.std.proofs.Common.{◌≡◌, min, take, ◌^◌, ◌-◌}
use Rattle.time_ring.specs.Ring.{ticket_count}
use Rattle.time_ring.specs.Slot.{lists_of}
use Rattle.time_ring.proofs.slots.count_tickets.Given as goal

abbrev pub invariant-loop-slot : goal.invariant-loop-slot
invariant-loop-slot l = l.count ≡ min (ticket_count (lists_of (take l.slot-index l.slot-items))) (2 ^ 64 - 1)
