use Rattle.std.proofs.Common.{rules}
use Rattle.time_ring.proofs.Changes.{rooms-set_more, lists-set_same, room_written}
use Rattle.time_ring.proofs.slots.reserve_slot.Goals as goal

pub returns-clause-same : goal.returns-clause-same
returns-clause-same c =
    lists-set_same c.args.slots.now.items c.slot_at.result c.index_mut-slot.result.now c.reserve.new.self (search rules)
    c.index_mut-slot.ensures.value c.reserve.ensures.tickets

pub returns-clause-room : goal.returns-clause-room
returns-clause-room c =
    rooms-set_more c.args.slots.now.items c.slot_at.result c.index_mut-slot.result.now c.reserve.new.self (search rules)
    c.index_mut-slot.ensures.value c.reserve.ensures.room

pub returns-clause-ok : goal.returns-clause-ok
returns-clause-ok c =
    rw (room_written c.args.slots.now.items c.slot_at.result c.reserve.new.self (search rules) _ c.slot_at.ensures.slot)
    c.reserve.ensures.ok
