use Rattle.std.proofs.Common.{◌≡◌, rules}
use Rattle.time_ring.specs.Ring.{slot_of}
use Rattle.time_ring.proofs.Changes.{tickets_read, room_read, lists-set, rooms-set}
use Rattle.time_ring.proofs.slots.put_slot.Goals as goal

pub returns-clause-lists : goal.returns-clause-lists
returns-clause-lists c =
    let slot : c.slot_at.result ≡ slot_of c.args.ticket.due = cc in
    let read = tickets_read c.args.slots.now.items c.slot_at.result c.index_mut-slot.result.now (search rules) c.index_mut-slot.ensures.value in
    let written = lists-set c.args.slots.now.items c.slot_at.result c.put.new.self in
    cc

pub returns-clause-room : goal.returns-clause-room
returns-clause-room c =
    let slot : c.slot_at.result ≡ slot_of c.args.ticket.due = cc in
    let read = room_read c.args.slots.now.items c.slot_at.result c.index_mut-slot.result.now (search rules) c.index_mut-slot.ensures.value in
    let written = rooms-set c.args.slots.now.items c.slot_at.result c.put.new.self in
    cc
