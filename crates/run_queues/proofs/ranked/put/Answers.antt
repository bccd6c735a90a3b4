use Rattle.std.proofs.Common.{◌<◌, ◌≤◌, ℕ, Result, Ok, Err, OnOk, OnErr, ◌∙◌, arith}
use Rattle.run_queues.proofs.Puts.{put_seat, not_taken}
use Rattle.run_queues.proofs.ranked.put.Goals as goal

-- where there is room, what holds after success holds
with_room : {T E : Type 0} (r : Result T E) (len capacity : ℕ) (P : Type 0) → OnErr r (capacity ≤ len) → len < capacity → OnOk r P → P
with_room (Ok x) len capacity P full room holds = holds
with_room (Err x) len capacity P full room holds = absurd (omega (arith, full, room))

pub returns-in-Ok-clause-rows : goal.returns-in-Ok-clause-rows
returns-in-Ok-clause-rows g c =
    let seat = rw c.in-Ok.is at c.seat_of.ensures in
    absurd (not_taken g.R.Ranked.rank_of c.args.row c.args.rows.now.items c.in-Ok.field-0 seat.0 seat.1 c.requires.new)

pub returns-in-Err-clause-rows : goal.returns-in-Err-clause-rows
returns-in-Err-clause-rows g c =
    let seat = rw c.in-Err.is at c.seat_of.ensures in
    with_room c.insert-put.result _ _ _ c.insert-put.ensures.full c.requires.room c.insert-put.ensures.items
    ∙ put_seat g.R.Ranked.rank_of c.args.row c.args.rows.now.items c.in-Err.at seat c.requires.new
