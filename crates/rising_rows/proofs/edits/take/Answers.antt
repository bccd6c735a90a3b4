use Rattle.std.proofs.Common.{◌∙◌}
use Rattle.rising_rows.specs.Seats.{key_order}
use Rattle.rising_rows.proofs.SeatLemmas.{without-order}
use Rattle.rising_rows.proofs.edits.take.Goals as goal

pub returns-clause-rows : goal.returns-clause-rows
returns-clause-rows g c =
    c.take_at.ensures.rows (key_order g.R.Keyed.key_of c.args.key) (rw c.as_slice.ensures.value at c.seat_of-seat.ensures)
    ∙ without-order g.R.Keyed.key_of c.args.key c.args.rows.now.items
