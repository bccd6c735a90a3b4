use Rattle.std.proofs.Common.{◌∙◌, sym}
use Rattle.std.specs.Prelude.{Err}
use Rattle.rising_rows.specs.Seats.{IsSeat}
use Rattle.rising_rows.proofs.SeatLemmas.{filter-found, filter-absent}
use Rattle.rising_rows.proofs.seats.take_at.Goals as goal

pub returns-in-Ok-clause-rows : goal.returns-in-Ok-clause-rows
returns-in-Ok-clause-rows g c order seat =
    c.remove.ensures.items ∙ filter-found order c.args.rows.now.items c.in-Ok.at (rw c.in-Ok.is at seat)

pub returns-in_default-clause-rows : goal.returns-in_default-clause-rows
returns-in_default-clause-rows g c order seat =
    let here : IsSeat order c.args.rows.now.items (Err c.in_default.field-0) = rw c.in_default.is at seat in
    sym (filter-absent order c.args.rows.now.items c.in_default.field-0 here.1)
