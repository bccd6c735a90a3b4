use Rattle.std.proofs.Common.{◌∙◌}
use Rattle.job_records.specs.Order.{key_order}
use Rattle.job_records.proofs.OrderLemmas.{unregistered-order}
use Rattle.job_records.proofs.registry_edits.drop_registration.Goals as goal

pub returns-clause-rows : goal.returns-clause-rows
returns-clause-rows c =
    c.take_at.ensures.rows (key_order c.args.key.now c.args.value.now) (rw (c.as_slice.ensures.value, c.as_str.ensures, c.as_str-2.ensures) at c.seat_of-seat.ensures)
    ∙ unregistered-order c.args.key.now c.args.value.now c.args.rows.now.items
