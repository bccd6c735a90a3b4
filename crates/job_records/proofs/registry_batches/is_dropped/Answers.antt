use Rattle.std.proofs.Common.{sym}
use Rattle.job_records.specs.DropBatches.{drop_order}
use Rattle.rising_rows.proofs.SeatLemmas.{any-found, any-absent}
use Rattle.job_records.proofs.registry_batches.is_dropped.Goals as goal

pub returns-in-Ok : goal.returns-in-Ok
returns-in-Ok c =
    sym (any-found (drop_order c.args.row.now.key c.args.row.now.value) c.args.drops.now c.in-Ok.field-0 (rw (c.as_str.ensures, c.as_str-2.ensures) at c.in-Ok.ensures))

pub returns-in-Err : goal.returns-in-Err
returns-in-Err c =
    let seat = rw (c.as_str.ensures, c.as_str-2.ensures) at c.in-Err.ensures in
    sym (any-absent (drop_order c.args.row.now.key c.args.row.now.value) c.args.drops.now c.in-Err.field-0 seat.1)
