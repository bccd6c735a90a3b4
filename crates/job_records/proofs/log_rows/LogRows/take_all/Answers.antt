use Rattle.rising_rows.proofs.RowLemmas.{rises-filter}
use Rattle.job_records.proofs.log_rows.LogRows.take_all.Goals as goal

pub invariant_of-self : goal.invariant_of-self
invariant_of-self c =
    let failed = rw c.as_slice.ensures.value at c.drop_each.ensures.failed in
    let awaited = rw c.as_slice.ensures.value at c.drop_each.ensures.awaited in
    rw c.take_all.ensures.rows (rises-filter (λ log. log.id) _ 0 c.self.inside.logs.items c.self.invariant.0, failed, awaited)
