use Rattle.rising_rows.proofs.RowLemmas.{rises-filter}
use Rattle.job_records.proofs.job_rows.JobRows.take_all.Goals as goal

pub invariant_of-self : goal.invariant_of-self
invariant_of-self c =
    let keys = rw c.as_slice.ensures.value at c.drop_each.ensures.keys in
    rw c.take_all.ensures.rows (rises-filter (λ job. job.id) _ 0 c.self.inside.jobs.items c.self.invariant.0, keys)
