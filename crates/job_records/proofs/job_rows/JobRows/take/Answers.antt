use Rattle.std.proofs.Common.{eqb, not}
use Rattle.rising_rows.proofs.RowLemmas.{rises-filter}
use Rattle.job_records.proofs.IndexLemmas.{due-drop}
use Rattle.job_records.proofs.job_rows.JobRows.take.Goals as goal

pub invariant_of-self : goal.invariant_of-self
invariant_of-self c =
    let dropped = rw (c.as_slice.ensures.value, c.get.ensures.value) at c.drop_one.ensures.keys in
    let rows = rw c.get-2.ensures.value at c.take.ensures.rows in
    rw rows (
      rises-filter (λ job. job.id) (λ job. not (eqb job.id c.args.id)) 0 c.self.inside.jobs.items c.self.invariant.0,
      due-drop c.args.id c.self.inside.jobs.items c.self.inside.due.keys c.drop_one.new.due.keys c.self.invariant.0 c.self.invariant.1 dropped,
    )
