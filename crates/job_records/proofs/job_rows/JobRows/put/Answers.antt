use Rattle.std.proofs.Common.{arith}
use Rattle.rising_rows.proofs.PutLemmas.{rises-put}
use Rattle.job_records.proofs.IndexLemmas.{due-put}
use Rattle.job_records.proofs.job_rows.JobRows.put.Goals as goal

pub invariant_of-self : goal.invariant_of-self
invariant_of-self c =
    let old = rw c.as_slice.ensures.value at c.next_with-old.ensures.next in
    let up = c.self.invariant.0 in
    rw c.put.ensures.rows (
      rises-put (λ job. job.id) 0 c.args.job c.self.inside.jobs.items up (omega (arith, c.next_with-old.ensures.least)),
      due-put c.args.job c.self.inside.jobs.items c.self.inside.due.keys c.change.new.self.keys c.next_with-old.result c.next_time.result up (omega (arith, c.next_with-old.ensures.least)) c.self.invariant.1 old c.next_time.ensures
          c.change.ensures.keys,
    )
