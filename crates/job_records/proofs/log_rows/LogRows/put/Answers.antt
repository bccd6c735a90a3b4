use Rattle.std.proofs.Common.{arith}
use Rattle.rising_rows.proofs.PutLemmas.{rises-put}
use Rattle.job_records.specs.LogClasses.{is_unmarked, is_awaited}
use Rattle.job_records.proofs.IndexLemmas.{ids-put_log}
use Rattle.job_records.proofs.log_rows.LogRows.put.Goals as goal

pub invariant_of-self : goal.invariant_of-self
invariant_of-self c =
    let logs = c.self.inside.logs.items in
    let index = c.self.inside.index in
    let up = c.self.invariant.0 in
    let was_failed = rw c.as_slice.ensures.value at c.class_with-old.ensures.failed in
    let was_awaited = rw c.as_slice.ensures.value at c.class_with-old.ensures.awaited in
    rw c.put.ensures.rows (
      rises-put (λ log. log.id) 0 c.args.log logs up (omega (arith, c.class_with-old.ensures.least)),
      ids-put_log is_unmarked c.args.log logs index.failed c.change.new.self.failed c.class_with-old.result.failed c.class_of.result.failed up (omega (arith, c.class_with-old.ensures.least)) c.self.invariant.1 was_failed
          c.class_of.ensures.failed c.change.ensures.failed,
      ids-put_log is_awaited c.args.log logs index.awaited c.change.new.self.awaited c.class_with-old.result.awaited c.class_of.result.awaited up (omega (arith, c.class_with-old.ensures.least)) c.self.invariant.2 was_awaited
          c.class_of.ensures.awaited c.change.ensures.awaited,
    )
