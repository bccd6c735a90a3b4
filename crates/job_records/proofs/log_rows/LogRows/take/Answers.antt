use Rattle.std.proofs.Common.{eqb, not}
use Rattle.rising_rows.proofs.RowLemmas.{rises-filter}
use Rattle.job_records.specs.LogClasses.{is_unmarked, is_awaited}
use Rattle.job_records.proofs.IndexLemmas.{ids-drop_log}
use Rattle.job_records.proofs.log_rows.LogRows.take.Goals as goal

pub invariant_of-self : goal.invariant_of-self
invariant_of-self c =
    let logs = c.self.inside.logs.items in
    let index = c.self.inside.index in
    let failed = rw (c.as_slice.ensures.value, c.get.ensures.value) at c.drop_one.ensures.failed in
    let awaited = rw (c.as_slice.ensures.value, c.get.ensures.value) at c.drop_one.ensures.awaited in
    let rows = rw c.get-2.ensures.value at c.take.ensures.rows in
    rw rows (
      rises-filter (λ log. log.id) (λ log. not (eqb log.id c.args.id)) 0 logs c.self.invariant.0,
      ids-drop_log is_unmarked c.args.id logs index.failed c.drop_one.new.index.failed c.self.invariant.0 c.self.invariant.1 failed,
      ids-drop_log is_awaited c.args.id logs index.awaited c.drop_one.new.index.awaited c.self.invariant.0 c.self.invariant.2 awaited,
    )
