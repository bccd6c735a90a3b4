use Rattle.rising_rows.proofs.RowLemmas.{rises-from_rising}
use Rattle.job_records.proofs.AllowLemmas.{both, last_allowed}
use Rattle.job_records.proofs.records.Records.allows_last.Goals as goal

pub last_fits-requires-clause-groups : goal.last_fits-requires-clause-groups
last_fits-requires-clause-groups c = rw c.as_slice.ensures.value (rises-from_rising _ 0 _ _ c.self.invariant.groups.rising)

pub last_fits-requires-clause-jobs : goal.last_fits-requires-clause-jobs
last_fits-requires-clause-jobs c = rw c.as_slice-2.ensures.value (rises-from_rising _ 0 _ _ c.self.invariant.jobs.rising)

pub last_fits-requires-clause-logs : goal.last_fits-requires-clause-logs
last_fits-requires-clause-logs c = rw c.as_slice-3.ensures.value (rises-from_rising _ 0 _ _ c.self.invariant.logs.rising)

pub returns : goal.returns
returns c =
    rw (← c.self.view_is)
    (both (rw (c.as_slice.ensures.value, c.as_slice-2.ensures.value, c.as_slice-3.ensures.value) at c.last_fits.ensures) (last_allowed _ c.args.last c.self.invariant))
