use Rattle.rising_rows.proofs.RowLemmas.{rises-from_rising}
use Rattle.job_records.proofs.AllowLemmas.{both, group_allowed}
use Rattle.job_records.proofs.records.Records.allows_group.Goals as goal

pub group_fits-requires : goal.group_fits-requires
group_fits-requires c = rw c.as_slice.ensures.value (rises-from_rising _ 0 _ _ c.self.invariant.groups.rising)

pub returns : goal.returns
returns c =
    rw (← c.self.view_is)
    (both (rw c.as_slice.ensures.value at c.group_fits.ensures.fits) (group_allowed _ c.args.group.now c.self.invariant c.group_fits.ensures.least))
