use Rattle.rising_rows.proofs.RowLemmas.{rises-from_rising}
use Rattle.job_records.proofs.records.Records.group.Goals as goal

pub row_of-requires : goal.row_of-requires
row_of-requires c = rw c.as_slice.ensures.value (rises-from_rising _ 0 _ _ c.self.invariant.groups.rising)
