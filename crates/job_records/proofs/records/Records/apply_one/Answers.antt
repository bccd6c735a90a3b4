use Rattle.rising_rows.proofs.RowLemmas.{rises-from_rising}
use Rattle.job_records.proofs.records.Records.apply_one.Goals as goal

pub put-requires-clause-rising : goal.put-requires-clause-rising
put-requires-clause-rising c = rises-from_rising _ 0 _ _ c.self.invariant.groups.rising

pub invariant_of-self-in-DropRegistry : goal.invariant_of-self-in-DropRegistry
invariant_of-self-in-DropRegistry c =
    rw c.drop_registration.ensures.rows (rw (c.in-DropRegistry.is, ← c.self.view_is) at c.requires.allowed)
