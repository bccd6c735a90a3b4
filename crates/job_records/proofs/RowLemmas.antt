-- The lemmas on rows in rising order of their ids that the crates above cite.
pub use Rattle.rising_rows.proofs.RowLemmas.{rises-from_rising, rising-ends, rising-push, changed-none, find-skip, find-here, found-id, found-within}
