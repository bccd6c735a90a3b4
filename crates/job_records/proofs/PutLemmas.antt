-- The lemmas on a row put among others that the crates above cite.
pub use Rattle.rising_rows.proofs.PutLemmas.{put_behind, put_present}
