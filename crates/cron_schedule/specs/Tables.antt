-- Tables of the next value of a set.
use Rattle.std.specs.Prelude.{◌≡◌, ℕ, ◌≤◌, Bool, unwrap_or, List, slice_index}
use Rattle.cron_schedule.specs.First.{first_in}

-- for each number up to the size, the first number from it on that passes, or the size for none
pub record IsFirsts (test : ℕ → Bool) (size : ℕ) (table : List ℕ) : Type 0 where
  pub next : (v : ℕ) → v ≤ size → slice_index table v ≡ unwrap_or (first_in test v size) size

-- the same for the numbers from one on
pub record IsFirstsFrom (test : ℕ → Bool) (from size : ℕ) (table : List ℕ) : Type 0 where
  pub next : (v : ℕ) → from ≤ v → v ≤ size → slice_index table v ≡ unwrap_or (first_in test v size) size
