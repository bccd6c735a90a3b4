-- Rows with their indexes.
use Rattle.std.specs.Prelude.{ℕ, List}

-- the rows, and how many more fit with their indexes without memory
pub record KeptRows (R : Type 0) : Type 0 where
  pub rows : List R
  pub room : ℕ
