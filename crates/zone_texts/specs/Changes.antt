-- When a clock is moved.
use Rattle.std.specs.Prelude.{ℕ}

-- a weekday of a month and the seconds after midnight of that day; week 5 is the last, day 0 is Sunday
pub record Change : Type 0 where
  pub month : ℕ
  pub week : ℕ
  pub day : ℕ
  pub time : ℕ
