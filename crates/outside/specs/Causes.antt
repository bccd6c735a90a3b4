-- Counts of faults, and which answers they explain.
use Rattle.std.specs.Prelude.{ℕ, ◌+◌, ◌-◌, ◌^◌, ◌≤◌, min, Result, OnErr}

-- the count after one more fault; it stays at the greatest number of its type
abbrev pub faults_after : ℕ → ℕ
faults_after before = min (before + 1) (2 ^ 64 - 1)

-- the count of faults rose, or stood at its greatest value
abbrev pub Rose : ℕ → ℕ → Type 0
Rose before now = faults_after before ≤ now

-- the count of faults does not fall in a call, and the call fails only where it rose
pub record HasCause {X E : Type 0} (before now : ℕ) (result : Result X E) : Type 0 where
  pub later : before ≤ now
  pub failed : OnErr result (Rose before now)
