-- The first number from one on, below another, that passes a test.
use Rattle.std.specs.Prelude.{◌≡◌, ℕ, zero, suc, ◌+◌, ◌-◌, ◌<◌, ◌≤◌, Bool, true, false, Option, Some, None, if◌then◌else◌}

-- the first of n numbers from v on that passes
unfoldable pub first_from : (ℕ → Bool) → ℕ → ℕ → Option ℕ
first_from test v zero = None
first_from test v (suc n) = if test v then Some v else first_from test (v + 1) n

-- the first number from low on and below high that passes
abbrev pub first_in : (ℕ → Bool) → ℕ → ℕ → Option ℕ
first_in test low high = first_from test low (high - low)

-- no number from low on and below high passes
abbrev pub NonePasses : (ℕ → Bool) → ℕ → ℕ → Type 0
NonePasses test low high = (v : ℕ) → low ≤ v → v < high → test v ≡ false

-- r is the first number from low on and below high that passes
pub record IsFirstAt (test : ℕ → Bool) (low high r : ℕ) : Type 0 where
  pub least : low ≤ r
  pub below : r < high
  pub passes : test r ≡ true
  pub none_before : NonePasses test low r

-- an answer is the first number that passes, or there is none
abbrev pub IsFirst : (ℕ → Bool) → ℕ → ℕ → Option ℕ → Type 0
IsFirst test low high None = NonePasses test low high
IsFirst test low high (Some r) = IsFirstAt test low high r
