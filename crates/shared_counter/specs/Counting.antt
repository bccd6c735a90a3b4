-- Histories of a counter with a limit.
use Rattle.std.specs.Prelude.{◌≡◌, ℕ, ◌+◌, ◌<◌, ◌≤◌, List, [], ◌∷◌}
use Rattle.shared_counter.specs.declared.counter.Add.{Add}
use Rattle.shared_counter.specs.declared.counter.Counter.{Counter}
use Rattle.shared_counter.specs.declared.counter.OverLimit.{OverLimit}

-- the value after these acts
abbrev pub value_after : ℕ → List (Add × ℕ) → ℕ
value_after value [] = value
value_after value (e ∷ es) = value_after (value + e.0.by) es

-- each reply is the value after its act, and within the limit
abbrev pub IsLegalFrom : ℕ → ℕ → List (Add × ℕ) → Type 0
IsLegalFrom limit value [] = Unit {0}
IsLegalFrom limit value (e ∷ es) = (e.1 ≡ value + e.0.by) × (e.1 ≤ limit) × IsLegalFrom limit (value + e.0.by) es

-- a legal history from this counter
abbrev pub IsLegal : Counter → List (Add × ℕ) → Type 0
IsLegal start log = IsLegalFrom start.limit start.value log

-- the counter after a legal history
abbrev pub Stands : Counter → List (Add × ℕ) → Counter → Type 0
Stands start log now = (now.limit ≡ start.limit) × (now.value ≡ value_after start.value log) × IsLegal start log

-- an act after which the value would be above the limit
abbrev pub Refuses : Counter → List (Add × ℕ) → Add → OverLimit → Type 0
Refuses start log add over = start.limit < value_after start.value log + add.by
