-- The page of a scan, by the due index.
use Rattle.std.specs.Prelude.{◌≡◌, ℕ, ◌+◌, List, map, filter, take, Bool, false, nat_eq, nat_le, Option, Some, None}
use Rattle.std.specs.List.{list_any}
use Rattle.std.specs.List.Sorted.{IsStrictlyIncreasing}
use Rattle.job_values.specs.declared.limits.TheConstants.{LOOK_AHEAD}
use Rattle.sorted_blocks.specs.declared.key.Key.{Key}

-- the jobs of the keys whose times are no further than a bound
abbrev pub due_ids : ℕ → List Key → List ℕ
due_ids bound keys = map (λ key. key.id) (filter (λ key. nat_le key.time bound) keys)

-- whether an id is among others
abbrev pub has_id : ℕ → List ℕ → Bool
has_id id ids = list_any (nat_eq id) ids

-- whether a next time comes up to a bound
abbrev pub is_next_by : ℕ → Option ℕ → Bool
is_next_by bound None = false
is_next_by bound (Some next) = nat_le next bound

-- the first jobs, in order of their ids, whose next times are no further ahead than a scan looks
pub record IsPage (limit now : ℕ) (keys : List Key) (page : List ℕ) : Type 0 where
  pub ids : List ℕ
  pub rising : IsStrictlyIncreasing ids
  pub due : (id : ℕ) → has_id id ids ≡ has_id id (due_ids (now + LOOK_AHEAD) keys)
  pub first : page ≡ take limit ids
