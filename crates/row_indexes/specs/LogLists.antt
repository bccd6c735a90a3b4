-- The log index: two lists of ids of logs.
use Rattle.std.specs.Prelude.{◌≡◌, ℕ, ◌≤◌, List, Option, Some, None, Bool, if◌then◌else◌}
use Rattle.job_values.specs.declared.limits.TheConstants.{LAST_LOG_ID}
use Rattle.sorted_blocks.specs.declared.key.Key.{Key}
use Rattle.rising_rows.specs.Rising.{put_row, without}

-- the failed logs that no monitor chose, the sent logs that have no result, and how many more fit in either list without memory
pub record LogLists : Type 0 where
  pub failed : List ℕ
  pub awaited : List ℕ
  pub room : ℕ

-- the key of a log in a list
abbrev pub id_key : ℕ → Key
id_key log = record { time = 0; id = log }

-- the key of a log in a list, where it is in it
abbrev pub id_entry : ℕ → Bool → Option Key
id_entry log is_in = if is_in then Some (id_key log) else None

-- the ids of a list with one more
abbrev pub with_id : ℕ → List ℕ → List ℕ
with_id id ids = put_row (λ other. other) id ids

-- the ids of a list but for one
abbrev pub without_id : ℕ → List ℕ → List ℕ
without_id id ids = without (λ other. other) id ids

-- the ids of a list that a log was in or not, and now is or not
abbrev pub moved : ℕ → Bool → Bool → List ℕ → List ℕ
moved id was is ids = if is then (if was then ids else with_id id ids) else (if was then without_id id ids else ids)

-- a key is that of a log
abbrev pub IsLogKey : Key → Type 0
IsLogKey key = (key.time ≡ 0) × (1 ≤ key.id) × (key.id ≤ LAST_LOG_ID)
