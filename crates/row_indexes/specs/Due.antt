-- The due index: the next times of running jobs.
use Rattle.std.specs.Prelude.{ℕ, ◌≤◌, List, Option, Some, None, nat_eq, if◌then◌else◌}
use Rattle.std.specs.Option.{option_eq}
use Rattle.job_values.specs.declared.limits.TheConstants.{LAST_MOMENT, LAST_JOB_ID}
use Rattle.sorted_blocks.specs.declared.key.Key.{Key}
use Rattle.row_indexes.specs.Entries.{with_entry, without_entry}

-- the key of a job that has a next time
abbrev pub due_entry : ℕ → Option ℕ → Option Key
due_entry job None = None
due_entry job (Some next) = Some (record { time = next; id = job })

-- the keys after the next time of a job has changed
abbrev pub due_moved : ℕ → Option ℕ → Option ℕ → List Key → List Key
due_moved job old new keys =
    if option_eq nat_eq old new then keys else with_entry (due_entry job new) (without_entry (due_entry job old) keys)

-- a key is that of a job and a moment
abbrev pub IsDueKey : Key → Type 0
IsDueKey key = (key.time ≤ LAST_MOMENT) × (1 ≤ key.id) × (key.id ≤ LAST_JOB_ID)

-- the moment and the job of a key
abbrev pub pair_of : Key → ℕ × ℕ
pair_of key = (key.time, key.id)
