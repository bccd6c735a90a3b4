-- What is known of the logs, and how it is kept: a row for each log, and the last runs of all in order of their moments.
use Rattle.std.specs.Prelude.{◌≡◌, ℕ, ◌+◌, ◌-◌, ◌*◌, ◌^◌, ◌<◌, ◌≤◌, ◌==◌, nat_eq, nat_lt, Bool, List, [], ◌∷◌, Option, None, Some, map, find, vec_len, vec_capacity, MatchOption}
use Rattle.std.specs.List.{IsDistinct, AllByRecursion as Each}
use Rattle.std.specs.Map.{lookup, keys_of}
use Rattle.std.specs.Option.{option_map}
use Rattle.job_lane.specs.Runs.{put_before}
use Rattle.rising_rows.specs.Rising.{RisesFrom}
use Rattle.executor_history.specs.declared.records.Working.{Working}
use Rattle.executor_history.specs.Past.{Known, is_trimmed}
use Rattle.executor_core.specs.declared.known_row.KnownRow.{KnownRow}
use Rattle.executor_core.specs.declared.last_runs.LastRun.{LastRun}

-- what a row says of its log
abbrev pub known_as : ℕ → KnownRow → Known
known_as log row = record { log = log; moment = row.moment; lines = row.lines.items }

-- what is known of a log by its row, if it has one
abbrev pub row_of : ℕ → List (ℕ × KnownRow) → Option Known
row_of log rows = option_map (known_as log) (lookup (nat_eq log) rows)

-- rows in rising order of their keys
abbrev pub by_key : {R : Type 0} → (R → ℕ) → List R → List R
by_key key [] = []
by_key key (x ∷ xs) = put_before (λ y. nat_lt (key x) (key y)) x (by_key key xs)

-- what the rows say of their logs, by the ids of the logs
abbrev pub known_in : List (ℕ × KnownRow) → List Known
known_in rows = by_key (λ (k : Known). k.log) (map (λ (e : ℕ × KnownRow). known_as e.0 e.1) rows)

-- how many more lines go into a row without memory
abbrev pub room_in : KnownRow → ℕ
room_in row = vec_capacity row.lines - vec_len row.lines

abbrev pub rooms_in : List (ℕ × KnownRow) → List (ℕ × ℕ)
rooms_in rows = map (λ (e : ℕ × KnownRow). (e.0, room_in e.1)) rows

-- the room of a row; a log without one takes no lines
abbrev pub row_room : Option KnownRow → ℕ
row_room None = 1
row_room (Some row) = room_in row

abbrev pub line_room : ℕ → List (ℕ × KnownRow) → ℕ
line_room log rows = row_room (lookup (nat_eq log) rows)

-- there is room for one more line of this log, if it is known
abbrev pub LineRoom : ℕ → List (ℕ × ℕ) → Type 0
LineRoom log rooms = MatchOption (lookup (nat_eq log) rooms) (Unit {0}) (λ room. 1 ≤ room)

-- the known logs, rising, and how many more lines of each and how many more logs can be put without memory
pub record KnownView : Type 0 where
  pub known : List Known
  pub lines : List (ℕ × ℕ)
  pub room : ℕ

-- the last run of a known log
abbrev pub last_run : Known → LastRun
last_run k = record { moment = k.moment; log = k.log }

-- last runs stand in order of their moments, and then of the ids of their logs, which are below 2 ^ 64
abbrev pub run_rank : LastRun → ℕ
run_rank run = run.moment * 2 ^ 64 + run.log

-- a trim at a moment drops the log of a last run
abbrev pub is_trimmed_run : ℕ → List ℕ → List Working → LastRun → Bool
is_trimmed_run at ids on_runners run = is_trimmed at ids on_runners (record { log = run.log; moment = run.moment; lines = [] })

-- each has a key of its own
abbrev pub HaveOwn : {R : Type 0} → (R → ℕ) → List R → Type 0
HaveOwn key [] = Unit {0}
HaveOwn key (x ∷ xs) = (find (λ y. key x == key y) xs ≡ None) × HaveOwn key xs

-- these are the last runs of the logs that have these rows
pub record AreLast (rows : List (ℕ × KnownRow)) (runs : List LastRun) : Type 0 where
  pub once : IsDistinct nat_eq (keys_of rows)
  pub rise : RisesFrom run_rank 0 runs
  pub own : HaveOwn (λ (run : LastRun). run.log) runs
  pub ids : Each (λ (run : LastRun). run.log < 2 ^ 64) runs
  pub are : (log : ℕ) → find (λ (run : LastRun). log == run.log) runs ≡ option_map last_run (row_of log rows)
