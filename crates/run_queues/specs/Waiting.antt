-- How many of the runs that wait each log has.
use Rattle.std.specs.Prelude.{◌≡◌, ℕ, ◌==◌, nat_eq, Bool, if◌then◌else◌, List, count_by, Option, None, Some}
use Rattle.std.specs.List.{IsDistinct}
use Rattle.std.specs.Map.{lookup, keys_of}
use Rattle.job_lane.specs.declared.runs.QueuedRun.{QueuedRun}
use Rattle.executor_history.specs.declared.records.Queued.{Queued}

-- a run of a log
abbrev pub is_run_of : ℕ → Queued → Bool
is_run_of log q = log == q.run.log

-- a log that is not counted has none
abbrev pub times_in : Option ℕ → ℕ
times_in None = 0
times_in (Some times) = times

abbrev pub times : ℕ → List (ℕ × ℕ) → ℕ
times log logs = times_in (lookup (nat_eq log) logs)

-- how many of one run, which may be there, are of a log
abbrev pub one_of : ℕ → Option QueuedRun → ℕ
one_of log None = 0
one_of log (Some run) = if log == run.log then 1 else 0

-- the logs of these runs, each with how many are its own
pub record Counts (logs : List (ℕ × ℕ)) (qs : List Queued) : Type 0 where
  pub once : IsDistinct nat_eq (keys_of logs)
  pub times_are : (log : ℕ) → times log logs ≡ count_by (is_run_of log) qs
