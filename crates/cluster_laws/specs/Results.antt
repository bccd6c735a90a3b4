-- The results and the marks of logs, by the entries.
use Rattle.std.specs.Prelude.{◌≡◌, ℕ, ◌==◌, ℤ, pos, List, [], All, nat_lt, Option, Some, None, if◌then◌else◌}
use Rattle.job_values.specs.declared.limits.TheConstants.{FAILURE}
use Rattle.job_events.specs.declared.cluster.ClusterEvent.{ClusterEvent}
use Rattle.job_events.specs.declared.cluster.ClusterEvent.TheVariants.{Callback, Lost}
use Rattle.job_records.specs.declared.log.Log.{Log}
use Rattle.cluster_history.specs.History.{History, Begin, After, accepted}
use Rattle.cluster_history.specs.Settling.{log_with, lost_text}
use Rattle.cluster_history.specs.Logs.{logs_of}
use Rattle.cluster_history.specs.Runs.{IsLegal}
use Rattle.cluster_laws.specs.Settles.{settled_by, times_marked}

-- a result: its moment, its code and its text
pub record LogResult : Type 0 where
  pub time : Option ℕ
  pub code : ℤ
  pub text : List ℕ

-- that of a log that has none yet
abbrev pub no_result : LogResult
no_result = record { time = None; code = pos 0; text = [] }

-- what a row has as its result
abbrev pub result_in : Log → LogResult
result_in log = record { time = log.result_time; code = log.result_code; text = log.result_text }

-- a log without a row has none
abbrev pub result_row : Option Log → LogResult
result_row None = no_result
result_row (Some log) = result_in log

-- the result that an entry gives to the log that it settles: what a callback says, or that the log is lost
abbrev pub result_given : ClusterEvent → LogResult
result_given (Callback admin at item) = record { time = Some at; code = item.code; text = item.msg }
result_given (Lost at) = record { time = Some at; code = FAILURE; text = lost_text }
result_given _ = no_result

-- where it settles this log
abbrev pub result_after : ℕ → Option ℕ → LogResult → LogResult → LogResult
result_after id None given earlier = earlier
result_after id (Some log) given earlier = if log == id then given else earlier

-- the result of a log: what the entry gave that settled it, else that of the opening
abbrev pub result_told : History → ℕ → LogResult
result_told (Begin o) id = result_row (log_with id o.tables.logs)
result_told (After h e r) id = result_after id (settled_by e r) (result_given e) (result_told h id)

-- a row has this result, and is marked where the log was marked
pub record IsToldBy (h : History) (log : Log) : Type 0 where
  pub result : result_told h log.id ≡ result_in log
  pub marked : nat_lt 0 (times_marked h log.id) ≡ log.marked

-- so are the rows of every legal history
abbrev pub ResultsByEntries : Type 0
ResultsByEntries = (h : History) → IsLegal h → All (IsToldBy (accepted h)) (logs_of (accepted h))
