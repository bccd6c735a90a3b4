-- What becomes of the rows of logs: sent, ended, settled, marked, lost, cleaned.
use Rattle.std.specs.Prelude.{ℕ, ◌+◌, ℤ, pos, List, codes, bytes_eq, map, filter, find, Bool, true, false, not, ◌&&◌, nat_lt, nat_le, Option, Some, None, if◌then◌else◌}
use Rattle.std.specs.Ordering.{int_eq}
use Rattle.std.specs.List.{list_any}
use Rattle.job_values.specs.declared.limits.TheConstants.{FAILURE, LOST_AFTER}
use Rattle.job_records.specs.declared.log.Log.{Log}
use Rattle.job_records.specs.declared.registry.RegistryRow.{RegistryRow}
pub use Rattle.job_records.specs.LogClasses.{is_failed, is_unmarked, is_awaited}
use Rattle.job_records.specs.Rows.{row_with, changed}

-- the row of the log with this id, if it is there
abbrev pub log_with : ℕ → List Log → Option Log
log_with id logs = row_with (λ log. log.id) id logs

-- the logs, with the one that has this id changed
abbrev pub log_changed : ℕ → (Log → Log) → List Log → List Log
log_changed id change logs = changed (λ log. log.id) id change logs

-- a log has no trigger code yet
abbrev pub is_unsent : Log → Bool
is_unsent log = int_eq log.trigger_code (pos 0)

-- a log that was sent
abbrev pub sent_log : Option (List ℕ) → ℤ → Log → Log
sent_log address code log = record log { address = address; trigger_code = code }

-- a log with the trigger code of a stop
abbrev pub ended_log : Log → Log
ended_log log = record log { trigger_code = FAILURE }

-- the logs, with those that pass ended
abbrev pub ended_where : (Log → Bool) → List Log → List Log
ended_where is_open logs = map (λ log. if is_open log then ended_log log else log) logs

-- a log with its result
abbrev pub settled_log : ℕ → ℤ → List ℕ → Log → Log
settled_log at code text log = record log { result_time = Some at; result_code = code; result_text = text }

-- a log is settled where it has a result
abbrev pub is_settled : Log → Bool
is_settled log = not (int_eq log.result_code (pos 0))

-- the log that a monitor chooses: the first of these
abbrev pub first_failed : List Log → Option Log
first_failed logs = find is_unmarked logs

-- a log that a monitor chose
abbrev pub marked_log : Log → Log
marked_log log = record log { marked = true }

-- the logs with the chosen one marked
abbrev pub logs_marked : Option Log → List Log → List Log
logs_marked None logs = logs
logs_marked (Some log) logs = log_changed log.id marked_log logs

-- an address that is no registration's
abbrev pub is_unregistered : List RegistryRow → Option (List ℕ) → Bool
is_unregistered rows None = false
is_unregistered rows (Some address) = not (list_any (λ row. bytes_eq row.value address) rows)

-- a log is lost at a moment where it is awaited, from ten minutes ago or before, and its address is no registration's
abbrev pub is_lost : ℕ → List RegistryRow → Log → Bool
is_lost at rows log = (is_awaited log && nat_le (log.time + LOST_AFTER) at) && is_unregistered rows log.address

-- the first of these
abbrev pub first_lost : ℕ → List RegistryRow → List Log → Option Log
first_lost at rows logs = find (is_lost at rows) logs

-- the text of a lost log's result
abbrev pub lost_text : List ℕ
lost_text = codes "job lost"

-- the logs with the lost one settled
abbrev pub logs_lost : ℕ → Option Log → List Log → List Log
logs_lost at None logs = logs
logs_lost at (Some log) logs = log_changed log.id (settled_log at FAILURE lost_text) logs

-- a log from before a moment that has a trigger code
abbrev pub is_old : ℕ → Log → Bool
is_old at log = nat_lt log.time at && not (is_unsent log)

-- the logs that a clean leaves
abbrev pub logs_left : ℕ → List Log → List Log
logs_left at logs = filter (λ log. not (is_old at log)) logs
