-- Which logs are failed, and which are awaited.
use Rattle.std.specs.Prelude.{ℕ, pos, List, map, filter, Bool, not, ◌&&◌, ◌||◌}
use Rattle.std.specs.Ordering.{int_eq}
use Rattle.job_values.specs.declared.limits.TheConstants.{SUCCESS}
use Rattle.job_records.specs.declared.log.Log.{Log}

-- a log is failed where it is neither under way nor settled with success
abbrev pub is_failed : Log → Bool
is_failed log =
    not ((int_eq log.trigger_code (pos 0) || int_eq log.trigger_code SUCCESS) && int_eq log.result_code (pos 0))
    && not (int_eq log.result_code SUCCESS)

-- a failed log that no monitor chose yet
abbrev pub is_unmarked : Log → Bool
is_unmarked log = is_failed log && not log.marked

-- a log is awaited where it was sent with success and has no result
abbrev pub is_awaited : Log → Bool
is_awaited log = int_eq log.trigger_code SUCCESS && int_eq log.result_code (pos 0)

-- the ids of the logs that pass a test
abbrev pub log_ids : (Log → Bool) → List Log → List ℕ
log_ids test logs = map (λ log. log.id) (filter test logs)
