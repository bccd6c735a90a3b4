-- What follows a result: why it is refused, which children fire, and what is tried again.
use Rattle.std.specs.Prelude.{◌≡◌, ℕ, ◌-◌, ℤ, pos, int_le, List, [], map, filter, length, count_by, Bool, true, false, ◌&&◌, nat_lt, is_some, Option, Some, None, if◌then◌else◌}
use Rattle.std.specs.Ordering.{int_eq}
use Rattle.job_values.specs.declared.limits.TheConstants.{SUCCESS}
use Rattle.job_values.specs.declared.run.CallbackItem.{CallbackItem}
use Rattle.job_values.specs.declared.words.TriggerKind.TheVariants as kind
use Rattle.job_records.specs.declared.change.Change.{Change}
use Rattle.job_records.specs.declared.change.Change.TheVariants as change
use Rattle.job_records.specs.declared.job.Job.{Job}
use Rattle.job_records.specs.declared.log.Log.{Log}
use Rattle.job_records.specs.Changes.{applied_all, AreAllowed}
use Rattle.job_records.specs.Rows.{row_with}
use Rattle.job_records.specs.Tables.{Tables}
use Rattle.settle_log.specs.declared.retry.Firing.{Firing}
use Rattle.settle_log.specs.declared.results.SettleFault.{SettleFault}
use Rattle.settle_log.specs.declared.results.SettleFault.TheVariants as fault
use Rattle.settle_log.specs.Settling.{settled_log, is_settled, is_old, logs_left}

-- whether a code is positive
abbrev pub is_positive : ℤ → Bool
is_positive code = int_le (pos 1) code

-- a callback settles a log: with a positive code, where it had no result, and with what the callback says
pub record Settles (at : ℕ) (item : CallbackItem) (log row : Log) : Type 0 where
  pub positive : is_positive item.code ≡ true
  pub first : is_settled log ≡ false
  pub given : row ≡ settled_log at item.code item.msg log

-- why a log takes no result with a code: the code is not positive, or else the log has a result already, with this code
abbrev pub IsRefused : ℤ → Log → SettleFault → Type 0
IsRefused code log fault.BadCode = is_positive code ≡ false
IsRefused code log (fault.Repeat kept) = (is_positive code ≡ true) × (is_settled log ≡ true) × (kept ≡ log.result_code)
IsRefused code log fault.NoMemory = Unit {0}

-- the row of the job with this id, if it is there
abbrev pub job_with : ℕ → List Job → Option Job
job_with id jobs = row_with (λ job. job.id) id jobs

-- the children of a job; a removed job has none
abbrev pub children_in : Option Job → List ℕ
children_in None = []
children_in (Some row) = row.spec.children

-- the children that fire when a log gets a result: those of its job, where the code is that of success
abbrev pub children_of : List Job → ℤ → Option Log → List ℕ
children_of jobs code None = []
children_of jobs code (Some log) = if int_eq code SUCCESS then children_in (job_with log.job jobs) else []

-- what tries a log again: its parameter and its shard, and one try less
abbrev pub firing_again : Log → Firing
firing_again log = record {
  job = log.job;
  kind = kind.Retry;
  param = log.param;
  retries = log.retries - 1;
  index = log.index;
  total = log.total;
}

-- the firing that a marked log brings, if it may be tried again and its job is there
abbrev pub retry_of : List Job → Log → Option Firing
retry_of jobs log = if nat_lt 0 log.retries && is_some (job_with log.job jobs) then Some (firing_again log) else None

-- the drop of a log
abbrev pub drop_of : Log → Change
drop_of log = change.DropLog log.id

-- a clean drops the old logs, one after another, and leaves the others; it drops so many
pub record Cleans (at : ℕ) (t : Tables) (changes : List Change) : Type 0 where
  pub drops : changes ≡ map drop_of (filter (is_old at) t.logs)
  pub count : length changes ≡ count_by (is_old at) t.logs
  pub allowed : AreAllowed t changes
  pub left : applied_all t changes ≡ record t { logs = logs_left at t.logs }
