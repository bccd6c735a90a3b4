-- What holds of results in other words.
use Rattle.std.specs.Prelude.{◌≡◌, ℕ, ◌+◌, ◌<◌, ℤ, List, [], Some, true, false}
use Rattle.job_values.specs.declared.limits.TheConstants.{LOST_AFTER, SUCCESS}
use Rattle.job_records.specs.declared.job.Job.{Job}
use Rattle.job_records.specs.declared.log.Log.{Log}
use Rattle.job_records.specs.declared.registry.RegistryRow.{RegistryRow}
use Rattle.settle_log.specs.Settling.{settled_log, is_settled, marked_log, is_unmarked, is_lost}
use Rattle.settle_log.specs.Results.{is_positive, children_of}

-- a log with a positive code has its result: it is settled from then on, and so never lost
pub record SettlesOnce : Type 0 where
  pub settled : (at : ℕ) (code : ℤ) (text : List ℕ) (log : Log) → is_positive code ≡ true → is_settled (settled_log at code text log) ≡ true
  pub kept : (at : ℕ) (rows : List RegistryRow) (log : Log) → is_settled log ≡ true → is_lost at rows log ≡ false

-- a marked log is not chosen again
abbrev pub MarksOnce : Type 0
MarksOnce = (log : Log) → is_unmarked (marked_log log) ≡ false

-- a code other than that of success fires no child
abbrev pub ChildrenOfSuccess : Type 0
ChildrenOfSuccess = (jobs : List Job) (code : ℤ) (log : Log) → (code ≡ SUCCESS → ⊥) → children_of jobs code (Some log) ≡ []

-- no log is lost before ten minutes after its opening
abbrev pub NotLostBefore : Type 0
NotLostBefore = (at : ℕ) (rows : List RegistryRow) (log : Log) → at < log.time + LOST_AFTER → is_lost at rows log ≡ false
