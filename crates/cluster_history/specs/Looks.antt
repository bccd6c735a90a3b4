-- What the steps of a scan look at.
use Rattle.std.specs.Prelude.{ℕ, ◌==◌, List, slice_get, Option, Some, None, if◌then◌else◌}
use Rattle.job_records.specs.declared.job.Job.{Job}
use Rattle.misfire_rules.specs.declared.decision.Decision.{Decision}
use Rattle.cluster_history.specs.declared.settings.Settings.{Settings}
use Rattle.cluster_history.specs.declared.scan.Scan.{Scan}
use Rattle.cluster_history.specs.declared.scan.PageEntry.{PageEntry}
use Rattle.misfire_rules.specs.Decide.{decided}
use Rattle.cluster_history.specs.Zones.{zone_of}
pub use Rattle.settle_log.specs.Results.{job_with}

-- a look at the row of a job: its due time, and what is decided
pub record Looked : Type 0 where
  pub row : Job
  pub due : ℕ
  pub decision : Decision

-- a stopped job has no due time and is not looked at
abbrev pub look_due : Settings → ℕ → Job → Option ℕ → Option Looked
look_due settings at row None = None
look_due settings at row (Some due) =
    Some (record { row = row; due = due; decision = decided due row.schedule row.spec.misfire (zone_of settings row.spec) at })

-- a row that is gone or has another edition than its page entry is skipped
abbrev pub look_row : Settings → ℕ → ℕ → Option Job → Option Looked
look_row settings at edition None = None
look_row settings at edition (Some row) = if row.edition == edition then look_due settings at row row.next else None

-- the look at an entry of a page, if there is one
abbrev pub look_entry : Settings → ℕ → List Job → Option PageEntry → Option Looked
look_entry settings at jobs None = None
look_entry settings at jobs (Some entry) = look_row settings at entry.edition (job_with entry.job jobs)

-- what the next step of the scan looks at, if it does
abbrev pub look_in : Settings → Option Scan → List Job → Option Looked
look_in settings None jobs = None
look_in settings (Some scan) jobs = look_entry settings scan.at jobs (slice_get scan.page scan.steps)

-- a look gives its job the next time that it decides
abbrev pub next_looked : Option Looked → ℕ → Option ℕ → Option ℕ
next_looked None j before = before
next_looked (Some look) j before = if j == look.row.id then look.decision.next else before
