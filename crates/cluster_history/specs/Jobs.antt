-- The jobs and the scans.
use Rattle.std.specs.Prelude.{ℕ, ◌+◌, ℤ, ◌==◌, List, [], ◌∷◌, ◌++◌, map, filter, false, not, Option, Some, None, is_some, unwrap_or, Result, Ok, Err, if◌then◌else◌}
use Rattle.job_events.specs.declared.cluster.ClusterEvent.TheVariants.{NodeStop, AddJob, UpdateJob, StartJob, StopJob, RemoveJob, ScanBegin, ScanStep, Reopen}
use Rattle.job_values.specs.declared.spec.JobSpec.{JobSpec}
use Rattle.job_values.specs.declared.fault.ScheduleFault.{ScheduleFault}
use Rattle.job_values.specs.declared.words.ScheduleKind.TheVariants as kind
use Rattle.job_values.specs.declared.words.Misfire.TheVariants.{DoNothing}
use Rattle.job_values.specs.declared.words.Route.TheVariants.{First}
use Rattle.job_values.specs.declared.words.Block.TheVariants.{SerialExecution}
use Rattle.zone_texts.specs.declared.zone.Zone.{Zone}
use Rattle.cron_schedule.specs.declared.plan.Plan.{Plan}
use Rattle.cron_schedule.specs.declared.plan.Plan.TheVariants.{Never}
use Rattle.cron_schedule.specs.Parse.{parsed}
use Rattle.cron_schedule.specs.After.{time_after}
use Rattle.job_records.specs.declared.job.Job.{Job}
use Rattle.job_values.specs.declared.limits.TheConstants.{LOOK_AHEAD}
use Rattle.cluster_history.specs.declared.scan.Scan.{Scan}
use Rattle.cluster_history.specs.declared.scan.PageEntry.{PageEntry}
use Rattle.cluster_history.specs.declared.settings.Settings.{Settings}
use Rattle.cluster_history.specs.History.{History, Begin, After, Opening, settings_of}
use Rattle.cluster_history.specs.Zones.{zone_of}
use Rattle.cluster_history.specs.Pages.{page_in, page_limit, begun, stepped, unless_owner}
use Rattle.cluster_history.specs.Looks.{Looked, look_in, next_looked, job_with}

-- the id of the last job that was added
abbrev pub last_job : History → ℕ
last_job (Begin o) = o.tables.last.job
last_job (After h (AddJob spec) r) = last_job h + 1
last_job (After h _ r) = last_job h

-- the jobs that are present, in order
abbrev pub ids_of : History → List ℕ
ids_of (Begin o) = map (λ job. job.id) o.tables.jobs
ids_of (After h (AddJob spec) r) = ids_of h ++ (last_job h + 1) ∷ []
ids_of (After h (RemoveJob job) r) = filter (λ id. not (id == job)) (ids_of h)
ids_of (After h _ r) = ids_of h

-- stands for a job that was never there
abbrev pub no_spec : JobSpec
no_spec = record { group = 0; kind = kind.Never; schedule = []; misfire = DoNothing; route = First; block = SerialExecution; handler = []; param = []; timeout = 0; retries = 0; children = []; zone = [] }

-- the row that stands for it
abbrev pub no_job : Job
no_job = record { id = 0; spec = no_spec; schedule = Never; running = false; edition = 0; next = None }

-- the row of a job in the opening
abbrev pub opened_row : Opening → ℕ → Job
opened_row o j = unwrap_or (job_with j o.tables.jobs) no_job

-- a job's spec is that of its adding or its last update
abbrev pub spec_of : History → ℕ → JobSpec
spec_of (Begin o) j = (opened_row o j).spec
spec_of (After h (AddJob spec) r) j = if j == last_job h + 1 then spec else spec_of h j
spec_of (After h (UpdateJob at job spec) r) j = if j == job then spec else spec_of h j
spec_of (After h _ r) j = spec_of h j

-- its edition counts its starts, stops and updates
abbrev pub edition_of : History → ℕ → ℕ
edition_of (Begin o) j = (opened_row o j).edition
edition_of (After h (AddJob spec) r) j = if j == last_job h + 1 then 0 else edition_of h j
edition_of (After h (StartJob at job) r) j = if j == job then edition_of h j + 1 else edition_of h j
edition_of (After h (StopJob job) r) j = if j == job then edition_of h j + 1 else edition_of h j
edition_of (After h (UpdateJob at job spec) r) j = if j == job then edition_of h j + 1 else edition_of h j
edition_of (After h _ r) j = edition_of h j

-- what a text says as a schedule; with a fault, never
abbrev pub plan_said : Result Plan ScheduleFault → Plan
plan_said (Ok plan) = plan
plan_said (Err fault) = Never

-- the schedule that a spec's text gives; a text with a fault is never due
unfoldable pub plan_of : JobSpec → Plan
plan_of spec = plan_said (parsed spec.kind spec.schedule)

-- the first time of a job that is started at a moment
abbrev pub first_time : Zone → Plan → ℕ → Option ℕ
first_time zone plan at = time_after plan zone (at + LOOK_AHEAD)

-- the next time of a job that is updated at a moment: a new first time where it ran
abbrev pub updated_time : Zone → Plan → ℕ → Option ℕ → Option ℕ
updated_time zone plan at None = None
updated_time zone plan at (Some before) = first_time zone plan at

-- a job's row, by what is said of it; it runs where it has a next time
abbrev pub row_by : (ℕ → JobSpec) → (ℕ → ℕ) → (ℕ → Option ℕ) → ℕ → Job
row_by specs editions nexts j =
    record { id = j; spec = specs j; schedule = plan_of (specs j); running = is_some (nexts j); edition = editions j; next = nexts j }

-- what the next step of a scan looks at, by what is said of the jobs
abbrev pub look_by : Settings → Option Scan → (ℕ → JobSpec) → (ℕ → ℕ) → (ℕ → Option ℕ) → List ℕ → Option Looked
look_by settings scan specs editions nexts ids = look_in settings scan (map (row_by specs editions nexts) ids)

-- the page of a scan, by what is said of the jobs
abbrev pub page_by : ℕ → ℕ → (ℕ → JobSpec) → (ℕ → ℕ) → (ℕ → Option ℕ) → List ℕ → List PageEntry
page_by limit at specs editions nexts ids = page_in limit at (map (row_by specs editions nexts) ids)

-- a job's next time, and the open scan: a page is made by the next times, and a look at one of its entries gives a new one
abbrev mutual
  pub next_of : History → ℕ → Option ℕ
  next_of (Begin o) j = (opened_row o j).next
  next_of (After h (AddJob spec) r) j = if j == last_job h + 1 then None else next_of h j
  next_of (After h (StartJob at job) r) j =
      if j == job then first_time (zone_of (settings_of h) (spec_of h j)) (plan_of (spec_of h j)) at else next_of h j
  next_of (After h (StopJob job) r) j = if j == job then None else next_of h j
  next_of (After h (UpdateJob at job spec) r) j =
      if j == job then updated_time (zone_of (settings_of h) spec) (plan_of spec) at (next_of h j) else next_of h j
  next_of (After h (ScanStep admin) r) j =
      next_looked (look_by (settings_of h) (scan_of h) (spec_of h) (edition_of h) (next_of h) (ids_of h)) j (next_of h j)
  next_of (After h _ r) j = next_of h j

  pub scan_of : History → Option Scan
  scan_of (Begin o) = None
  scan_of (After h (ScanBegin admin at) r) =
      begun admin at (page_by (page_limit (settings_of h)) at (spec_of h) (edition_of h) (next_of h) (ids_of h))
  scan_of (After h (ScanStep admin) r) = stepped (scan_of h)
  scan_of (After h (NodeStop admin) r) = unless_owner admin (scan_of h)
  scan_of (After h Reopen r) = None
  scan_of (After h _ r) = scan_of h

-- the row of a job
abbrev pub row_of : History → ℕ → Job
row_of h j = row_by (spec_of h) (edition_of h) (next_of h) j

-- the rows of the present jobs, in order of their ids
abbrev pub jobs_of : History → List Job
jobs_of h = map (row_of h) (ids_of h)

-- what the next step of the open scan looks at, if it does
abbrev pub look_of : History → Option Looked
look_of h = look_in (settings_of h) (scan_of h) (jobs_of h)

-- the page that a scan at a moment takes
abbrev pub page_of : History → ℕ → List PageEntry
page_of h at = page_in (page_limit (settings_of h)) at (jobs_of h)
