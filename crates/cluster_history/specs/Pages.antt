-- The pages of scans.
use Rattle.std.specs.Prelude.{ℕ, ◌+◌, ◌*◌, List, [], ◌∷◌, map, filter, take, length, ◌==◌, Bool, false, nat_le, nat_lt, Option, Some, None, if◌then◌else◌}
use Rattle.job_records.specs.declared.job.Job.{Job}
use Rattle.job_values.specs.declared.limits.TheConstants.{LOOK_AHEAD, JOBS_PER_THREAD}
use Rattle.cluster_history.specs.declared.settings.Settings.{Settings}
use Rattle.cluster_history.specs.declared.scan.Scan.{Scan}
use Rattle.cluster_history.specs.declared.scan.PageEntry.{PageEntry}

-- whether a next time comes up to a bound
abbrev pub is_due_by : ℕ → Option ℕ → Bool
is_due_by bound None = false
is_due_by bound (Some next) = nat_le next bound

-- a job and its edition
abbrev pub page_entry_of : Job → PageEntry
page_entry_of job = record { job = job.id; edition = job.edition }

-- how many jobs a page may have
abbrev pub page_limit : Settings → ℕ
page_limit settings = (settings.fast + settings.slow) * JOBS_PER_THREAD

-- the first jobs, in order, whose next time is no further ahead than a scan looks, each with its edition
abbrev pub page_in : ℕ → ℕ → List Job → List PageEntry
page_in limit at jobs = take limit (map page_entry_of (filter (λ job. is_due_by (at + LOOK_AHEAD) job.next) jobs))

-- an empty page ends its scan at once
abbrev pub begun : ℕ → ℕ → List PageEntry → Option Scan
begun admin at [] = None
begun admin at (entry ∷ entries) = Some (record { owner = admin; at = at; page = entry ∷ entries; steps = 0 })

-- one step more; the last one ends the scan
abbrev pub one_step : Scan → Option Scan
one_step scan =
    if nat_lt (scan.steps + 1) (length scan.page)
    then Some (record { owner = scan.owner; at = scan.at; page = scan.page; steps = scan.steps + 1 })
    else None

-- a stop of its owner ends a scan
abbrev pub unless_owner : ℕ → Option Scan → Option Scan
unless_owner admin None = None
unless_owner admin (Some scan) = if scan.owner == admin then None else Some scan

-- the open scan after a step
abbrev pub stepped : Option Scan → Option Scan
stepped None = None
stepped (Some scan) = one_step scan
