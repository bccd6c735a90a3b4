-- The next time of a job, by the scans that looked at it.
use Rattle.std.specs.Prelude.{◌≡◌, ℕ, ◌+◌, ◌==◌, List, [], ◌∷◌, Option, Some, None, if◌then◌else◌}
use Rattle.job_events.specs.declared.cluster.ClusterEvent.TheVariants.{AddJob, UpdateJob, StartJob, StopJob, ScanStep}
use Rattle.job_values.specs.declared.spec.JobSpec.{JobSpec}
use Rattle.misfire_rules.specs.Decide.{decided}
use Rattle.cluster_history.specs.declared.settings.Settings.{Settings}
use Rattle.cluster_history.specs.declared.scan.Scan.{Scan}
use Rattle.cluster_history.specs.History.{History, Begin, After, settings_of}
use Rattle.cluster_history.specs.Zones.{zone_of}
use Rattle.cluster_history.specs.Looks.{Looked}
use Rattle.cluster_history.specs.Jobs.{last_job, spec_of, plan_of, next_of, scan_of, look_of, opened_row, first_time, updated_time}

-- one moment more
abbrev pub moment_added : Option Scan → List ℕ → List ℕ
moment_added None before = before
moment_added (Some scan) before = scan.at ∷ before

-- a look adds the moment of its scan to those of its job
abbrev pub moments_looked : Option Scan → Option Looked → ℕ → List ℕ → List ℕ
moments_looked scan None j before = before
moments_looked scan (Some look) j before = if j == look.row.id then moment_added scan before else before

-- the moments of the scans that looked at a job since it was added, started, stopped or updated last, the last one first
abbrev pub moments_of : History → ℕ → List ℕ
moments_of (Begin o) j = []
moments_of (After h (AddJob spec) r) j = if j == last_job h + 1 then [] else moments_of h j
moments_of (After h (StartJob at job) r) j = if j == job then [] else moments_of h j
moments_of (After h (StopJob job) r) j = if j == job then [] else moments_of h j
moments_of (After h (UpdateJob at job spec) r) j = if j == job then [] else moments_of h j
moments_of (After h (ScanStep admin) r) j = moments_looked (scan_of h) (look_of h) j (moments_of h j)
moments_of (After h _ r) j = moments_of h j

-- the first time that its last start gave it, or its last update while it ran; a job that was added or stopped last has none
abbrev pub first_of : History → ℕ → Option ℕ
first_of (Begin o) j = (opened_row o j).next
first_of (After h (AddJob spec) r) j = if j == last_job h + 1 then None else first_of h j
first_of (After h (StartJob at job) r) j =
    if j == job then first_time (zone_of (settings_of h) (spec_of h j)) (plan_of (spec_of h j)) at else first_of h j
first_of (After h (StopJob job) r) j = if j == job then None else first_of h j
first_of (After h (UpdateJob at job spec) r) j =
    if j == job then updated_time (zone_of (settings_of h) spec) (plan_of spec) at (next_of h j) else first_of h j
first_of (After h _ r) j = first_of h j

-- a time that is due once a scan looks at it; none stays none
abbrev pub carried_once : Settings → JobSpec → ℕ → Option ℕ → Option ℕ
carried_once settings spec at None = None
carried_once settings spec at (Some due) = (decided due (plan_of spec) spec.misfire (zone_of settings spec) at).next

-- a first time carried over scans, the last one first
abbrev pub carried : Settings → JobSpec → Option ℕ → List ℕ → Option ℕ
carried settings spec first [] = first
carried settings spec first (at ∷ earlier) = carried_once settings spec at (carried settings spec first earlier)

-- the next time of a job is its first time, carried over the scans that looked at it
abbrev pub NextTimesCarried : Type 0
NextTimesCarried =
    (h : History) (j : ℕ) → next_of h j ≡ carried (settings_of h) (spec_of h j) (first_of h j) (moments_of h j)
