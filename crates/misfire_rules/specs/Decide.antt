-- The table of scans.
use Rattle.std.specs.Prelude.{ℕ, ◌+◌, Bool, true, false, nat_lt, Option, Some, None, if◌then◌else◌}
use Rattle.job_values.specs.declared.words.Misfire.{Misfire}
use Rattle.job_values.specs.declared.words.Misfire.TheVariants.{DoNothing, FireOnceNow}
use Rattle.job_values.specs.declared.words.Case.TheVariants as case
use Rattle.zone_texts.specs.declared.zone.Zone.{Zone}
use Rattle.cron_schedule.specs.declared.plan.Plan.{Plan}
use Rattle.cron_schedule.specs.After.{time_after}
use Rattle.misfire_rules.specs.declared.decision.Decision.{Decision}
use Rattle.job_values.specs.declared.limits.TheConstants.{MISFIRE_WINDOW}

-- whether a misfire fires at once
abbrev pub fires_once : Misfire → Bool
fires_once DoNothing = false
fires_once FireOnceNow = true

-- a due time that lies more than the window back: no ticket, and on with the time after now
abbrev pub misfire_decision : Plan → Misfire → Zone → ℕ → Decision
misfire_decision plan misfire zone now =
    record { case = case.Misfire; fire_now = fires_once misfire; put = None; next = time_after plan zone now }

-- of a late look whose time after now is given: a ticket for it where it comes within the window
abbrev pub late_with : Plan → Zone → ℕ → Option ℕ → Decision
late_with plan zone now None = record { case = case.Late; fire_now = true; put = None; next = None }
late_with plan zone now (Some near) =
    if nat_lt near (now + MISFIRE_WINDOW)
    then record { case = case.Late; fire_now = true; put = Some near; next = time_after plan zone near }
    else record { case = case.Late; fire_now = true; put = None; next = Some near }

-- a due time that lies back within the window: the job fires now
abbrev pub late_decision : Plan → Zone → ℕ → Decision
late_decision plan zone now = late_with plan zone now (time_after plan zone now)

-- a due time that is now or to come: a ticket for it, and on with the time after it
abbrev pub early_decision : Plan → Zone → ℕ → Decision
early_decision plan zone due =
    record { case = case.Early; fire_now = false; put = Some due; next = time_after plan zone due }

-- what a scan at now does with a job that is due at a time
abbrev pub decided : ℕ → Plan → Misfire → Zone → ℕ → Decision
decided due plan misfire zone now =
    if nat_lt (due + MISFIRE_WINDOW) now then misfire_decision plan misfire zone now
    else if nat_lt due now then late_decision plan zone now
    else early_decision plan zone due
