-- What is told of the next times of a schedule on the clock of a zone.
use Rattle.std.specs.Prelude.{ℕ, zero, suc, List, [], ◌∷◌, ◌++◌, codes, Option, Some, None}
use Rattle.std.specs.Fmt.{decimal}
use Rattle.line_grammar.specs.Writing.{spaced_number}
use Rattle.job_values.specs.declared.fault.ScheduleFault.{ScheduleFault}
use Rattle.job_values.specs.declared.fault.ZoneFault.{ZoneFault}
use Rattle.zone_texts.specs.declared.zone.Zone.{Zone}
use Rattle.cron_schedule.specs.declared.plan.Plan.{Plan}
use Rattle.cron_schedule.specs.After.{time_after}

-- a time with what is told behind it, or that there is none
abbrev pub told : (ℕ → List ℕ) → Option ℕ → List ℕ
told behind None = codes "none\n"
told behind (Some time) = decimal time ++ 10 ∷ behind time

-- so many times of a plan after a moment, a line each, each the time after the one before it
abbrev pub times_text : Plan → Zone → ℕ → ℕ → List ℕ
times_text plan zone zero at = []
times_text plan zone (suc count) at = told (times_text plan zone count) (time_after plan zone at)

-- what is told of a schedule with a fault
abbrev pub fault_text : ScheduleFault → List ℕ
fault_text fault = codes "bad schedule" ++ spaced_number fault.field ++ spaced_number fault.place ++ 10 ∷ []

-- what is told of a zone with a fault
abbrev pub zone_fault_text : ZoneFault → List ℕ
zone_fault_text fault = codes "bad zone" ++ spaced_number fault.place ++ 10 ∷ []
