-- What a schedule's text says, or its first fault.
use Rattle.std.specs.Prelude.{◌≡◌, ℕ, List, length, nat_lt, Option, Some, None, Result, Ok, Err, if◌then◌else◌}
use Rattle.job_values.specs.declared.words.ScheduleKind.{ScheduleKind}
use Rattle.job_values.specs.declared.words.ScheduleKind.TheVariants as kind
use Rattle.job_values.specs.declared.fault.ScheduleFault.{ScheduleFault}
use Rattle.job_values.specs.declared.limits.TheConstants.{LONGEST_SCHEDULE}
use Rattle.cron_schedule.specs.declared.plan.Plan.{Plan}
use Rattle.cron_schedule.specs.declared.plan.Plan.TheVariants.{Never, Every, Cron}
use Rattle.cron_schedule.specs.declared.item.FieldItem.{FieldItem}
use Rattle.cron_schedule.specs.CronText.{fault_at, cron_parsed}
use Rattle.cron_schedule.specs.declared.fault.ParseFault.{ParseFault}
use Rattle.cron_schedule.specs.declared.fault.ParseFault.TheVariants.{Bad, NoMemory}
use Rattle.cron_schedule.specs.Rate.{rate_of}

-- what the text of a fixed rate says
abbrev pub rate_parsed : Option ℕ → Result Plan ScheduleFault
rate_parsed (Some seconds) = Ok (Every seconds)
rate_parsed None = Err (fault_at 0 1)

-- what a cron text says
abbrev pub cron_said : Result (List FieldItem) ScheduleFault → Result Plan ScheduleFault
cron_said (Ok items) = Ok (Cron items)
cron_said (Err fault) = Err fault

-- what a text of at most 128 bytes says
abbrev pub kind_parsed : ScheduleKind → List ℕ → Result Plan ScheduleFault
kind_parsed kind.Never text = Ok Never
kind_parsed kind.FixRate text = rate_parsed (rate_of text)
kind_parsed kind.Cron text = cron_said (cron_parsed text)

-- what a text says as a schedule of a kind, or its first fault
abbrev pub parsed : ScheduleKind → List ℕ → Result Plan ScheduleFault
parsed kind text = if nat_lt LONGEST_SCHEDULE (length text) then Err (fault_at 0 129) else kind_parsed kind text

-- an answer gives the plan or the fault that is said, or tells of memory
abbrev pub Gives : Result Plan ParseFault → Result Plan ScheduleFault → Type 0
Gives (Ok plan) said = said ≡ Ok plan
Gives (Err (Bad fault)) said = said ≡ Err fault
Gives (Err NoMemory) said = Unit {0}
