-- The time after a moment.
use Rattle.std.specs.Prelude.{◌≡◌, ℕ, ◌+◌, ◌*◌, ◌<◌, ◌≤◌, nat_le, nat_lt, ◌&&◌, Option, Some, None, if◌then◌else◌}
use Rattle.job_values.specs.declared.limits.TheConstants.{LAST_MOMENT}
use Rattle.zone_texts.specs.declared.zone.Zone.{Zone}
use Rattle.zone_texts.specs.declared.zone.ZoneRules.{ZoneRules}
use Rattle.cron_schedule.specs.declared.plan.Plan.{Plan}
use Rattle.cron_schedule.specs.declared.plan.Plan.TheVariants.{Never, Every, Cron}
use Rattle.cron_schedule.specs.First.{first_in}
use Rattle.cron_schedule.specs.Due.{is_due_in}

-- so many seconds after a moment, if that is later and no moment above the last
abbrev pub after_seconds : ℕ → ℕ → Option ℕ
after_seconds seconds t =
    if nat_lt 0 seconds && nat_le (t + 1000 * seconds) LAST_MOMENT then Some (t + 1000 * seconds) else None

-- the time after the moment t, on the clock of a zone
abbrev pub time_after : Plan → Zone → ℕ → Option ℕ
time_after Never zone t = None
time_after (Every seconds) zone t = after_seconds seconds t
time_after (Cron items) zone t = first_in (is_due_in items zone) (t + 1) (LAST_MOMENT + 1)

-- so many days are tested at most: without rules each of them once, with rules four more for each of 261 stretches
abbrev pub most_steps : Option ZoneRules → ℕ
most_steps None = 47482
most_steps (Some rules) = 48526

-- a time after a moment is later than it, and not above the last moment
abbrev pub TimesRise : Type 0
TimesRise =
    (plan : Plan) (zone : Zone) (t next : ℕ) → time_after plan zone t ≡ Some next
    → (t < next) × (next ≤ LAST_MOMENT)
