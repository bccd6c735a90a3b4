use Rattle.std.proofs.Common.{◌+◌, ◌-◌, ◌≤◌}
use Rattle.cron_schedule.specs.First.{NonePasses}
use Rattle.cron_schedule.specs.Due.{is_day_due}
use Rattle.cron_schedule.proofs.cron.Cron.first_day.Given as goal

abbrev pub invariant-loop-day : goal.invariant-loop-day
invariant-loop-day g l = record {
  none : NonePasses (is_day_due l.self) l.fn.from.number l.day.number;
  least : l.fn.from.number ≤ l.day.number;
  cost : l.steps + l.fn.from.number ≤ l.fn.steps + l.day.number;
  bound : l.steps + l.fn.from.number ≤ l.fn.steps + l.days;
}

abbrev pub decreases-loop-day : goal.decreases-loop-day
decreases-loop-day g l = l.days - l.day.number
