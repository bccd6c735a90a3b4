use Rattle.std.proofs.Common.{arith}
use Rattle.cron_schedule.proofs.DayLemmas.{weekday_on_bound}
use Rattle.cron_schedule.proofs.days.cron_weekday_of.Goals as goal

pub overflow_add-result : goal.overflow_add-result
overflow_add-result c =
    let is = c.args.day.now.weekday_is in
    let bound = weekday_on_bound c.args.day.now.date.year c.args.day.now.date.month c.args.day.now.date.day in
    omega arith
