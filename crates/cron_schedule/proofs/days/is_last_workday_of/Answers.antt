use Rattle.std.proofs.Common.{arith}
use Rattle.std.proofs.lemmas.Bool.Decides.{nat_tests}
use Rattle.cron_schedule.proofs.DayLemmas.{is_last_workday-test}
use Rattle.cron_schedule.proofs.days.is_last_workday_of.Goals as goal

pub returns-then-left-eq0 : goal.returns-then-left-eq0
returns-then-left-eq0 c =
    let e = is_last_workday-test c.args.day.now.date.year c.args.day.now.date.month c.args.day.now.date.day c.args.day.now.date.day_in.0 c.args.day.now.date.day_in.1 (omega (arith, c.args.day.now.weekday_is, c.if-day-lt5.true)) in
    rw (e, ← c.args.day.now.weekday_is, ← c.args.day.now.length_is) (grind (arith, nat_tests))

pub returns-then-day-eq4 : goal.returns-then-day-eq4
returns-then-day-eq4 c =
    let e = is_last_workday-test c.args.day.now.date.year c.args.day.now.date.month c.args.day.now.date.day c.args.day.now.date.day_in.0 c.args.day.now.date.day_in.1 (omega (arith, c.args.day.now.weekday_is, c.if-day-lt5.true)) in
    rw (e, ← c.args.day.now.weekday_is, ← c.args.day.now.length_is) (grind (arith, nat_tests))

pub returns-else-day-eq4 : goal.returns-else-day-eq4
returns-else-day-eq4 c =
    let e = is_last_workday-test c.args.day.now.date.year c.args.day.now.date.month c.args.day.now.date.day c.args.day.now.date.day_in.0 c.args.day.now.date.day_in.1 (omega (arith, c.args.day.now.weekday_is, c.if-day-lt5.true)) in
    rw (e, ← c.args.day.now.weekday_is, ← c.args.day.now.length_is) (grind (arith, nat_tests))
