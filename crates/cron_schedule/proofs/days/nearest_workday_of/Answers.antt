use Rattle.std.proofs.Common.{arith}
use Rattle.std.proofs.lemmas.Bool.Decides.{nat_tests}
use Rattle.jiff_core.proofs.CalendarLemmas.{days_in_month_bounds}
use Rattle.cron_schedule.proofs.DayLemmas.{weekday_on_bound, weekday_on-shift}
use Rattle.cron_schedule.proofs.days.nearest_workday_of.Goals as goal

pub overflow_add-weekday : goal.overflow_add-weekday
overflow_add-weekday c =
    omega (arith, c.args.day.now.weekday_is, weekday_on_bound c.args.day.now.date.year c.args.day.now.date.month c.args.day.now.date.day)

pub overflow_add-weekday-2 : goal.overflow_add-weekday-2
overflow_add-weekday-2 c =
    omega (arith, c.args.day.now.weekday_is, weekday_on_bound c.args.day.now.date.year c.args.day.now.date.month c.args.day.now.date.day, days_in_month_bounds c.args.day.now.date.year c.args.day.now.date.month)

pub returns-then-n-eq1 : goal.returns-then-n-eq1
returns-then-n-eq1 c =
    let d = c.args.day.now.date.day_in in
    let most = days_in_month_bounds c.args.day.now.date.year c.args.day.now.date.month in
    let e = rw (← c.args.day.now.weekday_is) at (weekday_on-shift c.args.day.now.date.year c.args.day.now.date.month c.args.day.now.date.day c.args.n d.0 (omega arith) c.requires.least) in
    grind (arith, nat_tests)

pub returns-else-n-eq1 : goal.returns-else-n-eq1
returns-else-n-eq1 c =
    let d = c.args.day.now.date.day_in in
    let most = days_in_month_bounds c.args.day.now.date.year c.args.day.now.date.month in
    let e = rw (← c.args.day.now.weekday_is) at (weekday_on-shift c.args.day.now.date.year c.args.day.now.date.month c.args.day.now.date.day c.args.n d.0 (omega arith) c.requires.least) in
    grind (arith, nat_tests)

pub returns-then-n-day : goal.returns-then-n-day
returns-then-n-day c =
    let d = c.args.day.now.date.day_in in
    let most = days_in_month_bounds c.args.day.now.date.year c.args.day.now.date.month in
    let e = rw (← c.args.day.now.weekday_is) at (weekday_on-shift c.args.day.now.date.year c.args.day.now.date.month c.args.day.now.date.day c.args.n d.0 (omega arith) c.requires.least) in
    let long = c.args.day.now.length_is in
    grind (arith, nat_tests)

pub returns-else-n-day : goal.returns-else-n-day
returns-else-n-day c =
    let d = c.args.day.now.date.day_in in
    let most = days_in_month_bounds c.args.day.now.date.year c.args.day.now.date.month in
    let e = rw (← c.args.day.now.weekday_is) at (weekday_on-shift c.args.day.now.date.year c.args.day.now.date.month c.args.day.now.date.day c.args.n d.0 (omega arith) c.requires.least) in
    let long = c.args.day.now.length_is in
    grind (arith, nat_tests)

pub returns-else-weekday-eq6 : goal.returns-else-weekday-eq6
returns-else-weekday-eq6 c =
    let d = c.args.day.now.date.day_in in
    let most = days_in_month_bounds c.args.day.now.date.year c.args.day.now.date.month in
    let e = rw (← c.args.day.now.weekday_is) at (weekday_on-shift c.args.day.now.date.year c.args.day.now.date.month c.args.day.now.date.day c.args.n d.0 (omega arith) c.requires.least) in
    grind (arith, nat_tests)
