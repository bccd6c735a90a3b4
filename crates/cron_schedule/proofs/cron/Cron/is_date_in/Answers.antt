use Rattle.std.proofs.Common.{◌≡◌, true, arith, sym, ◌∙◌}
use Rattle.jiff_core.proofs.CalendarLemmas.{days_in_month_bounds}
use Rattle.cron_schedule.specs.Sets.{in_field}
use Rattle.cron_schedule.specs.CronTables.{are_plain}
use Rattle.cron_schedule.proofs.SetLemmas.{day_in_field-plain, weekday_in_field-plain}
use Rattle.cron_schedule.proofs.cron.Cron.is_date_in.Goals as goal

pub returns-then-has : goal.returns-then-has
returns-then-has c =
    let plain : are_plain c.self.inside.items ≡ true = sym c.self.invariant.plain_is ∙ c.if-self.true in
    let long = days_in_month_bounds c.args.day.now.date.year c.args.day.now.date.month in
    let day = day_in_field-plain c.self.inside.items c.args.day.now.date.year c.args.day.now.date.month c.args.day.now.date.day c.args.day.now.date.day_in.0 (omega (arith, c.args.day.now.date.day_in)) plain in
    let weekday = weekday_in_field-plain c.self.inside.items c.args.day.now.date.year c.args.day.now.date.month c.args.day.now.date.day plain in
    rw (← c.self.view_is, day, weekday, ← c.if-has.ensures (λ v. in_field 4 c.self.inside.items v) c.self.invariant.day, ← c.cron_weekday_of.ensures.value)
    (c.has-then-has.ensures (λ v. in_field 6 c.self.inside.items v) c.self.invariant.weekday)

pub returns-else-has : goal.returns-else-has
returns-else-has c =
    let plain : are_plain c.self.inside.items ≡ true = sym c.self.invariant.plain_is ∙ c.if-self.true in
    let long = days_in_month_bounds c.args.day.now.date.year c.args.day.now.date.month in
    let day = day_in_field-plain c.self.inside.items c.args.day.now.date.year c.args.day.now.date.month c.args.day.now.date.day c.args.day.now.date.day_in.0 (omega (arith, c.args.day.now.date.day_in)) plain in
    rw (← c.self.view_is, day, ← c.if-has.ensures (λ v. in_field 4 c.self.inside.items v) c.self.invariant.day) c.if-has.false
