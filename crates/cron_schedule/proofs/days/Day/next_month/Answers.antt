use Rattle.std.proofs.Common.{◌≡◌, to_z, of_z, w16, arith, ◌∙◌}
use Rattle.jiff_core.proofs.SignedLemmas.{signed_arith}
use Rattle.jiff_core.proofs.CalendarLemmas.{days_in_month_bounds}
use Rattle.cron_schedule.proofs.DueLemmas.{next_month_day}
use Rattle.cron_schedule.proofs.days.Day.next_month.Goals as goal

pub at-requires-clause-number : goal.at-requires-clause-number
at-requires-clause-number c =
    let is = c.constrain-date.ensures in
    let back : to_z w16 (of_z w16 c.args.self.date.year) ≡ c.args.self.date.year = omega (arith, signed_arith, c.args.self.date.year_in) in
    let long = days_in_month_bounds c.constrain-date.result.year c.constrain-date.result.month in
    next_month_day c.args.self.date c.constrain-date.result c.args.self.number _ c.args.self.number_is (is.year ∙ back) is.month (omega (arith, is.day, c.constrain-date.result.day_in)) (omega (arith, c.args.self.length_is, c.args.self.date.day_in))
