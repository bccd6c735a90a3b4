use Rattle.std.proofs.Common.{◌≡◌, to_z, of_z, w16, arith, ◌∙◌}
use Rattle.jiff_core.proofs.SignedLemmas.{signed_arith}
use Rattle.cron_schedule.proofs.DueLemmas.{same_month_day}
use Rattle.cron_schedule.proofs.days.Day.moved_to.Goals as goal

pub at-requires-clause-number : goal.at-requires-clause-number
at-requires-clause-number c =
    let own = c.args.self in
    let date = c.constrain-date.result in
    let back : to_z w16 (of_z w16 own.date.year) ≡ own.date.year = omega (arith, signed_arith, own.date.year_in) in
    let year : date.year ≡ own.date.year = c.constrain-date.ensures.year ∙ back in
    let day : date.day ≡ c.args.day = omega (arith, rw back at c.constrain-date.ensures.day, own.length_is) in
    same_month_day own.date date own.number _ own.number_is year c.constrain-date.ensures.month (omega arith)

pub at-requires-clause-length : goal.at-requires-clause-length
at-requires-clause-length c =
    let own = c.args.self in
    let back : to_z w16 (of_z w16 own.date.year) ≡ own.date.year = omega (arith, signed_arith, own.date.year_in) in
    rw (c.constrain-date.ensures.year, back, c.constrain-date.ensures.month) own.length_is
