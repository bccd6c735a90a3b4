use Rattle.std.proofs.Common.{◌≡◌, ◌+◌, ◌-◌, false, arith, sym, ◌∙◌}
use Rattle.jiff_core.specs.Calendar.{days_in_month}
use Rattle.cron_schedule.specs.Due.{is_day_due}
use Rattle.cron_schedule.proofs.DueLemmas.{is_day_due-date, after_month, none_in_month, none_to_date}
use Rattle.cron_schedule.proofs.cron.Cron.day_or_later.Goals as goal

pub returns-then-not-is_month_in-clause-none : goal.returns-then-not-is_month_in-clause-none
returns-then-not-is_month_in-clause-none g c =
    let day = c.args.day in
    let long = day.length_is in
    let most = day.date.day_in in
    let end : c.next_month.result.number ≡ day.number + 1 + (days_in_month day.date.year day.date.month - day.date.day) = omega (arith, c.next_month.ensures) in
    rw end (none_in_month c.args.self.now day.date day.number day.number_is (sym c.is_month_in.ensures ∙ c.if-not-is_month_in.true))

pub returns-then-is_date_in-clause-due : goal.returns-then-is_date_in-clause-due
returns-then-is_date_in-clause-due g c =
    let day = is_day_due-date c.args.self.now c.args.day.date c.args.day.number c.args.day.number_is in
    λ same. day ∙ sym (after_month _ _ _ (sym c.is_month_in.ensures ∙ c.if-not-is_month_in.false)) ∙ sym c.is_date_in.ensures ∙ c.if-is_date_in.true

pub returns-then-next-day-clause-none : goal.returns-then-next-day-clause-none
returns-then-next-day-clause-none g c =
    let day = c.args.day in
    let long = day.length_is in
    let most = day.date.day_in in
    let here = is_day_due-date c.args.self.now day.date day.number day.number_is in
    let gone : is_day_due c.args.self.now day.number ≡ false = here ∙ sym (after_month _ _ _ (sym c.is_month_in.ensures ∙ c.if-not-is_month_in.false)) ∙ sym c.is_date_in.ensures ∙ c.if-is_date_in.false in
    none_to_date c.args.self.now day.date day.number c.next_date-next.result _ day.number_is gone c.next_date-next.ensures.none (omega (arith, c.moved_to.ensures)) (omega (arith, c.moved_to.ensures))

pub returns-else-next-day-clause-none : goal.returns-else-next-day-clause-none
returns-else-next-day-clause-none g c =
    let day = c.args.day in
    let long = day.length_is in
    let most = day.date.day_in in
    let here = is_day_due-date c.args.self.now day.date day.number day.number_is in
    let gone : is_day_due c.args.self.now day.number ≡ false = here ∙ sym (after_month _ _ _ (sym c.is_month_in.ensures ∙ c.if-not-is_month_in.false)) ∙ sym c.is_date_in.ensures ∙ c.if-is_date_in.false in
    none_to_date c.args.self.now day.date day.number c.next_date-next.result _ day.number_is gone c.next_date-next.ensures.none (omega (arith, c.next_month-else-next-day.ensures)) (omega (arith, c.next_month-else-next-day.ensures))
