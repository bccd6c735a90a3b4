use Rattle.std.proofs.Common.{sym, ◌∙◌}
use Rattle.cron_schedule.proofs.DueLemmas.{is_day_due-date, after_month, no_month}
use Rattle.cron_schedule.proofs.cron.Cron.is_due.Goals as goal

pub returns-then-is_month_in-clause-due : goal.returns-then-is_month_in-clause-due
returns-then-is_month_in-clause-due g c =
    let day = is_day_due-date c.args.self.now c.args.day.now.date c.args.day.now.number c.args.day.now.number_is in
    c.is_date_in.ensures ∙ after_month _ _ _ (sym c.is_month_in.ensures ∙ c.if-is_month_in.true) ∙ sym day

pub returns-else-is_month_in-clause-due : goal.returns-else-is_month_in-clause-due
returns-else-is_month_in-clause-due g c =
    let day = is_day_due-date c.args.self.now c.args.day.now.date c.args.day.now.number c.args.day.now.number_is in
    c.if-is_month_in.false ∙ no_month _ _ _ (sym c.is_month_in.ensures ∙ c.if-is_month_in.false) ∙ sym day
