use Rattle.std.proofs.Common.{sym, ◌∙◌}
use Rattle.cron_schedule.specs.Sets.{in_field}
use Rattle.cron_schedule.specs.Days.{year_in_field}
use Rattle.cron_schedule.proofs.DueLemmas.{both_of, none_of_both}
use Rattle.cron_schedule.proofs.cron.Cron.is_month_in.Goals as goal

pub returns-then-is_year_in : goal.returns-then-is_year_in
returns-then-is_year_in c =
    rw c.self.view_is at (c.has.ensures (λ v. in_field 5 c.self.inside.items v) c.self.invariant.month) ∙ both_of (year_in_field c.args.self.now c.args.date.now.year) (in_field 5 c.args.self.now c.args.date.now.month) (sym c.is_year_in.ensures ∙ c.if-is_year_in.true)

pub returns-else-is_year_in : goal.returns-else-is_year_in
returns-else-is_year_in c =
    c.if-is_year_in.false ∙ none_of_both (year_in_field c.args.self.now c.args.date.now.year) (in_field 5 c.args.self.now c.args.date.now.month) (sym c.is_year_in.ensures ∙ c.if-is_year_in.false)
