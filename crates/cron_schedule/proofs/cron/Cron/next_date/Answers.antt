use Rattle.std.proofs.Common.{◌≡◌, true, arith, sym, ◌∙◌}
use Rattle.cron_schedule.specs.Sets.{in_field}
use Rattle.cron_schedule.specs.CronTables.{are_plain}
use Rattle.cron_schedule.proofs.SetLemmas.{day_in_field-plain}
use Rattle.cron_schedule.proofs.cron.Cron.next_date.Goals as goal

pub returns-in-Some-clause-none : goal.returns-in-Some-clause-none
returns-in-Some-clause-none c =
    let plain : are_plain c.self.inside.items ≡ true = sym c.self.invariant.plain_is ∙ c.if-not-self.false in
    let first = c.in-Some.ensures (λ v. in_field 4 c.self.inside.items v) c.self.invariant.day in
    rw (← c.self.view_is)
    (λ d later below. day_in_field-plain c.self.inside.items c.args.day.now.date.year c.args.day.now.date.month d (omega arith) (omega (arith, first.below)) plain ∙ first.none_before d (omega arith) below)

pub returns-in-None-clause-none : goal.returns-in-None-clause-none
returns-in-None-clause-none c =
    let plain : are_plain c.self.inside.items ≡ true = sym c.self.invariant.plain_is ∙ c.if-not-self.false in
    let none = c.in-None.ensures (λ v. in_field 4 c.self.inside.items v) c.self.invariant.day in
    rw (← c.self.view_is)
    (λ d later below. day_in_field-plain c.self.inside.items c.args.day.now.date.year c.args.day.now.date.month d (omega arith) (omega arith) plain ∙ none d (omega arith) below)
