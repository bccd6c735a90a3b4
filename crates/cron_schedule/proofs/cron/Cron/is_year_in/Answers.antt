use Rattle.std.proofs.Common.{◌+◌, sym, ◌∙◌}
use Rattle.cron_schedule.specs.Sets.{in_field}
use Rattle.cron_schedule.proofs.SetLemmas.{year_in_field-outside, year_in_field-at}
use Rattle.cron_schedule.proofs.cron.Cron.is_year_in.Goals as goal

pub returns-in-Some : goal.returns-in-Some
returns-in-Some c = rw (← c.self.view_is)
    (c.has.ensures (λ v. in_field 7 c.self.inside.items (1970 + v)) c.self.invariant.year ∙ sym (year_in_field-at c.self.inside.items c.args.date.now.year (1970 + c.in-Some.years) c.in-Some.ensures.some.0))

pub returns-in-None : goal.returns-in-None
returns-in-None c = sym (year_in_field-outside c.args.self.now c.args.date.now.year c.in-None.ensures.none)
