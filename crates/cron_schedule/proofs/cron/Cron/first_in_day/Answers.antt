use Rattle.std.proofs.Common.{arith, sym}
use Rattle.cron_schedule.specs.Sets.{in_field}
use Rattle.cron_schedule.specs.Due.{is_hour_second_due}
use Rattle.cron_schedule.proofs.FirstLemmas.{first_here, first_later, none_here_high, none_here_low}
use Rattle.cron_schedule.proofs.cron.Cron.first_in_day.Goals as goal
use Rattle.cron_schedule.proofs.cron.Cron.first_in_day.Goals.{then-has+in_default, else-has}

pub returns-in-Some : goal.returns-in-Some
returns-in-Some c = rw (← c.self.view_is)
    (first_here (λ v. in_field 3 c.self.inside.items v) (is_hour_second_due c.self.inside.items) 3600 24 c.args.from c.in-Some.second (omega arith) c.requires
    (sym (c.if-has.ensures (λ v. in_field 3 c.self.inside.items v) c.self.invariant.hour))
    (rw (← c.self.view_is) at c.in-Some.ensures))

pub overflow_mul-result-2 : goal.overflow_mul-result-2
overflow_mul-result-2 c =
    omega (arith, (c.in_ok-hour.ensures (λ v. in_field 3 c.self.inside.items v) c.self.invariant.hour).below)

pub overflow_add-result-2 : goal.overflow_add-result-2
overflow_add-result-2 c =
    omega (arith, (c.in_ok-hour.ensures (λ v. in_field 3 c.self.inside.items v) c.self.invariant.hour).below, c.in_ok-second.ensures.below)

pub returns : goal.returns
returns c = rw (← c.self.view_is)
    (first_later (λ v. in_field 3 c.self.inside.items v) (is_hour_second_due c.self.inside.items) 3600 24 c.args.from c.in_ok-hour.hour c.in_ok-second.second (omega arith)
    (elim c.if-has.branch [
      | then-has+in_default w ↦ none_here_low (λ v. in_field 3 c.self.inside.items v) (is_hour_second_due c.self.inside.items) 3600 c.args.from (omega arith) (rw (← c.self.view_is) at w.in_default.ensures)
      | else-has w ↦ none_here_high (λ v. in_field 3 c.self.inside.items v) (is_hour_second_due c.self.inside.items) 3600 c.args.from (sym (w.if-has.ensures (λ v. in_field 3 c.self.inside.items v) c.self.invariant.hour))
    ])
    (c.in_ok-hour.ensures (λ v. in_field 3 c.self.inside.items v) c.self.invariant.hour)
    (rw (← c.self.view_is) at c.in_ok-second.ensures))
