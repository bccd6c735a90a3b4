use Rattle.std.proofs.Common.{arith, sym}
use Rattle.cron_schedule.specs.Sets.{in_field}
use Rattle.cron_schedule.proofs.FirstLemmas.{first_here, first_later, none_here_high, none_here_low}
use Rattle.cron_schedule.proofs.cron.Cron.first_in_hour.Goals as goal
use Rattle.cron_schedule.proofs.cron.Cron.first_in_hour.Goals.{then-has+in_default, else-has}

pub returns-in-Some : goal.returns-in-Some
returns-in-Some c = rw (← c.self.view_is)
    (first_here (λ v. in_field 2 c.self.inside.items v) (λ v. in_field 1 c.self.inside.items v) 60 60 c.args.from c.in-Some.second (omega arith) c.requires
    (sym (c.if-has.ensures (λ v. in_field 2 c.self.inside.items v) c.self.invariant.minute))
    (c.in-Some.ensures (λ v. in_field 1 c.self.inside.items v) c.self.invariant.second))

pub overflow_add-result : goal.overflow_add-result
overflow_add-result c =
    omega (arith, (c.in-Some.ensures (λ v. in_field 1 c.self.inside.items v) c.self.invariant.second).below)

pub returns : goal.returns
returns c = rw (← c.self.view_is)
    (first_later (λ v. in_field 2 c.self.inside.items v) (λ v. in_field 1 c.self.inside.items v) 60 60 c.args.from c.in_ok-minute.minute c.in_ok-second.second (omega arith)
    (elim c.if-has.branch [
      | then-has+in_default w ↦ none_here_low (λ v. in_field 2 c.self.inside.items v) (λ v. in_field 1 c.self.inside.items v) 60 c.args.from (omega arith) (w.in_default.ensures (λ v. in_field 1 c.self.inside.items v) c.self.invariant.second)
      | else-has w ↦ none_here_high (λ v. in_field 2 c.self.inside.items v) (λ v. in_field 1 c.self.inside.items v) 60 c.args.from (sym (w.if-has.ensures (λ v. in_field 2 c.self.inside.items v) c.self.invariant.minute))
    ])
    (c.in_ok-minute.ensures (λ v. in_field 2 c.self.inside.items v) c.self.invariant.minute)
    (c.in_ok-second.ensures (λ v. in_field 1 c.self.inside.items v) c.self.invariant.second))
