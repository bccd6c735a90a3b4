use Rattle.std.proofs.Common.{◌≡◌, ◌+◌, ◌/◌, arith, sym}
use Rattle.cron_schedule.specs.Due.{is_day_due, is_second_due}
use Rattle.cron_schedule.proofs.FirstLemmas.{first_later, none_here_high, none_here_low}
use Rattle.cron_schedule.proofs.cron.Cron.first_in_days.Goals as goal
use Rattle.cron_schedule.proofs.cron.Cron.first_in_days.Goals.{then-is_due+in_default, else-is_due}

pub returns-clause-first : goal.returns-clause-first
returns-clause-first g c =
    let items = c.args.self.now in
    let next : c.next.result.number ≡ c.args.from / 86400 + 1 = omega (arith, c.next.ensures, c.of-day.ensures) in
    first_later (is_day_due items) (is_second_due items) 86400 c.args.days c.args.from c.in_ok-day.day c.in_ok-second.second (omega arith)
    (elim c.if-is_due.branch [
      | then-is_due+in_default w ↦ none_here_low (is_day_due items) (is_second_due items) 86400 c.args.from (omega arith) w.in_default.ensures
      | else-is_due w ↦ none_here_high (is_day_due items) (is_second_due items) 86400 c.args.from (rw c.of-day.ensures at (sym w.if-is_due.ensures.due))
    ])
    (rw next at c.in_ok-day.ensures.first)
    c.in_ok-second.ensures
