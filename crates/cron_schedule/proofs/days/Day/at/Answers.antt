use Rattle.cron_schedule.proofs.DueLemmas.{weekday_on-number}
use Rattle.cron_schedule.proofs.days.Day.at.Goals as goal

pub invariant_of-result-clause-weekday_is : goal.invariant_of-result-clause-weekday_is
invariant_of-result-clause-weekday_is c = weekday_on-number c.args.date c.args.number c.requires.number
