use Rattle.cron_schedule.proofs.LawLemmas.{time_is_least}
use Rattle.cron_schedule.proofs.laws.law_time_is_least.Goals as goal

pub returns : goal.returns
returns c = time_is_least
