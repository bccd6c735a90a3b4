use Rattle.cron_schedule.proofs.LawLemmas.{least_is_time}
use Rattle.cron_schedule.proofs.laws.law_least_is_time.Goals as goal

pub returns : goal.returns
returns c = least_is_time
