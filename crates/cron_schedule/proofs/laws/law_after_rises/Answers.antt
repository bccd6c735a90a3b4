use Rattle.cron_schedule.proofs.LawLemmas.{times_rise}
use Rattle.cron_schedule.proofs.laws.law_after_rises.Goals as goal

pub returns : goal.returns
returns c = times_rise
