use Rattle.cron_schedule.proofs.LawLemmas.{one_offset}
use Rattle.cron_schedule.proofs.laws.law_one_offset.Goals as goal

pub returns : goal.returns
returns c = one_offset
