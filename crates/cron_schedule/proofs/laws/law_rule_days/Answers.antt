use Rattle.cron_schedule.proofs.ZoneLemmas.{rule_days}
use Rattle.cron_schedule.proofs.laws.law_rule_days.Goals as goal

pub returns : goal.returns
returns c = rule_days
