use Rattle.cron_schedule.proofs.TableLemmas.{table_has}
use Rattle.cron_schedule.proofs.sets.has.Goals as goal

pub returns : goal.returns
returns c = λ test h. table_has test c.args.size c.args.table.now c.args.at h c.requires.within
