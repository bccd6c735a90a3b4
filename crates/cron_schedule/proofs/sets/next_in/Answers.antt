use Rattle.cron_schedule.proofs.TableLemmas.{table_some, table_none}
use Rattle.cron_schedule.proofs.sets.next_in.Goals as goal

pub returns-then-next-size : goal.returns-then-next-size
returns-then-next-size c = λ test h.
    table_some test c.args.size c.args.table.now c.args.at h c.requires.within c.if-next-size.true

pub returns-else-next-size : goal.returns-else-next-size
returns-else-next-size c = λ test h.
    table_none test c.args.size c.args.table.now c.args.at h c.requires.within c.if-next-size.false
