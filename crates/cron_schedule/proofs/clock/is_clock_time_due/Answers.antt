use Rattle.std.proofs.Common.{sym}
use Rattle.cron_schedule.proofs.RelationLemmas.{is_due-outside}
use Rattle.cron_schedule.proofs.clock.is_clock_time_due.Goals as goal

pub returns-in-None : goal.returns-in-None
returns-in-None g c = sym (is_due-outside c.args.cron.now c.args.offset c.args.t c.in-None.ensures.none)
