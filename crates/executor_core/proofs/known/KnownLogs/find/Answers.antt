use Rattle.executor_core.proofs.LastRuns.{told}
use Rattle.executor_core.proofs.known.KnownLogs.find.Goals as goal

pub returns : goal.returns
returns c = rw (← c.self.view_is) (told c.find.result c.args.log c.self.inside.rows.entries c.self.invariant.once c.find.ensures)
