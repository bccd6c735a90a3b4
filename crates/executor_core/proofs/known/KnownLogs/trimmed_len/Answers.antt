use Rattle.std.proofs.Common.{◌∙◌}
use Rattle.executor_core.proofs.LastRuns.{trimmed_counts}
use Rattle.executor_core.proofs.known.KnownLogs.trimmed_len.Goals as goal

pub returns : goal.returns
returns c = rw (← c.self.view_is) (c.trimmed_len.ensures ∙ trimmed_counts c.args.at c.args.held.now.ids c.args.queues.now.on_runners c.self.inside.rows.entries c.self.inside.last_runs.items c.self.invariant)
