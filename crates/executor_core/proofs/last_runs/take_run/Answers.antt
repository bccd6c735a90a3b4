use Rattle.std.proofs.Common.{◌∙◌}
use Rattle.executor_core.proofs.LastRuns.{left_run}
use Rattle.executor_core.proofs.last_runs.take_run.Goals as goal

pub returns-clause-runs : goal.returns-clause-runs
returns-clause-runs c = c.take.ensures.rows ∙ left_run c.args.run.now c.args.runs.now.items c.requires.low c.requires.ids c.requires.own c.requires.known
