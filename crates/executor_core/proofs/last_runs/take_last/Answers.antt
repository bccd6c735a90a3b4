use Rattle.std.proofs.Common.{sym}
use Rattle.executor_core.proofs.LastRuns.{left_none}
use Rattle.executor_core.proofs.last_runs.take_last.Goals as goal

pub returns-in_default-clause-runs : goal.returns-in_default-clause-runs
returns-in_default-clause-runs c = sym (left_none c.args.log c.args.runs.now.items (rw c.in_default.is at c.requires.known))
