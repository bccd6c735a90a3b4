use Rattle.std.proofs.Common.{◌≡◌, ◌++◌, drop}
use Rattle.run_queues.specs.Serving.{by_runner}
use Rattle.run_queues.proofs.queues.all_served.Given as goal

abbrev pub invariant-loop-served : goal.invariant-loop-served
invariant-loop-served l = l.runs.items ++ by_runner l.lanes.entries (drop l.served-index l.serving) ≡ by_runner l.lanes.entries l.serving
