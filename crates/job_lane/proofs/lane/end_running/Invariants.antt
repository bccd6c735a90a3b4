use Rattle.std.proofs.Common.{◌≡◌, ◌++◌, map, take, drop}
use Rattle.job_lane.specs.Runs.{ended_run}
use Rattle.job_lane.proofs.lane.end_running.Given as goal

abbrev pub invariant-loop-run : goal.invariant-loop-run
invariant-loop-run l = l.run-items ≡ map ended_run (take l.run-index l.fn.on_runners.items) ++ drop l.run-index l.fn.on_runners.items
