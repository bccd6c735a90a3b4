use Rattle.std.proofs.Common.{◌≡◌, ◌++◌, map, take, drop}
use Rattle.job_lane.specs.Runs.{expired_run}
use Rattle.job_lane.proofs.lane.expire_overdue.Given as goal

abbrev pub invariant-loop-run : goal.invariant-loop-run
invariant-loop-run l = l.run-items ≡ map (expired_run l.now) (take l.run-index l.fn.on_runners.items) ++ drop l.run-index l.fn.on_runners.items
