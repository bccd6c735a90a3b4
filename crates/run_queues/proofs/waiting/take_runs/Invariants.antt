use Rattle.std.proofs.Common.{◌≡◌, ◌-◌, ◌≤◌, ◌==◌, ℕ, nat_eq, count_by, take}
use Rattle.job_lane.specs.declared.runs.QueuedRun.{QueuedRun}
use Rattle.indexmap.specs.IndexMap.{spare, IsUnique}
use Rattle.run_queues.specs.Waiting.{times}
use Rattle.run_queues.proofs.waiting.take_runs.Given as goal

abbrev pub invariant-loop-place : goal.invariant-loop-place
invariant-loop-place l =
    ((log : ℕ) → times log l.logs.entries ≡ times log l.fn.logs.entries - count_by (λ (run : QueuedRun). log == run.log) (take l.place l.queue.items))
    × (spare l.fn.logs ≤ spare l.logs)
    × IsUnique nat_eq l.logs
