use Rattle.std.proofs.Common.{◌≡◌, length, take, sum_by}
use Rattle.cluster_plan.specs.Kept.{logs_in}
use Rattle.cluster_core.proofs.counts.count_queued.Given as goal

abbrev pub invariant-loop-node : goal.invariant-loop-node
invariant-loop-node l = l.queued ≡ sum_by (λ one. length (logs_in one.pools.kept)) (take l.node-index l.node-items)
