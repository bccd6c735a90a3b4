use Rattle.std.proofs.Common.{◌≡◌, min, take, ◌^◌, ◌-◌, sum_by}
use Rattle.time_ring.specs.Ring.{ticket_count}
use Rattle.cluster_core.proofs.counts.count_waiting.Given as goal

abbrev pub invariant-loop-node : goal.invariant-loop-node
invariant-loop-node l = l.waiting ≡ min (sum_by (λ one. ticket_count one.ring.slots) (take l.node-index l.node-items)) (2 ^ 64 - 1)
