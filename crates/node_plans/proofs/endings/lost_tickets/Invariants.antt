use Rattle.std.proofs.Common.{◌≡◌, min, map, take, ◌^◌, ◌-◌}
use Rattle.cluster_plan.specs.Nodes.{node_in}
use Rattle.node_plans.specs.Endings.{lost_of}
use Rattle.node_plans.proofs.endings.lost_tickets.Given as goal

abbrev pub invariant-loop-node : goal.invariant-loop-node
invariant-loop-node l = l.lost ≡ min (lost_of (map node_in (take l.node-index l.node-items))) (2 ^ 64 - 1)
