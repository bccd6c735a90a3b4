use Rattle.std.proofs.Common.{◌≡◌, map, take, replicate}
use Rattle.cluster_plan.specs.Nodes.{node_in, idle}
use Rattle.cluster_core.proofs.nodes.stop_each.Given as goal

abbrev pub invariant-loop-node : goal.invariant-loop-node
invariant-loop-node l = map node_in (take l.node-index l.node-items) ≡ replicate l.node-index idle
