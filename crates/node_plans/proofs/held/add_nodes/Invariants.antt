use Rattle.std.proofs.Common.{◌≡◌, ◌++◌, take, map}
use Rattle.std.specs.List.{concat}
use Rattle.cluster_plan.specs.Kept.{logs_in}
use Rattle.node_plans.proofs.held.add_nodes.Given as goal

abbrev pub invariant-loop-node : goal.invariant-loop-node
invariant-loop-node l = l.ids.items ≡ l.initial.ids.items ++ concat (map (λ one. logs_in one.pools.kept) (take l.node-index l.node-items))
