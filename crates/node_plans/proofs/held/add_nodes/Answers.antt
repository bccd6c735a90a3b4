use Rattle.std.proofs.Common.{ℕ, List, ◌++◌, map, take, ap, sym, ◌∙◌}
use Rattle.std.specs.List.{concat}
use Rattle.std.proofs.lemmas.List.{append_assoc}
use Rattle.cluster_plan.specs.declared.node.Node.{Node}
use Rattle.node_plans.proofs.HeldLemmas.{queued_logs, pools-more}
use Rattle.node_plans.proofs.held.add_nodes.Goals as goal

pub loop-node-preserved : goal.loop-node-preserved
loop-node-preserved c =
    let nodes : List Node = c.deref-node-items.result.now in
    let one : List ℕ = queued_logs c.node-item.result in
    let before : List ℕ = c.args.ids.now.items in
    c.in_ok-add_pools.ensures
    ∙ ap (λ (ids : List ℕ). ids ++ one) c.loop-node.invariant
    ∙ append_assoc before (concat (map queued_logs (take c.loop-node.node-index nodes))) one
    ∙ ap (λ (ids : List ℕ). before ++ ids) (sym (pools-more nodes c.loop-node.node-index c.node-item.result c.loop-node-test.true c.node-item.is))
