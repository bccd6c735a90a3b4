use Rattle.std.proofs.Common.{ℕ, ◌<◌, OnOk, subst, sym, ap, arith}
use Rattle.cluster_plan.specs.declared.node.Node.{Node}
use Rattle.cluster_plan.specs.Nodes.{node_in}
use Rattle.cluster_core.proofs.KeptLemmas.{part-put, nodes-kept}
use Rattle.cluster_core.proofs.sendings.reserve_count.Goals as goal

pub returns-clause-ok : goal.returns-clause-ok
returns-clause-ok c =
    let P : ℕ → Type 0 = λ room. OnOk c.reserve.result (0 < room) in
    subst P (sym (part-put (λ (n : Node). n.pools.room.jobs) 0 _ c.args.admin c.get.result _ c.get.ensures.value (omega arith))) c.reserve.ensures.jobs

pub returns-clause-same : goal.returns-clause-same
returns-clause-same c =
    nodes-kept _ c.get.result _ _ c.index_mut.ensures.value (ap (λ pools. record (node_in c.index_mut.result.now) { pools = pools }) c.reserve.ensures.same)
