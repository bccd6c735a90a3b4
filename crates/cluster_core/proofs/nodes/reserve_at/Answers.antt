use Rattle.std.proofs.Common.{◌≤◌, ℕ, List, [], OnOk, subst, sym, arith}
use Rattle.cluster_core.specs.Room.{HasRoomToPut}
use Rattle.cluster_plan.specs.declared.node.Node.{Node}
use Rattle.cluster_core.proofs.KeptLemmas.{part-put, nodes-kept}
use Rattle.cluster_core.proofs.nodes.reserve_at.Goals as goal

pub returns-clause-ring : goal.returns-clause-ring
returns-clause-ring c =
    let P : List ℕ → Type 0 = λ room. OnOk c.reserve.result (HasRoomToPut room c.args.put.now) in
    subst P (sym (part-put (λ (n : Node). n.ring.room) [] _ c.args.admin c.get.result _ c.get.ensures.value (omega arith))) c.reserve.ensures.ring

pub returns-clause-pools : goal.returns-clause-pools
returns-clause-pools c =
    let P : ℕ → Type 0 = λ room. OnOk c.reserve.result (c.args.count ≤ room) in
    subst P (sym (part-put (λ (n : Node). n.pools.room.logs) 0 _ c.args.admin c.get.result _ c.get.ensures.value (omega arith))) c.reserve.ensures.pools

pub returns-clause-same : goal.returns-clause-same
returns-clause-same c = nodes-kept _ c.get.result _ _ c.index_mut.ensures.value c.reserve.ensures.same
