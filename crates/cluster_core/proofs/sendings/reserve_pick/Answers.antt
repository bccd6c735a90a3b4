use Rattle.std.proofs.Common.{[], OnOk, subst, sym, ap, arith}
use Rattle.route_strategies.specs.Picks.{PickCounts}
use Rattle.route_strategies.specs.State.{RoutesState}
use Rattle.cluster_plan.specs.declared.node.Node.{Node}
use Rattle.cluster_plan.specs.Nodes.{node_in}
use Rattle.cluster_core.specs.Room.{HasRoomToPick}
use Rattle.cluster_core.proofs.KeptLemmas.{part-put, nodes-kept}
use Rattle.cluster_core.proofs.sendings.reserve_pick.Goals as goal

pub returns-clause-ok : goal.returns-clause-ok
returns-clause-ok c =
    let P : RoutesState → Type 0 = λ routes. OnOk c.reserve_for.result (HasRoomToPick routes c.args.pick.now) in
    subst P (sym (part-put (λ (n : Node). n.routes) (record { kept = []; room = record { addresses = []; jobs = 0; fresh = 0 } }) _ c.args.admin c.get.result _ c.get.ensures.value (omega arith))) c.reserve_for.ensures.ok

pub returns-clause-same : goal.returns-clause-same
returns-clause-same c =
    nodes-kept _ c.get.result _ _ c.index_mut.ensures.value (ap (λ routes. record (node_in c.index_mut.result.now) { routes = routes }) c.reserve_for.ensures.same)
