use Rattle.std.proofs.Common.{refl, sym, ap, ◌∙◌, subst}
use Rattle.cluster_core.specs.contracts.cluster.Cluster.{the_view}
use Rattle.cluster_plan.specs.declared.prepared.NodeChange.{NodeChange}
use Rattle.cluster_plan.specs.declared.prepared.NodeChange.TheVariants as node
use Rattle.cluster_core.specs.Kept.{ClusterState, kept_of}
use Rattle.job_records.specs.Changes.{without}
use Rattle.cluster_history.specs.declared.taken.TakenLog.{TakenLog}
use Rattle.cluster_plan.specs.Kept.{IsSound}
use Rattle.cluster_plan.specs.Commits.{node_changed}
use Rattle.cluster_core.proofs.KeptLemmas.{kept-by, idle-all}
use Rattle.cluster_core.proofs.SoundLemmas.{sound-changed}
use Rattle.cluster_core.proofs.cluster.Cluster.change_node.Goals as goal

pub invariant_of-self-in-Stops : goal.invariant_of-self-in-Stops
invariant_of-self-in-Stops c =
    subst IsSound (sym (kept-by (the_view c.self.inside) _ _ _ _ _ _ c.close_of.ensures c.forget_at.ensures c.stop_at.ensures))
    (sound-changed (kept_of (the_view c.self.inside)) (node.Stops c.in-Stops.admin) tt c.self.invariant)

pub invariant_of-self-in-StopsAll : goal.invariant_of-self-in-StopsAll
invariant_of-self-in-StopsAll c =
    subst IsSound (sym (kept-by (the_view c.self.inside) _ _ _ _ _ _ refl c.clear.ensures.items (c.stop_each.ensures ∙ idle-all c.self.inside.nodes.items)))
    (sound-changed (kept_of (the_view c.self.inside)) (node.StopsAll) tt c.self.invariant)

pub invariant_of-self-in-Steps : goal.invariant_of-self-in-Steps
invariant_of-self-in-Steps c =
    subst IsSound (sym (kept-by (the_view c.self.inside) _ _ _ _ _ _ c.step_on.ensures refl c.step_at.ensures))
    (sound-changed (kept_of (the_view c.self.inside)) (node.Steps c.in-Steps.admin c.in-Steps.put c.in-Steps.logs) tt c.self.invariant)

pub invariant_of-self-in-Turns : goal.invariant_of-self-in-Turns
invariant_of-self-in-Turns c =
    subst IsSound (sym (kept-by (the_view c.self.inside) _ _ _ _ _ _ refl refl c.turn_at.ensures))
    (sound-changed (kept_of (the_view c.self.inside)) (node.Turns c.in-Turns.admin c.in-Turns.second c.in-Turns.logs) tt c.self.invariant)

pub invariant_of-self-in-Fires : goal.invariant_of-self-in-Fires
invariant_of-self-in-Fires c =
    subst IsSound (sym (kept-by (the_view c.self.inside) _ _ _ _ _ _ refl refl c.fire_at.ensures))
    (sound-changed (kept_of (the_view c.self.inside)) (node.Fires c.in-Fires.admin c.in-Fires.logs) tt c.self.invariant)

pub invariant_of-self-in-Takes : goal.invariant_of-self-in-Takes
invariant_of-self-in-Takes c =
    subst IsSound (sym (kept-by (the_view c.self.inside) _ _ _ _ _ _ refl c.put_taken.ensures.rows c.take_at.ensures))
    (sound-changed (kept_of (the_view c.self.inside)) (node.Takes c.in-Takes.admin c.in-Takes.pool c.in-Takes.taken c.in-Takes.pick) c.put_taken.ensures.first c.self.invariant)

pub invariant_of-self-in-Sends : goal.invariant_of-self-in-Sends
invariant_of-self-in-Sends c =
    subst IsSound (sym (kept-by (the_view c.self.inside) _ _ _ _ _ _ refl (c.take.ensures.rows ∙ ap (λ n. without (λ (t : TakenLog). t.log) n c.self.inside.taken.items) c.get.ensures.value) c.send_at.ensures))
    (sound-changed (kept_of (the_view c.self.inside)) (node.Sends c.in-Sends.admin c.in-Sends.log c.in-Sends.job c.in-Sends.start c.in-Sends.end) tt c.self.invariant)

pub returns-in-StopsAll-clause-kept : goal.returns-in-StopsAll-clause-kept
returns-in-StopsAll-clause-kept c =
    kept-by (the_view c.self.inside) _ _ _ _ _ _ refl c.clear.ensures.items (c.stop_each.ensures ∙ idle-all c.self.inside.nodes.items)
    ∙ ap (λ (s : ClusterState). node_changed node.StopsAll (kept_of s)) c.self.view_is
    ∙ ap (λ (change : NodeChange). node_changed change (kept_of c.args.self.now)) (sym c.in-StopsAll.is)
