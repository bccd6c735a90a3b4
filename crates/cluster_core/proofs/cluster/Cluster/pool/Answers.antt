use Rattle.std.proofs.Common.{◌≡◌, length, ap, sym, ◌∙◌, subst, arith}
use Rattle.std.proofs.lemmas.List.{length-map}
use Rattle.job_values.specs.declared.limits.TheConstants.{ADMINS}
use Rattle.cluster_history.specs.History.{accepted}
use Rattle.cluster_core.specs.contracts.cluster.Cluster.{the_view}
use Rattle.cluster_core.specs.Kept.{ClusterState, kept_of}
use Rattle.cluster_core.specs.Stands.{StandsFor}
use Rattle.cluster_plan.specs.Nodes.{NodeKept, node_in}
use Rattle.cluster_plan.proofs.ReadLemmas.{node-read}
use Rattle.cluster_plan.proofs.StandsLemmas.{node-stands}
use Rattle.cluster_core.proofs.cluster.Cluster.pool.Goals as goal

pub returns : goal.returns
returns c = λ h s.
    let many : length c.self.inside.nodes.items ≡ ADMINS = sym (length-map c.self.inside.nodes.items node_in) ∙ c.self.invariant.nodes in
    ap (λ (one : NodeKept). one.pools)
    (node-read c.self.inside.nodes.items c.args.admin c.get.result c.index.result.now c.get.ensures.value (omega arith) c.index.ensures
    ∙ node-stands (kept_of (the_view c.self.inside)) (accepted h) c.args.admin (omega arith) (let P = λ (k : ClusterState). StandsFor k h in subst P (sym c.self.view_is) s))
