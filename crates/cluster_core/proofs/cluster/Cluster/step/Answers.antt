use Rattle.std.proofs.Common.{sym, subst}
use Rattle.cluster_history.specs.History.{accepted}
use Rattle.cluster_plan.specs.Kept.{Kept}
use Rattle.cluster_plan.specs.Stands.{Stands}
use Rattle.cluster_core.proofs.cluster.Cluster.step.Goals as goal

pub returns-clause-answers : goal.returns-clause-answers
returns-clause-answers c = λ h s.
    let P : Kept → Type 0 = λ k. Stands k (accepted h) in
    c.commit.ensures.answers c.args.event.now c.in_ok-prepared.ensures.prepared h (subst P (sym c.prepare.ensures.same) s)
