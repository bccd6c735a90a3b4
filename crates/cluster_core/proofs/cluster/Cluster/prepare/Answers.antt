use Rattle.std.proofs.Common.{sym, subst}
use Rattle.cluster_plan.specs.Commits.{committed}
use Rattle.cluster_plan.specs.Kept.{Kept}
use Rattle.cluster_plan.specs.Stands.{KeptAnswers}
use Rattle.cluster_core.proofs.cluster.Cluster.prepare.Goals as goal

pub returns-clause-prepared : goal.returns-clause-prepared
returns-clause-prepared c =
    let P : Kept → Type 0 = λ k. KeptAnswers k c.args.event.now c.in_ok-prepared.prepared.reply (committed k c.in_ok-prepared.prepared) in record {
      can = c.in_ok-make_room.ensures.can c.in_ok-prepared.ensures.allowed;
      ids = c.in_ok-prepared.ensures.ids;
      refused = c.in_ok-prepared.ensures.refused;
      answers = subst P (sym c.make_room.ensures.same) c.in_ok-prepared.ensures.answers;
    }
