use Rattle.std.proofs.Common.{◌≡◌, ap, sym, ◌∙◌, subst}
use Rattle.job_records.specs.Changes.{applied_all, AreAllowed}
use Rattle.job_records.specs.Room.{RecordsState}
use Rattle.job_records.specs.Rules.{KeepsRules}
use Rattle.job_records.proofs.Keeping.{all_keep}
use Rattle.cluster_core.specs.contracts.cluster.Cluster.{the_view}
use Rattle.cluster_core.specs.Kept.{ClusterState, kept_of}
use Rattle.cluster_plan.specs.Commits.{node_changed}
use Rattle.cluster_plan.specs.Stands.{Answered}
use Rattle.cluster_core.proofs.KeptLemmas.{kept-committed}
use Rattle.cluster_core.proofs.SoundLemmas.{sound-rows}
use Rattle.cluster_core.proofs.cluster.Cluster.commit.Goals as goal

pub invariant_of-self : goal.invariant_of-self
invariant_of-self c =
    let same : c.self.inside.records ≡ c.args.self.now.records = ap (λ (s : ClusterState). s.records) c.self.view_is ∙ c.change_node.ensures.records in
    let P : RecordsState → Type 0 = λ r. AreAllowed r.kept c.args.prepared.changes in
    let rules : KeepsRules (applied_all c.self.inside.records.kept c.args.prepared.changes) = all_keep c.self.inside.records.kept c.args.prepared.changes c.self.invariant.rules (subst P (sym same) c.requires.allowed) in
    sound-rows (kept_of (the_view c.self.inside)) c.apply.new.self.kept (subst KeepsRules (sym (c.apply.ensures ∙ ap (applied_all c.self.inside.records.kept) c.into_parts-reply.ensures.changes)) rules) c.self.invariant

pub returns-clause-answers : goal.returns-clause-answers
returns-clause-answers c = λ event prepared h s.
    let node = ap kept_of c.self.view_is ∙ c.change_node.ensures.kept ∙ ap (λ change. node_changed change (kept_of c.args.self.now)) c.into_parts-reply.ensures.node in
    let same = ap (λ (state : ClusterState). state.records) c.self.view_is ∙ c.change_node.ensures.records in
    let rows = c.apply.ensures ∙ ap (applied_all c.self.inside.records.kept) c.into_parts-reply.ensures.changes in
    rw c.into_parts-reply.ensures.reply
    (subst (Answered h event c.args.prepared.reply) (sym (kept-committed c.args.self.now (the_view c.self.inside) c.apply.new.self c.args.prepared node same rows))
    (prepared.answers h s))
