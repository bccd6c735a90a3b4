use Rattle.std.proofs.Common.{◌≡◌, sym, ap, ◌∙◌, subst}
use Rattle.job_records.specs.Changes.{applied_all, AreAllowed}
use Rattle.job_records.specs.Rules.{KeepsRules}
use Rattle.job_records.specs.Tables.{Tables}
use Rattle.cluster_history.specs.History.{accepted}
use Rattle.node_plans.specs.Endings.{unsent_ended}
use Rattle.cluster_core.proofs.EmptyLemmas.{sound-idle}
use Rattle.cluster_core.proofs.ReopenLemmas.{stands-opened, stands-on}
use Rattle.cluster_core.proofs.cluster.Cluster.reopen.Goals as goal

pub apply-requires-clause-allowed : goal.apply-requires-clause-allowed
apply-requires-clause-allowed c = subst (λ (t : Tables). AreAllowed t c.in_ok-changes.changes) (sym c.reserve.ensures.same) c.in_ok-changes.ensures.allowed

pub invariant_of-cluster : goal.invariant_of-cluster
invariant_of-cluster c =
    let ended : c.apply.new.self.kept ≡ unsent_ended c.args.records.kept = c.apply.ensures ∙ ap (λ (t : Tables). applied_all t c.in_ok-changes.changes) c.reserve.ensures.same ∙ c.in_ok-changes.ensures.gives in
    sound-idle _ c.apply.new.self _ _ c.new.ensures.items (subst KeepsRules (sym ended) c.end_unsent.ensures.rules) c.in_ok-nodes.ensures

pub returns-clause-rows : goal.returns-clause-rows
returns-clause-rows c =
    c.apply.ensures ∙ ap (λ (t : Tables). applied_all t c.in_ok-changes.changes) c.reserve.ensures.same ∙ c.in_ok-changes.ensures.gives ∙ sym c.in_ok-told.ensures.gives

pub returns-clause-ended : goal.returns-clause-ended
returns-clause-ended c = c.apply.ensures ∙ ap (λ (t : Tables). applied_all t c.in_ok-changes.changes) c.reserve.ensures.same ∙ c.in_ok-changes.ensures.gives

pub returns-clause-opens : goal.returns-clause-opens
returns-clause-opens c =
    let ended : c.apply.new.self.kept ≡ unsent_ended c.args.records.kept = c.apply.ensures ∙ ap (λ (t : Tables). applied_all t c.in_ok-changes.changes) c.reserve.ensures.same ∙ c.in_ok-changes.ensures.gives in
    stands-opened _ c.args.records.kept c.apply.new.self _ _ c.new.ensures.items ended (subst KeepsRules (sym ended) c.end_unsent.ensures.rules) c.in_ok-nodes.ensures

pub returns-clause-goes_on : goal.returns-clause-goes_on
returns-clause-goes_on c = λ h left.
    let ended : c.apply.new.self.kept ≡ unsent_ended c.args.records.kept = c.apply.ensures ∙ ap (λ (t : Tables). applied_all t c.in_ok-changes.changes) c.reserve.ensures.same ∙ c.in_ok-changes.ensures.gives in
    stands-on _ c.args.records.kept c.apply.new.self _ _ c.new.ensures.items ended c.in_ok-nodes.ensures (accepted h) left
