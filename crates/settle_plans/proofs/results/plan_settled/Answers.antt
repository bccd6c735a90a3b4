use Rattle.std.proofs.Common.{◌≡◌, ◌<◌, ◌+◌, ◌∙◌, ℕ, ℤ, List, Some, None, FitsSigned, to_z, of_z, w32, length, ap, sym, subst, rules, arith}
use Rattle.std.proofs.lemmas.Int.{to_z-of_z}
use Rattle.job_values.specs.declared.limits.TheConstants.{LAST_LOG_ID}
use Rattle.job_events.specs.declared.cluster.ClusterEvent.TheVariants.{Callback}
use Rattle.job_events.specs.declared.cluster.ClusterReply.TheVariants.{Settled}
use Rattle.cluster_history.specs.History.{accepted}
use Rattle.cluster_plan.specs.declared.prepared.NodeChange.TheVariants as node
use Rattle.cluster_plan.specs.Kept.{kept_in, pools_in}
use Rattle.cluster_plan.specs.Plans.{IsPlanned}
use Rattle.cluster_plan.proofs.PlanLemmas.{planned-refused}
use Rattle.log_opening.specs.Series.{shots_all, FiresSeries}
use Rattle.settle_log.specs.Results.{children_of}
use Rattle.settle_plans.specs.Children.{children_at, FiresChildren}
use Rattle.settle_plans.proofs.ResultLemmas.{callback-reply, spent-callback, planned-callback}
use Rattle.settle_plans.proofs.results.plan_settled.Goals as goal

pub returns-in_default : goal.returns-in_default
returns-in_default c =
    let fits : FitsSigned w32 c.args.item.now.code = search rules in
    let back : to_z w32 (of_z w32 c.args.item.now.code) ≡ c.args.item.now.code = to_z-of_z w32 c.args.item.now.code fits in
    let ids : c.children_of-children.result.now ≡ children_of c.args.seen.now.records.now.kept.jobs c.args.item.now.code (Some c.args.log.now) =
    c.children_of-children.ensures ∙ ap (λ (code : ℤ). children_of c.args.seen.now.records.now.kept.jobs code (Some c.args.log.now)) back in
    let none : FiresChildren c.args.seen.now.records.now.kept (pools_in c.pools_at-pools.result.now.kept) c.args.at c.children_of-children.result.now None = rw c.in_default.is at c.in_ok-fired.ensures in
    let over = subst (λ (ids : List ℕ). LAST_LOG_ID < c.args.seen.now.records.now.kept.last.log + length (shots_all (children_at c.args.at) c.args.seen.now.records.now.kept ids)) ids none in
    rw c.refusal.ensures (planned-refused _ _ _ (λ h s.
    callback-reply (kept_in c.args.seen.now) (accepted h) c.args.admin c.args.at c.args.item.now (Some c.args.log.now) (omega arith) (c.requires.runs h s) c.requires.settles.positive c.requires.found s
    ∙ spent-callback c.args.seen.now.records.now.kept _ c.args.at c.args.item.now.code c.args.log.now c.requires.settles.first over))

pub returns : goal.returns
returns c =
    let fits : FitsSigned w32 c.args.item.now.code = search rules in
    let back : to_z w32 (of_z w32 c.args.item.now.code) ≡ c.args.item.now.code = to_z-of_z w32 c.args.item.now.code fits in
    let ids : c.children_of-children.result.now ≡ children_of c.args.seen.now.records.now.kept.jobs c.args.item.now.code (Some c.args.log.now) =
    c.children_of-children.ensures ∙ ap (λ (code : ℤ). children_of c.args.seen.now.records.now.kept.jobs code (Some c.args.log.now)) back in
    let some : FiresChildren c.args.seen.now.records.now.kept (pools_in c.pools_at-pools.result.now.kept) c.args.at c.children_of-children.result.now (Some c.in-Some.fired) = rw c.in-Some.is at c.in_ok-fired.ensures in
    let fires = subst (λ (ids : List ℕ). FiresSeries (children_at c.args.at) c.args.seen.now.records.now.kept (pools_in c.pools_at-pools.result.now.kept) ids c.in-Some.fired.changes.items c.in-Some.fired.entering.items c.in-Some.fired.children.items) ids some in
    let P : ℤ → Type 0 = λ code. IsPlanned (kept_in c.args.seen.now) (Callback c.args.admin c.args.at c.args.item.now)
    (record { reply = Settled code c.in-Some.fired.children.items; changes = c.in_ok-changes.changes.items; node = node.Fires c.args.admin c.in-Some.fired.entering.items }) in
    rw (c.changing.ensures, c.of.ensures, c.of-2.ensures, c.of-3.ensures)
    (subst P (sym back)
    (planned-callback (kept_in c.args.seen.now) c.args.admin c.args.at c.args.item.now (pools_in c.pools_at-pools.result.now.kept) c.args.log.now c.args.row c.in-Some.fired.changes.items c.in_ok-changes.changes.items c.in-Some.fired.entering.items c.in-Some.fired.children.items
    (omega arith) (ap pools_in c.pools_at-pools.ensures) c.requires.sound.rules c.requires.found c.requires.settles fires c.in_ok-changes.ensures c.requires.runs))
