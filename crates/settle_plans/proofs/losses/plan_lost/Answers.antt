use Rattle.std.proofs.Common.{◌≡◌, ◌∙◌, ◌∷◌, ◌++◌, [], List, Some, None, ap, sym}
use Rattle.std.specs.Option.{option_copied}
use Rattle.job_records.specs.declared.change.Change.{Change}
use Rattle.job_records.specs.declared.change.Change.TheVariants.{PutLog}
use Rattle.cluster_history.specs.Settling.{first_lost}
use Rattle.cluster_plan.specs.Kept.{kept_in}
use Rattle.cluster_plan.proofs.PlanLemmas.{planned-refused}
use Rattle.cluster_plan.proofs.RowPlans.{planned-made}
use Rattle.settle_plans.proofs.LossLemmas.{loss-reply, planned-lost}
use Rattle.settle_plans.proofs.losses.plan_lost.Goals as goal

pub returns-in_default : goal.returns-in_default
returns-in_default c =
    let chosen : first_lost c.args.at c.args.seen.now.records.now.kept.registry c.args.seen.now.records.now.kept.logs ≡ None = sym c.first_lost.ensures ∙ ap option_copied c.in_default.is in
    rw c.refusal.ensures (planned-refused _ _ _ (λ h s. loss-reply (kept_in c.args.seen.now) h c.args.at None chosen s))

pub returns : goal.returns
returns c =
    let chosen : first_lost c.args.at c.args.seen.now.records.now.kept.registry c.args.seen.now.records.now.kept.logs ≡ Some c.in-Some.log.now = sym c.first_lost.ensures ∙ ap option_copied c.in-Some.is in
    planned-made _ _ _ _ _ _ c.changing.ensures (c.of.ensures ∙ c.in_ok-changes.ensures ∙ ap (λ (cs : List Change). cs ++ PutLog c.in_ok-row.row ∷ []) c.new.ensures.items)
    (planned-lost (kept_in c.args.seen.now) c.args.at c.in-Some.log.now c.in_ok-row.row c.requires.rules chosen c.in_ok-row.ensures)
