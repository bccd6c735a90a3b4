use Rattle.std.proofs.Common.{◌∙◌, Option, Some, None, ap, sym, subst, refl, arith}
use Rattle.std.proofs.lemmas.Result.{IfOk-weaker}
use Rattle.job_records.specs.declared.job.Job.{Job}
use Rattle.job_events.specs.declared.cluster.ClusterEvent.TheVariants.{ScanStep}
use Rattle.cluster_history.specs.History.{accepted}
use Rattle.cluster_history.specs.Looks.{look_row}
use Rattle.scan_plans.specs.declared.pages.Standing.{Standing}
use Rattle.cluster_plan.specs.Prepared.{PreparedEvent}
use Rattle.log_opening.specs.Firing.{FiresAs}
use Rattle.cluster_plan.specs.Kept.{kept_in, pools_in}
use Rattle.cluster_plan.specs.Plans.{IsPlanned}
use Rattle.scan_plans.specs.Steps.{shots_decided}
use Rattle.cluster_plan.proofs.PlanLemmas.{planned-refused}
use Rattle.scan_plans.proofs.StepLemmas.{planned-skip, planned-look, spent-look}
use Rattle.scan_plans.proofs.scans.plan_look.Goals as goal

pub returns-in_default : goal.returns-in_default
returns-in_default c =
    let standing : Standing = record { entry = record { job = c.args.row.now.id; edition = c.args.edition }; at = c.args.at } in
    rw c.skip.ensures (planned-skip (kept_in c.args.seen.now) c.args.admin standing (omega arith) c.requires.stands c.requires.sound.rules
    (ap (λ (row : Option Job). look_row c.args.seen.now.settings c.args.at c.args.edition row) c.requires.found ∙ c.in_default.ensures.none) c.requires.runs)

pub returns-in_default-fired : goal.returns-in_default-fired
returns-in_default-fired c =
    let standing : Standing = record { entry = record { job = c.args.row.now.id; edition = c.args.edition }; at = c.args.at } in
    let none : FiresAs c.args.seen.now.records.now.kept.last (pools_in c.pools_at-pools.result.now.kept) (shots_decided c.args.seen.now.records.now.kept.groups c.args.at c.in-Some.look.decision c.args.row.now) None = rw c.in_default-fired.is at c.in_ok-fired.ensures in
    rw c.refusal.ensures (planned-refused _ _ _ (λ h s. spent-look (kept_in c.args.seen.now) (accepted h) c.args.admin standing c.args.row.now c.in-Some.look (omega arith) (c.requires.runs h s) c.requires.stands c.requires.found c.in-Some.ensures.some none s))

pub returns : goal.returns
returns c =
    let standing : Standing = record { entry = record { job = c.args.row.now.id; edition = c.args.edition }; at = c.args.at } in
    let fires : FiresAs c.args.seen.now.records.now.kept.last (pools_in c.pools_at-pools.result.now.kept) (shots_decided c.args.seen.now.records.now.kept.groups c.args.at c.in-Some.look.decision c.args.row.now) (Some c.in-Some-fired.fired) = rw c.in-Some-fired.is at c.in_ok-fired.ensures in
    IfOk-weaker c.looked.result _ _ (λ prepared is.
    let P : PreparedEvent → Type 0 = λ p. IsPlanned (kept_in c.args.seen.now) (ScanStep c.args.admin) p in
    subst P (sym is) (planned-look (kept_in c.args.seen.now) c.args.admin (pools_in c.pools_at-pools.result.now.kept) standing c.args.row.now c.in_ok-new.new c.in-Some.look c.in-Some-fired.fired _ (omega arith) (ap pools_in c.pools_at-pools.ensures) c.requires.stands c.requires.sound.rules c.requires.found c.in-Some.ensures.some fires c.in_ok-new.ensures refl c.requires.runs))
    c.looked.ensures
