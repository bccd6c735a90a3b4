use Rattle.std.proofs.Common.{◌≡◌, ◌∙◌, ℕ, Option, Some, None, ap, sym, subst, arith}
use Rattle.std.specs.Option.{option_copied}
use Rattle.job_records.specs.declared.job.Job.{Job}
use Rattle.job_records.specs.Rows.{row_with}
use Rattle.cluster_history.specs.History.{accepted}
use Rattle.cluster_history.specs.Looks.{look_row}
use Rattle.cluster_plan.specs.Kept.{kept_in}
use Rattle.scan_plans.specs.Steps.{StandsAt}
use Rattle.cluster_plan.proofs.PlanLemmas.{planned-refused, refused-stopped}
use Rattle.cluster_plan.proofs.PutLemmas.{found-id}
use Rattle.scan_plans.proofs.StepLemmas.{not-scanning, planned-skip}
use Rattle.scan_plans.proofs.scans.plan_step.Goals as goal

pub returns-then-not-is_running : goal.returns-then-not-is_running
returns-then-not-is_running c =
    rw c.refusal.ensures (planned-refused _ _ _ (λ h s. refused-stopped _ _ _ (sym (c.is_running.ensures h s) ∙ c.if-not-is_running.true)))

pub returns-in_default : goal.returns-in_default
returns-in_default c =
    rw c.refusal-in_default.ensures (planned-refused _ _ _ (λ h s. not-scanning (kept_in c.args.seen.now) (accepted h) c.args.admin (sym (c.is_running.ensures h s) ∙ c.if-not-is_running.false) c.in_default.ensures.none s))

pub plan_look-requires-clause-stands : goal.plan_look-requires-clause-stands
plan_look-requires-clause-stands c =
    let id = found-id (λ (row : Job). row.id) c.in-Some.field-0.entry.job c.args.seen.now.records.now.kept.jobs c.in-Some-job.row.now (sym c.job.ensures ∙ ap option_copied c.in-Some-job.is) in
    let P : ℕ → Type 0 = λ job. StandsAt c.args.seen.now.scan.now c.args.admin (record { entry = record { job = job; edition = c.in-Some.field-0.entry.edition }; at = c.in-Some.field-0.at }) in
    subst P (sym id) c.in-Some.ensures.some

pub plan_look-requires-clause-found : goal.plan_look-requires-clause-found
plan_look-requires-clause-found c =
    let here : row_with (λ (row : Job). row.id) c.in-Some.field-0.entry.job c.args.seen.now.records.now.kept.jobs ≡ Some c.in-Some-job.row.now = sym c.job.ensures ∙ ap option_copied c.in-Some-job.is in
    let id = found-id (λ (row : Job). row.id) c.in-Some.field-0.entry.job c.args.seen.now.records.now.kept.jobs c.in-Some-job.row.now here in
    let P : ℕ → Type 0 = λ job. row_with (λ (row : Job). row.id) job c.args.seen.now.records.now.kept.jobs ≡ Some c.in-Some-job.row.now in
    subst P (sym id) here

pub plan_look-requires-clause-runs : goal.plan_look-requires-clause-runs
plan_look-requires-clause-runs c = λ h s. sym (c.is_running.ensures h s) ∙ c.if-not-is_running.false

pub returns-in-None : goal.returns-in-None
returns-in-None c =
    let gone : row_with (λ (row : Job). row.id) c.in-Some.field-0.entry.job c.args.seen.now.records.now.kept.jobs ≡ None = sym c.job.ensures ∙ ap option_copied c.in-None.is in
    rw c.skip.ensures (planned-skip (kept_in c.args.seen.now) c.args.admin c.in-Some.field-0 (omega arith) c.in-Some.ensures.some c.requires.rules
    (ap (λ (row : Option Job). look_row c.args.seen.now.settings c.in-Some.field-0.at c.in-Some.field-0.entry.edition row) gone)
    (λ h s. sym (c.is_running.ensures h s) ∙ c.if-not-is_running.false))
