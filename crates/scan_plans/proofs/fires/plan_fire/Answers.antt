use Rattle.std.proofs.Common.{◌≡◌, ◌<◌, ◌+◌, ◌∙◌, ℕ, List, length, Some, None, ap, sym, subst, arith}
use Rattle.std.specs.Option.{option_copied}
use Rattle.job_values.specs.declared.limits.TheConstants.{LAST_LOG_ID}
use Rattle.job_values.specs.declared.words.TriggerKind.TheVariants.{Manual}
use Rattle.job_records.specs.declared.job.Job.{Job}
use Rattle.job_records.specs.Rows.{row_with}
use Rattle.cluster_history.specs.History.{accepted}
use Rattle.cluster_history.specs.Firings.{shots_with}
use Rattle.log_opening.specs.Firing.{FiresAs, Fires}
use Rattle.cluster_plan.specs.Kept.{kept_in, pools_in}
use Rattle.cluster_plan.proofs.PlanLemmas.{planned-refused, refused-stopped}
use Rattle.scan_plans.proofs.HandLemmas.{planned-fire, spent-fire, gone-fire}
use Rattle.scan_plans.proofs.fires.plan_fire.Goals as goal

pub returns-then-not-is_running : goal.returns-then-not-is_running
returns-then-not-is_running c =
    rw c.refusal.ensures (planned-refused _ _ _ (λ h s. refused-stopped _ _ _ (sym (c.is_running.ensures h s) ∙ c.if-not-is_running.true)))

pub returns-in_default : goal.returns-in_default
returns-in_default c =
    let found : row_with (λ (row : Job). row.id) c.args.job c.args.seen.now.records.now.kept.jobs ≡ None = sym c.job.ensures ∙ ap option_copied c.in_default.is in
    rw c.refusal-in_default.ensures (planned-refused _ _ _ (λ h s. gone-fire (kept_in c.args.seen.now) (accepted h) c.args.admin c.args.at c.args.job c.args.param.now (sym (c.is_running.ensures h s) ∙ c.if-not-is_running.false) found s))

pub returns-in_default-fired : goal.returns-in_default-fired
returns-in_default-fired c =
    let found : row_with (λ (row : Job). row.id) c.args.job c.args.seen.now.records.now.kept.jobs ≡ Some c.in-Some.row.now = sym c.job.ensures ∙ ap option_copied c.in-Some.is in
    let none : FiresAs c.args.seen.now.records.now.kept.last (pools_in c.pools_at-pools.result.now.kept) (shots_with c.args.seen.now.records.now.kept.groups c.param_of-param.result.now Manual c.args.at c.in-Some.row.now) None = rw c.in_default-fired.is at c.in_ok-fired.ensures in
    let over = subst (λ (param : List ℕ). LAST_LOG_ID < c.args.seen.now.records.now.kept.last.log + length (shots_with c.args.seen.now.records.now.kept.groups param Manual c.args.at c.in-Some.row.now)) c.param_of-param.ensures none in
    rw c.refusal-in_default-fired.ensures (planned-refused _ _ _ (λ h s. spent-fire (kept_in c.args.seen.now) (accepted h) c.args.admin c.args.at c.args.job c.args.param.now c.in-Some.row.now (omega arith) (sym (c.is_running.ensures h s) ∙ c.if-not-is_running.false) found over s))

pub returns : goal.returns
returns c =
    let found : row_with (λ (row : Job). row.id) c.args.job c.args.seen.now.records.now.kept.jobs ≡ Some c.in-Some.row.now = sym c.job.ensures ∙ ap option_copied c.in-Some.is in
    let some : FiresAs c.args.seen.now.records.now.kept.last (pools_in c.pools_at-pools.result.now.kept) (shots_with c.args.seen.now.records.now.kept.groups c.param_of-param.result.now Manual c.args.at c.in-Some.row.now) (Some c.in-Some-fired.fired) = rw c.in-Some-fired.is at c.in_ok-fired.ensures in
    let fires = subst (λ (param : List ℕ). Fires c.args.seen.now.records.now.kept.last (pools_in c.pools_at-pools.result.now.kept) (shots_with c.args.seen.now.records.now.kept.groups param Manual c.args.at c.in-Some.row.now) c.in-Some-fired.fired) c.param_of-param.ensures some in
    rw (c.changing.ensures, c.of.ensures, c.of-2.ensures) (planned-fire (kept_in c.args.seen.now) c.args.admin c.args.at c.args.job (pools_in c.pools_at-pools.result.now.kept) c.args.param.now c.in-Some.row.now c.in-Some-fired.fired (omega arith) (ap pools_in c.pools_at-pools.ensures) c.requires.rules found fires (λ h s. sym (c.is_running.ensures h s) ∙ c.if-not-is_running.false))
