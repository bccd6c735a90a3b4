use Rattle.std.proofs.Common.{◌≡◌, ◌∙◌, Some, None, ap, sym, arith}
use Rattle.std.specs.Option.{option_copied}
use Rattle.cluster_history.specs.History.{accepted}
use Rattle.cluster_history.specs.Firings.{shots_marked}
use Rattle.cluster_history.specs.Settling.{first_failed}
use Rattle.cluster_plan.specs.Kept.{kept_in, pools_in}
use Rattle.cluster_plan.proofs.PlanLemmas.{planned-refused, refused-stopped}
use Rattle.log_opening.specs.Firing.{FiresAs}
use Rattle.settle_plans.proofs.RetryLemmas.{monitor-reply, spent-monitor, planned-monitor}
use Rattle.settle_plans.proofs.retries.plan_monitor.Goals as goal

pub returns-then-not-is_running : goal.returns-then-not-is_running
returns-then-not-is_running c =
    rw c.refusal.ensures (planned-refused _ _ _ (λ h s. refused-stopped _ _ _ (sym (c.is_running.ensures h s) ∙ c.if-not-is_running.true)))

pub returns-in_default : goal.returns-in_default
returns-in_default c =
    let chosen : first_failed c.args.seen.now.records.now.kept.logs ≡ None = sym c.first_failed.ensures ∙ ap option_copied c.in_default.is in
    rw c.refusal-in_default.ensures (planned-refused _ _ _ (λ h s.
    monitor-reply (kept_in c.args.seen.now) (accepted h) c.args.admin c.args.at None (omega arith) (sym (c.is_running.ensures h s) ∙ c.if-not-is_running.false) chosen s))

pub returns-in_default-fired : goal.returns-in_default-fired
returns-in_default-fired c =
    let chosen : first_failed c.args.seen.now.records.now.kept.logs ≡ Some c.in-Some.log.now = sym c.first_failed.ensures ∙ ap option_copied c.in-Some.is in
    let none : FiresAs c.args.seen.now.records.now.kept.last (pools_in c.pools_at-pools.result.now.kept) (shots_marked c.args.seen.now.records.now.kept.jobs c.args.at (Some c.in-Some.log.now)) None = rw c.in_default-fired.is at c.in_ok-fired.ensures in
    rw c.refusal-in_default-fired.ensures (planned-refused _ _ _ (λ h s.
    monitor-reply (kept_in c.args.seen.now) (accepted h) c.args.admin c.args.at (Some c.in-Some.log.now) (omega arith) (sym (c.is_running.ensures h s) ∙ c.if-not-is_running.false) chosen s
    ∙ spent-monitor c.args.seen.now.records.now.kept _ c.args.at c.in-Some.log.now none))

pub returns : goal.returns
returns c =
    let chosen : first_failed c.args.seen.now.records.now.kept.logs ≡ Some c.in-Some.log.now = sym c.first_failed.ensures ∙ ap option_copied c.in-Some.is in
    let some : FiresAs c.args.seen.now.records.now.kept.last (pools_in c.pools_at-pools.result.now.kept) (shots_marked c.args.seen.now.records.now.kept.jobs c.args.at (Some c.in-Some.log.now)) (Some c.in-Some-fired.fired) = rw c.in-Some-fired.is at c.in_ok-fired.ensures in
    rw (c.changing.ensures, c.of.ensures, c.of-2.ensures)
    (planned-monitor (kept_in c.args.seen.now) c.args.admin c.args.at (pools_in c.pools_at-pools.result.now.kept) c.in-Some.log.now c.in_ok-row.row c.in-Some-fired.fired c.in_ok-changes.changes.items
    (omega arith) (ap pools_in c.pools_at-pools.ensures) c.requires.rules chosen c.in_ok-row.ensures some c.in_ok-changes.ensures (λ h s. sym (c.is_running.ensures h s) ∙ c.if-not-is_running.false))
