use Rattle.std.proofs.Common.{◌≡◌, ℕ, ◌^◌, ◌<◌, Some, None, refl, sym, ap, ◌∙◌, subst, arith}
use Rattle.std.specs.Prelude.{slice_get}
use Rattle.job_events.specs.declared.cluster.ClusterEvent.TheVariants.{Take}
use Rattle.trigger_pool.specs.Pool.{queue_of}
use Rattle.route_strategies.specs.State.{counts_of, ArePicksOf}
use Rattle.cluster_plan.specs.Nodes.{NodeKept}
use Rattle.cluster_plan.specs.Kept.{Kept, kept_in, pools_at}
use Rattle.cluster_plan.proofs.PlanLemmas.{planned-refused, refused-stopped}
use Rattle.send_plans.specs.Takes.{taking}
use Rattle.send_plans.proofs.TakeLemmas.{planned-if, planned-take, planned-empty}
use Rattle.send_plans.proofs.takes.plan_take.Goals as goal

pub returns-then-not-is_running : goal.returns-then-not-is_running
returns-then-not-is_running c =
    rw c.refusal.ensures (planned-refused _ _ _ (λ h s. refused-stopped _ _ _ (sym (c.is_running.ensures h s) ∙ c.if-not-is_running.true)))

pub returns-in_default : goal.returns-in_default
returns-in_default c =
    let kept : Kept = kept_in c.args.seen.now in
    let first : slice_get (queue_of (pools_at (kept_in c.args.seen.now) c.args.admin) c.args.pool) 0 ≡ None =
    ap (λ (one : NodeKept). slice_get (queue_of one.pools c.args.pool) 0) (sym c.node_at-node.ensures) ∙ sym c.in_default.ensures in
    rw c.refusal-in_default.ensures
    (planned-empty kept c.args.admin c.args.at c.args.word c.args.pool None (omega arith) (λ h s. sym (c.is_running.ensures h s) ∙ c.if-not-is_running.false) first refl)

pub returns-in_default-log : goal.returns-in_default-log
returns-in_default-log c =
    let kept : Kept = kept_in c.args.seen.now in
    let first : slice_get (queue_of (pools_at (kept_in c.args.seen.now) c.args.admin) c.args.pool) 0 ≡ Some c.in-Some.id =
    ap (λ (one : NodeKept). slice_get (queue_of one.pools c.args.pool) 0) (sym c.node_at-node.ensures) ∙ sym c.in-Some.ensures in
    rw c.refusal-in_default-log.ensures
    (planned-empty kept c.args.admin c.args.at c.args.word c.args.pool (Some c.in-Some.id) (omega arith) (λ h s. sym (c.is_running.ensures h s) ∙ c.if-not-is_running.false) first (sym c.in_default-log.ensures))

pub returns : goal.returns
returns c =
    let kept : Kept = kept_in c.args.seen.now in
    let admin : ℕ = c.args.admin in
    let row = c.in-Some-log.row.now in
    let first : slice_get (queue_of (pools_at (kept_in c.args.seen.now) c.args.admin) c.args.pool) 0 ≡ Some c.in-Some.id =
    ap (λ (one : NodeKept). slice_get (queue_of one.pools c.args.pool) 0) (sym c.node_at-node.ensures) ∙ sym c.in-Some.ensures in
    planned-if c.take_of.result kept (Take c.args.admin c.args.pool c.args.at c.args.word) (taking admin c.args.pool row c.in_ok-choice.choice)
    (planned-take kept admin c.args.at c.args.word c.in-Some.id c.args.pool row c.in_ok-choice.choice (omega arith) (λ h s. sym (c.is_running.ensures h s) ∙ c.if-not-is_running.false) first (sym c.in-Some-log.ensures)
    (subst (λ (one : NodeKept). (counts_of one.routes c.in-Some-log.row.now.job).number < 2 ^ 64) c.node_at-node.ensures c.in_ok-choice.ensures.few)
    (λ picks are. c.in_ok-choice.ensures.choice picks (subst (λ (one : NodeKept). ArePicksOf one.routes c.in-Some-log.row.now.job picks) (sym c.node_at-node.ensures) are)))
    c.take_of.ensures
