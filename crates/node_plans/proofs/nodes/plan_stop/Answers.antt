use Rattle.std.proofs.Common.{◌≡◌, ℕ, ◌-◌, ◌^◌, List, ◌++◌, length, min, ap, sym, ◌∙◌, arith}
use Rattle.time_ring.specs.Ring.{ticket_count}
use Rattle.cluster_plan.specs.Nodes.{NodeKept}
use Rattle.cluster_plan.specs.Kept.{Kept, logs_in, ring_at, kept_in}
use Rattle.cluster_plan.proofs.PlanLemmas.{planned-refused, refused-stopped}
use Rattle.node_plans.specs.Endings.{endings, taken_in, held_in}
use Rattle.node_plans.proofs.StopLemmas.{planned-stop}
use Rattle.node_plans.proofs.nodes.plan_stop.Goals as goal

pub returns-then-not-is_running : goal.returns-then-not-is_running
returns-then-not-is_running c =
    rw c.refusal.ensures (planned-refused _ _ _ (λ h s. refused-stopped _ _ _ (sym (c.is_running.ensures h s) ∙ c.if-not-is_running.true)))

pub returns : goal.returns
returns c =
    let kept : Kept = kept_in c.args.seen.now in
    let admin : ℕ = c.args.admin in
    let logs = c.args.seen.now.records.now.kept.logs in
    let ids : c.in_ok-ids.ids.items ≡ held_in kept admin =
    c.in_ok-ids.ensures ∙ ap (λ (one : NodeKept). logs_in one.pools ++ taken_in kept.taken admin) c.node_at-node.ensures in
    let ended : c.count-ended.result ≡ length (held_in kept admin) = c.count-ended.ensures ∙ ap length ids in
    let lost : c.count-lost.result ≡ min (ticket_count (ring_at kept admin)) (2 ^ 64 - 1) =
    c.count-lost.ensures ∙ ap (λ (one : NodeKept). min (ticket_count one.ring) (2 ^ 64 - 1)) c.node_at-node.ensures in
    let changes : c.of.result ≡ endings logs (held_in kept admin) = c.of.ensures ∙ c.in_ok-changes.ensures ∙ ap (endings logs) ids in
    rw (c.changing.ensures, changes)
    (planned-stop kept admin c.count-lost.result c.count-ended.result (omega arith) c.requires.rules
    (λ h s. sym (c.is_running.ensures h s) ∙ c.if-not-is_running.false)
    lost ended)
