use Rattle.std.proofs.Common.{sym, ◌∙◌}
use Rattle.cluster_plan.proofs.PlanLemmas.{planned-refused, refused-stopped}
use Rattle.node_plans.proofs.NodeLemmas.{planned-ask}
use Rattle.node_plans.proofs.nodes.plan_ask.Goals as goal

pub returns : goal.returns
returns c = rw c.answer.ensures (planned-ask _ _ (λ h s. sym (c.is_running.ensures h s) ∙ c.if-not-is_running.false))

pub returns-then-not-is_running : goal.returns-then-not-is_running
returns-then-not-is_running c =
    rw c.refusal.ensures (planned-refused _ _ _ (λ h s. refused-stopped _ _ _ (sym (c.is_running.ensures h s) ∙ c.if-not-is_running.true)))
