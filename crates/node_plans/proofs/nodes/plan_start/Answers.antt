use Rattle.std.proofs.Common.{sym, ap, ◌∙◌, arith}
use Rattle.cluster_history.specs.Replies.{start_reply}
use Rattle.cluster_plan.proofs.PlanLemmas.{planned-refused}
use Rattle.node_plans.proofs.NodeLemmas.{planned-start}
use Rattle.node_plans.proofs.nodes.plan_start.Goals as goal

pub returns : goal.returns
returns c = rw (c.changing.ensures, c.new.ensures) (planned-start _ _ (omega arith) (λ h s. sym (c.is_running.ensures h s) ∙ c.if-is_running.false))

pub returns-then-is_running : goal.returns-then-is_running
returns-then-is_running c =
    rw c.refusal.ensures (planned-refused _ _ _ (λ h s. ap (λ b. start_reply b c.args.admin) (sym (c.is_running.ensures h s) ∙ c.if-is_running.true)))
