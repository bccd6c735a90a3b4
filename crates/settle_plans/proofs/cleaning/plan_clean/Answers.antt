use Rattle.settle_plans.proofs.CleanPlans.{planned-clean}
use Rattle.cluster_plan.specs.Kept.{kept_in}
use Rattle.settle_plans.proofs.cleaning.plan_clean.Goals as goal

pub returns : goal.returns
returns c = rw c.changing.ensures (planned-clean (kept_in c.args.seen.now) c.args.at c.in_ok-changes.changes c.len-count.result c.in_ok-changes.ensures c.len-count.ensures)
