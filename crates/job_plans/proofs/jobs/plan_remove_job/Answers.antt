use Rattle.job_plans.proofs.JobLemmas.{remove-planned}
use Rattle.cluster_plan.proofs.RowPlans.{planned-made, seen-some}
use Rattle.job_plans.proofs.jobs.plan_remove_job.Goals as goal

pub returns : goal.returns
returns c =
    planned-made _ _ _ _ _ _ c.changing.ensures c.in_ok-changes.ensures
    (remove-planned _ c.args.job c.requires.rules (seen-some c.job.result _ c.is_none.result c.job.ensures c.is_none.ensures c.if-is_none.false))
