use Rattle.std.proofs.Common.{sym}
use Rattle.job_plans.proofs.EditLemmas.{stop-planned}
use Rattle.cluster_plan.proofs.RowPlans.{planned-made}
use Rattle.job_plans.proofs.jobs.plan_stop_job.Goals as goal

pub returns : goal.returns
returns c =
    planned-made _ _ _ _ _ _ c.changing.ensures c.in_ok-changes.ensures
    (stop-planned _ c.args.job c.in-Some-next_edition.edition c.in-Some.row.now c.in_ok-stopped.stopped c.requires.rules (sym c.in-Some.ensures) c.in-Some-next_edition.ensures.some.0 c.in-Some-next_edition.ensures.some.1 c.in_ok-stopped.ensures)
