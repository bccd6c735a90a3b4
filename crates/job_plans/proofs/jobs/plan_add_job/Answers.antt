use Rattle.std.proofs.Common.{ℕ, refl, ap, ◌∙◌, rules}
use Rattle.job_records.specs.declared.job.Job.{Job}
use Rattle.job_records.specs.declared.last_ids.LastIds.{LastIds}
use Rattle.job_plans.proofs.JobLemmas.{add-bad, add-zone, add-full, add-spent, add_job-planned, adding_job, with_last_job}
use Rattle.cluster_plan.proofs.RowPlans.{planned-made, seen-some}
use Rattle.cluster_plan.specs.Kept.{kept_in}
use Rattle.job_plans.proofs.jobs.plan_add_job.Goals as goal

pub returns : goal.returns
returns c =
    let last : ℕ → LastIds = λ id. record { group = c.last_ids-last.result.group; job = id; log = c.last_ids-last.result.log } in
    planned-made _ _ _ _ _ _ c.changing.ensures (c.in_ok-changes.ensures ∙ ap (λ (row : Job). adding_job (last c.get.result) row) c.in_ok-row.ensures)
    (add_job-planned _ c.args.spec.now c.args.spec.now c.in-Ok.schedule c.in-Ok-zone_said.zone c.in-Some.id (last c.get.result) c.requires.rules
    (seen-some c.group.result _ c.is_none.result c.group.ensures c.is_none.ensures c.if-is_none.false) (c.in_ok-schedule.ensures ∙ c.in-Ok.is) (c.zone_said.ensures ∙ c.in-Ok-zone_said.is) (search rules) (search rules) (search rules) refl (ap last c.get.ensures.value ∙ ap (with_last_job c.in-Some.id) c.last_ids-last.ensures.value))

pub returns-in-Err : goal.returns-in-Err
returns-in-Err c =
    rw c.refusal-in-Err.ensures (add-bad (kept_in c.args.seen.now) c.args.spec.now c.in-Err.fault (seen-some c.group.result _ c.is_none.result c.group.ensures c.is_none.ensures c.if-is_none.false) (c.in_ok-schedule.ensures ∙ c.in-Err.is))

pub returns-then-jobs-ge-MOST_JOBS : goal.returns-then-jobs-ge-MOST_JOBS
returns-then-jobs-ge-MOST_JOBS c =
    rw c.refusal-then-jobs-ge-MOST_JOBS.ensures (add-full (kept_in c.args.seen.now) c.args.spec.now c.in-Ok.schedule c.in-Ok-zone_said.zone (seen-some c.group.result _ c.is_none.result c.group.ensures c.is_none.ensures c.if-is_none.false) (c.in_ok-schedule.ensures ∙ c.in-Ok.is) (c.zone_said.ensures ∙ c.in-Ok-zone_said.is) (search rules))

pub returns-in_default : goal.returns-in_default
returns-in_default c =
    rw c.refusal-in_default.ensures (add-spent (kept_in c.args.seen.now) c.args.spec.now c.in-Ok.schedule c.in-Ok-zone_said.zone (seen-some c.group.result _ c.is_none.result c.group.ensures c.is_none.ensures c.if-is_none.false) (c.in_ok-schedule.ensures ∙ c.in-Ok.is) (c.zone_said.ensures ∙ c.in-Ok-zone_said.is) (search rules) (search rules))

pub returns-in-Err-zone_said : goal.returns-in-Err-zone_said
returns-in-Err-zone_said c =
    rw c.refusal-in-Err-zone_said.ensures (add-zone (kept_in c.args.seen.now) c.args.spec.now c.in-Ok.schedule c.in-Err-zone_said.fault (seen-some c.group.result _ c.is_none.result c.group.ensures c.is_none.ensures c.if-is_none.false) (c.in_ok-schedule.ensures ∙ c.in-Ok.is) (c.zone_said.ensures ∙ c.in-Err-zone_said.is))
