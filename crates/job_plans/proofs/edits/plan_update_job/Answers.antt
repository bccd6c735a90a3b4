use Rattle.std.proofs.Common.{sym, ap, ◌∙◌, subst, Bool}
use Rattle.job_events.specs.declared.cluster.ClusterEvent.TheVariants.{UpdateJob}
use Rattle.job_records.specs.declared.job.Job.{Job}
use Rattle.cluster_plan.specs.Prepared.{PreparedEvent}
use Rattle.cluster_plan.specs.Plans.{IsPlanned}
use Rattle.job_plans.proofs.EditLemmas.{update-planned, update-spent, update-bad, update-zone}
use Rattle.cluster_plan.proofs.RowPlans.{planned-made, seen-some}
use Rattle.cluster_plan.specs.Kept.{kept_in}
use Rattle.job_plans.proofs.edits.plan_update_job.Goals as goal

pub returns-in-Err-find_again : goal.returns-in-Err-find_again
returns-in-Err-find_again c =
    let P : PreparedEvent → Type 0 = λ p. IsPlanned (kept_in c.args.seen.now) (UpdateJob c.args.at c.args.job c.args.spec.now) p in
    subst P (sym c.refusal-in-Err-find_again.ensures)
    (update-spent _ c.args.at c.args.job c.args.spec.now c.in-Some.row.now c.in-Ok.schedule c.in-Ok-zone_said.zone c.in-Err-find_again.why (sym c.in-Some.ensures)
    (seen-some c.group.result _ c.is_none.result c.group.ensures c.is_none.ensures c.if-is_none.false) (c.in_ok-schedule.ensures ∙ c.in-Ok.is) (c.zone_said.ensures ∙ c.in-Ok-zone_said.is) c.in-Err-find_again.ensures.refusal)

pub returns : goal.returns
returns c =
    let put : Bool → Job = λ running. record {
      id = c.in-Some.row.now.id;
      spec = c.in_ok-copy.field-0;
      schedule = c.in-Ok.schedule;
      running = running;
      edition = c.in-Ok-find_again.found.0;
      next = c.in-Ok-find_again.found.1;
    } in
    planned-made _ _ _ _ _ _ c.changing.ensures c.in_ok-changes.ensures
    (update-planned _ c.args.at c.args.job c.in-Ok-find_again.found.0 c.args.spec.now c.in_ok-copy.field-0 c.in-Ok.schedule c.in-Ok-zone_said.zone c.in-Ok-find_again.found.1 c.in-Some.row.now (put c.is_some.result) c.requires.rules (sym c.in-Some.ensures)
    (seen-some c.group.result _ c.is_none.result c.group.ensures c.is_none.ensures c.if-is_none.false) (c.in_ok-schedule.ensures ∙ c.in-Ok.is) (c.zone_said.ensures ∙ c.in-Ok-zone_said.is) c.in-Ok-find_again.ensures.found c.in_ok-copy.ensures (ap put c.is_some.ensures))

pub returns-in-Err : goal.returns-in-Err
returns-in-Err c =
    rw c.refusal-in-Err.ensures (update-bad (kept_in c.args.seen.now) c.args.at c.args.job c.args.spec.now c.in-Some.row.now c.in-Err.fault (sym c.in-Some.ensures)
    (seen-some c.group.result _ c.is_none.result c.group.ensures c.is_none.ensures c.if-is_none.false) (c.in_ok-schedule.ensures ∙ c.in-Err.is))

pub returns-in-Err-zone_said : goal.returns-in-Err-zone_said
returns-in-Err-zone_said c =
    rw c.refusal-in-Err-zone_said.ensures (update-zone (kept_in c.args.seen.now) c.args.at c.args.job c.args.spec.now c.in-Some.row.now c.in-Ok.schedule c.in-Err-zone_said.fault (sym c.in-Some.ensures)
    (seen-some c.group.result _ c.is_none.result c.group.ensures c.is_none.ensures c.if-is_none.false) (c.in_ok-schedule.ensures ∙ c.in-Ok.is) (c.zone_said.ensures ∙ c.in-Err-zone_said.is))
