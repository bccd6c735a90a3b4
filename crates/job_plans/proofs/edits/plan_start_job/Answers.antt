use Rattle.std.proofs.Common.{sym}
use Rattle.job_plans.proofs.EditLemmas.{start-planned, start-spent}
use Rattle.cluster_plan.proofs.RowPlans.{planned-made}
use Rattle.cluster_plan.specs.Kept.{kept_in}
use Rattle.job_plans.proofs.edits.plan_start_job.Goals as goal

pub returns : goal.returns
returns c =
    planned-made _ _ _ _ _ _ c.changing.ensures c.in_ok-changes.ensures
    (start-planned _ c.args.at c.args.job c.in-Some-next_edition.edition c.in-Some-first_of.next c.in-Some.row.now c.in_ok-started.started c.requires.rules (sym c.in-Some.ensures) (sym c.in-Some-first_of.ensures) c.in-Some-next_edition.ensures.some.0 c.in-Some-next_edition.ensures.some.1 c.in_ok-started.ensures)

pub returns-in_default-next_edition : goal.returns-in_default-next_edition
returns-in_default-next_edition c =
    rw c.refusal-in_default-next_edition.ensures (start-spent (kept_in c.args.seen.now) c.args.at c.args.job c.in-Some-first_of.next c.in-Some.row.now (sym c.in-Some.ensures) (sym c.in-Some-first_of.ensures) c.in_default-next_edition.ensures.none)
