use Rattle.std.proofs.Common.{ℕ, ap, ◌∙◌, rules}
use Rattle.job_records.specs.declared.last_ids.LastIds.{LastIds}
use Rattle.job_plans.proofs.GroupLemmas.{add_group-planned, with_last_group}
use Rattle.cluster_plan.proofs.RowPlans.{planned-made}
use Rattle.job_plans.proofs.groups.plan_add_group.Goals as goal

pub returns : goal.returns
returns c =
    let last : ℕ → LastIds = λ id. record { group = id; job = c.last_ids-last.result.job; log = c.last_ids-last.result.log } in
    planned-made _ _ _ _ _ _ c.changing.ensures c.in_ok-changes.ensures
    (add_group-planned _ c.args.app.now c.in_ok-copy.field-0 c.args.kind c.args.addresses.now c.in_ok-copy_addresses.field-0 c.in-Some.id (last c.get.result) c.requires.rules (search rules) (search rules) (search rules) c.in_ok-copy.ensures c.in_ok-copy_addresses.ensures
    (ap last c.get.ensures.value ∙ ap (with_last_group c.in-Some.id) c.last_ids-last.ensures.value))
