use Rattle.std.proofs.Common.{List, ℕ, sym, ap, ◌∙◌}
use Rattle.job_records.specs.declared.group.Group.{Group}
use Rattle.job_plans.proofs.GroupLemmas.{set_group-planned}
use Rattle.cluster_plan.proofs.RowPlans.{planned-made}
use Rattle.job_plans.proofs.groups.plan_set_group.Goals as goal

pub returns : goal.returns
returns c =
    let put : List ℕ → List (List ℕ) → Group = λ app addresses. record { id = c.in-Some.row.now.id; app = app; kind = c.args.kind; addresses = addresses } in
    planned-made _ _ _ _ _ _ c.changing.ensures c.in_ok-changes.ensures
    (set_group-planned _ c.args.group c.args.kind c.args.addresses.now c.in-Some.row.now (put c.in_ok-app.app c.in_ok-addresses.addresses) c.requires.rules (sym c.in-Some.ensures)
    (ap (λ app. put app c.in_ok-addresses.addresses) c.in_ok-app.ensures ∙ ap (put c.in-Some.row.now.app) c.in_ok-addresses.ensures))
