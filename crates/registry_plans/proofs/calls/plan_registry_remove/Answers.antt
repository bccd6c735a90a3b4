use Rattle.std.proofs.Common.{sym, ◌∙◌}
use Rattle.cluster_plan.specs.Kept.{kept_in}
use Rattle.registry_plans.proofs.RegistryLemmas.{remove-planned}
use Rattle.registry_plans.proofs.calls.plan_registry_remove.Goals as goal

pub returns : goal.returns
returns c =
    rw c.changing.ensures
    (remove-planned (kept_in c.args.seen.now) c.args.group.now c.args.key.now c.args.value.now c.in_ok-changes.changes (sym c.is_named.ensures ∙ c.if-not-is_named.false) c.in_ok-changes.ensures)
