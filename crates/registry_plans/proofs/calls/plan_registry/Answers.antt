use Rattle.std.proofs.Common.{sym, ◌∙◌}
use Rattle.cluster_plan.specs.Kept.{kept_in}
use Rattle.registry_plans.proofs.RegistryLemmas.{beat-planned}
use Rattle.registry_plans.proofs.calls.plan_registry.Goals as goal

pub returns-in-Ok : goal.returns-in-Ok
returns-in-Ok c =
    rw c.changing.ensures
    (beat-planned (kept_in c.args.seen.now) c.args.at c.args.group.now c.args.key.now c.args.value.now c.in-Ok.changes (sym c.is_named.ensures ∙ c.if-not-is_named.false) c.in-Ok.ensures.beats)
