use Rattle.std.proofs.Common.{◌≡◌}
use Rattle.cluster_plan.specs.Kept.{kept_in}
use Rattle.registry_plans.proofs.RegistryLemmas.{sweep-planned}
use Rattle.registry_plans.proofs.sweeps.plan_sweep.Goals as goal

pub returns : goal.returns
returns c =
    let changes : c.of.result ≡ c.in_ok-changes.field-0.changes.items = (cc) in
    rw (c.changing.ensures, changes)
    (sweep-planned (kept_in c.args.seen.now) c.args.at c.in_ok-changes.field-0 c.in_ok-changes.ensures)
