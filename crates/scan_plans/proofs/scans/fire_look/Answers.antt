use Rattle.std.proofs.Common.{[], cond, Bool, sym, subst}
use Rattle.cluster_history.specs.Firings.{shots_of, kind_of}
use Rattle.cluster_plan.specs.Kept.{pools_in}
use Rattle.log_opening.specs.Firing.{Fires}
use Rattle.scan_plans.proofs.scans.fire_look.Goals as goal

pub returns : goal.returns
returns c =
    subst (λ (b : Bool). Fires c.args.records.now.kept.last (pools_in c.args.pools.now.kept) (cond b (shots_of c.args.records.now.kept.groups (kind_of c.args.decision.now.case) c.args.at c.args.row.now) []) c.nothing_fired.result)
    (sym c.if-decision.false) (c.nothing_fired.ensures (pools_in c.args.pools.now.kept))
