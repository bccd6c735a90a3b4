use Rattle.std.proofs.Common.{Bool, cond, Some, None, sym, ap}
use Rattle.registry_beats.specs.Registrations.{rows_left, group_swept}
use Rattle.registry_beats.proofs.ListLemmas.{manual-stays}
use Rattle.registry_beats.proofs.lists.swept_group.Goals as goal

pub returns-in-Manual : goal.returns-in-Manual
returns-in-Manual c =
    let left = rows_left c.args.at c.args.rows.now in
    sym (ap (λ (b : Bool). cond b (Some (group_swept left c.args.group.now)) None) (manual-stays left c.args.group.now c.in-Manual.is))
