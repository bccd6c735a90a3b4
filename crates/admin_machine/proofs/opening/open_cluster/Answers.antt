use Rattle.std.proofs.Common.{sym, subst}
use Rattle.admin_machine.specs.Views.{Holds}
use Rattle.admin_machine.proofs.Openings.{opened-holds, goes-on}
use Rattle.admin_machine.proofs.opening.open_cluster.Goals as goal

pub returns-in-Ok-save_changes-clause-goes_on : goal.returns-in-Ok-save_changes-clause-goes_on
returns-in-Ok-save_changes-clause-goes_on g c =
    let rows = c.in_ok-records.records.kept in
    let was = c.in_ok-records.ensures.told in
    goes-on (g.K.Keeper.seen c.args.keeper.now).tables (g.K.Keeper.seen c.save_changes.new.keeper).tables c.args.settings rows c.in-Ok.cluster c.in-Ok.ensures.goes_on was
    (opened-holds (g.K.Keeper.seen c.load_records.new.keeper).tables (g.K.Keeper.seen c.save_changes.new.keeper).tables rows c.in-Ok.changes c.in-Ok.cluster (subst (λ h. Holds h rows) (sym c.load_records.ensures.tables) was) c.in-Ok-save_changes.ensures.saved c.in-Ok.ensures.rows)
