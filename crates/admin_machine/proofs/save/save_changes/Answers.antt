use Rattle.std.proofs.Common.{◌≡◌, [], rules}
use Rattle.admin_machine.proofs.Rows.{none-saved}
use Rattle.admin_machine.proofs.save.save_changes.Goals as goal

pub returns-then-is_empty-clause-saved : goal.returns-then-is_empty-clause-saved
returns-then-is_empty-clause-saved g c =
    let none : c.args.changes.now ≡ [] = search rules in
    none-saved c.args.changes.now (g.K.Keeper.seen c.args.keeper.now).tables none
