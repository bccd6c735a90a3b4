use Rattle.std.proofs.Common.{◌≡◌, sym, ap, ◌∙◌, subst}
use Rattle.job_records.specs.Tables.{Tables}
use Rattle.job_records.specs.Changes.{AreAllowed, applied_all}
use Rattle.cluster_history.specs.History.{accepted}
use Rattle.cluster_plan.specs.Kept.{Kept}
use Rattle.cluster_plan.specs.Stands.{Stands}
use Rattle.admin_machine.specs.Views.{Holds}
use Rattle.admin_machine.proofs.Rows.{held-such, saved-holds}
use Rattle.admin_machine.proofs.machine.AdminMachine.act.Goals as goal

pub save_changes-requires : goal.save_changes-requires
save_changes-requires g c =
    held-such (g.K.Keeper.seen c.self.inside.keeper).tables c.prepare.new.self.records.kept (λ t. AreAllowed t c.changes.result.now)
    (subst (Holds (g.K.Keeper.seen c.self.inside.keeper).tables) (sym (ap (λ (k : Kept). k.tables) c.prepare.ensures.same)) c.self.invariant)
    (subst (AreAllowed c.prepare.new.self.records.kept) (sym c.changes.ensures) c.in-Ok.ensures.prepared.can.allowed)
