use Rattle.admin_machine.proofs.Steps.{stands-step, stands-same}
use Rattle.admin_machine.proofs.machine.AdminMachineMachine.step.Goals as goal

pub returns-clause-done : goal.returns-clause-done
returns-clause-done g c = λ o log stands.
    stands-step (g.K.Keeper.seen c.args.self.now.keeper).tables (g.K.Keeper.seen c.act.new.self.keeper).tables o log c.args.self.now.cluster c.act.new.self.cluster c.args.event.now c.act.result
    c.read_admin.ensures c.act.ensures.answers c.act.ensures.rows stands

pub returns-clause-refused : goal.returns-clause-refused
returns-clause-refused g c = λ o log stands.
    stands-same (g.K.Keeper.seen c.args.self.now.keeper).tables (g.K.Keeper.seen c.act.new.self.keeper).tables o log c.args.self.now.cluster c.act.new.self.cluster c.args.event.now
    (g.K.Keeper.seen c.args.self.now.keeper).faults (g.K.Keeper.seen c.act.new.self.keeper).faults c.act.result
    c.act.ensures.left c.act.ensures.rows c.act.ensures.counted stands
