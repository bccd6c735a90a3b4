use Rattle.std.proofs.Common.{subst, sym}
use Rattle.executor_history.specs.Past.{Parts}
use Rattle.executor_core.specs.Parts.{Follows}
use Rattle.executor_core.proofs.Answered.{answered, follows}
use Rattle.executor_core.proofs.executor.Executor.prepare.Goals as goal

pub returns-clause-ready : goal.returns-clause-ready
returns-clause-ready c =
    let P : Parts → Type 0 = λ p. Follows p c.in_ok-change.change in
    rw c.new.ensures (record {
      follows = subst P (sym c.in_ok-make_room.ensures.parts) (follows c.args.self.now.parts c.args.event.now c.in_ok-change.change c.in_ok-change.ensures);
      room = c.in_ok-make_room.ensures.room;
    })

pub returns-clause-right : goal.returns-clause-right
returns-clause-right c = rw c.new.ensures (answered c.args.self.now.parts c.args.event.now c.in_ok-reply.reply c.in_ok-change.change c.in_ok-reply.ensures c.in_ok-change.ensures)
