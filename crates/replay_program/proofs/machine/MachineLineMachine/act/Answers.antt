use Rattle.replay_program.proofs.ScriptLemmas.{answered}
use Rattle.replay_program.proofs.machine.MachineLineMachine.act.Goals as goal

pub returns : goal.returns
returns c = λ settings events stands.
    answered settings c.args.self.now _ events c.args.event.now c.in_ok-reply.reply c.args.out.now.items c.push_text.new.out.items
    c.in_ok-reply.ensures.answers (rw c.in_ok-text.ensures at c.in_ok-push_text.ensures) stands
