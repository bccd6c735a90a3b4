use Rattle.line_program.proofs.ProgressLemmas.{front_flushed}
use Rattle.line_program.proofs.stream.LineStream.flush.Goals as goal

pub returns-in-Err-clause-err : goal.returns-in-Err-clause-err
returns-in-Err-clause-err g c = λ base whole rest at.
    front_flushed g.M.LineMachine.play base _ _ c.args.self.now whole rest c.in-Err.ensures.err.0 (rw c.as_slice.ensures.value at c.in-Err.ensures.err.1) at
