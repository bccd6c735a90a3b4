use Rattle.line_program.proofs.Closing.{closed, short, front_whole}
use Rattle.line_program.proofs.run.end_with_report.Goals as goal

pub returns-in-Err-clause-err : goal.returns-in-Err-clause-err
returns-in-Err-clause-err g c = λ start whole at. front_whole g.M.LineMachine.play start _ c.args.stream.now whole at

pub returns-in-Ok-write_whole-clause-ok : goal.returns-in-Ok-write_whole-clause-ok
returns-in-Ok-write_whole-clause-ok g c = λ start whole at.
    let wrote = rw c.as_slice.ensures.value at c.in-Ok-write_whole.ensures.ok in
    closed g.M.LineMachine.play start _ _ c.args.stream.now whole c.report.new.out.items (λ settings events. (g.M.LineMachine.play.meaning settings).report events) at (c.in-Ok.ensures start.settings at.stands.events at.stands.stands at.stands.count) wrote

pub returns-in-Err-write_whole-clause-err : goal.returns-in-Err-write_whole-clause-err
returns-in-Err-write_whole-clause-err g c =
    let wrote = rw c.as_slice.ensures.value at c.in-Err-write_whole.ensures.err in (
      c.in-Err-write_whole.ensures.cause.failed,
      λ start whole at.
          short g.M.LineMachine.play start _ _ c.args.stream.now whole c.report.new.out.items wrote.0 (λ settings events. (g.M.LineMachine.play.meaning settings).report events) at (c.in-Ok.ensures start.settings at.stands.events at.stands.stands at.stands.count) wrote.1,
    )
