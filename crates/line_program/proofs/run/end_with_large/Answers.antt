use Rattle.std.proofs.Common.{◌+◌, ◌++◌, length, ap, ◌∙◌}
use Rattle.line_program.specs.Outcome.{large_line}
use Rattle.line_program.proofs.Closing.{closed, short, front_whole, line_number}
use Rattle.line_program.proofs.run.end_with_large.Goals as goal

pub returns-in-Err-clause-err : goal.returns-in-Err-clause-err
returns-in-Err-clause-err g c = λ start whole at. front_whole g.M.LineMachine.play start _ c.args.stream.now whole at

pub returns-in-Ok-write_whole-clause-ok : goal.returns-in-Ok-write_whole-clause-ok
returns-in-Ok-write_whole-clause-ok g c = λ start whole at.
    let wrote = rw c.as_slice.ensures.value at c.in-Ok-write_whole.ensures.ok in
    let number = line_number g.M.LineMachine.play start _ c.args.stream.now whole at c.saturating_add-line.result c.saturating_add-line.ensures in
    closed g.M.LineMachine.play start _ _ c.args.stream.now whole c.push_large.new.out.items (λ _ events. large_line (length events + 1)) at (c.in-Ok.ensures ∙ ap (λ n. c.args.stream.now.out.items ++ large_line n) number) wrote

pub returns-in-Err-write_whole-clause-err : goal.returns-in-Err-write_whole-clause-err
returns-in-Err-write_whole-clause-err g c =
    let wrote = rw c.as_slice.ensures.value at c.in-Err-write_whole.ensures.err in (
      c.in-Err-write_whole.ensures.cause.failed,
      λ start whole at.
          let number = line_number g.M.LineMachine.play start _ c.args.stream.now whole at c.saturating_add-line.result c.saturating_add-line.ensures in
          short g.M.LineMachine.play start _ _ c.args.stream.now whole c.push_large.new.out.items wrote.0 (λ _ events. large_line (length events + 1)) at (c.in-Ok.ensures ∙ ap (λ n. c.args.stream.now.out.items ++ large_line n) number) wrote.1,
    )
