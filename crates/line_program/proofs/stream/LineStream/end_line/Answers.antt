use Rattle.std.proofs.Common.{◌≡◌, ◌++◌, [], length, arith, ap, sym, ◌∙◌}
use Rattle.line_program.proofs.CutLemmas.{length_content}
use Rattle.line_program.proofs.ProgressLemmas.{has_line, has_flushed, ends_refused, front_of_has, front_failed}
use Rattle.line_program.proofs.stream.LineStream.end_line.Goals as goal

pub take_line-requires-clause-bytes : goal.take_line-requires-clause-bytes
take_line-requires-clause-bytes g c =
    let line : c.as_slice.result.now ≡ c.args.pending.now.items ++ c.args.end.now = c.as_slice.ensures.value ∙ c.in-Ok.ensures.items in
    let counted = length_content c.args.pending.now.items c.args.end.now c.requires.one c.requires.end in
    let size : c.len-bytes.result ≡ length (c.args.pending.now.items ++ c.args.end.now) = c.len-bytes.ensures ∙ sym c.as_slice.ensures.len ∙ ap length line in
    rw line (omega (arith, counted, size))

pub returns-in-Err-clause-err : goal.returns-in-Err-clause-err
returns-in-Err-clause-err g c = λ base given has. front_of_has g.M.LineMachine.play base _ c.args.self.now given _ c.args.end.now has

pub returns-in-Err-take_line-clause-err : goal.returns-in-Err-take_line-clause-err
returns-in-Err-take_line-clause-err g c = λ base given has.
    let line : c.as_slice.result.now ≡ c.args.pending.now.items ++ c.args.end.now = c.as_slice.ensures.value ∙ c.in-Ok.ensures.items in
    ends_refused g.M.LineMachine.play base _ c.args.self.now _ given _ _ _ has c.requires.one c.requires.end (rw line at c.in-Err-take_line.ensures.err)

pub returns-in-Ok-flush_full-clause-ok : goal.returns-in-Ok-flush_full-clause-ok
returns-in-Ok-flush_full-clause-ok g c = λ base given has.
    let line : c.as_slice.result.now ≡ c.args.pending.now.items ++ c.args.end.now = c.as_slice.ensures.value ∙ c.in-Ok.ensures.items in
    has_flushed g.M.LineMachine.play base _ _ c.take_line.new.self _ (given ++ c.args.end.now) [] (c.in-Ok-flush_full.ensures.ok base)
    (has_line g.M.LineMachine.play base _ c.args.self.now c.take_line.new.self given _ _ ((rw line at c.in-Ok-take_line.ensures.ok) base _) has)

pub returns-in-Err-flush_full-clause-err : goal.returns-in-Err-flush_full-clause-err
returns-in-Err-flush_full-clause-err g c = λ base given has.
    let line : c.as_slice.result.now ≡ c.args.pending.now.items ++ c.args.end.now = c.as_slice.ensures.value ∙ c.in-Ok.ensures.items in
    front_failed g.M.LineMachine.play base _ _ c.take_line.new.self (given ++ c.args.end.now) (c.in-Err-flush_full.ensures.err base)
    (has_line g.M.LineMachine.play base _ c.args.self.now c.take_line.new.self given _ _ ((rw line at c.in-Ok-take_line.ensures.ok) base _) has)
