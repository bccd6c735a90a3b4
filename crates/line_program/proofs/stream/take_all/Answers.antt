use Rattle.line_program.proofs.Stopping.{plays_all, plays_to, plays_to_tail}
use Rattle.line_program.proofs.stream.take_all.Goals as goal

pub returns-in-Err-clause-err : goal.returns-in-Err-clause-err
returns-in-Err-clause-err g c =
    let read = rw c.new-pending.ensures.items at c.in-Err.ensures.err in
    plays_to g.M.LineMachine.play _ _ _ _ _ _ read.0 _ read.1 read.2

pub returns-in-Ok-take_tail-clause-ok : goal.returns-in-Ok-take_tail-clause-ok
returns-in-Ok-take_tail-clause-ok g c =
    let read = rw c.new-pending.ensures.items at c.in-Ok.ensures.ok in
    let tail = rw c.as_slice.ensures.value at c.in-Ok-take_tail.ensures.ok in
    plays_all g.M.LineMachine.play _ _ _ _ _ _ _ _ read.0 read.1 read.2 read.3 tail

pub returns-clause-err : goal.returns-clause-err
returns-clause-err g c =
    let read = rw c.new-pending.ensures.items at c.in-Ok.ensures.ok in
    let refused = rw c.as_slice.ensures.value at c.in-Err-take_tail.ensures.err in
    let some = rw c.as_slice.ensures.value at c.in-Err-take_tail.ensures.some in
    plays_to_tail g.M.LineMachine.play _ _ _ _ _ _ _ _ read.0 _ read.1 read.2 read.3 c.in-Ok.ensures.one some refused
