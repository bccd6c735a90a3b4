use Rattle.std.proofs.lemmas.Result.{err_from_is_err_and}
use Rattle.executor_calls.proofs.Running.{store_ok, store_err}
use Rattle.executor_calls.proofs.run.store.Goals as goal

pub returns-in_err-store_lines : goal.returns-in_err-store_lines
returns-in_err-store_lines g c =
    let p = err_from_is_err_and c.from_residual.result c.from_residual.ensures.1 in
    rw p.1 (store_err c.args.seat.now c.store_lines.new.seat (g.C.Clock.readings c.args.clock.now) c.args.runner c.args.log c.args.lines.now c.args.given.now _ p.0 c.in_err-store_lines.ensures)

pub returns : goal.returns
returns g c =
    store_ok c.args.seat.now c.store_lines.new.seat c.finish_with.new.seat (g.C.Clock.readings c.args.clock.now) (g.C.Clock.readings c.finish_with.new.clock) c.args.runner c.args.log c.args.lines.now c.args.given.now _ c.finish_with.result c.in_ok-store_lines.ensures c.finish_with.ensures
