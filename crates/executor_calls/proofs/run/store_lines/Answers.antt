use Rattle.std.proofs.Common.{◌∙◌}
use Rattle.std.proofs.lemmas.Result.{err_from_is_err_and}
use Rattle.executor_calls.proofs.Running.{stored_none, stored_more, stored_all, stored_wanted}
use Rattle.executor_calls.proofs.run.store_lines.Goals as goal

pub loop-line-init : goal.loop-line-init
loop-line-init g c = stored_none c.args.seat.now c.args.runner c.args.lines.now

pub store_line-requires : goal.store_line-requires
store_line-requires g c = c.loop-line.invariant.shared ∙ c.requires

pub loop-line-preserved : goal.loop-line-preserved
loop-line-preserved g c =
    stored_more c.args.seat.now c.loop-line.seat c.store_line.new.seat c.args.runner c.args.lines.now c.loop-line.line-index c.line-item.result _ c.loop-line-test.true c.line-item.is c.loop-line.invariant c.in_ok-store_line.ensures

pub returns-in_err-store_line : goal.returns-in_err-store_line
returns-in_err-store_line g c =
    let p = err_from_is_err_and c.from_residual.result c.from_residual.ensures.1 in
    rw p.1 (stored_wanted c.args.seat.now c.loop-line.seat c.store_line.new.seat c.args.runner c.args.lines.now c.loop-line.line-index c.line-item.result _ p.0 c.loop-line.invariant c.in_err-store_line.ensures)

pub returns : goal.returns
returns g c = stored_all c.args.seat.now c.loop-line.seat c.args.runner c.args.lines.now c.loop-line.line-index _ c.loop-line-test.false c.loop-line.invariant
