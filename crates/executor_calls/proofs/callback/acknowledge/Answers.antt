use Rattle.std.proofs.lemmas.Result.{err_from_is_err_and}
use Rattle.executor_calls.proofs.Gaining.{ack_ok, ack_err}
use Rattle.executor_calls.proofs.callback.acknowledge.Goals as goal

pub returns-in_err-text : goal.returns-in_err-text
returns-in_err-text g c =
    let p = err_from_is_err_and c.from_residual-in_err-text.result c.from_residual-in_err-text.ensures.1 in
    rw p.1 (ack_err c.args.seat.now c.act.new.seat c.kept_text.new.seat c.args.items c.in_ok-act.field-0 c.in_err-text.field-0.0 p.0 (g.S.Spool.seen c.args.spool.now) c.in_ok-act.ensures.done.0 c.in_err-text.ensures)

pub returns : goal.returns
returns g c =
    ack_ok c.args.seat.now c.act.new.seat c.kept_text.new.seat c.args.items c.in_ok-act.field-0 c.in_ok-text.text c.as_slice.result.now (g.S.Spool.seen c.args.spool.now) (g.S.Spool.seen c.save-saved.new.self)
    c.in_ok-act.ensures.done.0 c.in_ok-text.ensures c.as_slice.ensures c.save-saved.ensures.saves
