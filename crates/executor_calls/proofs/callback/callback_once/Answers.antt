use Rattle.std.proofs.Common.{Ok, Some}
use Rattle.std.proofs.lemmas.Result.{err_from_is_err_and}
use Rattle.executor_calls.proofs.Gaining.{call_err, call_none, call_both}
use Rattle.executor_calls.proofs.callback.callback_once.Goals as goal

pub returns-in_err-items : goal.returns-in_err-items
returns-in_err-items g c =
    let p = err_from_is_err_and c.from_residual.result c.from_residual.ensures.1 in
    rw p.1 (call_err c.args.seat.now c.take_items.new.seat c.args.settings.now c.in_err-items.field-0.0 p.0 (g.D.Dialer.dials c.args.dialer.now) (g.S.Spool.seen c.args.spool.now) c.in_err-items.ensures)

pub returns-in-Some : goal.returns-in-Some
returns-in-Some g c =
    let first = rw c.in-Some.is at c.in_ok-items.ensures in
    call_both c.args.seat.now c.take_items.new.seat c.send_items.new.seat c.args.settings.now (Ok (Some c.in-Some.items)) (g.D.Dialer.dials c.args.dialer.now) (g.D.Dialer.dials c.send_items.new.dialer)
    (g.S.Spool.seen c.args.spool.now) (g.S.Spool.seen c.send_items.new.spool) c.send_items.result first c.send_items.ensures

pub returns-in-None : goal.returns-in-None
returns-in-None g c =
    let first = rw c.in-None.is at c.in_ok-items.ensures in
    call_none c.args.seat.now c.take_items.new.seat c.args.settings.now (g.D.Dialer.dials c.args.dialer.now) (g.S.Spool.seen c.args.spool.now) first
