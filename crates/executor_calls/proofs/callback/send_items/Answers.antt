use Rattle.std.proofs.lemmas.Result.{err_from_is_err_and}
use Rattle.executor_calls.proofs.Gaining.{send_err}
use Rattle.executor_calls.proofs.callback.send_items.Goals as goal

pub returns-in_err-ask_admins : goal.returns-in_err-ask_admins
returns-in_err-ask_admins g c =
    let p = err_from_is_err_and c.from_residual.result c.from_residual.ensures.1 in
    rw p.1 (send_err c.args.seat.now c.args.settings.now c.args.items.now _ _ (g.S.Spool.seen c.args.spool.now) c.in_err-ask_admins.field-0.0 p.0 c.in_err-ask_admins.ensures)
