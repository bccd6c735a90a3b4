use Rattle.std.proofs.Common.{◌∙◌}
use Rattle.std.proofs.lemmas.Result.{err_from_is_err_and}
use Rattle.executor_calls.proofs.Gaining.{fail_ok, fail_err, ok_not_err}
use Rattle.executor_calls.proofs.callback.give_up.Goals as goal

pub returns-in_err-act : goal.returns-in_err-act
returns-in_err-act g c =
    let p = err_from_is_err_and c.from_residual-in_err-act.result c.from_residual-in_err-act.ensures.1 in
    rw p.1
    (fail_err c.args.seat.now c.kept_text.new.seat c.act.new.seat p.0 c.in_ok-text.text c.as_slice.result.now (g.S.Spool.seen c.args.spool.now) (g.S.Spool.seen c.save.new.self) c.in_ok-text.ensures c.in_err-act.ensures.refused c.as_slice.ensures c.save.ensures.saves)

pub returns : goal.returns
returns g c =
    fail_ok c.args.seat.now c.kept_text.new.seat c.act.new.seat c.in_ok-act.field-0 c.in_ok-text.text c.as_slice.result.now (g.S.Spool.seen c.args.spool.now) (g.S.Spool.seen c.save.new.self)
    _ c.is_ok-saved.result c.in_ok-text.ensures c.in_ok-act.ensures.done.0 c.as_slice.ensures c.save.ensures.failed c.save.ensures.saves (c.is_ok-saved.ensures.value ∙ ok_not_err c.save.result)
