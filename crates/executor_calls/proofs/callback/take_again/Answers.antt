use Rattle.std.proofs.Common.{[], ◌∷◌, false, Ok, Option, ap, refl}
use Rattle.std.proofs.lemmas.Result.{err_from_is_err_and}
use Rattle.job_events.specs.declared.executor.ExecutorEvent.TheVariants as event
use Rattle.executor_calls.specs.Callbacks.{AgainGave}
use Rattle.executor_calls.proofs.Gaining.{gained_one, gained_two}
use Rattle.executor_calls.proofs.callback.take_again.Goals as goal

pub returns-in_err-act : goal.returns-in_err-act
returns-in_err-act g c =
    let p = err_from_is_err_and c.from_residual.result c.from_residual.ensures.1 in
    rw p.1 ([], c.in_err-act.ensures.refused, refl)

pub returns-in_err-reply : goal.returns-in_err-reply
returns-in_err-reply g c =
    let p = err_from_is_err_and c.from_residual-in_err-reply.result c.from_residual-in_err-reply.ensures.1 in
    rw p.1 (gained_one c.args.seat.now c.act.new.seat c.act-2.new.seat (event.BatchFail false, c.in_ok-act.field-0) _ c.in_ok-act.ensures.done.0 c.in_err-reply.ensures.refused (refl, refl))

pub returns : goal.returns
returns g c =
    gained_two c.args.seat.now c.act.new.seat c.act-2.new.seat (event.BatchFail false, c.in_ok-act.field-0) (event.BatchTake, c.in_ok-reply.reply) _ c.in_ok-act.ensures.done.0 c.in_ok-reply.ensures.done.0 (refl, refl, ap Ok c.items_in.ensures)
