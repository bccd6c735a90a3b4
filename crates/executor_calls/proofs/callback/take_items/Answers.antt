use Rattle.std.proofs.Common.{[], ◌∷◌, Ok, List, ap, sym, refl, ◌∙◌}
use Rattle.std.proofs.lemmas.Result.{err_from_is_err_and}
use Rattle.job_events.specs.declared.executor.ExecutorEvent.TheVariants as event
use Rattle.executor_node.specs.Standing.{Entry}
use Rattle.executor_calls.specs.Callbacks.{AgainGave}
use Rattle.executor_calls.proofs.Gaining.{gained_then}
use Rattle.executor_calls.proofs.callback.take_items.Goals as goal

pub returns-in_err-reply : goal.returns-in_err-reply
returns-in_err-reply g c =
    let p = err_from_is_err_and c.from_residual.result c.from_residual.ensures.1 in
    rw p.1 ([], c.in_err-reply.ensures.refused, refl)

pub returns-then-is_out : goal.returns-then-is_out
returns-then-is_out g c =
    let e = sym c.is_out.ensures ∙ c.if-is_out.true in
    gained_then c.args.seat.now c.act.new.seat c.take_again.new.seat (event.BatchTake, c.in_ok-reply.reply) _ (λ (es : List Entry). AgainGave es c.take_again.result) c.in_ok-reply.ensures.done.0 c.take_again.ensures (λ es p. (refl, rw e p))

pub returns : goal.returns
returns g c =
    let e = sym c.is_out.ensures ∙ c.if-is_out.false in
    ((event.BatchTake, c.in_ok-reply.reply) ∷ [], c.in_ok-reply.ensures.done.0, (refl, rw e (refl, ap Ok c.items_in.ensures)))
