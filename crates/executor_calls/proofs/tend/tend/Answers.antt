use Rattle.std.proofs.Common.{[], List, refl}
use Rattle.std.proofs.lemmas.Result.{err_from_is_err_and}
use Rattle.job_events.specs.declared.executor.ExecutorEvent.TheVariants as event
use Rattle.job_events.specs.declared.executor.ExecutorReply.TheVariants as reply
use Rattle.executor_node.specs.Standing.{Entry}
use Rattle.executor_calls.specs.Tending.{TrimGave, TendGave}
use Rattle.executor_calls.proofs.Gaining.{gained_then}
use Rattle.executor_calls.proofs.tend.tend.Goals as goal

pub returns-in_err-reloaded : goal.returns-in_err-reloaded
returns-in_err-reloaded g c =
    let p = err_from_is_err_and c.from_residual.result c.from_residual.ensures.1 in
    rw p.1 ([], c.in_err-reloaded.ensures.refused, refl)

pub returns : goal.returns
returns g c =
    gained_then c.args.seat.now c.reload.new.seat c.trim.new.seat (event.Reload, reply.Reloaded c.in_ok-reloaded.reloaded) (λ (es : List Entry). TendGave c.args.at es c.trim.result) (λ (es : List Entry). TrimGave c.trim_moment.result c.in_ok-reloaded.reloaded es c.trim.result) c.in_ok-reloaded.ensures.done c.trim.ensures
    (λ es p. (refl, (c.in_ok-reloaded.reloaded, refl, rw (← c.trim_moment.ensures) p)))
