use Rattle.std.proofs.Common.{[], ◌∷◌, ap, refl}
use Rattle.std.proofs.lemmas.Result.{err_from_is_err_and}
use Rattle.job_events.specs.declared.executor.ExecutorEvent.TheVariants as event
use Rattle.turn_lock.proofs.Gains.{gains_none}
use Rattle.executor_node.specs.Standing.{IsLegalList}
use Rattle.executor_calls.proofs.run.store_line.Goals as goal

pub returns-in_err-stored : goal.returns-in_err-stored
returns-in_err-stored g c =
    let p = err_from_is_err_and c.from_residual.result c.from_residual.ensures.1 in
    rw p.1 ([], gains_none IsLegalList c.args.seat.now, refl)

pub returns-in_err-act : goal.returns-in_err-act
returns-in_err-act g c =
    let p = err_from_is_err_and c.from_residual-in_err-act.result c.from_residual-in_err-act.ensures.1 in
    rw p.1 ([], c.in_err-act.ensures.refused, refl)

pub returns : goal.returns
returns g c =
    ((event.LogLine c.args.runner c.in_ok-stored.stored, c.in_ok-act.field-0) ∷ [], c.in_ok-act.ensures.done.0, (ap (event.LogLine c.args.runner) c.in_ok-stored.ensures, tt))
