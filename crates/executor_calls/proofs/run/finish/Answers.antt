use Rattle.std.proofs.Common.{[], ◌∷◌, ap, refl}
use Rattle.std.specs.Prelude.{Ok}
use Rattle.std.proofs.lemmas.Result.{err_from_is_err_and}
use Rattle.job_events.specs.declared.executor.ExecutorEvent.TheVariants as event
use Rattle.executor_calls.specs.declared.run.RunDone.{RunDone}
use Rattle.executor_calls.proofs.run.finish.Goals as goal

pub returns-in_err-act : goal.returns-in_err-act
returns-in_err-act g c =
    let p = err_from_is_err_and c.from_residual.result c.from_residual.ensures.1 in
    rw p.1 (c.now-at.result ∷ [], c.now-at.ensures, ([], c.in_err-act.ensures.refused, refl))

pub returns : goal.returns
returns g c = (
  c.now-at.result ∷ [],
  c.now-at.ensures,
  ((event.Finish c.args.runner c.now-at.result c.args.code c.args.text, c.in_ok-act.field-0) ∷ [], c.in_ok-act.ensures.done.0, (refl, ap (λ (d : RunDone). Ok d) c.ran.ensures)),
)
