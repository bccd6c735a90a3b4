use Rattle.std.proofs.Common.{[], refl, ap, ◌∙◌, codes}
use Rattle.std.proofs.KnownBytes.{Appends-nil}
use Rattle.std.proofs.lemmas.Result.{err_from_is_err_and}
use Rattle.job_values.specs.declared.limits.TheConstants.{LONGEST_RESULT}
use Rattle.job_events.specs.declared.executor.FinishCode.TheVariants.{Failure}
use Rattle.turn_lock.proofs.Gains.{gains_none}
use Rattle.api_messages.specs.Reading.{cut}
use Rattle.executor_node.specs.Standing.{IsLegalList}
use Rattle.executor_calls.specs.Runs.{finish_code}
use Rattle.executor_calls.proofs.Running.{finish_as}
use Rattle.executor_calls.proofs.run.lose.Goals as goal

pub returns-in_err-text : goal.returns-in_err-text
returns-in_err-text g c =
    let p = err_from_is_err_and c.from_residual.result c.from_residual.ensures.1 in
    rw p.1 ([], Appends-nil (g.C.Clock.readings c.args.clock.now), ([], gains_none IsLegalList c.args.seat.now, refl))

pub returns : goal.returns
returns g c =
    finish_as (g.C.Clock.readings c.args.clock.now) (g.C.Clock.readings c.finish.new.clock) c.args.seat.now c.finish.new.seat c.args.runner c.args.log Failure Failure c.in_ok-text.text (codes "result lost.") c.finish.result
    refl c.in_ok-text.ensures c.finish.ensures
