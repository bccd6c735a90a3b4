use Rattle.std.proofs.Common.{[], ◌∷◌, refl}
use Rattle.std.proofs.lemmas.Result.{err_from_is_err_and}
use Rattle.executor_calls.proofs.Running.{run_then}
use Rattle.executor_calls.proofs.run.run_once.Goals as goal

pub returns-in_err-reply : goal.returns-in_err-reply
returns-in_err-reply g c =
    let p = err_from_is_err_and c.from_residual.result c.from_residual.ensures.1 in
    rw p.1 (c.now-at.result ∷ [], c.now-at.ensures, ([], c.in_err-reply.ensures.refused, (refl, refl)))

pub returns : goal.returns
returns g c =
    run_then c.args.seat.now c.act.new.seat c.after_poll.new.seat (g.C.Clock.readings c.args.clock.now) (g.C.Clock.readings c.now-at.new.self) (g.C.Clock.readings c.after_poll.new.clock) (λ name input lines given. g.H.Handlers.gives c.args.handlers.now name input lines given) c.args.runner c.now-at.result c.in_ok-reply.reply c.polled_of.result c.after_poll.result
    c.now-at.ensures c.in_ok-reply.ensures.done.0 c.polled_of.ensures c.after_poll.ensures
