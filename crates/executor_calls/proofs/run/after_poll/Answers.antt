use Rattle.executor_calls.proofs.Running.{idle_gave}
use Rattle.executor_calls.proofs.run.after_poll.Goals as goal

pub returns-in-Nothing : goal.returns-in-Nothing
returns-in-Nothing g c =
    idle_gave (g.C.Clock.readings c.args.clock.now) c.args.seat.now (λ name input lines given. g.H.Handlers.gives c.args.handlers.now name input lines given) c.args.runner c.args.polled c.in-Nothing.is
