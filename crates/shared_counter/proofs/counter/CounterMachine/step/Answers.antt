use Rattle.std.proofs.Common.{refl, arith, ◌+◌, ◌≤◌}
use Rattle.shared_counter.proofs.Counts.{stands_push}
use Rattle.shared_counter.proofs.counter.CounterMachine.step.Goals as goal

pub returns-clause-done : goal.returns-clause-done
returns-clause-done c o log s =
    let now = c.args.self.now in
    let value = now.value + c.args.event.now.by in
    let within : value ≤ now.limit = (let p = c.if-self.false in let q = c.if-event-self.false in omega arith) in
    stands_push o log now (record { value = value; limit = now.limit }) (c.args.event.now, value) s refl refl refl within
