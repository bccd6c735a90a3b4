use Rattle.executor_calls.proofs.run.handle.Goals as goal

pub returns : goal.returns
returns g c =
    let s = c.store.ensures in
    (s.0, s.1, (s.2.0, s.2.1, (c.run-given.new.out, c.run-given.result, c.run-given.ensures, rw (← c.lines.ensures) s.2.2)))
