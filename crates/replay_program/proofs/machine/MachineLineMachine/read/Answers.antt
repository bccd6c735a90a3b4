use Rattle.replay_program.proofs.ScriptLemmas.{told_exactly}
use Rattle.replay_program.proofs.machine.MachineLineMachine.read.Goals as goal

pub returns-in-Ok-clause-line : goal.returns-in-Ok-clause-line
returns-in-Ok-clause-line c = λ settings. record { says = c.in-Ok.ensures.line; ends = c.law_lines_end.ensures c.in-Ok.event c.args.line.now c.in-Ok.ensures.line }

pub returns-in-Err-Bad-clause-bad : goal.returns-in-Err-Bad-clause-bad
returns-in-Err-Bad-clause-bad c = λ settings.
    let fault = rw c.in-Err-Bad.field-0-is at c.in-Err-Bad.ensures.fault in
    record { none = fault.1; stops = told_exactly c.args.line.now c.in-Err-Bad.fault.column c.requires fault.0 }
