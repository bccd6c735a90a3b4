use Rattle.std.proofs.Common.{refl, inr}
use Rattle.replay_program.specs.Script.{script}
use Rattle.line_program.proofs.Running.{front_nothing}
use Rattle.replay_program.proofs.replay.run.Goals as goal

pub returns-in-Ok-clause-ends : goal.returns-in-Ok-clause-ends
returns-in-Ok-clause-ends g c = c.run_lines.ensures.ends c.args.settings c.in-Ok.ensures

pub returns-in-Ok-clause-taken : goal.returns-in-Ok-clause-taken
returns-in-Ok-clause-taken g c = λ events input is taken. c.run_lines.ensures.taken c.args.settings events input c.in-Ok.ensures is taken

pub returns-in-Ok-clause-bad : goal.returns-in-Ok-clause-bad
returns-in-Ok-clause-bad g c = λ events input column is at. c.run_lines.ensures.bad c.args.settings events input column c.in-Ok.ensures is at

pub returns-in-Ok-clause-large : goal.returns-in-Ok-clause-large
returns-in-Ok-clause-large g c = λ events input is at. c.run_lines.ensures.large c.args.settings events input c.in-Ok.ensures is at

pub returns-in-Err-clause-ends : goal.returns-in-Err-clause-ends
returns-in-Err-clause-ends g c = λ input is. front_nothing (script c.args.settings) _ input

pub returns-in-Err-clause-taken : goal.returns-in-Err-clause-taken
returns-in-Err-clause-taken g c = λ events input is taken. inr (inr (inr refl))

pub returns-in-Err-clause-bad : goal.returns-in-Err-clause-bad
returns-in-Err-clause-bad g c = λ events input column is at. inr (inr (inr refl))

pub returns-in-Err-clause-large : goal.returns-in-Err-clause-large
returns-in-Err-clause-large g c = λ events input is at. inr (inr (inr refl))
