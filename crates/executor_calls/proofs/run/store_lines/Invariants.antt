use Rattle.executor_calls.proofs.Running.{Stored}
use Rattle.executor_calls.proofs.run.store_lines.Given as goal

-- the lines before this one are stored
abbrev pub invariant-loop-line : goal.invariant-loop-line
invariant-loop-line g l = Stored l.initial.seat l.seat l.runner l.lines l.line-index
