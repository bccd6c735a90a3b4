use Rattle.std.proofs.Common.{◌-◌, drop, length-drop, ◌∙◌, arith}
use Rattle.job_values.specs.declared.limits.TheConstants.{LINES_READ}
use Rattle.executor_core.proofs.KnownRows.{short_take}
use Rattle.executor_core.proofs.replies.some_lines.Goals as goal

pub returns-then-past : goal.returns-then-past
returns-then-past c =
    c.loop-count.invariant ∙ short_take (drop (c.args.first - 1) c.args.lines.now) c.loop-count.count LINES_READ (simp length-drop (omega arith)) (omega arith)
