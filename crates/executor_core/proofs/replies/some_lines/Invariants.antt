use Rattle.std.proofs.Common.{◌≡◌, take, drop}
use Rattle.executor_core.proofs.replies.some_lines.Given as goal

abbrev pub invariant-loop-count : goal.invariant-loop-count
invariant-loop-count l = l.some ≡ take l.count (drop l.at l.lines)
