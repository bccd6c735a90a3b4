use Rattle.std.proofs.Common.{◌≡◌, ◌++◌, take}
use Rattle.executor_core.proofs.add.copy_first.Given as goal

abbrev pub invariant-loop-place : goal.invariant-loop-place
invariant-loop-place l = l.to ≡ l.fn.to ++ take l.place l.from.items
