use Rattle.std.proofs.Common.{◌≡◌, drop}
use Rattle.executor_history.specs.Past.{released}
use Rattle.executor_core.proofs.add.release_all.Given as goal

abbrev pub invariant-loop-place : goal.invariant-loop-place
invariant-loop-place l = released (drop l.place l.items.items) l.held.ids ≡ released l.items.items l.fn.held.ids
