use Rattle.std.proofs.Common.{◌≡◌, take}
use Rattle.node_plans.specs.Endings.{unsent_endings}
use Rattle.node_plans.proofs.endings.unsent_ends.Given as goal

abbrev pub invariant-loop-log : goal.invariant-loop-log
invariant-loop-log l = l.changes.items ≡ unsent_endings (take l.log-index l.log-items)
