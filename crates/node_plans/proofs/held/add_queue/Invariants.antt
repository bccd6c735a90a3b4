use Rattle.std.proofs.Common.{◌≡◌, ◌++◌, take}
use Rattle.node_plans.proofs.held.add_queue.Given as goal

abbrev pub invariant-loop-at : goal.invariant-loop-at
invariant-loop-at l = l.ids.items ≡ l.initial.ids.items ++ take l.at l.queue.items
