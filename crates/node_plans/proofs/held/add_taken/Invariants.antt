use Rattle.std.proofs.Common.{◌≡◌, ◌++◌, take}
use Rattle.node_plans.specs.Endings.{taken_in}
use Rattle.node_plans.proofs.held.add_taken.Given as goal

abbrev pub invariant-loop-one : goal.invariant-loop-one
invariant-loop-one l = l.ids.items ≡ l.initial.ids.items ++ taken_in (take l.one-index l.one-items) l.admin
