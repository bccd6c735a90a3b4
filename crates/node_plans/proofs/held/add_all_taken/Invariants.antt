use Rattle.std.proofs.Common.{◌≡◌, ◌++◌, take, map}
use Rattle.node_plans.proofs.held.add_all_taken.Given as goal

abbrev pub invariant-loop-one : goal.invariant-loop-one
invariant-loop-one l = l.ids.items ≡ l.initial.ids.items ++ map (λ t. t.log) (take l.one-index l.one-items)
