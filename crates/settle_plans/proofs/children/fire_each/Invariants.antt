use Rattle.std.proofs.Common.{take}
use Rattle.log_opening.specs.Series.{FiresBehind}
use Rattle.settle_plans.specs.Children.{children_at}
use Rattle.settle_plans.proofs.children.fire_each.Given as goal

abbrev pub invariant-loop-child : goal.invariant-loop-child
invariant-loop-child l =
    FiresBehind (children_at l.at) l.records.kept (take l.child-index l.children) l.initial.so_far.openings l.so_far.openings l.initial.so_far.fired.items l.so_far.fired.items
