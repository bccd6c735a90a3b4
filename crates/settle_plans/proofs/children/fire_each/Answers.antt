use Rattle.std.proofs.Common.{◌+◌, ◌<◌, length, arith, [], ◌∷◌}
use Rattle.log_opening.specs.Series.{shots_all}
use Rattle.log_opening.proofs.SeriesLemmas.{fires-more, shots-front}
use Rattle.settle_plans.specs.Children.{children_at}
use Rattle.settle_plans.proofs.children.fire_each.Goals as goal

pub returns-then-not-fits : goal.returns-then-not-fits
returns-then-not-fits c =
    let front = shots-front (children_at c.args.at) c.args.records.now.kept c.args.children.now c.loop-child.child-index c.child-item.result (omega arith) c.child-item.is in
    let over : 9223372036854775807 < c.loop-child.so_far.openings.last + length (shots_all (children_at c.args.at) c.args.records.now.kept (c.child-item.result ∷ [])) = rw c.if-not-fits.true at c.in_ok-fits.ensures in
    omega (arith, c.loop-child.invariant.opens.ids)

pub loop-child-preserved : goal.loop-child-preserved
loop-child-preserved c =
    fires-more (children_at c.args.at) c.args.records.now.kept c.args.children.now c.loop-child.child-index c.child-item.result c.args.so_far.now.openings c.loop-child.so_far.openings c.fire_child.new.so_far.openings
    c.args.so_far.now.fired.items c.loop-child.so_far.fired.items c.fire_child.new.so_far.fired.items (omega arith) c.child-item.is c.loop-child.invariant (rw c.if-not-fits.false at c.in_ok-fits.ensures)
