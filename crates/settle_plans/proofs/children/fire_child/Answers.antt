use Rattle.log_opening.proofs.SeriesLemmas.{fires-one}
use Rattle.settle_plans.specs.Children.{children_at}
use Rattle.settle_plans.proofs.children.fire_child.Goals as goal

pub returns : goal.returns
returns c =
    let told = rw c.in-Some.is at c.in_ok-opened.ensures in
    fires-one (children_at c.args.at) _ _ _ _ _ _ _ told.0 told.1 c.in_ok-push_row.ensures.ok
