use Rattle.log_opening.proofs.SeriesLemmas.{fires-one}
use Rattle.scan_plans.specs.Turning.{tickets_at}
use Rattle.scan_plans.proofs.turns.fire_ticket.Goals as goal

pub returns : goal.returns
returns c =
    let told = rw c.in-Some.is at c.in_ok-opened.ensures in
    fires-one (tickets_at c.args.at) _ _ _ _ _ _ _ told.0 told.1 c.in_ok-push_row.ensures.ok
