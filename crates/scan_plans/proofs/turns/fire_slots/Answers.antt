use Rattle.std.proofs.Common.{◌+◌, ◌<◌, length, arith}
use Rattle.std.proofs.lemmas.Result.{IfOk-weaker}
use Rattle.log_opening.specs.Series.{shots_all, FiresBehind}
use Rattle.log_opening.proofs.SeriesLemmas.{fires-second, shots-both}
use Rattle.scan_plans.specs.Turning.{tickets_at, FiresTickets}
use Rattle.scan_plans.proofs.turns.fire_slots.Goals as goal

pub returns-then-not-fits : goal.returns-then-not-fits
returns-then-not-fits c =
    let over : 9223372036854775807 < c.args.turned.now.openings.last + length (shots_all (tickets_at c.args.at) c.args.records.now.kept c.args.present.now) = rw c.if-not-fits.true at c.in_ok-fits.ensures in
    let more = shots-both (tickets_at c.args.at) c.args.records.now.kept c.args.present.now c.args.past.now in
    omega arith

pub returns : goal.returns
returns c =
    let first : FiresBehind (tickets_at c.args.at) c.args.records.now.kept c.args.present.now c.args.turned.now.openings c.fire_tickets.new.turned.openings c.args.turned.now.fired.items c.fire_tickets.new.turned.fired.items = rw c.if-not-fits.false at c.in_ok-fits.ensures in
    IfOk-weaker c.fire_tickets-2.result (FiresTickets c.args.records.now.kept c.args.at c.args.past.now c.fire_tickets.new.turned c.fire_tickets-2.new.turned) _
    (λ fits then_. fires-second (tickets_at c.args.at) _ _ _ _ _ _ _ _ _ fits first then_) c.fire_tickets-2.ensures
