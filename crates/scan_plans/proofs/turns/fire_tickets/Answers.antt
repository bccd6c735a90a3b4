use Rattle.std.proofs.Common.{◌+◌, ◌<◌, length, arith, [], ◌∷◌}
use Rattle.log_opening.specs.Series.{shots_all}
use Rattle.log_opening.proofs.SeriesLemmas.{fires-more, shots-front}
use Rattle.scan_plans.specs.Turning.{tickets_at}
use Rattle.scan_plans.proofs.turns.fire_tickets.Goals as goal

pub returns-then-not-fits : goal.returns-then-not-fits
returns-then-not-fits c =
    let front = shots-front (tickets_at c.args.at) c.args.records.now.kept c.args.tickets.now c.loop-ticket.ticket-index c.ticket-item.result (omega arith) c.ticket-item.is in
    let over : 9223372036854775807 < c.loop-ticket.turned.openings.last + length (shots_all (tickets_at c.args.at) c.args.records.now.kept (c.ticket-item.result ∷ [])) = rw c.if-not-fits.true at c.in_ok-fits.ensures in
    omega (arith, c.loop-ticket.invariant.opens.ids)

pub loop-ticket-preserved : goal.loop-ticket-preserved
loop-ticket-preserved c =
    fires-more (tickets_at c.args.at) c.args.records.now.kept c.args.tickets.now c.loop-ticket.ticket-index c.ticket-item.result c.args.turned.now.openings c.loop-ticket.turned.openings c.fire_ticket.new.turned.openings
    c.args.turned.now.fired.items c.loop-ticket.turned.fired.items c.fire_ticket.new.turned.fired.items (omega arith) c.ticket-item.is c.loop-ticket.invariant (rw c.if-not-fits.false at c.in_ok-fits.ensures)
