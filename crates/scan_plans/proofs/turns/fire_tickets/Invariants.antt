use Rattle.std.proofs.Common.{take}
use Rattle.log_opening.specs.Series.{FiresBehind}
use Rattle.scan_plans.specs.Turning.{tickets_at}
use Rattle.scan_plans.proofs.turns.fire_tickets.Given as goal

abbrev pub invariant-loop-ticket : goal.invariant-loop-ticket
invariant-loop-ticket l =
    FiresBehind (tickets_at l.at) l.records.kept (take l.ticket-index l.tickets) l.initial.turned.openings l.turned.openings l.initial.turned.fired.items l.turned.fired.items
