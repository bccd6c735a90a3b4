use Rattle.std.proofs.Common.{◌≡◌, ◌++◌, take}
use Rattle.std.specs.List.{flat_map}
use Rattle.script_text.specs.Replies.{ticket_words}
use Rattle.script_text.proofs.replies.put_tickets.Given as goal

abbrev pub invariant-loop-ticket : goal.invariant-loop-ticket
invariant-loop-ticket l = l.out.items ≡ l.fn.out.items ++ flat_map ticket_words (take l.ticket-index l.tickets)
