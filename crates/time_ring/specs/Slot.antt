-- What contracts see of one slot.
use Rattle.std.specs.Prelude.{ℕ, List, map}
use Rattle.time_ring.specs.declared.ticket.Ticket.{Ticket}

-- the tickets in the order in which they came, and how many more fit without memory
pub record WaitingTickets : Type 0 where
  pub tickets : List Ticket
  pub room : ℕ

-- the tickets of each slot
abbrev pub lists_of : List WaitingTickets → List (List Ticket)
lists_of slots = map (λ slot. slot.tickets) slots

-- the room of each slot
abbrev pub rooms_of : List WaitingTickets → List ℕ
rooms_of slots = map (λ slot. slot.room) slots
