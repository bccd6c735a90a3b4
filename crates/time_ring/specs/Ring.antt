-- The ring as sixty lists of tickets.
use Rattle.std.specs.Prelude.{ℕ, ◌+◌, ◌-◌, ◌/◌, ◌%◌, List, [], ◌∷◌, ◌++◌, length, sum_by, slice_index_or, slice_set, replicate}
use Rattle.time_ring.specs.declared.ticket.Ticket.{Ticket}
use Rattle.job_values.specs.declared.limits.TheConstants.{SLOTS, SECOND}

-- the tickets of each slot, and for how many more tickets each slot has room
pub record Ring : Type 0 where
  pub slots : List (List Ticket)
  pub room : List ℕ

-- the slot of a second
abbrev pub slot_of_second : ℕ → ℕ
slot_of_second second = second % SLOTS

-- the slot of the second before
abbrev pub slot_before : ℕ → ℕ
slot_before second = (second + (SLOTS - 1)) % SLOTS

-- the slot of a moment: that of its whole second
abbrev pub slot_of : ℕ → ℕ
slot_of moment = slot_of_second (moment / SECOND)

-- the tickets in a slot
abbrev pub tickets_in : List (List Ticket) → ℕ → List Ticket
tickets_in slots slot = slice_index_or slots slot []

-- for how many more tickets a slot has room
abbrev pub room_in : List ℕ → ℕ → ℕ
room_in room slot = slice_index_or room slot 0

-- the lists with the ticket behind those already in the slot of its due moment
abbrev pub with_ticket : List (List Ticket) → Ticket → List (List Ticket)
with_ticket slots ticket =
    slice_set slots (slot_of ticket.due) (tickets_in slots (slot_of ticket.due) ++ ticket ∷ [])

-- the lists after a turn at a second: its slot and the one before are empty
abbrev pub after_turn : List (List Ticket) → ℕ → List (List Ticket)
after_turn slots second = slice_set (slice_set slots (slot_of_second second) []) (slot_before second) []

-- the number of tickets in all slots
abbrev pub ticket_count : List (List Ticket) → ℕ
ticket_count slots = sum_by length slots

-- sixty slots without tickets
unfoldable pub no_tickets : List (List Ticket)
no_tickets = replicate SLOTS []
