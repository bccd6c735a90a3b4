-- What a change of one slot is in the lists and in the room of all slots.
use Rattle.std.proofs.Common.{◌≡◌, ℕ, ◌<◌, ◌≤◌, List, [], length, get_or, refl, sym, ◌∙◌, ap, replicate, arith, ⊎_elim}
use Rattle.std.specs.Prelude.{slice_set}
use Rattle.std.proofs.lemmas.List.{length-map, map-set, get_or-map, get_or-set_same, get_or-set_other, set-get_or}
use Rattle.std.proofs.lemmas.Bool.{cases_eq}
use Rattle.time_ring.specs.declared.ticket.Ticket.{Ticket}
use Rattle.time_ring.specs.Ring.{tickets_in, room_in, no_tickets}
use Rattle.time_ring.specs.Slot.{WaitingTickets, lists_of, rooms_of}

-- the tickets in a slot that was read
pub tickets_read : (slots : List WaitingTickets) (i : ℕ) (slot : WaitingTickets) → i < length slots
    → slot ≡ get_or slots i slot → tickets_in (lists_of slots) i ≡ slot.tickets
tickets_read slots i slot within is =
    get_or-map (λ (s : WaitingTickets). s.tickets) slots i slot [] within ∙ ap (λ (s : WaitingTickets). s.tickets) (sym is)

-- the room of a slot that was read
pub room_read : (slots : List WaitingTickets) (i : ℕ) (slot : WaitingTickets) → i < length slots
    → slot ≡ get_or slots i slot → room_in (rooms_of slots) i ≡ slot.room
room_read slots i slot within is =
    get_or-map (λ (s : WaitingTickets). s.room) slots i slot 0 within ∙ ap (λ (s : WaitingTickets). s.room) (sym is)

-- the lists after a slot was written
pub lists-set : (slots : List WaitingTickets) (i : ℕ) (slot : WaitingTickets)
    → lists_of (slice_set slots i slot) ≡ slice_set (lists_of slots) i slot.tickets
lists-set slots i slot = map-set (λ (s : WaitingTickets). s.tickets) slots i slot

-- the room after a slot was written
pub rooms-set : (slots : List WaitingTickets) (i : ℕ) (slot : WaitingTickets)
    → rooms_of (slice_set slots i slot) ≡ slice_set (rooms_of slots) i slot.room
rooms-set slots i slot = map-set (λ (s : WaitingTickets). s.room) slots i slot

-- a slot that keeps its tickets changes no list
pub lists-set_same : (slots : List WaitingTickets) (i : ℕ) (old new : WaitingTickets) → i < length slots
    → old ≡ get_or slots i old → new.tickets ≡ old.tickets → lists_of (slice_set slots i new) ≡ lists_of slots
lists-set_same slots i old new within is same =
    lists-set slots i new ∙ ap (slice_set (lists_of slots) i) (same ∙ sym (tickets_read slots i old within is))
    ∙ set-get_or (lists_of slots) i []

-- a slot that gains room leaves no slot with less
pub rooms-set_more : (slots : List WaitingTickets) (i : ℕ) (old new : WaitingTickets) → i < length slots
    → old ≡ get_or slots i old → old.room ≤ new.room
    → (slot : ℕ) → room_in (rooms_of slots) slot ≤ room_in (rooms_of (slice_set slots i new)) slot
rooms-set_more slots i old new within is more slot =
    rw (rooms-set slots i new)
    (⊎_elim
    (λ (here : slot ≡ i).
    rw here
    (let inside : i < length (rooms_of slots) = rw length-map within in
    rw (get_or-set_same (rooms_of slots) i new.room 0 inside, room_read slots i old within is) more))
    (λ (other : slot ≡ i → ⊥). rw (get_or-set_other (rooms_of slots) i slot new.room 0 other) (omega arith))
    (cases_eq slot i))

-- the empty ring has sixty slots
pub replicate-sixty : (n : ℕ) → n ≡ 60 → replicate n [] ≡ no_tickets
unfolding no_tickets
replicate-sixty n sixty = ap (λ (m : ℕ). replicate {A = List Ticket} m []) sixty

-- the room of a slot that was written
pub room_written : (slots : List WaitingTickets) (i : ℕ) (slot : WaitingTickets) → i < length slots
    → (s : ℕ) → i ≡ s → room_in (rooms_of (slice_set slots i slot)) s ≡ slot.room
room_written slots i slot within s at =
    let inside : i < length (rooms_of slots) = rw length-map within in
    rw (← at, rooms-set slots i slot, get_or-set_same (rooms_of slots) i slot.room 0 inside) refl
