-- The rings of the admins, over the tickets that wait in them.
use Rattle.std.proofs.Common.{◌≡◌, ℕ, zero, suc, ◌+◌, ◌<◌, List, [], ◌∷◌, ◌++◌, Bool, true, false, not, ◌&&◌, cond, eqb, nat_lt, length, map, filter, set, refl, sym, ap, ◌∙◌, subst, ⊎_elim, ◌⊎◌, inl, inr, append-nil, arith}
use Rattle.std.proofs.lemmas.Bool.{cases_eq}
use Rattle.std.proofs.lemmas.Bool.Decides.{nat_tests}
use Rattle.std.proofs.lemmas.List.{length-map, map-append}
use Rattle.std.proofs.lemmas.List.Elements.{filter-append}
use Rattle.std.proofs.lemmas.List.FromFn.{get_or-map-range_with_len, sum_by-map-range_with_len_more}
use Rattle.std.proofs.lemmas.List.Sums.{sum_by-cons, length-filter}
use Rattle.std.proofs.lemmas.Simd.{splat_is_map}
use Rattle.std.specs.Prelude.{count_by, sum_by}
use Rattle.std.specs.List.{range_with_len}
use Rattle.time_ring.specs.declared.ticket.Ticket.{Ticket}
use Rattle.time_ring.specs.Ring.{slot_of, slot_of_second, slot_before, tickets_in, with_ticket, after_turn, ticket_count, no_tickets}
use Rattle.cluster_history.specs.Tickets.{Waiting, is_in_slot, is_taken, is_at, taken, left}
use Rattle.cluster_plan.specs.Stands.{in_ring, slot_at}
use Rattle.cluster_plan.proofs.AdminLemmas.{set-range_as, map-same}

-- the ring of an admin, over these tickets
abbrev pub ring_over : List Waiting → ℕ → List (List Ticket)
ring_over tickets admin = map (λ slot. slot_at tickets admin slot) (range_with_len 0 60)

-- a slot of a ring
pub slot-over : (tickets : List Waiting) (admin slot : ℕ) → slot < 60 → tickets_in (ring_over tickets admin) slot ≡ slot_at tickets admin slot
slot-over tickets admin slot h = get_or-map-range_with_len (λ s. slot_at tickets admin s) 0 60 slot slot [] h (omega arith)

-- what a ticket adds to a slot
one-more : (b : Bool) (ticket : Waiting) → map in_ring (cond b (ticket ∷ []) []) ≡ cond b (in_ring ticket ∷ []) []
one-more true ticket = refl
one-more false ticket = refl

slot-more : (tickets : List Waiting) (ticket : Waiting) (admin slot : ℕ) → slot_at (tickets ++ ticket ∷ []) admin slot ≡ slot_at tickets admin slot ++ cond (is_in_slot admin slot ticket) (in_ring ticket ∷ []) []
slot-more tickets ticket admin slot =
    ap (map in_ring) (filter-append (is_in_slot admin slot) tickets (ticket ∷ []))
    ∙ map-append in_ring (filter (is_in_slot admin slot) tickets) (cond (is_in_slot admin slot ticket) (ticket ∷ []) [])
    ∙ ap (λ xs. slot_at tickets admin slot ++ xs) (one-more (is_in_slot admin slot ticket) ticket)

slot-same : (tickets : List Waiting) (ticket : Waiting) (admin slot : ℕ) → is_in_slot admin slot ticket ≡ false → slot_at tickets admin slot ≡ slot_at (tickets ++ ticket ∷ []) admin slot
slot-same tickets ticket admin slot out =
    sym (append-nil (slot_at tickets admin slot)) ∙ ap (λ b. slot_at tickets admin slot ++ cond b (in_ring ticket ∷ []) []) (sym out) ∙ sym (slot-more tickets ticket admin slot)

in-its_slot : (admin slot : ℕ) (ticket : Waiting) → ticket.admin ≡ admin → slot ≡ slot_of ticket.ticket.due → is_in_slot admin slot ticket ≡ true
in-its_slot admin slot ticket a s = grind (arith, nat_tests, a, s)

not-in_slot : (admin slot : ℕ) (ticket : Waiting) → (slot ≡ slot_of ticket.ticket.due → ⊥) → is_in_slot admin slot ticket ≡ false
not-in_slot admin slot ticket other = grind (arith, nat_tests, other)

not-of_admin : (admin slot : ℕ) (ticket : Waiting) → (admin ≡ ticket.admin → ⊥) → is_in_slot admin slot ticket ≡ false
not-of_admin admin slot ticket other = grind (arith, nat_tests, other)

-- a ticket that is put stands behind the others of its slot
pub ring-one_put : (tickets : List Waiting) (ticket : Waiting) (admin : ℕ) → ticket.admin ≡ admin → with_ticket (ring_over tickets admin) (in_ring ticket) ≡ ring_over (tickets ++ ticket ∷ []) admin
ring-one_put tickets ticket admin is =
    let slot = slot_of ticket.ticket.due in
    let below : slot_of ticket.ticket.due < 60 = omega arith in
    let here : is_in_slot admin (slot_of ticket.ticket.due) ticket ≡ true = in-its_slot admin (slot_of ticket.ticket.due) ticket is refl in
    set-range_as (λ s. slot_at tickets admin s) (λ s. slot_at (tickets ++ ticket ∷ []) admin s) 60 (slot_of ticket.ticket.due) (tickets_in (ring_over tickets admin) (slot_of ticket.ticket.due) ++ in_ring ticket ∷ []) below
    (ap (λ xs. xs ++ in_ring ticket ∷ []) (slot-over tickets admin (slot_of ticket.ticket.due) below)
    ∙ ap (λ b. slot_at tickets admin (slot_of ticket.ticket.due) ++ cond b (in_ring ticket ∷ []) []) (sym here)
    ∙ sym (slot-more tickets ticket admin (slot_of ticket.ticket.due)))
    (λ s other. slot-same tickets ticket admin s (not-in_slot admin s ticket other))

-- and the ring of another admin is as it was
pub ring-others_put : (tickets : List Waiting) (ticket : Waiting) (admin : ℕ) → (admin ≡ ticket.admin → ⊥) → ring_over tickets admin ≡ ring_over (tickets ++ ticket ∷ []) admin
ring-others_put tickets ticket admin other = map-same (λ s. slot_at tickets admin s) (λ s. slot_at (tickets ++ ticket ∷ []) admin s) (λ s. slot-same tickets ticket admin s (not-of_admin admin s ticket other)) (range_with_len 0 60)

none-step : (b c : Bool) (t : Waiting) (rest : List Waiting) (p : Waiting → Bool) → p t ≡ c → (c ≡ true → b ≡ false) → filter p rest ≡ [] → filter p (cond b (t ∷ rest) rest) ≡ []
none-step false c t rest p is out none = none
none-step true false t rest p is out none = ap (λ x. cond x (t ∷ filter p rest) (filter p rest)) is ∙ none
none-step true true t rest p is out none = let never : ⊥ = cc (out refl) in absurd never

-- of what one test leaves, another passes nothing, where it passes only what the first does not
filter-none : (p q : Waiting → Bool) → ((t : Waiting) → p t ≡ true → q t ≡ false) → (tickets : List Waiting) → filter p (filter q tickets) ≡ []
filter-none p q out [] = refl
filter-none p q out (t ∷ tickets) = none-step (q t) (p t) t (filter q tickets) p refl (out t) (filter-none p q out tickets)

same-step : (b c : Bool) (t : Waiting) (rest all : List Waiting) (p : Waiting → Bool) → p t ≡ c → (c ≡ true → b ≡ true) → filter p rest ≡ filter p all → filter p (cond b (t ∷ rest) rest) ≡ filter p (t ∷ all)
same-step true c t rest all p is both same = ap (λ xs. cond (p t) (t ∷ xs) xs) same
same-step false false t rest all p is both same = same ∙ ap (λ x. cond x (t ∷ filter p all) (filter p all)) (sym is)
same-step false true t rest all p is both same = let never : ⊥ = cc (both refl) in absurd never

-- and it passes the same, where it passes only what the first does too
filter-same : (p q : Waiting → Bool) → ((t : Waiting) → p t ≡ true → q t ≡ true) → (tickets : List Waiting) → filter p (filter q tickets) ≡ filter p tickets
filter-same p q both [] = refl
filter-same p q both (t ∷ tickets) = same-step (q t) (p t) t (filter q tickets) tickets p refl (both t) (filter-same p q both tickets)

slot-taken : (admin second slot : ℕ) (t : Waiting) → (slot ≡ slot_of_second second) ⊎ (slot ≡ slot_before second) → is_in_slot admin slot t ≡ true → not (is_taken admin second t) ≡ false
slot-taken admin second slot t (inl e) here = grind (arith, nat_tests, e, here)
slot-taken admin second slot t (inr e) here = grind (arith, nat_tests, e, here)

slot-left : (admin second slot : ℕ) (t : Waiting) → (slot ≡ slot_of_second second → ⊥) → (slot ≡ slot_before second → ⊥) → is_in_slot admin slot t ≡ true → not (is_taken admin second t) ≡ true
slot-left admin second slot t now before here = grind (arith, nat_tests, now, before, here)

other-left : (admin second a slot : ℕ) (t : Waiting) → (a ≡ admin → ⊥) → is_in_slot a slot t ≡ true → not (is_taken admin second t) ≡ true
other-left admin second a slot t other here = grind (arith, nat_tests, other, here)

-- a slot that a turn takes is empty then
slot-emptied : (tickets : List Waiting) (admin second slot : ℕ) → (slot ≡ slot_of_second second) ⊎ (slot ≡ slot_before second) → slot_at (left admin second tickets) admin slot ≡ []
slot-emptied tickets admin second slot e =
    ap (map in_ring) (filter-none (is_in_slot admin slot) (λ t. not (is_taken admin second t)) (λ t here. slot-taken admin second slot t e here) tickets)

-- every other slot stays
slot-kept : (tickets : List Waiting) (admin second slot : ℕ) → (slot ≡ slot_of_second second → ⊥) → (slot ≡ slot_before second → ⊥) → slot_at (left admin second tickets) admin slot ≡ slot_at tickets admin slot
slot-kept tickets admin second slot now before =
    ap (map in_ring) (filter-same (is_in_slot admin slot) (λ t. not (is_taken admin second t)) (λ t here. slot-left admin second slot t now before here) tickets)

-- a slot once the slot of the second is emptied
abbrev once_emptied : List Waiting → ℕ → ℕ → ℕ → List Ticket
once_emptied tickets admin second slot = cond (eqb slot (slot_of_second second)) [] (slot_at tickets admin slot)

emptied-at : (tickets : List Waiting) (admin second : ℕ) → [] ≡ once_emptied tickets admin second (slot_of_second second)
emptied-at tickets admin second =
    let same : eqb (slot_of_second second) (slot_of_second second) ≡ true = grind (arith, nat_tests) in
    ap (λ b. cond b [] (slot_at tickets admin (slot_of_second second))) (sym same)

not-emptied : (tickets : List Waiting) (admin second slot : ℕ) → (slot ≡ slot_of_second second → ⊥) → slot_at tickets admin slot ≡ once_emptied tickets admin second slot
not-emptied tickets admin second slot other =
    let apart : eqb slot (slot_of_second second) ≡ false = grind (arith, nat_tests, other) in
    ap (λ b. cond b [] (slot_at tickets admin slot)) (sym apart)

emptied-both : (tickets : List Waiting) (admin second slot : ℕ) → (slot ≡ slot_before second → ⊥) → once_emptied tickets admin second slot ≡ slot_at (left admin second tickets) admin slot
emptied-both tickets admin second slot before =
    ⊎_elim (λ now.
    let same : eqb slot (slot_of_second second) ≡ true = grind (arith, nat_tests, now) in
    ap (λ b. cond b [] (slot_at tickets admin slot)) same ∙ sym (slot-emptied tickets admin second slot (inl now)))
    (λ now. sym (not-emptied tickets admin second slot now) ∙ sym (slot-kept tickets admin second slot now before))
    (cases_eq slot (slot_of_second second))

-- the ring of an admin after its turn
pub ring-one_turn : (tickets : List Waiting) (admin second : ℕ) → after_turn (ring_over tickets admin) second ≡ ring_over (left admin second tickets) admin
ring-one_turn tickets admin second =
    ap (λ ring. set ring (slot_before second) []) (set-range_as (λ s. slot_at tickets admin s) (once_emptied tickets admin second) 60 (slot_of_second second) [] (omega arith) (emptied-at tickets admin second) (not-emptied tickets admin second))
    ∙ set-range_as (once_emptied tickets admin second) (λ s. slot_at (left admin second tickets) admin s) 60 (slot_before second) [] (omega arith) (sym (slot-emptied tickets admin second (slot_before second) (inr refl))) (emptied-both tickets admin second)

-- and that of another, which does not turn
pub ring-others_turn : (tickets : List Waiting) (admin second a : ℕ) → (a ≡ admin → ⊥) → ring_over tickets a ≡ ring_over (left admin second tickets) a
ring-others_turn tickets admin second a other =
    map-same (λ s. slot_at tickets a s) (λ s. slot_at (left admin second tickets) a s) (λ s. sym (ap (map in_ring) (filter-same (is_in_slot a s) (λ t. not (is_taken admin second t)) (λ t here. other-left admin second a s t other here) tickets))) (range_with_len 0 60)

-- the tickets that a turn takes are those of two slots of its ring
pub ring-taken : (tickets : List Waiting) (admin second : ℕ) → map in_ring (taken admin second tickets) ≡ tickets_in (ring_over tickets admin) (slot_of_second second) ++ tickets_in (ring_over tickets admin) (slot_before second)
ring-taken tickets admin second =
    map-append in_ring (filter (is_in_slot admin (slot_of_second second)) tickets) (filter (is_in_slot admin (slot_before second)) tickets)
    ∙ ap (λ xs. xs ++ slot_at tickets admin (slot_before second)) (sym (slot-over tickets admin (slot_of_second second) (omega arith)))
    ∙ ap (λ xs. tickets_in (ring_over tickets admin) (slot_of_second second) ++ xs) (sym (slot-over tickets admin (slot_before second) (omega arith)))

not-at : (admin slot : ℕ) (t : Waiting) → is_in_slot admin slot t ≡ true → not (is_at admin t) ≡ false
not-at admin slot t here = grind (arith, nat_tests, here)

at-other : (admin a slot : ℕ) (t : Waiting) → (a ≡ admin → ⊥) → is_in_slot a slot t ≡ true → not (is_at admin t) ≡ true
at-other admin a slot t other here = grind (arith, nat_tests, other, here)

none-over : (tickets : List Waiting) (a : ℕ) → ((s : ℕ) → slot_at tickets a s ≡ []) → ring_over tickets a ≡ no_tickets
unfolding no_tickets
none-over tickets a none = map-same (λ s. slot_at tickets a s) (λ s. []) none (range_with_len 0 60) ∙ sym (splat_is_map (range_with_len 0 60) 60 [] refl)

-- the ring of an admin that stops
pub ring-one_stop : (tickets : List Waiting) (admin : ℕ) → ring_over (filter (λ t. not (is_at admin t)) tickets) admin ≡ no_tickets
ring-one_stop tickets admin =
    none-over (filter (λ t. not (is_at admin t)) tickets) admin
    (λ s. ap (map in_ring) (filter-none (is_in_slot admin s) (λ t. not (is_at admin t)) (λ t here. not-at admin s t here) tickets))

-- and that of another, which stays
pub ring-others_stop : (tickets : List Waiting) (admin a : ℕ) → (a ≡ admin → ⊥) → ring_over tickets a ≡ ring_over (filter (λ t. not (is_at admin t)) tickets) a
ring-others_stop tickets admin a other =
    map-same (λ s. slot_at tickets a s) (λ s. slot_at (filter (λ t. not (is_at admin t)) tickets) a s)
    (λ s. sym (ap (map in_ring) (filter-same (is_in_slot a s) (λ t. not (is_at admin t)) (λ t here. at-other admin a s t other here) tickets))) (range_with_len 0 60)

-- the ring of an admin for which no ticket waits
pub ring-none : (admin : ℕ) → no_tickets ≡ ring_over [] admin
ring-none admin = sym (none-over [] admin (λ s. refl))

count-cons : (p : Waiting → Bool) (t : Waiting) (tickets : List Waiting) → count_by p (t ∷ tickets) ≡ cond (p t) 1 0 + count_by p tickets
count-cons p t tickets = sum_by-cons (λ x. cond (p x) 1 0) t tickets

-- two counts together are a third, where each ticket is counted so
count-both : (p q r : Waiting → Bool) → ((t : Waiting) → cond (p t) 1 0 + cond (q t) 1 0 ≡ cond (r t) 1 0) → (tickets : List Waiting) → count_by p tickets + count_by q tickets ≡ count_by r tickets
count-both p q r each [] = refl
count-both p q r each (t ∷ tickets) =
    omega (arith, count-cons p t tickets, count-cons q t tickets, count-cons r t tickets, each t, count-both p q r each tickets)

-- the tickets of an admin that are due in the first slots
abbrev is_first : ℕ → ℕ → Waiting → Bool
is_first admin n t = is_at admin t && nat_lt (slot_of t.ticket.due) n

by-slot_at : (at : Bool) (due n : ℕ) → cond (at && nat_lt due n) 1 0 + cond (at && eqb due n) 1 0 ≡ cond (at && nat_lt due (n + 1)) 1 0
by-slot_at false due n = refl
by-slot_at true due n = grind (arith, nat_tests)

by-slot : (admin n : ℕ) (t : Waiting) → cond (is_first admin n t) 1 0 + cond (is_in_slot admin n t) 1 0 ≡ cond (is_first admin (n + 1) t) 1 0
by-slot admin n t = by-slot_at (is_at admin t) (slot_of t.ticket.due) n

count-same : (p q : Waiting → Bool) → ((t : Waiting) → p t ≡ q t) → (tickets : List Waiting) → count_by p tickets ≡ count_by q tickets
count-same p q same [] = refl
count-same p q same (t ∷ tickets) =
    count-cons p t tickets ∙ ap (λ b. cond b 1 0 + count_by p tickets) (same t) ∙ ap (λ m. cond (q t) 1 0 + m) (count-same p q same tickets) ∙ sym (count-cons q t tickets)

count-none : (tickets : List Waiting) → count_by (λ (t : Waiting). false) tickets ≡ 0
count-none [] = refl
count-none (t ∷ tickets) = let more : count_by (λ (x : Waiting). false) (t ∷ tickets) ≡ 0 + count_by (λ (x : Waiting). false) tickets = count-cons (λ (x : Waiting). false) t tickets in omega (arith, more, count-none tickets)

first-none : (at : Bool) (due : ℕ) → (at && nat_lt due 0) ≡ false
first-none false due = refl
first-none true due = grind (arith, nat_tests)

first-all : (at : Bool) (due : ℕ) → due < 60 → (at && nat_lt due 60) ≡ at
first-all false due below = refl
first-all true due below = grind (arith, nat_tests)

ring-count_to : (tickets : List Waiting) (admin n : ℕ) → sum_by length (map (λ s. slot_at tickets admin s) (range_with_len 0 n)) ≡ count_by (is_first admin n) tickets
ring-count_to tickets admin zero = sym (count-same (is_first admin 0) (λ t. false) (λ t. first-none (is_at admin t) (slot_of t.ticket.due)) tickets ∙ count-none tickets)
ring-count_to tickets admin (suc n) =
    let e : n + 1 ≡ suc n = omega arith in
    subst (λ m. sum_by length (map (λ s. slot_at tickets admin s) (range_with_len 0 m)) ≡ count_by (is_first admin m) tickets) e
    (sum_by-map-range_with_len_more length (λ s. slot_at tickets admin s) 0 n n (omega arith)
    ∙ ap (λ m. m + length (slot_at tickets admin n)) (ring-count_to tickets admin n)
    ∙ ap (λ m. count_by (is_first admin n) tickets + m) (length-map (filter (is_in_slot admin n) tickets) in_ring ∙ length-filter (is_in_slot admin n) tickets)
    ∙ count-both (is_first admin n) (is_in_slot admin n) (is_first admin (n + 1)) (by-slot admin n) tickets)

-- a ring has the tickets of its admin
pub ring-count : (tickets : List Waiting) (admin : ℕ) → ticket_count (ring_over tickets admin) ≡ count_by (is_at admin) tickets
ring-count tickets admin = ring-count_to tickets admin 60 ∙ count-same (is_first admin 60) (is_at admin) (λ t. first-all (is_at admin t) (slot_of t.ticket.due) (omega arith)) tickets
