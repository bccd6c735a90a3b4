-- What a turn takes and leaves.
use Rattle.std.proofs.Common.{◌≡◌, ℕ, ◌+◌, ◌%◌, ◌≤◌, List, Bool, true, false, eqb, ◌&&◌, not, sym, ◌∙◌, arith}
use Rattle.std.specs.List.{filter, count_by}
use Rattle.std.proofs.lemmas.Bool.Decides.{nat_tests}
use Rattle.time_ring.specs.Ring.{slot_of, slot_of_second, slot_before}
use Rattle.cluster_history.specs.Tickets.{Waiting, is_in_slot, is_taken, taken, left}
use Rattle.cluster_history.proofs.Counting.{count-append, count-filter, count-either, count-rest, count-kept}

and-right : (a b : Bool) → (a && b) ≡ true → b ≡ true
and-right true b e = e
and-right false b e = (cc)

same-slot : (m n : ℕ) → eqb m n ≡ true → m ≡ n
same-slot m n e = grind (arith, nat_tests)

-- no ticket is in both slots of a turn
slots-apart : (admin second : ℕ) (w : Waiting) → is_in_slot admin (slot_of_second second) w ≡ true → is_in_slot admin (slot_before second) w ≡ true → ⊥
slots-apart admin second w p q =
    let here : slot_of w.ticket.due ≡ second % 60 = same-slot (slot_of w.ticket.due) (slot_of_second second) (and-right (eqb w.admin admin) _ p) in
    let there : slot_of w.ticket.due ≡ (second + 59) % 60 = same-slot (slot_of w.ticket.due) (slot_before second) (and-right (eqb w.admin admin) _ q) in
    let same : second % 60 ≡ (second + 59) % 60 = sym here ∙ there in
    omega arith

-- it takes each ticket of its two slots once
pub count-taken : (q : Waiting → Bool) (admin second : ℕ) (ws : List Waiting) → count_by q (taken admin second ws) ≡ count_by (λ w. is_taken admin second w && q w) ws
count-taken q admin second ws =
    omega (
      arith,
      count-append q (filter (is_in_slot admin (slot_of_second second)) ws) (filter (is_in_slot admin (slot_before second)) ws),
      count-filter q (is_in_slot admin (slot_of_second second)) ws,
      count-filter q (is_in_slot admin (slot_before second)) ws,
      count-either q (is_in_slot admin (slot_of_second second)) (is_in_slot admin (slot_before second)) (slots-apart admin second) ws,
    )

-- what it fires and leaves is what waited, at most
pub turn-covers : (q : Waiting → Bool) (present : Waiting → Bool) (admin second : ℕ) (ws : List Waiting) → count_by q (filter present (taken admin second ws)) + count_by q (left admin second ws) ≤ count_by q ws
turn-covers q present admin second ws =
    omega (
      arith,
      count-kept q present (taken admin second ws),
      count-taken q admin second ws,
      count-filter q (λ w. not (is_taken admin second w)) ws,
      count-rest q (is_taken admin second) ws,
    )
