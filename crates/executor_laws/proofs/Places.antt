-- Entries and their places.
use Rattle.std.proofs.Common.{◌≡◌, ℕ, ◌+◌, ◌<◌, ◌==◌, nat_lt, Bool, true, false, if◌then◌else◌, List, [], ◌∷◌, ◌++◌, Some, length, refl, ap, ◌∙◌, arith}
use Rattle.std.proofs.lemmas.Bool.Decides.{nat_tests}
use Rattle.job_events.specs.declared.executor.ExecutorEvent.{ExecutorEvent}
use Rattle.job_events.specs.declared.executor.ExecutorReply.{ExecutorReply}
use Rattle.executor_history.specs.History.{History, Opening, After}
use Rattle.executor_history.specs.Places.{Entry, after_all, places, before, entry_at}

pub last_entry : (h : History) (entries : List Entry) (entry : Entry) → after_all h (entries ++ entry ∷ []) ≡ After (after_all h entries) entry.event entry.reply
last_entry h [] entry = refl
last_entry h (e ∷ entries) entry = last_entry (After h e.event e.reply) entries entry

pub count_places : (h : History) (entries : List Entry) → places (after_all h entries) ≡ places h + length entries
count_places h [] = omega arith
count_places h (e ∷ entries) = let k = count_places (After h e.event e.reply) entries in omega (arith, k)

below_step : (h : History) (e : ExecutorEvent) (r : ExecutorReply) (place : ℕ) (entry : Entry) (b : Bool) → (place == places h + 1) ≡ b → entry_at (After h e r) place ≡ Some entry → (entry_at h place ≡ Some entry → place < places h + 1) → place < places h + 2
below_step h e r place entry true t is rest = grind (arith, nat_tests)
below_step h e r place entry false t is rest = let k = rest (rw t at is) in omega (arith, k)

below_places : (h : History) (place : ℕ) (entry : Entry) → entry_at h place ≡ Some entry → place < places h + 1
below_places (Opening names kept) place entry e = absurd cc
below_places (After h e r) place entry is =
    let k = below_step h e r place entry (place == places h + 1) refl is (below_places h place entry) in
    omega (arith, k)

yes : (n m : ℕ) → n < m → nat_lt n m ≡ true
yes n m lt = grind (arith, nat_tests)

no : (n m : ℕ) → m < n + 1 → nat_lt n m ≡ false
no n m lt = grind (arith, nat_tests)

whole : (h : History) (place : ℕ) → places h < place → before h place ≡ h
whole (Opening names kept) place up = refl
whole (After h e r) place up = ap (λ (b : Bool). if b then After h e r else before h place) (yes (places h + 1) place (omega (arith, up)))

here : (h : History) (e : ExecutorEvent) (r : ExecutorReply) (place : ℕ) (entry : Entry) → place ≡ places h + 1 → Some (record { event = e; reply = r }) ≡ Some entry → before (After h e r) (place + 1) ≡ After (before (After h e r) place) entry.event entry.reply
here h e r place entry one same =
    let a : before (After h e r) (place + 1) ≡ After h e r = whole (After h e r) (place + 1) (omega (arith, one)) in
    let b : before (After h e r) place ≡ before h place = ap (λ (t : Bool). if t then After h e r else before h place) (no (places h + 1) place (omega (arith, one))) in
    let c : before h place ≡ h = whole h place (omega (arith, one)) in
    let d : record { event = e; reply = r } ≡ entry = cc in
    a ∙ rw (b, c, ← d) refl

after_step : (h : History) (e : ExecutorEvent) (r : ExecutorReply) (place : ℕ) (entry : Entry) (b : Bool) → (place == places h + 1) ≡ b → entry_at (After h e r) place ≡ Some entry
    → (entry_at h place ≡ Some entry → before h (place + 1) ≡ After (before h place) entry.event entry.reply) → before (After h e r) (place + 1) ≡ After (before (After h e r) place) entry.event entry.reply
after_step h e r place entry true t is rest = here h e r place entry (grind (arith, nat_tests)) (rw t at is)
after_step h e r place entry false t is rest =
    let there = rw t at is in
    let low = below_places h place entry there in
    let a : before (After h e r) (place + 1) ≡ before h (place + 1) = ap (λ (t : Bool). if t then After h e r else before h (place + 1)) (no (places h + 1) (place + 1) (omega (arith, low))) in
    let b : before (After h e r) place ≡ before h place = ap (λ (t : Bool). if t then After h e r else before h place) (no (places h + 1) place (omega (arith, low))) in
    a ∙ rw b (rest there)

pub entry_after : (h : History) (place : ℕ) (entry : Entry) → entry_at h place ≡ Some entry → before h (place + 1) ≡ After (before h place) entry.event entry.reply
entry_after (Opening names kept) place entry e = absurd cc
entry_after (After h e r) place entry is = after_step h e r place entry (place == places h + 1) refl is (entry_after h place entry)
