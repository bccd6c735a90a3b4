-- Entries and their places.
use Rattle.std.proofs.Common.{◌≡◌, ℕ, ◌+◌, ◌<◌, ◌≤◌, List, [], ◌∷◌, ◌++◌, Bool, true, false, cond, eqb, ltb, Option, Some, refl, sym, ap, ◌∙◌, arith}
use Rattle.std.proofs.lemmas.Bool.Decides.{nat_tests}
use Rattle.job_events.specs.declared.cluster.ClusterEvent.{ClusterEvent}
use Rattle.job_events.specs.declared.cluster.ClusterReply.{ClusterReply}
use Rattle.cluster_history.specs.History.{History, Begin, After, Entry, after_all, places, entry_at, before}
use Rattle.cluster_history.specs.Entries.{EntriesInOrder}

-- the entries before the next place are all
pub before-all : (h : History) (place : ℕ) → places h < place → before h place ≡ h
before-all (Begin o) place above = refl
before-all (After h e r) place above =
    let test : ltb (places h + 1) place ≡ true = grind (arith, nat_tests) in
    ap (λ b. cond b (After h e r) (before h place)) test

-- before a place that there is, the last entry does not stand
pub before-last : (h : History) (e : ClusterEvent) (r : ClusterReply) (place : ℕ) → place ≤ places h + 1 → before (After h e r) place ≡ before h place
before-last h e r place within =
    let test : ltb (places h + 1) place ≡ false = grind (arith, nat_tests) in
    ap (λ b. cond b (After h e r) (before h place)) test

-- there is no entry behind the last place
entry-within : (h : History) (place : ℕ) (entry : Entry) → entry_at h place ≡ Some entry → place ≤ places h
entry-within (Begin o) place entry is = (cc)
entry-within (After h e r) place entry is = by (eqb place (places h + 1)) refl is (entry-within h place entry)
  where
    by : (b : Bool) → eqb place (places h + 1) ≡ b → cond b (Some (record { event = e; reply = r })) (entry_at h place) ≡ Some entry → (entry_at h place ≡ Some entry → place ≤ places h) → place ≤ places h + 1
    by true test is rest = let same : place ≡ places h + 1 = grind (arith, nat_tests) in omega arith
    by false test is rest = omega (arith, rest is)

all-last : (h : History) (entries : List Entry) (entry : Entry) → after_all h (entries ++ entry ∷ []) ≡ After (after_all h entries) entry.event entry.reply
all-last h [] entry = refl
all-last h (first ∷ entries) entry = all-last (After h first.event first.reply) entries entry

at-behind : (h : History) (place : ℕ) (entry : Entry) → entry_at h place ≡ Some entry → before h (place + 1) ≡ After (before h place) entry.event entry.reply
at-behind (Begin o) place entry is = (cc)
at-behind (After h e r) place entry is = by (eqb place (places h + 1)) refl is (at-behind h place entry)
  where
    by : (b : Bool) → eqb place (places h + 1) ≡ b → ◌≡◌ {A = Option Entry} (cond b (Some (record { event = e; reply = r })) (entry_at h place)) (Some entry)
        → (entry_at h place ≡ Some entry → before h (place + 1) ≡ After (before h place) entry.event entry.reply) → before (After h e r) (place + 1) ≡ After (before (After h e r) place) entry.event entry.reply
    by true test is rest =
        let here : place ≡ places h + 1 = grind (arith, nat_tests) in
        let same : record { event = e; reply = r } ≡ entry = (cc) in
        before-all (After h e r) (place + 1) (omega arith)
        ∙ ap (λ (one : Entry). After h one.event one.reply) same
        ∙ ap (λ (g : History). After g entry.event entry.reply) (sym (before-last h e r place (omega arith) ∙ before-all h place (omega arith)))
    by false test is rest =
        let within : place ≤ places h = entry-within h place entry is in
        before-last h e r (place + 1) (omega arith) ∙ rest is ∙ ap (λ (g : History). After g entry.event entry.reply) (sym (before-last h e r place (omega arith)))

pub entries-in_order : EntriesInOrder
entries-in_order = record { last = all-last; at = at-behind }
