-- Where the machine is, as seats change, and what the rule says of tickets.
use Rattle.std.proofs.Common.{◌≡◌, ◌≢◌, ◌⊎◌, ℕ, zero, suc, ◌+◌, ◌<◌, ◌≤◌, ◌==◌, Bool, true, false, true≢false, List, [], ◌∷◌, ◌++◌, set, Option, Some, None, MatchBool, refl, sym, ap, ◌∙◌, inl, inr, ⊎_elim, arith}
use Rattle.std.proofs.lemmas.Bool.Decides.{nat_tests}
use mathlib.Core.Option.{some, some-ne-none, some-injective}
use mathlib.Core.Option as maybe
use mathlib.Core.Logic.{dite}
use native.Mathlib.Decide.{ℕ_discrete}
use lib.ListN.{get_elem?}
use Rattle.atomic_table.proofs.Lists.{set_else, at_longer}
use Rattle.turn_lock.specs.declared.view.View.{View}
use Rattle.turn_lock.specs.declared.view.Held.{Held}
use Rattle.turn_lock.specs.Turns.{waits, AtHome, IsOut, Kept}
use Rattle.turn_lock.proofs.Totals.{total_le, each_set, each_snoc}
use Rattle.atomic_table.specs.Table.{State}

pub match_true : (b : Bool) (P Q : Type 0) → b ≡ true → P → MatchBool b P Q
match_true true P Q e p = p
match_true false P Q e p = absurd (true≢false (sym e))

pub match_false : (b : Bool) (P Q : Type 0) → b ≡ false → Q → MatchBool b P Q
match_false true P Q e q = absurd (true≢false e)
match_false false P Q e q = q

pub same_number : (a b : ℕ) → a ≡ b → (a == b) ≡ true
same_number a b e = grind (arith, nat_tests)

pub other_number : (a b : ℕ) → a ≢ b → (a == b) ≡ false
other_number a b n = cases (a == b) refl
  where
    cases : (t : Bool) → (a == b) ≡ t → (a == b) ≡ false
    cases true e = absurd (n (grind (arith, nat_tests)))
    cases false e = e

pub off : {A : Type 0} → false ≡ true → A
off e = absurd (true≢false (sym e))

pub not_true : (b : Bool) → (b ≡ true → ⊥) → b ≡ false
not_true true n = absurd (n refl)
not_true false n = refl

pub set_there : {V : Type 0} (l : List V) (i : ℕ) (v w : V) → get_elem? l i ≡ some v → get_elem? (set l i w) i ≡ some w
set_there [] i v w e = absurd (some-ne-none v (sym e))
set_there (x ∷ xs) zero v w e = refl
set_there (x ∷ xs) (suc i) v w e = set_there xs i v w e

waiting_part : (t : Option ℕ) (parts : ℕ) → ((k : ℕ) → t ≡ Some k → 0 < parts) → waits t ≤ parts
waiting_part None parts h = omega arith
waiting_part (Some k) parts h = let p = h k refl in omega arith

module _ {O E R M : Type 0} (stands : O → List (E × R) → M → Type 0) (o : O) (s : State (Option (Held M)) (View O E R)) (k : Kept stands o s) where
  -- at most 2^63 seats wait
  pub few_wait : k.drawn ≤ k.served + 9223372036854775808
  few_wait =
      let each : (i : ℕ) (v : View O E R) → get_elem? s.views i ≡ some v → waits v.ticket ≤ v.parts =
      λ i v at. waiting_part v.ticket v.parts (λ t e. ((k.each i v at).ticket t e).3) in
      let few = total_le (λ (v : View O E R). waits v.ticket) (λ v. v.parts) s.views each in
      let p = k.parts in let t = k.tickets in omega arith

  -- the seat that is served is the one that holds the machine
  pub one_holds : (i j : ℕ) (v u : View O E R) → get_elem? s.views i ≡ some v → get_elem? s.views j ≡ some u → v.ticket ≡ Some k.served → u.holds ≡ true → j ≡ i
  one_holds i j v u at there served holds =
      let a = ((k.each i v at).ticket k.served served).0 in
      let b = ((k.each j u there).ticket k.served (((k.each j u there).holder holds).0)).0 in
      sym b ∙ a

module _ {O E R M : Type 0} (stands : O → List (E × R) → M → Type 0) (o : O) (log : List (E × R)) (homes : List (maybe.Option (Option (Held M)))) (views : List (View O E R)) where
  -- a seat changes, and holds what it held
  pub slot_set : (i : ℕ) (v w : View O E R) → get_elem? views i ≡ some v → w.holds ≡ v.holds → AtHome stands o log homes views ⊎ IsOut stands o log homes views → AtHome stands o log homes (set views i w) ⊎ IsOut stands o log homes (set views i w)
  slot_set i v w at same = ⊎_elim
      (λ (h : AtHome stands o log homes views). inl record {
        held = h.held;
        home = h.home;
        stands_for = h.stands_for;
        entries = h.entries;
        free = each_set (λ _ (u : View O E R). u.holds ≡ false) (λ _ (u : View O E R). u.holds ≡ false) views i w (λ j u n e p. p) h.free (same ∙ h.free i v at);
      })
      (λ (h : IsOut stands o log homes views). inr (dite (ℕ_discrete h.id i)
      (λ is.
      let here : h.view ≡ v = some-injective h.view v (sym h.at ∙ ap (λ (n : ℕ). get_elem? views n) is ∙ at) in
      let held : w.holds ≡ true = same ∙ ap (λ (u : View O E R). u.holds) (sym here) ∙ h.holds in
      record { home = h.home; id = i; view = w; at = set_there views i v w at; holds = held })
      (λ apart. record { home = h.home; id = h.id; view = h.view; at = set_else views i h.id w apart ∙ h.at; holds = h.holds })))

  -- a new seat comes, and holds nothing
  pub slot_snoc : (w : View O E R) → w.holds ≡ false → AtHome stands o log homes views ⊎ IsOut stands o log homes views → AtHome stands o log homes (views ++ w ∷ []) ⊎ IsOut stands o log homes (views ++ w ∷ [])
  slot_snoc w none = ⊎_elim
      (λ (h : AtHome stands o log homes views). inl record {
        held = h.held;
        home = h.home;
        stands_for = h.stands_for;
        entries = h.entries;
        free = each_snoc (λ _ (u : View O E R). u.holds ≡ false) views w h.free (λ _. none);
      })
      (λ (h : IsOut stands o log homes views). inr record { home = h.home; id = h.id; view = h.view; at = at_longer views (w ∷ []) h.id h.view h.at; holds = h.holds })
