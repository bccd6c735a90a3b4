-- Sums over the views of all seats, and a fact of each view where one of them changes.
use Rattle.std.proofs.Common.{◌≡◌, ◌≢◌, ℕ, zero, suc, ◌+◌, ◌≤◌, List, [], ◌∷◌, ◌++◌, set, refl, sym, ap, subst, ⊎_elim, arith}
use mathlib.Core.Option.{some, some-ne-none, some-injective}
use lib.ListN.{get_elem?}
use Rattle.atomic_table.proofs.Lists.{at_set, at_snoc}
use Rattle.turn_lock.specs.Turns.{total}

module _ {V : Type 0} (f : V → ℕ) where
  pub total_set : (views : List V) (i : ℕ) (v w : V) → get_elem? views i ≡ some v → total f (set views i w) + f v ≡ total f views + f w
  total_set [] i v w e = absurd (some-ne-none v (sym e))
  total_set (x ∷ xs) zero v w e = let s = ap f (some-injective x v e) in omega arith
  total_set (x ∷ xs) (suc i) v w e = let s = total_set xs i v w e in omega arith

  pub total_at : (views : List V) (i : ℕ) (v : V) → get_elem? views i ≡ some v → f v ≤ total f views
  total_at [] i v e = absurd (some-ne-none v (sym e))
  total_at (x ∷ xs) zero v e = let s = ap f (some-injective x v e) in omega arith
  total_at (x ∷ xs) (suc i) v e = let s = total_at xs i v e in omega arith

  pub total_two : (views : List V) (i j : ℕ) (v w : V) → i ≢ j → get_elem? views i ≡ some v → get_elem? views j ≡ some w → f v + f w ≤ total f views
  total_two [] i j v w n e d = absurd (some-ne-none v (sym e))
  total_two (x ∷ xs) zero zero v w n e d = absurd (n refl)
  total_two (x ∷ xs) zero (suc j) v w n e d = let s = ap f (some-injective x v e) in let t = total_at xs j w d in omega arith
  total_two (x ∷ xs) (suc i) zero v w n e d = let s = ap f (some-injective x w d) in let t = total_at xs i v e in omega arith
  total_two (x ∷ xs) (suc i) (suc j) v w n e d = let s = total_two xs i j v w (λ h. n (ap suc h)) e d in omega arith

  pub total_snoc : (views : List V) (w : V) → total f (views ++ w ∷ []) ≡ total f views + f w
  total_snoc [] w = omega arith
  total_snoc (x ∷ xs) w = let s = total_snoc xs w in omega arith

  pub total_none : (views : List V) → ((i : ℕ) (v : V) → get_elem? views i ≡ some v → f v ≡ 0) → total f views ≡ 0
  total_none [] none = refl
  total_none (x ∷ xs) none = let s = none zero x refl in let t = total_none xs (λ i v e. none (suc i) v e) in omega arith

  -- the sum is one seat's, where the others add nothing
  pub total_one : (views : List V) (i : ℕ) (v : V) → get_elem? views i ≡ some v → ((j : ℕ) (u : V) → j ≢ i → get_elem? views j ≡ some u → f u ≡ 0) → total f views ≡ f v
  total_one [] i v e none = absurd (some-ne-none v (sym e))
  total_one (x ∷ xs) zero v e none =
      let s = ap f (some-injective x v e) in
      let t = total_none xs (λ j u d. none (suc j) u (λ h. omega arith) d) in
      omega arith
  total_one (x ∷ xs) (suc i) v e none =
      let s = none zero x (λ h. omega arith) refl in
      let t = total_one xs i v e (λ j u n d. none (suc j) u (λ h. n (omega arith)) d) in
      omega arith

module _ {V : Type 0} (f h : V → ℕ) where
  pub total_le : (views : List V) → ((i : ℕ) (v : V) → get_elem? views i ≡ some v → f v ≤ h v) → total f views ≤ total h views
  total_le [] le = omega arith
  total_le (x ∷ xs) le = let s = le zero x refl in let t = total_le xs (λ i v e. le (suc i) v e) in omega arith

module _ {V : Type 0} (P Q : ℕ → V → Type 0) where
  -- one view changes, and the others keep what is said of them
  pub each_set : (views : List V) (i : ℕ) (w : V) → ((j : ℕ) (u : V) → j ≢ i → get_elem? views j ≡ some u → P j u → Q j u) → ((j : ℕ) (u : V) → get_elem? views j ≡ some u → P j u) → Q i w → (j : ℕ) (u : V) → get_elem? (set views i w) j ≡ some u → Q j u
  each_set views i w keep all mine j u e =
      ⊎_elim
      (λ (t : (j ≡ i) × (w ≡ u)). subst (λ (y : ℕ × V). Q y.0 y.1) (λ k. (sym t.0 k, t.1 k)) mine)
      (λ (t : (j ≢ i) × (get_elem? views j ≡ some u)). keep j u t.0 t.1 (all j u t.1))
      (at_set views i j w u e)

module _ {V : Type 0} (P : ℕ → V → Type 0) where
  -- a new view comes behind the others
  pub each_snoc : (views : List V) (w : V) → ((j : ℕ) (u : V) → get_elem? views j ≡ some u → P j u) → ((j : ℕ) → P j w) → (j : ℕ) (u : V) → get_elem? (views ++ w ∷ []) j ≡ some u → P j u
  each_snoc views w all new j u e = ⊎_elim (λ was. all j u was) (λ (same : w ≡ u). subst (P j) same (new j)) (at_snoc views w u j e)
