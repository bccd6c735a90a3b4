-- The laws of chains of calls, and of predicates on the entries that seats own.
use Rattle.std.proofs.Common.{◌≡◌, ◌⊎◌, ℕ, zero, suc, ◌+◌, ◌<◌, ◌≤◌, List, [], ◌∷◌, ◌++◌, length, refl, sym, ap, ◌∙◌, subst, inl, inr, ⊎_elim, append_assoc, append-nil, arith}
use Rattle.std.specs.Prelude.{All, slice_index_or}
use native.Mathlib.Decide.{dec_le, dec_lt, ℕ_discrete}
use Rattle.atomic_table.specs.Seated.{TableId}
use Rattle.turn_lock.specs.Places.{IsPrefix, IsAt, merged, times, upto}
use Rattle.turn_lock.specs.Seats.{SeatView, first_seat, split_seat, joined_seat, IsSameSeat, Adds, Sees}
use Rattle.turn_lock.specs.Gains.{AreAt, Gains, OwnAre, Grew}
use Rattle.turn_lock.proofs.Lists.{one_if, one_if_same, one_if_other, prefix_refl, prefix_then, times-append, times-merged}

module _ {A : Type 0} where
  pub at_longer : (xs ys : List A) (p : ℕ) (e : A) → IsPrefix xs ys → IsAt xs p e → IsAt ys p e
  at_longer xs ys p e begun at = (at.0, at.1, prefix_then (at.0 ++ e ∷ []) xs ys at.2 begun)

  pub are_longer : (xs ys : List A) → IsPrefix xs ys → (es : List A) (ps : List ℕ) → AreAt xs es ps → AreAt ys es ps
  are_longer xs ys begun [] ps are = are
  are_longer xs ys begun (e ∷ es) ps are = (are.0, are.1, are.2, at_longer xs ys are.0 e begun are.3, are_longer xs ys begun es are.1 are.4)

  pub are_append : (log es fs : List A) (ps qs : List ℕ) → AreAt log es ps → AreAt log fs qs → AreAt log (es ++ fs) (ps ++ qs)
  are_append log [] fs ps qs a b = subst (λ (l : List ℕ). AreAt log fs (l ++ qs)) (sym a) b
  are_append log (e ∷ es) fs ps qs a b = (a.0, a.1 ++ qs, ap (λ (l : List ℕ). l ++ qs) a.2, a.3, are_append log es fs a.1 qs a.4 b)

  index_at : (front rest : List A) (e d : A) (k : ℕ) → k ≡ length front → slice_index_or (front ++ (e ∷ rest)) k d ≡ e
  index_at [] rest e d zero is = refl
  index_at [] rest e d (suc k) is = absurd (omega arith)
  index_at (c ∷ cs) rest e d zero is = absurd (omega arith)
  index_at (c ∷ cs) rest e d (suc k) is = index_at cs rest e d k (omega arith)

  pub entry_at : (log : List A) (k : ℕ) (e d : A) → IsAt log (k + 1) e → slice_index_or log k d ≡ e
  entry_at log k e d at =
      let whole : at.0 ++ (e ∷ at.2.0) ≡ log = sym (append_assoc at.0 (e ∷ []) at.2.0) ∙ at.2.1 in
      let n = at.1 in
      ap (λ (l : List A). slice_index_or l k d) (sym whole) ∙ index_at at.0 at.2.0 e d k (omega arith)

pub none_upto : (low n p : ℕ) → p ≤ low → times p (upto low n) ≡ 0
none_upto low zero p le = refl
none_upto low (suc n) p le =
    let other = one_if_other (suc low) p (λ h. omega arith) in
    let rest = none_upto (suc low) n p (omega arith) in
    omega arith

-- each of these numbers stands there once
pub once_upto : (low n p : ℕ) → low < p → p ≤ low + n → times p (upto low n) ≡ 1
once_upto low zero p lt le = absurd (omega arith)
once_upto low (suc n) p lt le = cases (dec_le p (suc low)) (λ above. once_upto (suc low) n p above (omega arith))
  where
    cases : Dec (p ≤ suc low) → (suc low < p → times p (upto (suc low) n) ≡ 1) → one_if (suc low) p + times p (upto (suc low) n) ≡ 1
    cases (yes le) rest = let one = one_if_same (suc low) p (omega arith) in let none = none_upto (suc low) n p le in omega arith
    cases (no above) rest =
        let far : p ≤ suc low → ⊥ = above in
        let h = rest (omega arith) in
        let other = one_if_other (suc low) p (λ same. far (omega arith)) in
        omega arith

module _ {O E R X : Type 0} (legal : O → List (E × R) → Type 0) where
  pub gains_none : (v : SeatView O E R X) → Gains legal v [] v
  gains_none v = record { same = record { shared = refl; opening = refl; parts = refl }; grows = prefix_refl v.seen; gained = []; own = sym (append-nil v.own); are = refl; legally = λ l. l }

  pub gains_act : (v w : SeatView O E R X) (e : E × R) → IsSameSeat v w → Adds legal v e w → Gains legal v (e ∷ []) w
  gains_act v w e same adds = record {
    same = same;
    grows = subst (IsPrefix v.seen) (sym adds.seen) (prefix_then v.seen adds.log (adds.log ++ e ∷ []) adds.grows (e ∷ [], refl));
    gained = (length adds.log + 1) ∷ [];
    own = adds.own;
    are = (length adds.log + 1, [], refl, (adds.log, refl, ([], append-nil (adds.log ++ e ∷ []) ∙ sym adds.seen)), refl);
    legally = λ _. adds.legally;
  }

  pub gains_see : (v w : SeatView O E R X) (tells : O → List (E × R) → Type 0) → IsSameSeat v w → Sees (λ o log. legal o log × tells o log) v w → Gains legal v [] w
  gains_see v w tells same sees = record {
    same = same;
    grows = sees.grows;
    gained = [];
    own = sees.own ∙ sym (append-nil v.own);
    are = refl;
    legally = λ _. (sees.told.0, sees.told.1, sees.told.2.0);
  }

  pub gains_then : (v w u : SeatView O E R X) (es fs : List (E × R)) → Gains legal v es w → Gains legal w fs u → Gains legal v (es ++ fs) u
  gains_then v w u es fs a b = record {
    same = record { shared = b.same.shared ∙ a.same.shared; opening = b.same.opening ∙ a.same.opening; parts = b.same.parts ∙ a.same.parts };
    grows = prefix_then v.seen w.seen u.seen a.grows b.grows;
    gained = a.gained ++ b.gained;
    own = b.own ∙ ap (λ (l : List ℕ). l ++ b.gained) a.own ∙ append_assoc v.own a.gained b.gained;
    are = are_append u.seen es fs a.gained b.gained (are_longer w.seen u.seen b.grows es a.gained a.are) b.are;
    legally = λ l. b.legally (a.legally l);
  }

module _ {A : Type 0} (Q : A → Type 0) where
  all_own : (rest : List ℕ) (log es : List A) (p : ℕ) → AreAt log es rest → All Q es → 0 < times p rest → (e : A) × IsAt log p e × Q e
  all_own rest log [] p are all h = absurd (let z = ap (times p) are in omega arith)
  all_own rest log (e ∷ es) p are all h = cases (ℕ_discrete are.0 p) (λ more. all_own are.1 log es p are.4 (λ k d lt. all (suc k) d (omega arith)) more)
    where
      split : times p rest ≡ one_if are.0 p + times p are.1
      split = ap (times p) are.2

      cases : Dec (are.0 ≡ p) → (0 < times p are.1 → (x : A) × IsAt log p x × Q x) → (x : A) × IsAt log p x × Q x
      cases (yes same) more = (e, subst (λ (q : ℕ). IsAt log q e) same are.3, all 0 e (omega arith))
      cases (no apart) more = let s = split in let z = one_if_other are.0 p apart in more (omega arith)

module _ {O E R X : Type 0} (Q : E × R → Type 0) where
  -- a seat that owns no entry
  pub own_none : (v : SeatView O E R X) → v.own ≡ [] → OwnAre Q v
  own_none v none p h = absurd (let z = ap (times p) none in omega arith)

  pub own_first : (v : SeatView O E R X) (id : TableId) (o : O) → v ≡ first_seat id o → OwnAre Q v
  own_first v id o is = own_none v (ap (λ (x : SeatView O E R X). x.own) is)

  pub own_split : (v w : SeatView O E R X) (parts : ℕ) → w ≡ split_seat v parts → OwnAre Q w
  own_split v w parts is = own_none w (ap (λ (x : SeatView O E R X). x.own) is)

  pub own_grew : (v w : SeatView O E R X) → OwnAre Q v → Grew Q v w → OwnAre Q w
  own_grew v w own grew p h = ⊎_elim (λ (was : 0 < times p v.own). let f = own p was in (f.0, at_longer v.seen w.seen p f.0 grew.0 f.1, f.2)) (λ (f : (e : E × R) × IsAt w.seen p e × Q e). f) (grew.1 p h)

  pub grew_none : (v : SeatView O E R X) → Grew Q v v
  grew_none v = (prefix_refl v.seen, λ p h. inl h)

  pub grew_then : (v w u : SeatView O E R X) → Grew Q v w → Grew Q w u → Grew Q v u
  grew_then v w u a b = (
    prefix_then v.seen w.seen u.seen a.0 b.0,
    λ p h. ⊎_elim
        (λ (was : 0 < times p w.own). ⊎_elim (λ (before : 0 < times p v.own). inl before) (λ (f : (e : E × R) × IsAt w.seen p e × Q e). inr (f.0, at_longer w.seen u.seen p f.0 b.0 f.1, f.2)) (a.1 p was))
        (λ (f : (e : E × R) × IsAt u.seen p e × Q e). inr f)
        (b.1 p h),
  )

  -- an act whose entry is Q
  pub grew_act : (legal : O → List (E × R) → Type 0) (v w : SeatView O E R X) (e : E × R) → IsSameSeat v w → Adds legal v e w → Q e → Grew Q v w
  grew_act legal v w e same adds q = (
    subst (IsPrefix v.seen) (sym adds.seen) (prefix_then v.seen adds.log (adds.log ++ e ∷ []) adds.grows (e ∷ [], refl)),
    λ p h. cases p h (ℕ_discrete (length adds.log + 1) p),
  )
    where
      cases : (p : ℕ) → 0 < times p w.own → Dec (length adds.log + 1 ≡ p) → (0 < times p v.own) ⊎ ((x : E × R) × IsAt w.seen p x × Q x)
      cases p h (yes here) = inr (e, (adds.log, sym here, ([], append-nil (adds.log ++ e ∷ []) ∙ sym adds.seen)), q)
      cases p h (no apart) =
          let z = one_if_other (length adds.log + 1) p apart in
          let m = times-append p v.own ((length adds.log + 1) ∷ []) in
          let s = ap (times p) adds.own in
          inl (omega arith)

  -- an act that was refused
  pub grew_see : (tells : O → List (E × R) → Type 0) (v w : SeatView O E R X) → Sees tells v w → Grew Q v w
  grew_see tells v w sees = (sees.grows, λ p h. inl (subst (λ (own : List ℕ). 0 < times p own) sees.own h))

  -- a seat that gives parts away
  pub grew_split : (v w : SeatView O E R X) (parts : ℕ) → w ≡ record v { parts = parts } → Grew Q v w
  grew_split v w parts is = subst (λ (s : SeatView O E R X). Grew Q v s) (sym is) (prefix_refl v.seen, λ p h. inl h)

  -- a seat that takes in another, whose entries are all Q
  pub grew_join : (v other w : SeatView O E R X) → w ≡ joined_seat v other → IsPrefix v.seen w.seen → IsPrefix other.seen w.seen → OwnAre Q other → Grew Q v w
  grew_join v other w is grows told own = (grows, λ p h. cases p h (dec_lt 0 (times p v.own)))
    where
      cases : (p : ℕ) → 0 < times p w.own → Dec (0 < times p v.own) → (0 < times p v.own) ⊎ ((e : E × R) × IsAt w.seen p e × Q e)
      cases p h (yes was) = inl was
      cases p h (no new) =
          let none : 0 < times p v.own → ⊥ = new in
          let m = times-merged p v.own other.own in
          let s : times p w.own ≡ times p (merged v.own other.own) = ap (λ (x : SeatView O E R X). times p x.own) is in
          let f = own p (omega arith) in
          inr (f.0, at_longer other.seen w.seen p f.0 told f.1, f.2)

  -- a chain of calls whose entries are all Q
  pub grew_gains : (legal : O → List (E × R) → Type 0) (v w : SeatView O E R X) (es : List (E × R)) → Gains legal v es w → All Q es → Grew Q v w
  grew_gains legal v w es g all = (g.grows, λ p h. cases p h (dec_lt 0 (times p v.own)))
    where
      cases : (p : ℕ) → 0 < times p w.own → Dec (0 < times p v.own) → (0 < times p v.own) ⊎ ((e : E × R) × IsAt w.seen p e × Q e)
      cases p h (yes was) = inl was
      cases p h (no new) =
          let none : 0 < times p v.own → ⊥ = new in
          let m = times-append p v.own g.gained in
          let s = ap (times p) g.own in
          inr (all_own Q g.gained w.seen es p g.are all (omega arith))

  -- a seat that owns each place of its history: each entry of the history is Q
  pub whole_are : (v : SeatView O E R X) → OwnAre Q v → v.own ≡ upto 0 (length v.seen) → All Q v.seen
  whole_are v own whole k d lt =
      let here : times (k + 1) v.own ≡ times (k + 1) (upto 0 (length v.seen)) = ap (times (k + 1)) whole in
      let once = once_upto 0 (length v.seen) (k + 1) (omega arith) (omega arith) in
      let f = own (k + 1) (omega arith) in
      subst Q (sym (entry_at v.seen k f.0 d f.1)) f.2
