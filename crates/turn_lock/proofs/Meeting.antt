-- A new lock meets the rule, and split and join keep it.
use Rattle.std.proofs.Common.{◌≡◌, ℕ, zero, suc, ◌+◌, ◌<◌, ◌≤◌, false, List, [], ◌∷◌, length, set, Option, Some, None, refl, sym, ap, ◌∙◌, subst, inl, arith}
use Rattle.std.specs.Prelude.{slice_index, slice_set}
use mathlib.Core.Option.{some, some-injective, some-ne-none}
use native.Mathlib.Decide.{dec_le}
use lib.ListN.{get_elem?}
use Rattle.atomic_table.specs.Table.{Allows, Splits, Joins, keeps, opening}
use Rattle.atomic_table.proofs.Lists.{set_else}
use Rattle.turn_lock.specs.declared.view.View.{View}
use Rattle.turn_lock.specs.declared.view.Held.{Held}
use Rattle.turn_lock.specs.Places.{RisesFrom, times, longer}
use Rattle.turn_lock.specs.Turns.{waits, Fits, Kept}
use Rattle.turn_lock.specs.Steps.{newcomer, nobody, giving, joined, settled, Settled}
use Rattle.turn_lock.proofs.Lists.{prefix_length, longer_begins, rises_more, rises_merged, times_above, times_below, times-merged}
use Rattle.turn_lock.proofs.Totals.{total_set, total_at, total_two, total_snoc, each_set, each_snoc}
use Rattle.turn_lock.proofs.Slots.{off, slot_set, slot_snoc}

no_ticket : (t : ℕ) → None ≡ Some t → ⊥
no_ticket t e = cc

module _ {O : Type 0} where
  no_opening : (x : O) → None ≡ Some x → ⊥
  no_opening x e = cc

  same_opening : (o x : O) (a b : Option O) → a ≡ Some o → b ≡ Some o → a ≡ Some x → b ≡ Some x
  same_opening o x a b p q r = q ∙ sym p ∙ r

module _ {O E R M : Type 0} (stands : O → List (E × R) → M → Type 0) (o : O) where
  -- a machine without entries is in the slot, and one seat has all parts
  pub begins : (h : Held M) → stands o [] h.machine → h.entries ≡ 0 → Kept stands o (opening (0 ∷ 0 ∷ 0 ∷ []) (Some h ∷ []) (newcomer (Some o) [] 9223372036854775808))
  begins h stands_for entries = record {
    log = [];
    drawn = 0;
    served = 0;
    owner = λ _. 0;
    words = refl;
    parts = refl;
    tickets = refl;
    places = λ p a b. absurd (omega arith);
    each = one;
    slot = inl record { held = h; home = refl; stands_for = stands_for; entries = entries; free = free };
  }
    where
      first : View O E R
      first = newcomer (Some o) [] 9223372036854775808

      fits : (id : ℕ) → Fits o [] 0 0 (λ _. 0) id first
      fits id = record {
        opening = λ _. refl;
        seen = ([], refl);
        rising = tt;
        ticket = λ t e. absurd (no_ticket t e);
        holder = λ h. off h;
        spent = λ _. refl;
        before = ([], refl);
        told = ([], refl);
        also = λ x e. absurd (no_opening x e);
      }

      one : (id : ℕ) (v : View O E R) → get_elem? (first ∷ []) id ≡ some v → Fits o [] 0 0 (λ _. 0) id v
      one zero v e = subst (Fits o [] 0 0 (λ _. 0) 0) (some-injective first v e) (fits 0)
      one (suc id) v e = absurd (some-ne-none v (sym e))

      free : (id : ℕ) (v : View O E R) → get_elem? (first ∷ []) id ≡ some v → v.holds ≡ false
      free zero v e = ap (λ (u : View O E R). u.holds) (sym (some-injective first v e))
      free (suc id) v e = absurd (some-ne-none v (sym e))

  -- a seat gives some of its parts to a new one
  pub cuts : (id : ℕ) (v : View O E R) (n : ℕ) → 0 < n → n < v.parts → Splits (Kept stands o) id v (giving v n) (newcomer v.opening v.seen n)
  cuts id v n some_part fewer s k at =
      let left = giving v n in
      let right : View O E R = newcomer v.opening v.seen n in
      let views = set s.views id left in
      let mine = k.each id v at in
      record {
        log = k.log;
        drawn = k.drawn;
        served = k.served;
        owner = k.owner;
        words = k.words;
        parts = (let t = total_set (λ (u : View O E R). u.parts) s.views id v left at in let z = total_snoc (λ (u : View O E R). u.parts) views right in let p = k.parts in omega arith);
        tickets = (let t = total_set (λ (u : View O E R). waits u.ticket) s.views id v left at in let z = total_snoc (λ (u : View O E R). waits u.ticket) views right in let p = k.tickets in omega arith);
        places = (λ p a b. let t = total_set (λ (u : View O E R). times p u.own) s.views id v left at in let z = total_snoc (λ (u : View O E R). times p u.own) views right in let q = k.places p a b in omega arith);
        each = each_snoc (Fits o k.log k.drawn k.served k.owner) views right
            (each_set (Fits o k.log k.drawn k.served k.owner) (Fits o k.log k.drawn k.served k.owner) s.views id left (λ j u apart there f. f) k.each record {
              opening = λ _. mine.opening (omega arith);
              seen = mine.seen;
              rising = mine.rising;
              ticket = λ t e. (let f = mine.ticket t e in (f.0, f.1, f.2, omega arith));
              holder = mine.holder;
              spent = λ none. absurd (omega arith);
              before = mine.before;
              told = mine.told;
              also = mine.also;
            })
            (λ j. record {
              opening = λ _. mine.opening (omega arith);
              seen = mine.seen;
              rising = tt;
              ticket = λ t e. absurd (no_ticket t e);
              holder = λ h. off h;
              spent = λ _. refl;
              before = (v.seen, refl);
              told = (v.seen, refl);
              also = λ x e. absurd (no_opening x e);
            });
        slot = slot_snoc stands o k.log s.homes views right refl (slot_set stands o k.log s.homes s.views id v left at refl k.slot);
      }

  -- a seat takes in another's places and parts
  pub meets : (id : ℕ) (v : View O E R) (other : ℕ) (w : View O E R) → 0 < v.parts → 0 < w.parts → v.holds ≡ false → w.ticket ≡ None → w.holds ≡ false → Joins (Kept stands o) id v other w (joined v w) nobody
  meets id v other w some_part their_part free idle loose s k at apart there =
      let both = joined v w in
      let views = set s.views id both in
      let was : get_elem? s.views other ≡ some w = sym (set_else s.views id other both apart) ∙ there in
      let mine = k.each id v at in
      let theirs = k.each other w was in
      let begun = longer_begins v.seen w.seen k.log mine.seen theirs.seen in
      let short = prefix_length v.seen (longer v.seen w.seen) begun.0 in
      let short' = prefix_length w.seen (longer v.seen w.seen) begun.1 in
      let waiting = ap waits idle in
      record {
        log = k.log;
        drawn = k.drawn;
        served = k.served;
        owner = k.owner;
        words = k.words;
        parts = (let t = total_set (λ (u : View O E R). u.parts) s.views id v both at in let z = total_set (λ (u : View O E R). u.parts) views other w nobody there in let p = k.parts in omega arith);
        tickets = (let t = total_set (λ (u : View O E R). waits u.ticket) s.views id v both at in let z = total_set (λ (u : View O E R). waits u.ticket) views other w nobody there in let p = k.tickets in omega arith);
        places = (λ p a b.
            let t = total_set (λ (u : View O E R). times p u.own) s.views id v both at in
            let z = total_set (λ (u : View O E R). times p u.own) views other w nobody there in
            let m = times-merged p v.own w.own in
            let q = k.places p a b in omega arith);
        each = each_set (Fits o k.log k.drawn k.served k.owner) (Fits o k.log k.drawn k.served k.owner) views other nobody (λ j u n e f. f)
            (each_set (Fits o k.log k.drawn k.served k.owner) (Fits o k.log k.drawn k.served k.owner) s.views id both (λ j u n e f. f) k.each record {
              opening = λ _. mine.opening some_part;
              seen = begun.2;
              rising = rises_merged 0 v.own w.own (length (longer v.seen w.seen)) (once_each (k.each id v at).rising theirs.rising (prefix_length v.seen k.log mine.seen) (prefix_length w.seen k.log theirs.seen) (λ p a b. let two = total_two (λ (u : View O E R). times p u.own) s.views id other v w (λ h. apart (sym h)) at was in let q = k.places p a b in omega arith))
                  (rises_more 0 v.own (length v.seen) (length (longer v.seen w.seen)) short mine.rising)
                  (rises_more 0 w.own (length w.seen) (length (longer v.seen w.seen)) short' theirs.rising);
              ticket = λ t e. (let f = mine.ticket t e in (f.0, f.1, f.2, omega arith));
              holder = λ h. off (sym free ∙ h);
              spent = λ none. absurd (omega arith);
              before = begun.0;
              told = begun.1;
              also = λ x e. same_opening o x w.opening v.opening (theirs.opening their_part) (mine.opening some_part) e;
            })
            record {
              opening = λ h. absurd (omega arith);
              seen = (k.log, refl);
              rising = tt;
              ticket = λ t e. absurd (no_ticket t e);
              holder = λ h. off h;
              spent = λ _. refl;
              before = ([], refl);
              told = ([], refl);
              also = λ x e. absurd (no_opening x e);
            };
        slot = slot_set stands o k.log s.homes views other w nobody there (sym loose) (slot_set stands o k.log s.homes s.views id v both at refl k.slot);
      }
    where
      within : (p top : ℕ) (vs ws : List ℕ) (m n : ℕ) → RisesFrom 0 vs m → RisesFrom 0 ws n → m ≤ top → n ≤ top → (0 < p → p ≤ top → times p vs + times p ws ≤ 1) → Dec (1 ≤ p) → Dec (p ≤ top) → times p vs + times p ws ≤ 1
      within p top vs ws m n r r' le le' inside (no low) d = let h : 1 ≤ p → ⊥ = low in let a = times_below 0 vs m p r (omega arith) in let b = times_below 0 ws n p r' (omega arith) in omega arith
      within p top vs ws m n r r' le le' inside (yes up) (yes down) = let h = inside (omega arith) down in omega arith
      within p top vs ws m n r r' le le' inside (yes up) (no over) = let h : p ≤ top → ⊥ = over in let a = times_above 0 vs m p r (omega arith) in let b = times_above 0 ws n p r' (omega arith) in omega arith

      once_each : RisesFrom 0 v.own (length v.seen) → RisesFrom 0 w.own (length w.seen) → length v.seen ≤ length k.log → length w.seen ≤ length k.log → ((p : ℕ) → 0 < p → p ≤ length k.log → times p v.own + times p w.own ≤ 1) → (p : ℕ) → times p v.own + times p w.own ≤ 1
      once_each r r' le le' inside p = within p (length k.log) v.own w.own (length v.seen) (length w.seen) r r' le le' (inside p) (dec_le 1 p) (dec_le p (length k.log))

  -- what both seats had seen begins what the joined seat has seen, and there are 2^63 parts
  pub settles : (id : ℕ) (v : View O E R) (c : List (ℕ × Option (Held M))) → Allows (Kept stands o) 1 id (v, c) 0 (λ n. n) (Settled (v, c))
  settles id v c s k slots at small =
      let mine = k.each id v at in
      let w = settled v in (
        w,
        keeps,
        tt,
        record {
          log = k.log;
          drawn = k.drawn;
          served = k.served;
          owner = k.owner;
          words = ap (λ (ws : List ℕ). slice_set ws 0 (slice_index ws 0)) k.words;
          parts = (let t = total_set (λ (u : View O E R). u.parts) s.views id v w at in let p = k.parts in omega arith);
          tickets = (let t = total_set (λ (u : View O E R). waits u.ticket) s.views id v w at in let p = k.tickets in omega arith);
          places = (λ p a b. let t = total_set (λ (u : View O E R). times p u.own) s.views id v w at in let q = k.places p a b in omega arith);
          each = each_set (Fits o k.log k.drawn k.served k.owner) (Fits o k.log k.drawn k.served k.owner) s.views id w (λ j u apart there f. f) k.each record {
            opening = mine.opening;
            seen = mine.seen;
            rising = mine.rising;
            ticket = mine.ticket;
            holder = mine.holder;
            spent = mine.spent;
            before = (v.seen, refl);
            told = (v.seen, refl);
            also = λ x e. absurd (no_opening x e);
          };
          slot = slot_set stands o k.log s.homes s.views id v w at refl k.slot;
        },
        (refl, mine.before, mine.told, (let t = total_at (λ (u : View O E R). u.parts) s.views id v at in let p = k.parts in omega arith), mine.rising, mine.also),
      )
