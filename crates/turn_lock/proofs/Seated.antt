-- What a seat is after its calls, told of the views at the table.
use Rattle.std.proofs.Common.{◌≡◌, ℕ, ◌+◌, ◌<◌, ◌≤◌, List, [], ◌∷◌, ◌++◌, length, Option, Some, refl, sym, ap, ◌∙◌, subst, ⊎_elim, arith, length-append}
use Rattle.atomic_table.specs.Table.{Me, rest}
use Rattle.turn_lock.specs.declared.view.View.{View}
use Rattle.turn_lock.specs.declared.view.Held.{Held}
use Rattle.turn_lock.specs.Places.{RisesFrom, longer}
use Rattle.turn_lock.specs.Steps.{newcomer, drawing, taking, acted, leaving, joined, Settled, HasTurn, HoldsMachine}
use Rattle.turn_lock.specs.Seats.{IsSeated}
use Rattle.turn_lock.proofs.Lists.{prefix_length, longer_is, rises_more, rises_push}

module _ {S : Type 0} where
  -- the slot that is out with a seat is read by an exchange
  pub out_is : (l : List (ℕ × S)) (x : S) → l ≡ (0, x) ∷ [] → l ≡ (0, x) ∷ rest l
  out_is l x e = e ∙ ap (λ (k : List (ℕ × S)). (0, x) ∷ k) (sym (ap rest e))

module _ {O E R : Type 0} (legal : O → List (E × R) → Type 0) where
  longer_legal : (o : O) (xs ys : List (E × R)) → legal o xs → legal o ys → legal o (longer xs ys)
  longer_legal o xs ys l l' = ⊎_elim
      (λ (t : (length xs < length ys) × (longer xs ys ≡ ys)). subst (legal o) (sym t.1) l')
      (λ (t : (length ys ≤ length xs) × (longer xs ys ≡ xs)). subst (legal o) (sym t.1) l)
      (longer_is xs ys)

some_is : {O : Type 0} (c d : O) → Some c ≡ Some d → d ≡ c
some_is c d e = cc

opened_same : {O : Type 0} (o x : O) (a b : Option O) → b ≡ Some o → a ≡ Some x → ((y : O) → a ≡ Some y → b ≡ Some y) → x ≡ o
opened_same o x a b p q both = some_is o x (sym p ∙ both x q)

module _ {O E R S : Type 0} (legal : O → List (E × R) → Type 0) where
  pub first_seated : (o : O) (me : Me S (View O E R)) → me ≡ (newcomer (Some o) [] 9223372036854775808, []) → legal o [] → IsSeated legal me 9223372036854775808
  first_seated o me e l = subst (λ (m : Me S (View O E R)). IsSeated legal m 9223372036854775808) (sym e) record {
    idle = (refl, refl, refl, refl, refl);
    parts_are = refl;
    some_part = omega arith;
    no_more = omega arith;
    rising = tt;
    legally = (o, refl, l);
  }

  -- two seats in one
  pub joined_seated : (me me' m1 m2 : Me S (View O E R)) (p p' found : ℕ) → IsSeated legal me p → IsSeated legal me' p' → m1 ≡ (joined me.0 me'.0, me.1) → Settled m1 found m2 → IsSeated legal m2 (p + p')
  joined_seated me me' m1 m2 p p' found i j e told =
      let both : Me S (View O E R) = (joined me.0 me'.0, me.1) in
      let s = subst (λ (m : Me S (View O E R)). Settled m found m2) e told in
      let l = i.legally in
      let l' = j.legally in
      let same : l'.0 ≡ l.0 = opened_same l.0 l'.0 me'.0.opening me.0.opening l.1 l'.1 s.5 in
      let a = i.parts_are in
      let b = j.parts_are in
      let c = i.some_part in
      let d : me.0.parts + me'.0.parts ≤ 9223372036854775808 = s.3 in
      subst (λ (m : Me S (View O E R)). IsSeated legal m (p + p')) (sym s.0) record {
        idle = (i.idle.0, i.idle.1, i.idle.2, refl, refl);
        parts_are = omega arith;
        some_part = omega arith;
        no_more = omega arith;
        rising = s.4;
        legally = (l.0, l.1, longer_legal legal l.0 me.0.seen me'.0.seen l.2 (subst (λ (o : O). legal o me'.0.seen) same l'.2));
      }

module _ {O E R M : Type 0} (stands : O → List (E × R) → M → Type 0) where
  -- in its turn a seat holds the machine
  pub turn_holds : (v : View O E R) (m : Me (Option (Held M)) (View O E R)) → HasTurn stands v m → (h : Held M) × (m.1 ≡ (0, Some h) ∷ []) × HoldsMachine stands m.0 h.machine h.entries
  turn_holds v m h =
      let w : View O E R = taking (drawing v h.0) h.1.log in
      let e : m.0 ≡ w = ap (λ (x : Me (Option (Held M)) (View O E R)). x.0) h.1.now in
      (h.1.held, ap (λ (x : Me (Option (Held M)) (View O E R)). x.1) h.1.now, subst (λ (x : View O E R). HoldsMachine stands x h.1.held.machine h.1.held.entries) (sym e) record { holds = refl; stands_for = h.1.stands_for; entries_are = h.1.entries })

module _ {O E R M : Type 0} (stands : O → List (E × R) → M → Type 0) (legal : O → List (E × R) → Type 0) (me m1 m2 : Me (Option (Held M)) (View O E R)) (p : ℕ) (i : IsSeated legal me p) (h : HasTurn stands me.0 m1) (legally : (o : O) → m1.0.opening ≡ Some o → legal o m2.0.seen) where
  now_legal : (o : O) → me.0.opening ≡ Some o → legal o m2.0.seen
  now_legal o e = legally o (ap (λ (x : Me (Option (Held M)) (View O E R)). x.0.opening) h.1.now ∙ e)

  -- the seat after an entry
  pub acted_is : (e : E × R) → m2 ≡ (leaving (acted m1.0 e), []) → m2 ≡ (leaving (acted (taking (drawing me.0 h.0) h.1.log) e), [])
  acted_is e now = now ∙ ap (λ (x : Me (Option (Held M)) (View O E R)). (leaving (acted x.0 e), [])) h.1.now

  pub acted_seated : (e : E × R) → m2 ≡ (leaving (acted m1.0 e), []) → IsSeated legal m2 p
  acted_seated e now =
      let is = acted_is e now in
      let log = h.1.log in
      let l = i.legally in
      let more = prefix_length me.0.seen log h.1.grows in
      let long : length (log ++ e ∷ []) ≡ length log + 1 = length-append log (e ∷ []) in
      let law : legal l.0 (log ++ e ∷ []) = subst (legal l.0) (ap (λ (x : Me (Option (Held M)) (View O E R)). x.0.seen) is) (now_legal l.0 l.1) in
      subst (λ (m : Me (Option (Held M)) (View O E R)). IsSeated legal m p) (sym is) record {
        idle = (refl, refl, refl, i.idle.3, i.idle.4);
        parts_are = i.parts_are;
        some_part = i.some_part;
        no_more = i.no_more;
        rising = subst (RisesFrom 0 (me.0.own ++ (length log + 1) ∷ [])) (sym long) (rises_push 0 me.0.own (length log) (omega arith) (rises_more 0 me.0.own (length me.0.seen) (length log) more i.rising));
        legally = (l.0, l.1, law);
      }

  pub refused_is : m2 ≡ (leaving m1.0, []) → m2 ≡ (leaving (taking (drawing me.0 h.0) h.1.log), [])
  refused_is now = now ∙ ap (λ (x : Me (Option (Held M)) (View O E R)). (leaving x.0, [])) h.1.now

  pub refused_seated : m2 ≡ (leaving m1.0, []) → IsSeated legal m2 p
  refused_seated now =
      let is = refused_is now in
      let log = h.1.log in
      let l = i.legally in
      let law : legal l.0 log = subst (legal l.0) (ap (λ (x : Me (Option (Held M)) (View O E R)). x.0.seen) is) (now_legal l.0 l.1) in
      subst (λ (m : Me (Option (Held M)) (View O E R)). IsSeated legal m p) (sym is) record {
        idle = (refl, refl, refl, i.idle.3, i.idle.4);
        parts_are = i.parts_are;
        some_part = i.some_part;
        no_more = i.no_more;
        rising = rises_more 0 me.0.own (length me.0.seen) (length log) (prefix_length me.0.seen log h.1.grows) i.rising;
        legally = (l.0, l.1, law);
      }
