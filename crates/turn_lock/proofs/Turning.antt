-- The steps of a turn keep the rule: draw, look, count, serve.
use Rattle.std.proofs.Common.{◌≡◌, ◌≢◌, ℕ, ◌+◌, ◌%◌, ◌^◌, ◌<◌, ◌≤◌, ◌==◌, Bool, true, false, cond, List, [], ◌∷◌, ◌++◌, length, Option, Some, None, refl, sym, ap, ◌∙◌, subst, inl, inr, ⊎_elim, arith, length-append, append-nil}
use Rattle.std.specs.Prelude.{slice_index, slice_set}
use mathlib.Core.Option.{some, none, some-injective}
use mathlib.Core.Option as maybe
use mathlib.Core.Logic.{dite}
use native.Mathlib.Decide.{ℕ_discrete, dec_le}
use lib.ListN.{get_elem?}
use Rattle.atomic_table.specs.Table.{State, Act, Allows, Valid, keeps, takes, gives, stepped, carried_after}
use Rattle.atomic_table.proofs.Lists.{set_again}
use Rattle.turn_lock.specs.declared.view.View.{View}
use Rattle.turn_lock.specs.declared.view.Held.{Held}
use Rattle.turn_lock.specs.Places.{IsPrefix, RisesFrom, times, capped, upto}
use Rattle.turn_lock.specs.Turns.{waits, Fits, AtHome, IsOut, Kept}
use Rattle.turn_lock.specs.Steps.{drawing, taking, acted, leaving, Drew, Looked, Counted, Served}
use Rattle.turn_lock.proofs.Lists.{one_if, one_if_same, one_if_other, prefix_refl, prefix_then, prefix_length, prefix_whole, rises_more, rises_push, times_above, times-append, whole_rising}
use Rattle.turn_lock.proofs.Totals.{total_set, total_two, total_one, total_none, each_set}
use Rattle.turn_lock.proofs.Slots.{match_true, match_false, same_number, other_number, off, not_true, set_there, few_wait, one_holds, slot_set}

ticket_is : (a b : ℕ) → Some a ≡ Some b → a ≡ b
ticket_is a b e = cc

none_is : (t : Option ℕ) (a : ℕ) → t ≡ None → t ≡ Some a → ⊥
none_is t a e f = cc

module _ {O E R M : Type 0} (stands : O → List (E × R) → M → Type 0) (o : O) where
  -- one more ticket is drawn, and is this seat's
  pub draws : (id : ℕ) (v : View O E R) (c : List (ℕ × Option (Held M))) → 0 < v.parts → v.ticket ≡ None → v.holds ≡ false
      → Allows (Kept stands o) 1 id (v, c) 1 (λ n. (n + 1) % 2 ^ 64) (Drew (v, c))
  draws id v c some_part idle free s k slots at small =
      let w = drawing v k.drawn in
      let owner : ℕ → ℕ = λ t. cond (t == k.drawn) id (k.owner t) in
      let mine = k.each id v at in (
        w,
        keeps,
        tt,
        record {
          log = k.log;
          drawn = k.drawn + 1;
          served = k.served;
          owner = owner;
          words = ap (λ (ws : List ℕ). slice_set ws 1 ((slice_index ws 1 + 1) % 2 ^ 64)) k.words ∙ ap (λ (n : ℕ). length k.log % 18446744073709551616 ∷ n ∷ k.served % 18446744073709551616 ∷ []) (let d : ℕ = k.drawn in let e : (d % 18446744073709551616 + 1) % 18446744073709551616 ≡ (d + 1) % 18446744073709551616 = omega arith in e);
          parts = (let t = total_set (λ (u : View O E R). u.parts) s.views id v w at in let p = k.parts in omega arith);
          tickets = (let t = total_set (λ (u : View O E R). waits u.ticket) s.views id v w at in let p = k.tickets in let z = ap waits idle in omega arith);
          places = (λ p a b. let t = total_set (λ (u : View O E R). times p u.own) s.views id v w at in let q = k.places p a b in omega arith);
          each = each_set (Fits o k.log k.drawn k.served k.owner) (Fits o k.log (k.drawn + 1) k.served owner) s.views id w
              (λ j u apart there f. record {
                opening = f.opening;
                seen = f.seen;
                rising = f.rising;
                ticket = λ t e. (let g = f.ticket t e in let lt : t < k.drawn = g.2 in (ap (λ (b : Bool). cond b id (k.owner t)) (other_number t k.drawn (λ same. omega arith)) ∙ g.0, g.1, omega arith, g.3));
                holder = f.holder;
                spent = f.spent;
                before = f.before;
                told = f.told;
                also = f.also;
              })
              k.each
              record {
                opening = mine.opening;
                seen = mine.seen;
                rising = mine.rising;
                ticket = λ t e. (let is : k.drawn ≡ t = ticket_is k.drawn t e in let d = k.tickets in (ap (λ (b : Bool). cond b id (k.owner t)) (same_number t k.drawn (sym is)), omega arith, omega arith, some_part));
                holder = λ h. off (sym free ∙ h);
                spent = mine.spent;
                before = mine.before;
                told = mine.told;
                also = mine.also;
              };
          slot = slot_set stands o k.log s.homes s.views id v w at refl k.slot;
        },
        (k.drawn, ap (λ (ws : List ℕ). slice_index ws 1) k.words, refl),
      )

module _ {O E R M : Type 0} (stands : O → List (E × R) → M → Type 0) (o : O) (id : ℕ) (v : View O E R) (t : ℕ) (drew : v.ticket ≡ Some t) (free : v.holds ≡ false) (s : State (Option (Held M)) (View O E R)) (k : Kept stands o s) (at : get_elem? s.views id ≡ some v) where
  -- how a look ends: with a view and an act that keep the rule
  abbrev LookEnds : Type 0
  LookEnds = (w : View O E R) × (a : Act (Option (Held M))) × Valid s.homes [] a × Kept stands o (stepped s 2 (slice_index s.words 2) id [] w a) × Looked stands (v, []) (slice_index s.words 2) (w, carried_after [] a)

  look_words : slice_set s.words 2 (slice_index s.words 2) ≡ length k.log % 18446744073709551616 ∷ k.drawn % 18446744073709551616 ∷ k.served % 18446744073709551616 ∷ []
  look_words = ap (λ (ws : List ℕ). slice_set ws 2 (slice_index ws 2)) k.words

  look_found : slice_index s.words 2 ≡ k.served % 18446744073709551616
  look_found = ap (λ (ws : List ℕ). slice_index ws 2) k.words

  -- where the ticket is served, the machine is at home
  machine_home : k.served ≡ t → AtHome stands o k.log s.homes s.views
  machine_home served = ⊎_elim
      (λ h. h)
      (λ (h : IsOut stands o k.log s.homes s.views).
      let is : h.id ≡ id = one_holds stands o s k id h.id v h.view at h.at (drew ∙ ap (λ (n : ℕ). Some n) (sym served)) h.holds in
      let same : h.view ≡ v = some-injective h.view v (sym h.at ∙ ap (λ (n : ℕ). get_elem? s.views n) is ∙ at) in
      off (sym free ∙ ap (λ (u : View O E R). u.holds) (sym same) ∙ h.holds))
      k.slot

  -- a seat with all parts owns every place
  all_places : v.parts ≡ 9223372036854775808 → (v.seen ≡ k.log) × (v.own ≡ upto 0 (length k.log))
  all_places all =
      let mine = k.each id v at in
      let alone : (j : ℕ) (u : View O E R) → j ≢ id → get_elem? s.views j ≡ some u → u.parts ≡ 0 =
      λ j u apart there. let two = total_two (λ (x : View O E R). x.parts) s.views id j v u (λ h. apart (sym h)) at there in let p = k.parts in omega arith in
      let owns : (p : ℕ) → 0 < p → p ≤ length k.log → times p v.own ≡ 1 =
      λ p above below.
      let one = total_one (λ (x : View O E R). times p x.own) s.views id v at (λ j u apart there. ap (times p) ((k.each j u there).spent (alone j u apart there))) in
      let q = k.places p above below in omega arith in
      let rises : RisesFrom 0 v.own (length k.log) = rises_more 0 v.own (length v.seen) (length k.log) (prefix_length v.seen k.log mine.seen) mine.rising in
      let whole : v.own ≡ upto 0 (length k.log) = whole_rising 0 (length k.log) (length k.log) v.own (omega arith) rises (λ p above below. let q = owns p above below in omega arith) in
      let long : length k.log ≤ length v.seen = last_seen (length k.log) (dec_le (length k.log) (length v.seen)) (λ p above below over. let q = owns p above below in let z = times_above 0 v.own (length v.seen) p mine.rising over in omega arith) in
      (prefix_whole v.seen k.log mine.seen long, whole)
    where
      last_seen : (n : ℕ) → Dec (n ≤ length v.seen) → ((p : ℕ) → 0 < p → p ≤ n → length v.seen < p → ⊥) → n ≤ length v.seen
      last_seen n (yes le) over = le
      last_seen n (no above) over = absurd (over n (let h : n ≤ length v.seen → ⊥ = above in omega arith) (omega arith) (let h : n ≤ length v.seen → ⊥ = above in omega arith))

  look_turn : k.served ≡ t → LookEnds
  look_turn served =
      let mine = k.each id v at in
      let h = machine_home served in
      let w = taking v k.log in
      let more = prefix_length v.seen k.log mine.seen in (
        w,
        takes 0 (Some h.held),
        ap (λ (hs : List (maybe.Option (Option (Held M)))). get_elem? hs 0) h.home,
        record {
          log = k.log;
          drawn = k.drawn;
          served = k.served;
          owner = k.owner;
          words = look_words;
          parts = (let t = total_set (λ (u : View O E R). u.parts) s.views id v w at in let p = k.parts in omega arith);
          tickets = (let t = total_set (λ (u : View O E R). waits u.ticket) s.views id v w at in let p = k.tickets in omega arith);
          places = (λ p a b. let t = total_set (λ (u : View O E R). times p u.own) s.views id v w at in let q = k.places p a b in omega arith);
          each = each_set (Fits o k.log k.drawn k.served k.owner) (Fits o k.log k.drawn k.served k.owner) s.views id w (λ j u apart there f. f) k.each record {
            opening = mine.opening;
            seen = prefix_refl k.log;
            rising = rises_more 0 v.own (length v.seen) (length k.log) more mine.rising;
            ticket = mine.ticket;
            holder = λ _. (drew ∙ ap (λ (n : ℕ). Some n) (sym served), refl);
            spent = mine.spent;
            before = prefix_then v.before v.seen k.log mine.before mine.seen;
            told = prefix_then v.told v.seen k.log mine.told mine.seen;
            also = mine.also;
          };
          slot = inr record { home = ap (λ (hs : List (maybe.Option (Option (Held M)))). slice_set hs 0 none) h.home; id = id; view = w; at = set_there s.views id v w at; holds = refl };
        },
        λ u e.
            let is : k.served ≡ u = served ∙ ticket_is t u (sym drew ∙ e) in
            match_true (slice_index s.words 2 == u % 18446744073709551616) _ _
            (same_number (slice_index s.words 2) (u % 18446744073709551616) (look_found ∙ ap (λ (n : ℕ). n % 18446744073709551616) is))
            record {
              log = k.log;
              held = h.held;
              grows = mine.seen;
              now = refl;
              stands_for = λ x f.
                  let p = (mine.ticket t drew).3 in
                  let same : o ≡ x = let g = mine.opening p in opening_is o x (sym g ∙ f) in
                  subst (λ (y : O). stands y k.log h.held.machine) same h.stands_for;
              entries = h.entries;
              whole = all_places;
            },
      )
    where
      opening_is : (a b : O) → Some a ≡ Some b → a ≡ b
      opening_is a b e = cc

  look_wait : k.served ≢ t → LookEnds
  look_wait apart =
      let mine = (k.each id v at).ticket t drew in
      let few = few_wait stands o s k in
      let le : k.served ≤ t = mine.1 in
      let lt : t < k.drawn = mine.2 in
      let differ : k.served % 18446744073709551616 ≢ t % 18446744073709551616 = apart_words k.served t (λ h. apart h) le (omega arith) in
      let still : Kept stands o record { words = slice_set s.words 2 (slice_index s.words 2); homes = s.homes; views = s.views } = record {
        log = k.log;
        drawn = k.drawn;
        served = k.served;
        owner = k.owner;
        words = look_words;
        parts = k.parts;
        tickets = k.tickets;
        places = k.places;
        each = k.each;
        slot = k.slot;
      } in (
        v,
        keeps,
        tt,
        subst (λ (vs : List (View O E R)). Kept stands o record { words = slice_set s.words 2 (slice_index s.words 2); homes = s.homes; views = vs }) (sym (set_again s.views id v at)) still,
        λ u e.
            let is : t ≡ u = ticket_is t u (sym drew ∙ e) in
            match_false (slice_index s.words 2 == u % 18446744073709551616) _ _
            (other_number (slice_index s.words 2) (u % 18446744073709551616) (λ same. differ (sym look_found ∙ same ∙ ap (λ (n : ℕ). n % 18446744073709551616) (sym is))))
            refl,
      )
    where
      apart_words : (a b : ℕ) → a ≢ b → a ≤ b → b < a + 18446744073709551616 → a % 18446744073709551616 ≢ b % 18446744073709551616
      apart_words a b n le lt same = n (omega arith)

module _ {O E R M : Type 0} (stands : O → List (E × R) → M → Type 0) (o : O) where
  -- the word is read, and where the ticket is served the machine is taken
  pub looks : (id : ℕ) (v : View O E R) (t : ℕ) → v.ticket ≡ Some t → v.holds ≡ false
      → Allows (Kept stands o) 1 id (v, []) 2 (λ n. n) (Looked stands (v, []))
  looks id v t drew free s k slots at small = dite (ℕ_discrete k.served t) (look_turn stands o id v t drew free s k at) (look_wait stands o id v t drew free s k at)

  -- the history has one entry more, and the place is this seat's
  pub counts : (id : ℕ) (v : View O E R) (c : List (ℕ × Option (Held M))) (entry : Option (E × R)) (e : E × R) → entry ≡ Some e → v.holds ≡ true
      → Allows (Kept stands o) 1 id (v, c) 0 (λ n. (n + 1) % 2 ^ 64) (Counted entry (v, c))
  counts id v c entry e is holds s k slots at small =
      let mine = k.each id v at in
      let held = mine.holder holds in
      let w = acted v e in
      let log = k.log ++ e ∷ [] in
      let long : length log ≡ length k.log + 1 = length-append k.log (e ∷ []) in
      let seen : length v.seen ≡ length k.log = ap length held.1 in
      let longer : length (v.seen ++ e ∷ []) ≡ length v.seen + 1 = length-append v.seen (e ∷ []) in
      let more : IsPrefix k.log log = (e ∷ [], refl) in
      let goes_on : IsPrefix v.seen (v.seen ++ e ∷ []) = (e ∷ [], refl) in (
        w,
        keeps,
        tt,
        record {
          log = log;
          drawn = k.drawn;
          served = k.served;
          owner = k.owner;
          words = ap (λ (ws : List ℕ). slice_set ws 0 ((slice_index ws 0 + 1) % 2 ^ 64)) k.words ∙ ap (λ (n : ℕ). n ∷ k.drawn % 18446744073709551616 ∷ k.served % 18446744073709551616 ∷ []) (next_word (length k.log) (length log) long);
          parts = (let t = total_set (λ (u : View O E R). u.parts) s.views id v w at in let p = k.parts in omega arith);
          tickets = (let t = total_set (λ (u : View O E R). waits u.ticket) s.views id v w at in let p = k.tickets in omega arith);
          places = (λ p a b.
              let t = total_set (λ (u : View O E R). times p u.own) s.views id v w at in
              let own = times-append p v.own ((length v.seen + 1) ∷ []) in
              dite (ℕ_discrete (length v.seen + 1) p)
              (λ same.
              let one : one_if (length v.seen + 1) p ≡ 1 = one_if_same (length v.seen + 1) p same in
              let zero_before = total_none (λ (u : View O E R). times p u.own) s.views (λ j u there.
              let f = k.each j u there in
              let short = prefix_length u.seen k.log f.seen in
              times_above 0 u.own (length u.seen) p f.rising (omega arith)) in
              omega arith)
              (λ apart.
              let none_more : one_if (length v.seen + 1) p ≡ 0 = one_if_other (length v.seen + 1) p apart in
              let q = k.places p a (let no : length v.seen + 1 ≢ p = apart in omega arith) in
              omega arith));
          each = each_set (Fits o k.log k.drawn k.served k.owner) (Fits o log k.drawn k.served k.owner) s.views id w
              (λ j u apart there f. record {
                opening = f.opening;
                seen = prefix_then u.seen k.log log f.seen more;
                rising = f.rising;
                ticket = f.ticket;
                holder = λ h. absurd (apart (one_holds stands o s k id j v u at there held.0 h));
                spent = f.spent;
                before = f.before;
                told = f.told;
                also = f.also;
              })
              k.each
              record {
                opening = mine.opening;
                seen = ([], ap (λ (l : List (E × R)). (l ++ e ∷ []) ++ []) held.1 ∙ append-nil log);
                rising = subst (RisesFrom 0 (v.own ++ (length v.seen + 1) ∷ [])) (sym longer) (rises_push 0 v.own (length v.seen) (omega arith) mine.rising);
                ticket = mine.ticket;
                holder = λ _. (held.0, ap (λ (l : List (E × R)). l ++ e ∷ []) held.1);
                spent = λ none. let p = (mine.ticket k.served held.0).3 in absurd (omega arith);
                before = prefix_then v.before v.seen (v.seen ++ e ∷ []) mine.before goes_on;
                told = prefix_then v.told v.seen (v.seen ++ e ∷ []) mine.told goes_on;
                also = mine.also;
              };
          slot = ⊎_elim
              (λ (h : AtHome stands o k.log s.homes s.views). off (sym (h.free id v at) ∙ holds))
              (λ (h : IsOut stands o k.log s.homes s.views). inr record { home = h.home; id = id; view = w; at = set_there s.views id v w at; holds = holds })
              k.slot;
        },
        λ x f. let same : e ≡ x = entry_is e x (sym is ∙ f) in ap (λ (y : E × R). (acted v y, c)) same,
      )
    where
      next_word : (a b : ℕ) → b ≡ a + 1 → (a % 18446744073709551616 + 1) % 18446744073709551616 ≡ b % 18446744073709551616
      next_word a b e = omega arith

      entry_is : (a b : E × R) → Some a ≡ Some b → a ≡ b
      entry_is a b e = cc

  -- the machine is back in its slot, and the next ticket is served
  pub serves : (id : ℕ) (v : View O E R) (h : Held M) → v.holds ≡ true → ((x : O) → v.opening ≡ Some x → stands x v.seen h.machine) → h.entries ≡ capped (length v.seen)
      → Allows (Kept stands o) 1 id (v, (0, Some h) ∷ []) 2 (λ n. (n + 1) % 2 ^ 64) (Served (v, (0, Some h) ∷ []))
  serves id v h holds stands_for entries s k slots at small =
      let mine = k.each id v at in
      let held = mine.holder holds in
      let w = leaving v in
      let some_part = (mine.ticket k.served held.0).3 in
      let out : s.homes ≡ none ∷ [] = ⊎_elim
      (λ (x : AtHome stands o k.log s.homes s.views). off (sym (x.free id v at) ∙ holds))
      (λ (x : IsOut stands o k.log s.homes s.views). x.home)
      k.slot in (
        w,
        gives,
        tt,
        record {
          log = k.log;
          drawn = k.drawn;
          served = k.served + 1;
          owner = k.owner;
          words = ap (λ (ws : List ℕ). slice_set ws 2 ((slice_index ws 2 + 1) % 2 ^ 64)) k.words ∙ ap (λ (n : ℕ). length k.log % 18446744073709551616 ∷ k.drawn % 18446744073709551616 ∷ n ∷ []) (next_word k.served);
          parts = (let t = total_set (λ (u : View O E R). u.parts) s.views id v w at in let p = k.parts in omega arith);
          tickets = (let t = total_set (λ (u : View O E R). waits u.ticket) s.views id v w at in let p = k.tickets in let z = ap waits held.0 in omega arith);
          places = (λ p a b. let t = total_set (λ (u : View O E R). times p u.own) s.views id v w at in let q = k.places p a b in omega arith);
          each = each_set (Fits o k.log k.drawn k.served k.owner) (Fits o k.log k.drawn (k.served + 1) k.owner) s.views id w
              (λ j u apart there f. record {
                opening = f.opening;
                seen = f.seen;
                rising = f.rising;
                ticket = λ t e.
                    let g = f.ticket t e in
                    let le : k.served ≤ t = g.1 in
                    let not_now : k.served ≢ t = λ same. apart (sym g.0 ∙ ap k.owner (sym same) ∙ (mine.ticket k.served held.0).0) in
                    (g.0, omega arith, g.2, g.3);
                holder = λ x. absurd (apart (one_holds stands o s k id j v u at there held.0 x));
                spent = f.spent;
                before = f.before;
                told = f.told;
                also = f.also;
              })
              k.each
              record {
                opening = mine.opening;
                seen = mine.seen;
                rising = mine.rising;
                ticket = λ t e. absurd (none_is None t refl e);
                holder = λ x. off x;
                spent = mine.spent;
                before = mine.before;
                told = mine.told;
                also = mine.also;
              };
          slot = inl record {
            held = h;
            home = ap (λ (hs : List (maybe.Option (Option (Held M)))). slice_set hs 0 (some (Some h))) out;
            stands_for = subst (λ (l : List (E × R)). stands o l h.machine) held.1 (stands_for o (mine.opening some_part));
            entries = entries ∙ ap (λ (l : List (E × R)). capped (length l)) held.1;
            free = each_set (λ j (u : View O E R). j ≢ id → u.holds ≡ false) (λ _ (u : View O E R). u.holds ≡ false) s.views id w (λ j u apart there f. f apart) (λ j u there apart. not_true u.holds (λ x. apart (one_holds stands o s k id j v u at there held.0 x))) refl;
          };
        },
        refl,
      )
    where
      next_word : (a : ℕ) → (a % 18446744073709551616 + 1) % 18446744073709551616 ≡ (a + 1) % 18446744073709551616
      next_word a = omega arith
