-- What callers did, through seats that are split and joined.
use Rattle.std.proofs.Common.{◌≡◌, ◌≤◌, ◌<◌, Some, ℕ, ◌+◌, List, [], ◌∷◌, ◌++◌, length, refl, sym, ap, ◌∙◌, subst, inl, inr, ⊎_elim, append-nil, length-append, arith}
use Rattle.turn_lock.specs.Places.{IsPrefix, RisesFrom, times, merged, upto}
use Rattle.turn_lock.specs.Seats.{SeatView, Opened, joined_seat}
use Rattle.turn_lock.specs.Gains.{Gains}
use Rattle.turn_lock.proofs.Lists.{prefix_length, rises_more, times-merged}
use Rattle.turn_lock.proofs.Gains.{are_longer, once_upto}
use Rattle.shared_counter.specs.declared.counter.Add.{Add}
use Rattle.shared_counter.specs.declared.counter.Counter.{Counter}
use Rattle.shared_counter.specs.declared.counter.OverLimit.{OverLimit}
use Rattle.shared_counter.specs.Counting.{value_after, Stands}
use Rattle.shared_counter.specs.Dealt.{AllAt, times_in, IsDealt, Owns, HasDone, AddEach, IsFull, HasMade, HaveMade, GainsOne}
use Rattle.shared_counter.specs.Tallied.{IsMadeBy}

module _ {A : Type 0} where
  all_longer : (xs ys : List A) → IsPrefix xs ys → (ess : List (List A)) (pss : List (List ℕ)) → AllAt xs ess pss → AllAt ys ess pss
  all_longer xs ys begun [] pss all = all
  all_longer xs ys begun (es ∷ ess) pss all = (all.0, all.1, all.2, are_longer xs ys begun es all.0 all.3, rises_more 0 all.0 (length xs) (length ys) (prefix_length xs ys begun) all.4, all_longer xs ys begun ess all.1 all.5)

  all_append : (log : List A) (ess fss : List (List A)) (pss qss : List (List ℕ)) → AllAt log ess pss → AllAt log fss qss → AllAt log (ess ++ fss) (pss ++ qss)
  all_append log [] fss pss qss a b = subst (λ (l : List (List ℕ)). AllAt log fss (l ++ qss)) (sym a) b
  all_append log (es ∷ ess) fss pss qss a b = (a.0, a.1 ++ qss, ap (λ (l : List (List ℕ)). l ++ qss) a.2, a.3, a.4, all_append log ess fss a.1 qss a.5 b)

times_in-append : (p : ℕ) (pss qss : List (List ℕ)) → times_in p (pss ++ qss) ≡ times_in p pss + times_in p qss
times_in-append p [] qss = omega arith
times_in-append p (ps ∷ pss) qss = let e = times_in-append p pss qss in omega arith

module _ {A : Type 0} where
  -- the places of two groups of callers, merged
  owns_merged : (xs ys log : List A) (ess fss : List (List A)) (ps qs own : List ℕ) → IsPrefix xs log → IsPrefix ys log → own ≡ merged ps qs → Owns xs ess ps → Owns ys fss qs → Owns log (ess ++ fss) own
  owns_merged xs ys log ess fss ps qs own left right is a b = (
    a.0 ++ b.0,
    all_append log ess fss a.0 b.0 (all_longer xs log left ess a.0 a.1) (all_longer ys log right fss b.0 b.1),
    λ p.
        let s = times_in-append p a.0 b.0 in
        let m = times-merged p ps qs in
        let o = ap (times p) is in
        let x = a.2 p in
        let y = b.2 p in
        omega arith,
  )

  -- where these are all places, the history is dealt
  pub dealt : (log : List A) (ess : List (List A)) (own : List ℕ) → Owns log ess own → own ≡ upto 0 (length log) → IsDealt log ess
  dealt log ess own owns whole = (
    owns.0,
    owns.1,
    λ p above below. owns.2 p ∙ ap (times p) whole ∙ once_upto 0 (length log) p above (omega arith),
  )

module _ {O E R X : Type 0} where
  -- one caller, whose seat owned nothing
  pub one_done : (legal : O → List (E × R) → Type 0) (old new : SeatView O E R X) (es : List (E × R)) → old.own ≡ [] → Gains legal old es new → RisesFrom 0 new.own (length new.seen) → HasDone old (es ∷ []) new
  one_done legal old new es none gains rises =
      let own : new.own ≡ gains.gained = gains.own ∙ ap (λ (l : List ℕ). l ++ gains.gained) none in
      record {
        same = gains.same;
        owns = (
          gains.gained ∷ [],
          (gains.gained, [], refl, gains.are, subst (λ (l : List ℕ). RisesFrom 0 l (length new.seen)) own rises, refl),
          λ p. let o = ap (times p) own in omega arith,
        );
      }

  -- two groups of callers, whose seats are joined
  pub both_done : (start left right first other last : SeatView O E R X) (ess fss : List (List (E × R))) → left.shared ≡ start.shared → left.opening ≡ start.opening → left.parts + right.parts ≡ start.parts
      → HasDone left ess first → HasDone right fss other → last ≡ joined_seat first other → IsPrefix first.seen last.seen → IsPrefix other.seen last.seen → HasDone start (ess ++ fss) last
  both_done start left right first other last ess fss here opening parts a b is grows told = record {
    same = record {
      shared = ap (λ (s : SeatView O E R X). s.shared) is ∙ a.same.shared ∙ here;
      opening = ap (λ (s : SeatView O E R X). s.opening) is ∙ a.same.opening ∙ opening;
      parts = (let s = ap (λ (s : SeatView O E R X). s.parts) is in let x = a.same.parts in let y = b.same.parts in omega arith);
    };
    owns = owns_merged first.seen other.seen last.seen ess fss first.own other.own last.own grows told (ap (λ (s : SeatView O E R X). s.own) is) a.owns b.owns;
  }

  -- the opening of a seat that is done is that with which it began
  pub opening_done : (o : O) (start last : SeatView O E R X) (ess : List (List (E × R))) (P : O → Type 0) → start.opening ≡ Some o → HasDone start ess last → Opened last.opening P → P o
  opening_done o start last ess P is done opened =
      let same : Some opened.0 ≡ Some o = sym opened.1 ∙ done.same.opening ∙ is in
      subst P (some_is opened.0 o same) opened.2
    where
      some_is : (a b : O) → Some a ≡ Some b → a ≡ b
      some_is a b e = cc

value_grows : (value : ℕ) (xs ys : List (Add × ℕ)) → value_after value xs ≤ value_after value (xs ++ ys)
value_grows value [] [] = omega arith
value_grows value [] (y ∷ ys) = let h = value_grows (value + y.0.by) [] ys in omega arith
value_grows value (x ∷ xs) ys = value_grows (value + x.0.by) xs ys

abbrev Viewed : Type 0
Viewed = SeatView Counter Add ℕ OverLimit

-- what leaves no room leaves none later
pub full_grows : (by : ℕ) (v w : Viewed) → IsPrefix v.seen w.seen → w.opening ≡ v.opening → IsFull by v → IsFull by w
full_grows by v w grows opening full =
    let more = value_grows full.0.value v.seen grows.0 in
    let is = ap (value_after full.0.value) grows.1 in
    let h : full.0.limit < value_after full.0.value v.seen + by = full.2 in
    (full.0, opening ∙ full.1, (let k : full.0.limit < value_after full.0.value w.seen + by = omega arith in k))

pub made_grows : (by acts : ℕ) (v w : Viewed) → IsPrefix v.seen w.seen → w.opening ≡ v.opening → (ess : List (List (Add × ℕ))) → HaveMade by acts ess v → HaveMade by acts ess w
made_grows by acts v w grows opening [] made = tt
made_grows by acts v w grows opening (es ∷ ess) made = (
  (made.0.0, ⊎_elim (λ (all : length es ≡ acts). inl all) (λ (full : IsFull by v). inr (full_grows by v w grows opening full)) made.0.1),
  made_grows by acts v w grows opening ess made.1,
)

made_append : (by acts : ℕ) (s : Viewed) (ess fss : List (List (Add × ℕ))) → HaveMade by acts ess s → HaveMade by acts fss s → HaveMade by acts (ess ++ fss) s
made_append by acts s [] fss a b = b
made_append by acts s (es ∷ ess) fss a b = (a.0, made_append by acts s ess fss a.1 b)

-- two groups of callers, whose seats are joined
pub both_made : (by acts : ℕ) (start left right first other last : Viewed) (ess fss : List (List (Add × ℕ))) → left.opening ≡ start.opening → right.opening ≡ start.opening → HasDone left ess first → HasDone right fss other
    → last ≡ joined_seat first other → IsPrefix first.seen last.seen → IsPrefix other.seen last.seen → HaveMade by acts ess first → HaveMade by acts fss other → HaveMade by acts (ess ++ fss) last
both_made by acts start left right first other last ess fss opening opening' a b is grows told made made' =
    let here : last.opening ≡ first.opening = ap (λ (s : Viewed). s.opening) is in
    let there : last.opening ≡ other.opening = here ∙ a.same.opening ∙ opening ∙ sym (b.same.opening ∙ opening') in
    made_append by acts last ess fss (made_grows by acts first last grows here ess made) (made_grows by acts other last told there fss made')

pub each_push : (by : ℕ) (es : List (Add × ℕ)) (r : ℕ) → AddEach by es → AddEach by (es ++ (record { by = by }, r) ∷ [])
each_push by [] r each = (refl, tt)
each_push by (e ∷ es) r each = (each.0, each_push by es r each.1)

-- after one more act
pub made_more : (by n : ℕ) (old new : Viewed) (before after : List (Add × ℕ)) → GainsOne by old before new after → HasMade by n before old → HasMade by (n + 1) after new
made_more by n old new before after one made = ⊎_elim
    (λ (t : (r : ℕ) × (one.es ≡ (record { by = by }, r) ∷ [])).
    let is : after ≡ before ++ (record { by = by }, t.0) ∷ [] = one.entries ∙ ap (λ (es : List (Add × ℕ)). before ++ es) t.1 in (
      subst (AddEach by) (sym is) (each_push by before t.0 made.0),
      ⊎_elim
          (λ (all : length before ≡ n). inl (let l = ap length is in let k = length-append before ((record { by = by }, t.0) ∷ []) in omega arith))
          (λ (full : IsFull by old). inr (full_grows by old new one.gains.grows one.gains.same.opening full))
          made.1,
    ))
    (λ (t : (one.es ≡ []) × IsFull by new).
    let is : after ≡ before = one.entries ∙ ap (λ (es : List (Add × ℕ)). before ++ es) t.0 ∙ append-nil before in
    (subst (AddEach by) (sym is) made.0, inr t.1))
    one.made

-- where the closing seat says so, the counter has no room
pub made_by : (by acts : ℕ) (start now : Counter) (s : Viewed) (es : List (Add × ℕ)) → s.opening ≡ Some start → Stands start s.seen now → HasMade by acts es s → IsMadeBy by acts now es
made_by by acts start now s es is stands made = (
  made.0,
  ⊎_elim
      (λ (all : length es ≡ acts). inl all)
      (λ (full : IsFull by s).
      let same : full.0 ≡ start = counter_is full.0 start (sym full.1 ∙ is) in
      let room : start.limit < value_after start.value s.seen + by = subst (λ (o : Counter). o.limit < value_after o.value s.seen + by) same full.2 in
      let l = stands.0 in
      let v = stands.1 in
      inr (omega arith))
      made.1,
)
  where
    counter_is : (a b : Counter) → Some a ≡ Some b → a ≡ b
    counter_is a b e = cc
