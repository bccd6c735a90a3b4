-- Beginnings of lists, and rising lists of places.
use Rattle.std.proofs.Common.{◌≡◌, ◌≢◌, ◌⊎◌, ℕ, zero, suc, ◌+◌, ◌<◌, ◌≤◌, ◌==◌, nat_lt, Bool, true, false, if◌then◌else◌, List, [], ◌∷◌, ◌++◌, length, refl, sym, ap, ◌∙◌, subst, inl, inr, ⊎_elim, append_assoc, append-nil, length-append, arith}
use Rattle.std.proofs.lemmas.Bool.Decides.{nat_tests}
use Rattle.turn_lock.specs.Places.{IsPrefix, longer, RisesFrom, times, with_place, merged, upto, capped}

module _ {A : Type 0} where
  pub prefix_refl : (xs : List A) → IsPrefix xs xs
  prefix_refl xs = ([], append-nil xs)

  pub prefix_then : (xs ys zs : List A) → IsPrefix xs ys → IsPrefix ys zs → IsPrefix xs zs
  prefix_then xs ys zs p q = (p.0 ++ q.0, sym (append_assoc xs p.0 q.0) ∙ ap (λ (l : List A). l ++ q.0) p.1 ∙ q.1)

  pub prefix_length : (xs ys : List A) → IsPrefix xs ys → length xs ≤ length ys
  prefix_length xs ys p = omega (arith, length-append xs p.0, ap length p.1)

  no_rest : (rest : List A) → length rest ≡ 0 → rest ≡ []
  no_rest [] e = refl
  no_rest (x ∷ xs) e = absurd (omega arith)

  pub prefix_whole : (xs ys : List A) → IsPrefix xs ys → length ys ≤ length xs → xs ≡ ys
  prefix_whole xs ys p le =
      let none : p.0 ≡ [] = no_rest p.0 (omega (arith, length-append xs p.0, ap length p.1)) in
      sym (append-nil xs) ∙ ap (λ (l : List A). xs ++ l) (sym none) ∙ p.1

  -- of two beginnings of one list the shorter begins the longer
  pub prefix_shorter : (xs ys log : List A) → IsPrefix xs log → IsPrefix ys log → length xs ≤ length ys → IsPrefix xs ys
  prefix_shorter [] ys log p q le = (ys, refl)
  prefix_shorter (x ∷ xs) [] log p q le = absurd (omega arith)
  prefix_shorter (x ∷ xs) (y ∷ ys) [] p q le = absurd (let e = p.1 in cc)
  prefix_shorter (x ∷ xs) (y ∷ ys) (z ∷ zs) p q le =
      let p' : xs ++ p.0 ≡ zs = let e = p.1 in cc in
      let q' : ys ++ q.0 ≡ zs = let e = q.1 in cc in
      let same : x ≡ y = let e = p.1 in let f = q.1 in cc in
      let r = prefix_shorter xs ys zs (p.0, p') (q.0, q') (omega arith) in
      (r.0, λ i. same i ∷ r.1 i)

  -- the longer list is the second where the first is shorter, and else the first
  pub longer_is : (xs ys : List A) → ((length xs < length ys) × (longer xs ys ≡ ys)) ⊎ ((length ys ≤ length xs) × (longer xs ys ≡ xs))
  longer_is xs ys = cases (nat_lt (length xs) (length ys)) refl
    where
      cases : (b : Bool) → nat_lt (length xs) (length ys) ≡ b → ((length xs < length ys) × (longer xs ys ≡ ys)) ⊎ ((length ys ≤ length xs) × (longer xs ys ≡ xs))
      cases true e = inl (grind (arith, nat_tests), ap (λ (b : Bool). if b then ys else xs) e)
      cases false e = inr (grind (arith, nat_tests), ap (λ (b : Bool). if b then ys else xs) e)

  -- two beginnings of one list begin the longer of them, and that begins the list
  pub longer_begins : (xs ys log : List A) → IsPrefix xs log → IsPrefix ys log → IsPrefix xs (longer xs ys) × IsPrefix ys (longer xs ys) × IsPrefix (longer xs ys) log
  longer_begins xs ys log p q =
      let P : List A → Type 0 = λ l. IsPrefix xs l × IsPrefix ys l × IsPrefix l log in
      ⊎_elim
      (λ (t : (length xs < length ys) × (longer xs ys ≡ ys)). let short : length xs < length ys = t.0 in subst P (sym t.1) (prefix_shorter xs ys log p q (omega arith), prefix_refl ys, q))
      (λ (t : (length ys ≤ length xs) × (longer xs ys ≡ xs)). subst P (sym t.1) (prefix_refl xs, prefix_shorter ys xs log q p t.0, p))
      (longer_is xs ys)

abbrev pub one_if : ℕ → ℕ → ℕ
one_if q p = if q == p then 1 else 0

-- one more or none, by a test of two numbers
once : (q p : ℕ) → ((q ≡ p) × (one_if q p ≡ 1)) ⊎ ((q ≢ p) × (one_if q p ≡ 0))
once q p = cases (q == p) refl
  where
    cases : (b : Bool) → (q == p) ≡ b → ((q ≡ p) × (one_if q p ≡ 1)) ⊎ ((q ≢ p) × (one_if q p ≡ 0))
    cases true e = inl (grind (arith, nat_tests), ap (λ (b : Bool). if b then 1 else 0) e)
    cases false e = inr ((λ h. grind (arith, nat_tests)), ap (λ (b : Bool). if b then 1 else 0) e)

pub one_if_same : (q p : ℕ) → q ≡ p → one_if q p ≡ 1
one_if_same q p e = ⊎_elim (λ (t : (q ≡ p) × (one_if q p ≡ 1)). t.1) (λ (t : (q ≢ p) × (one_if q p ≡ 0)). absurd (t.0 e)) (once q p)

pub one_if_other : (q p : ℕ) → q ≢ p → one_if q p ≡ 0
one_if_other q p n = ⊎_elim (λ (t : (q ≡ p) × (one_if q p ≡ 1)). absurd (n t.0)) (λ (t : (q ≢ p) × (one_if q p ≡ 0)). t.1) (once q p)

pub rises_more : (low : ℕ) (ps : List ℕ) (m n : ℕ) → m ≤ n → RisesFrom low ps m → RisesFrom low ps n
rises_more low [] m n le r = tt
rises_more low (p ∷ ps) m n le r = (r.0, (let h : p ≤ m = r.1 in omega arith), rises_more p ps m n le r.2)

pub rises_lower : (low low' : ℕ) (ps : List ℕ) (high : ℕ) → low ≤ low' → RisesFrom low' ps high → RisesFrom low ps high
rises_lower low low' [] high le r = tt
rises_lower low low' (p ∷ ps) high le r = ((let h : low' < p = r.0 in omega arith), r.1, r.2)

-- the place after the last one
pub rises_push : (low : ℕ) (ps : List ℕ) (n : ℕ) → low ≤ n → RisesFrom low ps n → RisesFrom low (ps ++ (n + 1) ∷ []) (n + 1)
rises_push low [] n le r = (omega arith, omega arith, tt)
rises_push low (p ∷ ps) n le r = let h : p ≤ n = r.1 in (r.0, omega arith, rises_push p ps n h r.2)

pub times_above : (low : ℕ) (ps : List ℕ) (high p : ℕ) → RisesFrom low ps high → high < p → times p ps ≡ 0
times_above low [] high p r h = refl
times_above low (q ∷ qs) high p r h =
    let le : q ≤ high = r.1 in
    ⊎_elim
    (λ (t : (q ≡ p) × (one_if q p ≡ 1)). let e : q ≡ p = t.0 in absurd (omega arith))
    (λ (t : (q ≢ p) × (one_if q p ≡ 0)). let e = t.1 in let rest = times_above q qs high p r.2 h in omega arith)
    (once q p)

pub times_below : (low : ℕ) (ps : List ℕ) (high p : ℕ) → RisesFrom low ps high → p ≤ low → times p ps ≡ 0
times_below low [] high p r h = refl
times_below low (q ∷ qs) high p r h =
    let lt : low < q = r.0 in
    ⊎_elim
    (λ (t : (q ≡ p) × (one_if q p ≡ 1)). let e : q ≡ p = t.0 in absurd (omega arith))
    (λ (t : (q ≢ p) × (one_if q p ≡ 0)). let e = t.1 in let rest = times_below q qs high p r.2 (omega arith) in omega arith)
    (once q p)

pub times-append : (p : ℕ) (ps qs : List ℕ) → times p (ps ++ qs) ≡ times p ps + times p qs
times-append p [] qs = omega arith
times-append p (x ∷ ps) qs = let e = times-append p ps qs in omega arith

pub times-with_place : (p q : ℕ) (ps : List ℕ) → times p (with_place q ps) ≡ one_if q p + times p ps
times-with_place p q [] = refl
times-with_place p q (x ∷ ps) = cases (times-with_place p q ps) (nat_lt q x)
  where
    cases : times p (with_place q ps) ≡ one_if q p + times p ps → (b : Bool) → times p (if b then q ∷ x ∷ ps else x ∷ with_place q ps) ≡ one_if q p + times p (x ∷ ps)
    cases h true = refl
    cases h false = omega arith

pub times-merged : (p : ℕ) (ps qs : List ℕ) → times p (merged ps qs) ≡ times p ps + times p qs
times-merged p [] qs = omega arith
times-merged p (x ∷ ps) qs = let e = times-merged p ps qs in let f = times-with_place p x (merged ps qs) in omega arith

rises_with_place : (low p : ℕ) (ps : List ℕ) (high : ℕ) → low < p → p ≤ high → times p ps ≡ 0 → RisesFrom low ps high → RisesFrom low (with_place p ps) high
rises_with_place low p [] high lt le none r = (lt, le, tt)
rises_with_place low p (x ∷ ps) high lt le none r = cases (λ above. rises_with_place x p ps high above le (let k : one_if x p + times p ps ≡ 0 = none in omega arith) r.2) (nat_lt p x) refl
  where
    apart : x ≢ p
    apart h = ⊎_elim
        (λ (t : (x ≡ p) × (one_if x p ≡ 1)). let e = t.1 in let k : one_if x p + times p ps ≡ 0 = none in absurd (omega arith))
        (λ (t : (x ≢ p) × (one_if x p ≡ 0)). t.0 h)
        (once x p)

    cases : (x < p → RisesFrom x (with_place p ps) high) → (b : Bool) → nat_lt p x ≡ b → RisesFrom low (if b then p ∷ x ∷ ps else x ∷ with_place p ps) high
    cases rest true e = (lt, le, (grind (arith, nat_tests), r.1, r.2))
    cases rest false e = (r.0, r.1, rest (let n = apart in let no : p < x → ⊥ = (λ l. grind (arith, nat_tests)) in omega arith))

-- the places of two seats, which have none in common
pub rises_merged : (low : ℕ) (ps qs : List ℕ) (high : ℕ) → ((p : ℕ) → times p ps + times p qs ≤ 1) → RisesFrom low ps high → RisesFrom low qs high → RisesFrom low (merged ps qs) high
rises_merged low [] qs high apart r s = s
rises_merged low (p ∷ ps) qs high apart r s =
    let lt : low < p = r.0 in
    let fewer : (x : ℕ) → times x ps + times x qs ≤ 1 = λ x. let a = apart x in omega arith in
    let here : one_if p p ≡ 1 = ⊎_elim (λ (t : (p ≡ p) × (one_if p p ≡ 1)). t.1) (λ (t : (p ≢ p) × (one_if p p ≡ 0)). absurd (t.0 refl)) (once p p) in
    let none : times p (merged ps qs) ≡ 0 = let a = apart p in let m = times-merged p ps qs in omega arith in
    rises_with_place low p (merged ps qs) high lt r.1 none (rises_merged low ps qs high fewer (rises_lower low p ps high (omega arith) r.2) s)

-- a rising list that has each of these numbers
pub whole_rising : (low n high : ℕ) (ps : List ℕ) → high ≡ low + n → RisesFrom low ps high → ((p : ℕ) → low < p → p ≤ high → 0 < times p ps) → ps ≡ upto low n
whole_rising low zero high [] e r all = refl
whole_rising low zero high (q ∷ qs) e r all = let a : low < q = r.0 in let b : q ≤ high = r.1 in absurd (omega arith)
whole_rising low (suc n) high [] e r all = let h : 0 < 0 = all (suc low) (omega arith) (omega arith) in absurd (omega arith)
whole_rising low (suc n) high (q ∷ qs) e r all =
    let lt : low < q = r.0 in
    let here : 0 < one_if q (suc low) + times (suc low) qs = all (suc low) (omega arith) (omega arith) in
    let is : q ≡ suc low =
    ⊎_elim
    (λ (t : (q ≡ suc low) × (one_if q (suc low) ≡ 1)). t.0)
    (λ (t : (q ≢ suc low) × (one_if q (suc low) ≡ 0)).
    let no = t.1 in let zero_rest = times_below q qs high (suc low) r.2 (omega arith) in absurd (omega arith))
    (once q (suc low)) in
    let more : (p : ℕ) → suc low < p → p ≤ high → 0 < times p qs =
    λ p lt le.
    ⊎_elim
    (λ (t : (q ≡ p) × (one_if q p ≡ 1)). let s : q ≡ p = t.0 in absurd (omega arith))
    (λ (t : (q ≢ p) × (one_if q p ≡ 0)). let s = t.1 in let h : 0 < one_if q p + times p qs = all p (omega arith) le in omega arith)
    (once q p) in
    let rest : RisesFrom (suc low) qs high = subst (λ (x : ℕ). RisesFrom x qs high) is r.2 in
    λ i. is i ∷ whole_rising (suc low) n high qs (omega arith) rest more i

-- a count below its last value
pub capped_below : (n : ℕ) → n < 18446744073709551615 → capped n ≡ n
capped_below n lt = cases (nat_lt n 18446744073709551615) refl
  where
    cases : (b : Bool) → nat_lt n 18446744073709551615 ≡ b → (if b then n else 18446744073709551615) ≡ n
    cases true e = refl
    cases false e = absurd (grind (arith, nat_tests))
