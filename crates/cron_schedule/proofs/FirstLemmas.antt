-- The first number that passes: it is one alone, the function finds it, and it goes digit by digit.
use Rattle.std.proofs.Common.{◌≡◌, ℕ, zero, suc, ◌+◌, ◌-◌, ◌*◌, ◌/◌, ◌%◌, ◌<◌, ◌≤◌, Bool, true, false, ◌&&◌, ◌⊎◌, inl, inr, Option, Some, None, refl, ap, ◌∙◌, arith}
use Rattle.std.proofs.lemmas.Bool.{cases_lt}
use Rattle.std.proofs.Math.Nat.{div-lt_iff_lt-mul, div-mul-le_self}
use Rattle.cron_schedule.specs.First.{first_from, first_in, NonePasses, IsFirstAt, IsFirst}

-- a number at the front passes or not
pub cases_test : (b : Bool) → (b ≡ true) ⊎ (b ≡ false)
cases_test true = inl refl
cases_test false = inr refl

one_more : (test : ℕ → Bool) (v high : ℕ) → test v ≡ false → NonePasses test (v + 1) high → NonePasses test v high
one_more test v high here none w low below =
    elim (cases_lt v w) [
      | inl lt ↦ none w (omega arith) below
      | inr le ↦ let e : w ≡ v = omega arith in ap test e ∙ here
    ]

-- an answer of the function at n numbers is what the relation says
first_one : (test : ℕ → Bool) (v n : ℕ) (r : Option ℕ) → test v ≡ false → IsFirst test (v + 1) (v + 1 + n) r → IsFirst test v (v + suc n) r
first_one test v n None here h = one_more test v (v + suc n) here (λ w low below. h w low (omega arith))
first_one test v n (Some r) here h = record {
  least = omega (arith, h.least);
  below = omega (arith, h.below);
  passes = h.passes;
  none_before = one_more test v r here h.none_before;
}

first_now : (test : ℕ → Bool) (v n : ℕ) → test v ≡ true → IsFirstAt test v (v + suc n) v
first_now test v n here = record {
  least = omega arith;
  below = omega arith;
  passes = here;
  none_before = λ w low below. absurd (omega arith);
}

pub IsFirst-first_from : (test : ℕ → Bool) (v n : ℕ) → IsFirst test v (v + n) (first_from test v n)
unfolding first_from
IsFirst-first_from test v zero = λ w low below. absurd (omega arith)
IsFirst-first_from test v (suc n) =
    elim (cases_test (test v)) [
      | inl here ↦ rw here (first_now test v n here)
      | inr no_pass ↦ rw no_pass (first_one test v n (first_from test (v + 1) n) no_pass (IsFirst-first_from test (v + 1) n))
    ]

-- two answers to one question are equal
pub IsFirst-same : (test : ℕ → Bool) (low high : ℕ) (r s : Option ℕ) → IsFirst test low high r → IsFirst test low high s → r ≡ s
IsFirst-same test low high None None h k = refl
IsFirst-same test low high None (Some y) h k =
    let no_pass : test y ≡ false = h y k.least k.below in
    let yes : test y ≡ true = k.passes in
    cc
IsFirst-same test low high (Some x) None h k =
    let no_pass : test x ≡ false = k x h.least h.below in
    let yes : test x ≡ true = h.passes in
    cc
IsFirst-same test low high (Some x) (Some y) h k =
    elim (cases_lt x y) [
      | inl lt ↦
          let no_pass : test x ≡ false = k.none_before x h.least lt in
          let yes : test x ≡ true = h.passes in
          cc
      | inr le ↦ elim (cases_lt y x) [
        | inl gt ↦
            let no_pass : test y ≡ false = h.none_before y k.least gt in
            let yes : test y ≡ true = k.passes in
            cc
        | inr ge ↦ let e : x ≡ y = omega arith in ap Some e
      ]
    ]

first_in_empty : (test : ℕ → Bool) (low high : ℕ) → high ≤ low → IsFirst test low high (first_in test low high)
unfolding first_from
first_in_empty test low high le =
    let e : high - low ≡ 0 = omega arith in
    rw e (λ w lower below. absurd (omega arith))

-- the function's answer is the first number that passes, or there is none
pub IsFirst-first_in : (test : ℕ → Bool) (low high : ℕ) → IsFirst test low high (first_in test low high)
IsFirst-first_in test low high =
    elim (cases_lt low high) [
      | inl lt ↦
          let e : low + (high - low) ≡ high = omega arith in
          rw e at (IsFirst-first_from test low (high - low))
      | inr le ↦ first_in_empty test low high le
    ]

-- an answer by the relation is the function's
pub first_in-is : (test : ℕ → Bool) (low high : ℕ) (r : Option ℕ) → IsFirst test low high r → r ≡ first_in test low high
first_in-is test low high r h = IsFirst-same test low high r (first_in test low high) h (IsFirst-first_in test low high)

-- numbers of two digits: the high one passes the first test, the low one the second
abbrev pub digits_test : (ℕ → Bool) → (ℕ → Bool) → ℕ → ℕ → Bool
digits_test p q base v = p (v / base) && q (v % base)

high_false : (a b : Bool) → a ≡ false → (a && b) ≡ false
high_false a b e = rw e

low_false : (a b : Bool) → b ≡ false → (a && b) ≡ false
low_false true b e = e
low_false false b e = refl

both_true : (a b : Bool) → a ≡ true → b ≡ true → (a && b) ≡ true
both_true a b e f = rw (e, f)

-- the high digit of a number at or above another is not smaller
high_mono : (base v w : ℕ) → 0 < base → v ≤ w → v / base ≤ w / base
high_mono base v w pos le =
    elim (cases_lt (w / base) (v / base)) [
      | inl lt ↦ absurd (omega (arith, (div-lt_iff_lt-mul {k = base} {x = w} {y = v / base} pos).0 lt, div-mul-le_self v base))
      | inr ge ↦ ge
    ]

parts_of : (base v : ℕ) → 0 < base → (v / base * base + v % base ≡ v) × (v % base < base)
parts_of base v pos = grind arith

-- the high digit of a number in the stretch of another's is that one
high_is : (base a v : ℕ) → 0 < base → a * base ≤ v → v < a * base + base → v / base ≡ a
high_is base a v pos low below =
    let up : v / base < a + 1 = (div-lt_iff_lt-mul {k = base} {x = v} {y = a + 1} pos).1 (omega arith) in
    elim (cases_lt (v / base) a) [
      | inl lt ↦ absurd (omega (arith, (div-lt_iff_lt-mul {k = base} {x = v} {y = a} pos).0 lt))
      | inr ge ↦ omega arith
    ]

low_is : (base a x : ℕ) → x < base → (a * base + x) % base ≡ x
low_is base a x lt =
    let pos : 0 < base = omega arith in
    let high : (a * base + x) / base ≡ a = high_is base a (a * base + x) pos (omega arith) (omega arith) in
    omega (arith, rw high at ((parts_of base (a * base + x) pos).0))

digits_pass : (p q : ℕ → Bool) (base a x : ℕ) → x < base → p a ≡ true → q x ≡ true → digits_test p q base (a * base + x) ≡ true
digits_pass p q base a x lt first second =
    let pos : 0 < base = omega arith in
    both_true _ _ (ap p (high_is base a (a * base + x) pos (omega arith) (omega arith)) ∙ first) (ap q (low_is base a x lt) ∙ second)

mul_mono : (a b base : ℕ) → a ≤ b → a * base ≤ b * base
mul_mono a b base le = grind arith

-- of the numbers with one high digit, those below the low digit's first do not pass
none_low_before : (p q : ℕ → Bool) (base a start x v : ℕ) → 0 < base → x ≤ base → NonePasses q start x → a * base + start ≤ v → v < a * base + x → digits_test p q base v ≡ false
none_low_before p q base a start x v pos most none low below =
    let high : v / base ≡ a = high_is base a v pos (omega arith) (omega arith) in
    let e : a * base + v % base ≡ v = rw high at ((parts_of base v pos).0) in
    low_false (p (v / base)) (q (v % base)) (none (v % base) (omega arith) (omega arith))

-- the first number, where it has the high digit that the numbers begin with
pub first_here : (p q : ℕ → Bool) (base size from x : ℕ) → 0 < base → from < size * base → p (from / base) ≡ true → IsFirstAt q (from % base) base x → IsFirstAt (digits_test p q base) from (size * base) (from / base * base + x)
first_here p q base size from x pos below here h =
    let parts = parts_of base from pos in
    let digit : from / base < size = (div-lt_iff_lt-mul {k = base} {x = from} {y = size} pos).1 below in
    record {
      least = omega (arith, h.least);
      below = omega (arith, h.below, mul_mono (from / base + 1) size base (omega arith));
      passes = digits_pass p q base (from / base) x h.below here h.passes;
      none_before = λ v low before. none_low_before p q base (from / base) (from % base) x v pos (omega (arith, h.below)) h.none_before (omega arith) before;
    }

-- no number with the high digit that the numbers begin with passes
abbrev pub NoneHere : (ℕ → Bool) → (ℕ → Bool) → ℕ → ℕ → Type 0
NoneHere p q base from = (v : ℕ) → from ≤ v → v / base ≡ from / base → digits_test p q base v ≡ false

pub none_here_high : (p q : ℕ → Bool) (base from : ℕ) → p (from / base) ≡ false → NoneHere p q base from
none_here_high p q base from no_pass v low same = high_false (p (v / base)) (q (v % base)) (ap p same ∙ no_pass)

pub none_here_low : (p q : ℕ → Bool) (base from : ℕ) → 0 < base → NonePasses q (from % base) base → NoneHere p q base from
none_here_low p q base from pos none v low same =
    let parts = parts_of base from pos in
    let own = parts_of base v pos in
    let e : from / base * base + v % base ≡ v = rw same at own.0 in
    low_false (p (v / base)) (q (v % base)) (none (v % base) (omega arith) (omega arith))

-- the first number, where it has a later high digit
pub first_later : (p q : ℕ → Bool) (base size from a x : ℕ) → 0 < base → NoneHere p q base from → IsFirstAt p (from / base + 1) size a → IsFirstAt q 0 base x → IsFirstAt (digits_test p q base) from (size * base) (a * base + x)
first_later p q base size from a x pos none h k =
    let parts = parts_of base from pos in
    record {
      least = omega (arith, mul_mono (from / base + 1) a base h.least);
      below = omega (arith, k.below, mul_mono (a + 1) size base (omega (arith, h.below)));
      passes = digits_pass p q base a x k.below h.passes k.passes;
      none_before = λ v low before. elim (cases_lt v (a * base)) [
        | inl early ↦ elim (cases_lt (from / base) (v / base)) [
          | inl later ↦ high_false (p (v / base)) (q (v % base)) (h.none_before (v / base) (omega arith) ((div-lt_iff_lt-mul {k = base} {x = v} {y = a} pos).1 early))
          | inr same ↦ none v low (omega (arith, high_mono base from v pos low))
        ]
        | inr late ↦ none_low_before p q base a 0 x v pos (omega (arith, k.below)) k.none_before (omega arith) before
      ];
    }

-- and there is none where no later high digit passes
pub none_later : (p q : ℕ → Bool) (base size from : ℕ) → 0 < base → NoneHere p q base from → NonePasses p (from / base + 1) size → NonePasses (digits_test p q base) from (size * base)
none_later p q base size from pos none high v low below =
    elim (cases_lt (from / base) (v / base)) [
      | inl later ↦ high_false (p (v / base)) (q (v % base)) (high (v / base) (omega arith) ((div-lt_iff_lt-mul {k = base} {x = v} {y = size} pos).1 below))
      | inr same ↦ none v low (omega (arith, high_mono base from v pos low))
    ]

-- or where no low digit passes
pub none_low : (p q : ℕ → Bool) (base size from : ℕ) → 0 < base → NonePasses q 0 base → NonePasses (digits_test p q base) from (size * base)
none_low p q base size from pos none v low below =
    low_false (p (v / base)) (q (v % base)) (none (v % base) (omega arith) ((parts_of base v pos).1))
