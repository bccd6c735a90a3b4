-- What a table of the next values of a set tells.
use Rattle.std.proofs.Common.{◌≡◌, ℕ, zero, suc, ◌+◌, ◌-◌, ◌<◌, ◌≤◌, Bool, true, false, Option, Some, None, List, nat_eq, refl, sym, ap, ◌∙◌, arith, if◌then◌else◌, inl, inr}
use Rattle.std.specs.Prelude.{unwrap_or, slice_index}
use Rattle.std.proofs.lemmas.Bool.{cases_lt}
use Rattle.std.proofs.lemmas.Bool.Decides.{nat_tests}
use Rattle.cron_schedule.specs.First.{first_from, first_in, NonePasses, IsFirstAt, IsFirst}
use Rattle.cron_schedule.specs.Tables.{IsFirsts, IsFirstsFrom}
use Rattle.std.proofs.Common.{length, get_or-set_other, get_or-set_same, ◌≢◌}
use Rattle.std.proofs.Math.ListN.{set}
use Rattle.cron_schedule.proofs.FirstLemmas.{IsFirst-first_in, cases_test}

-- at a number that passes it is the first, and else that of the next number
pub first_in-step : (test : ℕ → Bool) (v size : ℕ) → v < size → first_in test v size ≡ (if test v then Some v else first_in test (v + 1) size)
unfolding first_from
first_in-step test v size lt =
    let e : size - v ≡ suc (size - (v + 1)) = omega arith in
    rw e

pub first_in-end : (test : ℕ → Bool) (size : ℕ) → first_in test size size ≡ None
unfolding first_from
first_in-end test size =
    let e : size - size ≡ 0 = omega arith in
    rw e

apart_test : (n v : ℕ) → v < n → nat_eq n v ≡ false
apart_test n v h = grind (arith, nat_tests)

same_test : (n v : ℕ) → n ≡ v → nat_eq n v ≡ true
same_test n v h = grind (arith, nat_tests)

first_below : (test : ℕ → Bool) (v size n : ℕ) (r : Option ℕ) → IsFirst test v size r → n ≡ unwrap_or r size → n < size → IsFirstAt test v size n
first_below test v size n None h e lt = absurd (omega arith)
first_below test v size n (Some x) h e lt = let same : n ≡ x = e in rw same h

first_past : (test : ℕ → Bool) (v size n : ℕ) (r : Option ℕ) → IsFirst test v size r → n ≡ unwrap_or r size → size ≤ n → NonePasses test v size
first_past test v size n None h e le = h
first_past test v size n (Some x) h e le = let same : n ≡ x = e in absurd (omega (arith, h.below))

first_apart : (test : ℕ → Bool) (v size x : ℕ) → IsFirstAt test v size x → test v ≡ false → v < x
first_apart test v size x h no_pass =
    elim (cases_lt v x) [
      | inl lt ↦ lt
      | inr le ↦
          let least : v ≤ x = h.least in
          let e : v ≡ x = omega arith in
          let pass : test x ≡ true = h.passes in
          let none : test x ≡ false = sym (ap test e) ∙ no_pass in
          cc
    ]

first_now : (test : ℕ → Bool) (v size x : ℕ) → IsFirstAt test v size x → test v ≡ true → x ≡ v
first_now test v size x h pass =
    elim (cases_lt v x) [
      | inl lt ↦
          let none : test v ≡ false = h.none_before v (omega arith) lt in
          cc
      | inr le ↦ let least : v ≤ x = h.least in omega arith
    ]

first_same : (test : ℕ → Bool) (v size n : ℕ) (r : Option ℕ) → IsFirst test v size r → n ≡ unwrap_or r size → v < size → nat_eq n v ≡ test v
first_same test v size n None h e lt =
    let none : test v ≡ false = h v (omega arith) lt in
    let later : v < n = omega arith in
    apart_test n v later ∙ sym none
first_same test v size n (Some x) h e lt =
    let same : n ≡ x = e in
    elim (cases_test (test v)) [
      | inl pass ↦ same_test n v (same ∙ first_now test v size x h pass) ∙ sym pass
      | inr none ↦
          let later : v < n = omega (arith, first_apart test v size x h none) in
          apart_test n v later ∙ sym none
    ]

pub table_some : (test : ℕ → Bool) (size : ℕ) (table : List ℕ) (v : ℕ) → IsFirsts test size table → v ≤ size → slice_index table v < size → IsFirstAt test v size (slice_index table v)
table_some test size table v h le lt =
    first_below test v size (slice_index table v) (first_in test v size) (IsFirst-first_in test v size) (h.next v le) lt

pub table_none : (test : ℕ → Bool) (size : ℕ) (table : List ℕ) (v : ℕ) → IsFirsts test size table → v ≤ size → size ≤ slice_index table v → NonePasses test v size
table_none test size table v h le past =
    first_past test v size (slice_index table v) (first_in test v size) (IsFirst-first_in test v size) (h.next v le) past

pub table_has : (test : ℕ → Bool) (size : ℕ) (table : List ℕ) (v : ℕ) → IsFirsts test size table → v < size → nat_eq (slice_index table v) v ≡ test v
table_has test size table v h lt =
    first_same test v size (slice_index table v) (first_in test v size) (IsFirst-first_in test v size) (h.next v (omega arith)) lt

-- a table of the size alone tells nothing yet
pub firsts_start : (test : ℕ → Bool) (size : ℕ) (table : List ℕ) → slice_index table size ≡ size → IsFirstsFrom test size size table
firsts_start test size table h = record {
  next = λ v low high.
      let e : v ≡ size = omega arith in
      rw (e, first_in-end test size) h;
}

step_value : (test : ℕ → Bool) (size v new next : ℕ) → v < size → next ≡ unwrap_or (first_in test (v + 1) size) size → new ≡ (if test v then v else next) → new ≡ unwrap_or (first_in test v size) size
step_value test size v new next lt h e =
    elim (cases_test (test v)) [
      | inl pass ↦ rw (first_in-step test v size lt, pass) (rw pass at e)
      | inr none ↦ rw (first_in-step test v size lt, none) ((rw none at e) ∙ h)
    ]

-- one number more
pub firsts_more : (test : ℕ → Bool) (size at new : ℕ) (table : List ℕ) → 0 < at → at ≤ size → size < length table → IsFirstsFrom test at size table → new ≡ (if test (at - 1) then at - 1 else slice_index table at) → IsFirstsFrom test (at - 1) size (set table (at - 1) new)
firsts_more test size at new table pos le room h e = record {
  next = λ v low high.
      elim (cases_lt (at - 1) v) [
        | inl lt ↦
            let other : v ≢ at - 1 = omega arith in
            rw get_or-set_other (h.next v (omega arith) high)
        | inr back ↦
            let same : v ≡ at - 1 = omega arith in
            let within : at - 1 < length table = omega arith in
            let next_is : at - 1 + 1 ≡ at = omega arith in
            let later : slice_index table at ≡ unwrap_or (first_in test (at - 1 + 1) size) size = rw next_is (h.next at (omega arith) le) in
            rw same (rw get_or-set_same (step_value test size (at - 1) new (slice_index table at) (omega arith) later e))
      ];
}

pub firsts_all : (test : ℕ → Bool) (size : ℕ) (table : List ℕ) → IsFirstsFrom test 0 size table → IsFirsts test size table
firsts_all test size table h = record { next = λ v le. h.next v (omega arith) le }

first_from-same : (test other : ℕ → Bool) (v n : ℕ) → ((w : ℕ) → other w ≡ test w) → first_from other v n ≡ first_from test v n
unfolding first_from
first_from-same test other v zero same = refl
first_from-same test other v (suc n) same = rw (same v, first_from-same test other (v + 1) n same)

-- a table of a set is one of each test that says the same
pub IsFirsts-same : (test other : ℕ → Bool) (size : ℕ) (table : List ℕ) → ((w : ℕ) → other w ≡ test w) → IsFirsts test size table → IsFirsts other size table
IsFirsts-same test other size table same h = record {
  next = λ v le. rw (first_from-same test other v (size - v) same) (h.next v le);
}
