-- From the seconds of the civil clock to moments.
use Rattle.std.proofs.Common.{◌≡◌, ℕ, ◌+◌, ◌*◌, ◌/◌, ◌%◌, ◌<◌, ◌≤◌, nat_lt, Bool, true, false, ◌&&◌, nat_eq, Option, Some, None, refl, sym, ◌∙◌, arith, ℤ, pos, negsuc, ◌+ℤ◌, ◌<ℤ◌, ◌≤ℤ◌, List, inl, inr, ◌⊎◌}
use Rattle.std.proofs.lemmas.Bool.{cases_lt}
use Rattle.std.proofs.lemmas.Bool.Decides.{nat_tests}
use Rattle.jiff_core.specs.Calendar.{day_count, IsYear}
use Rattle.jiff_core.proofs.SignedLemmas.{signed_arith}
use Rattle.jiff_core.proofs.MarchLemmas.{day_count-early}
use Rattle.jiff_core.proofs.CalendarLemmas.{day_count-lt_year, days_from_civil-day_count}
use Rattle.job_values.specs.declared.limits.TheConstants.{LAST_MOMENT}
use Rattle.cron_schedule.specs.declared.item.FieldItem.{FieldItem}
use Rattle.cron_schedule.specs.First.{first_in, NonePasses, IsFirst, IsFirstAt}
use Rattle.cron_schedule.specs.Calendar.{CivilDay, civil_day}
use Rattle.cron_schedule.specs.Due.{is_day_due, is_second_due, is_local_due, is_clock_due}
use Rattle.cron_schedule.specs.Civil.{IsUtc, clip}
use Rattle.cron_schedule.proofs.FirstLemmas.{cases_test, first_in-is}
use Rattle.cron_schedule.proofs.CivilLemmas.{IsDayNumber, civil_day-number}
use Rattle.cron_schedule.proofs.SetLemmas.{year_in_field-outside}

day_count-2100 : day_count (pos 2100) 1 1 ≡ 4_419_435
day_count-2100 = day_count-early (pos 2100) 12099 1 1 refl (omega arith) (omega arith) (omega arith)

late_year : (d : CivilDay) (n : ℕ) → IsDayNumber d n → 47482 ≤ n → 2099 < d.year
late_year d n h le =
    elim (cases_lt 2099 d.year) [
      | inl lt ↦ lt
      | inr early ↦
          let own : IsYear (pos d.year) = (omega (arith, signed_arith, h.year), omega (arith, signed_arith)) in
          absurd (omega (arith, signed_arith, h.number, days_from_civil-day_count (pos d.year) d.month d.day, day_count-2100, day_count-lt_year (pos d.year) d.month d.day (pos 2100) 1 1 (own, (h.month_least, h.month_most), (h.day_least, h.day_most)) (omega arith) (omega (arith, signed_arith))))
    ]

none_first : (a b c d : Bool) → a ≡ false → (a && b && c && d) ≡ false
none_first a b c d e = rw e

-- after 2099 no day is due
pub is_day_due-late : (items : List FieldItem) (n : ℕ) → 47482 ≤ n → is_day_due items n ≡ false
is_day_due-late items n le =
    let late = late_year (civil_day n) n (civil_day-number n) le in
    none_first _ _ _ _ (year_in_field-outside items (pos (civil_day n).year) (inr (omega (arith, signed_arith))))

high_false : (a b : Bool) → a ≡ false → (a && b) ≡ false
high_false a b e = rw e

pub is_local_due-late : (items : List FieldItem) (v : ℕ) → 4102444800 ≤ v → is_local_due items v ≡ false
is_local_due-late items v le = high_false (is_day_due items (v / 86400)) (is_second_due items (v % 86400)) (is_day_due-late items (v / 86400) (omega arith))

-- a second of the clock is from 1970 on or before it
pub cases_second : (z : ℤ) → ((v : ℕ) × (z ≡ pos v)) ⊎ (z <ℤ pos 0)
cases_second (pos v) = inl (v, refl)
cases_second (negsuc v) = inr (omega (arith, signed_arith))

pub clock_at : (items : List FieldItem) (z : ℤ) (v : ℕ) → z ≡ pos v → is_clock_due items z ≡ is_local_due items v
clock_at items z v e = rw e

pub clock_before : (items : List FieldItem) (z : ℤ) → z <ℤ pos 0 → is_clock_due items z ≡ false
clock_before items (pos v) lt = absurd (omega (arith, signed_arith))
clock_before items (negsuc v) lt = refl

low_false : (a b : Bool) → b ≡ false → (a && b) ≡ false
low_false true b e = e
low_false false b e = refl

both_true : (a b : Bool) → a ≡ true → b ≡ true → (a && b) ≡ true
both_true a b e f = rw (e, f)

-- a second of the clock that is moved to 1970 or the end of 2099
clip_low : (v : ℕ) → v < 4102444800 → clip (pos v) ≡ v
clip_low v lt = let test : nat_lt v 4102444800 ≡ true = grind (arith, nat_tests) in rw test

clip_high : (v : ℕ) → 4102444800 ≤ v → clip (pos v) ≡ 4102444800
clip_high v le = let test : nat_lt v 4102444800 ≡ false = grind (arith, nat_tests) in rw test

pub clip-most : (z : ℤ) → clip z ≤ 4102444800
clip-most (negsuc v) = omega arith
clip-most (pos v) = elim (cases_lt v 4102444800) [
  | inl lt ↦ omega (arith, clip_low v lt)
  | inr le ↦ omega (arith, clip_high v le)
]

pub clip-from : (z : ℤ) (v : ℕ) → z ≤ℤ pos v → clip z ≤ v
clip-from (negsuc w) v le = omega arith
clip-from (pos w) v le = elim (cases_lt w 4102444800) [
  | inl lt ↦ omega (arith, signed_arith, clip_low w lt, le)
  | inr ge ↦ omega (arith, signed_arith, clip_high w ge, le)
]

pub clip-at : (z : ℤ) (v : ℕ) → clip z ≤ v → v < 4102444800 → z ≤ℤ pos v
clip-at (negsuc w) v le lt = omega (arith, signed_arith)
clip-at (pos w) v le lt = elim (cases_lt w 4102444800) [
  | inl low ↦ omega (arith, signed_arith, clip_low w low)
  | inr ge ↦ absurd (omega (arith, clip_high w ge))
]

pub clip-below : (z : ℤ) (v : ℕ) → pos v <ℤ z → v < 4102444800 → v < clip z
clip-below (negsuc w) v lt below = absurd (omega (arith, signed_arith))
clip-below (pos w) v lt below = elim (cases_lt w 4102444800) [
  | inl low ↦ omega (arith, signed_arith, clip_low w low)
  | inr ge ↦ omega (arith, signed_arith, clip_high w ge)
]

pub clip-above : (z : ℤ) (v : ℕ) → v < clip z → pos v <ℤ z
clip-above (negsuc w) v lt = absurd (omega arith)
clip-above (pos w) v lt = elim (cases_lt w 4102444800) [
  | inl low ↦ omega (arith, signed_arith, clip_low w low)
  | inr ge ↦ omega (arith, signed_arith, clip_high w ge)
]

-- two seconds of the clock are no further apart than those of UTC
pub clip-apart : (y z : ℤ) (n : ℕ) → z ≤ℤ (y +ℤ pos n) → clip z ≤ clip y + n
clip-apart y z n le =
    elim (cases_lt (clip y) 4102444800) [
      | inr late ↦ omega (arith, clip-most z)
      | inl early ↦
          let at = clip-at y (clip y) (omega arith) early in
          clip-from z (clip y + n) (omega (arith, signed_arith))
    ]

-- the test of a second of UTC on a clock with one offset
abbrev pub at_offset : List FieldItem → ℤ → ℕ → Bool
at_offset items offset u = is_clock_due items (pos u +ℤ offset)

before_due : (items : List FieldItem) (offset : ℤ) (from u high : ℕ) → NonePasses (is_local_due items) (clip (pos from +ℤ offset)) high → from ≤ u → ((v : ℕ) → IsUtc offset v u → v < 4102444800 → v < high) → at_offset items offset u ≡ false
before_due items offset from u high none low before =
    elim (cases_second (pos u +ℤ offset)) [
      | inr gone ↦ clock_before items (pos u +ℤ offset) gone
      | inl at ↦ clock_at items (pos u +ℤ offset) at.0 at.1 ∙ elim (cases_lt at.0 4102444800) [
        | inl lt ↦ none at.0 (clip-from (pos from +ℤ offset) at.0 (omega (arith, signed_arith, at.1))) (before at.0 at.1 lt)
        | inr late ↦ is_local_due-late items at.0 late
      ]
    ]

-- where no second of the clock is due, no second of UTC is
pub none_between : (items : List FieldItem) (offset : ℤ) (from until : ℕ) → NonePasses (is_local_due items) (clip (pos from +ℤ offset)) (clip (pos until +ℤ offset)) → NonePasses (at_offset items offset) from until
none_between items offset from until none u low below =
    before_due items offset from u (clip (pos until +ℤ offset)) none low (λ v at lt. clip-below (pos until +ℤ offset) v (omega (arith, signed_arith, at)) lt)

-- and the first that is due gives the first of UTC
pub first_between : (items : List FieldItem) (offset : ℤ) (from until second utc : ℕ) → IsFirstAt (is_local_due items) (clip (pos from +ℤ offset)) (clip (pos until +ℤ offset)) second → IsUtc offset second utc → IsFirstAt (at_offset items offset) from until utc
first_between items offset from until second utc h at =
    let early : second < 4102444800 = omega (arith, h.below, clip-most (pos until +ℤ offset)) in
    record {
      least = omega (arith, signed_arith, clip-at (pos from +ℤ offset) second h.least early, at);
      below = omega (arith, signed_arith, clip-above (pos until +ℤ offset) second h.below, at);
      passes = clock_at items (pos utc +ℤ offset) second at ∙ h.passes;
      none_before = λ u low before. before_due items offset from u second h.none_before low (λ v is lt. omega (arith, signed_arith, is, at));
    }

-- of tests that agree on a stretch the first that passes is the same
pub first_same : (p q : ℕ → Bool) (low high : ℕ) (r : Option ℕ) → ((v : ℕ) → low ≤ v → v < high → p v ≡ q v) → IsFirst p low high r → IsFirst q low high r
first_same p q low high None same h = λ v least below. sym (same v least below) ∙ h v least below
first_same p q low high (Some r) same h = record {
  least = h.least;
  below = h.below;
  passes = sym (same r h.least h.below) ∙ h.passes;
  none_before = λ v least before. sym (same v least (omega (arith, h.below))) ∙ h.none_before v least before;
}

-- the search goes on where none was found
pub none_joined : (test : ℕ → Bool) (low middle high : ℕ) → NonePasses test low middle → NonePasses test middle high → NonePasses test low high
none_joined test low middle high first second v least below =
    elim (cases_lt v middle) [
      | inl lt ↦ first v least lt
      | inr ge ↦ second v ge below
    ]

pub first_joined : (test : ℕ → Bool) (low middle high end r : ℕ) → low ≤ middle → high ≤ end → NonePasses test low middle → IsFirstAt test middle high r → IsFirstAt test low end r
first_joined test low middle high end r le most none h = record {
  least = omega (arith, h.least);
  below = omega (arith, h.below);
  passes = h.passes;
  none_before = none_joined test low middle r none h.none_before;
}

-- a moment of a whole second whose second passes
abbrev pub whole_test : (ℕ → Bool) → ℕ → Bool
whole_test test t = nat_eq (t % 1000) 0 && test (t / 1000)

not_whole : (test : ℕ → Bool) (w : ℕ) → (w % 1000 ≡ 0 → test (w / 1000) ≡ false) → whole_test test w ≡ false
not_whole test w none =
    elim (cases_test (nat_eq (w % 1000) 0)) [
      | inr part ↦ high_false (nat_eq (w % 1000) 0) (test (w / 1000)) part
      | inl whole ↦ low_false (nat_eq (w % 1000) 0) (test (w / 1000)) (none (grind (arith, nat_tests)))
    ]

-- where no second passes, no moment does
pub none_whole : (test : ℕ → Bool) (t : ℕ) → NonePasses test (t / 1000 + 1) 4102444800 → None ≡ first_in (whole_test test) (t + 1) (LAST_MOMENT + 1)
none_whole test t none =
    first_in-is (whole_test test) (t + 1) (LAST_MOMENT + 1) None (λ w low below. not_whole test w (λ whole. none (w / 1000) (omega arith) (omega arith)))

-- and the first second that passes gives the first moment
pub first_whole : (test : ℕ → Bool) (t second : ℕ) → IsFirstAt test (t / 1000 + 1) 4102444800 second → Some (1000 * second) ≡ first_in (whole_test test) (t + 1) (LAST_MOMENT + 1)
first_whole test t second h =
    let quotient : 1000 * second / 1000 ≡ second = omega arith in
    let rest : 1000 * second % 1000 ≡ 0 = omega arith in
    first_in-is (whole_test test) (t + 1) (LAST_MOMENT + 1) (Some (1000 * second))
    (record {
      least = omega (arith, h.least);
      below = omega (arith, h.below);
      passes = both_true (nat_eq (1000 * second % 1000) 0) (test (1000 * second / 1000)) (rw rest) (rw quotient h.passes);
      none_before = λ w low before. not_whole test w (λ whole. h.none_before (w / 1000) (omega arith) (omega arith));
    })
