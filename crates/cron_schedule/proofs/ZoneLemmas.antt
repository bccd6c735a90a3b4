-- The offset of a zone between two of its changes.
use Rattle.std.proofs.Common.{◌⊎◌, ◌%◌, ◌≡◌, ℕ, zero, suc, ◌+◌, ◌-◌, ◌<◌, ◌≤◌, Bool, true, false, not, ◌&&◌, ◌||◌, nat_eq, if◌then◌else◌, Option, Some, None, refl, sym, ap, ◌∙◌, arith, ℤ, pos, ◌<ℤ◌, ◌≤ℤ◌, inl, inr}
use Rattle.std.specs.Prelude.{is_some, int_le, int_lt, nat_le}
use Rattle.std.proofs.lemmas.Bool.{cases_lt}
use Rattle.std.proofs.lemmas.Bool.Decides.{nat_tests}
use Rattle.std.proofs.lemmas.Int.{by_lt_z}
use Rattle.jiff_core.proofs.SignedLemmas.{signed_arith}
use Rattle.jiff_core.specs.Calendar.{days_in_month, IsYear, IsCivilDate}
use Rattle.jiff_core.proofs.CalendarLemmas.{days_in_month_bounds, days_from_civil-day_count, day_count-lt_year}
use Rattle.zone_texts.specs.Changes.{Change}
use Rattle.zone_texts.specs.declared.zone.ZoneRules.{ZoneRules}
use Rattle.jiff_core.proofs.DateLemmas.{weekday_number-day}
use Rattle.cron_schedule.specs.Calendar.{weekday_on}
use Rattle.cron_schedule.proofs.DayLemmas.{weekday_on_bound}
use Rattle.cron_schedule.specs.declared.zones.Passed.{Passed}
use Rattle.cron_schedule.specs.First.{first_in, IsFirst}
use Rattle.cron_schedule.specs.Zones.{begin_at, end_at, offset_after, offset_under, nth_day, rule_day, change_at, some_year, is_ended, has_begun, is_changed, is_preceded, is_before_end, is_daylight, is_daylight_past, IsPassed, IsPassing, IsRule, IsNextFrom, IsBeforeNext, IsUpToNext, IsNextReached, IsRuleDay, RuleDays}
use Rattle.cron_schedule.proofs.FirstLemmas.{cases_test, IsFirst-first_in}

le_yes : (a b : ℤ) → a ≤ℤ b → int_le a b ≡ true
le_yes a b h = elim (cases_test (int_le a b)) [
  | inl e ↦ e
  | inr e ↦ absurd (omega (arith, signed_arith))
]

le_no : (a b : ℤ) → b <ℤ a → int_le a b ≡ false
le_no a b h = elim (cases_test (int_le a b)) [
  | inl e ↦ absurd (omega (arith, signed_arith))
  | inr e ↦ e
]

lt_yes : (a b : ℤ) → a <ℤ b → int_lt a b ≡ true
lt_yes a b h = elim (cases_test (int_lt a b)) [
  | inl e ↦ e
  | inr e ↦ absurd (omega (arith, signed_arith))
]

lt_no : (a b : ℤ) → b ≤ℤ a → int_lt a b ≡ false
lt_no a b h = elim (cases_test (int_lt a b)) [
  | inl e ↦ absurd (omega (arith, signed_arith))
  | inr e ↦ e
]

both_true : (a b : Bool) → a ≡ true → b ≡ true → (a && b) ≡ true
both_true a b e f = rw (e, f)

high_false : (a b : Bool) → a ≡ false → (a && b) ≡ false
high_false a b e = rw e

low_false : (a b : Bool) → b ≡ false → (a && b) ≡ false
low_false true b e = e
low_false false b e = refl

left_or : (a b : Bool) → a ≡ true → (a || b) ≡ true
left_or a b e = rw e

right_or : (a b : Bool) → b ≡ true → (a || b) ≡ true
right_or true b e = refl
right_or false b e = e

neither : (a b : Bool) → a ≡ false → b ≡ false → (a || b) ≡ false
neither a b e f = rw (e, f)

not_true : (b : Bool) → b ≡ true → not b ≡ false
not_true b e = rw e

not_false : (b : Bool) → b ≡ false → not b ≡ true
not_false b e = rw e

found : (test : ℕ → Bool) (r : Option ℕ) (n : ℕ) → IsFirst test 0 130 r → n < 130 → test n ≡ true → is_some r ≡ true
found test None n h lt pass =
    let no_pass : test n ≡ false = h n (omega arith) lt in
    cc
found test (Some x) n h lt pass = refl

-- a year that passes shows that one does
some_yes : (test : ℕ → Bool) (n : ℕ) → n < 130 → test n ≡ true → some_year test ≡ true
some_yes test n lt pass = found test (first_in test 0 130) n (IsFirst-first_in test 0 130) lt pass

lost : (test : ℕ → Bool) (r : Option ℕ) → IsFirst test 0 130 r → ((n : ℕ) → n < 130 → test n ≡ false) → is_some r ≡ false
lost test None h none = refl
lost test (Some x) h none =
    let pass : test x ≡ true = h.passes in
    let no_pass : test x ≡ false = none x h.below in
    cc

-- and where none passes, none does
some_no : (test : ℕ → Bool) → ((n : ℕ) → n < 130 → test n ≡ false) → some_year test ≡ false
some_no test none = lost test (first_in test 0 130) (IsFirst-first_in test 0 130) none

-- instants that come in order of their years
abbrev pub Rises : (ℕ → ℤ) → Type 0
Rises change = (k m : ℕ) → k ≤ m → m < 130 → change k ≤ℤ change m

ended : (end : ℕ → ℤ) (from u : ℤ) (k : ℕ) → k < 130 → from ≤ℤ end k → end k ≤ℤ u → is_ended end from u ≡ true
ended end from u k lt low high =
    some_yes (λ n. int_le from (end n) && int_le (end n) u) k lt (both_true (int_le from (end k)) (int_le (end k) u) (le_yes from (end k) low) (le_yes (end k) u high))

not_ended : (end : ℕ → ℤ) (from u : ℤ) → ((k : ℕ) → k < 130 → end k ≤ℤ u → end k <ℤ from) → is_ended end from u ≡ false
not_ended end from u before =
    some_no (λ n. int_le from (end n) && int_le (end n) u) (λ k lt.
    by_lt_z u (end k)
    (λ late. low_false (int_le from (end k)) (int_le (end k) u) (le_no (end k) u late))
    (λ early. high_false (int_le from (end k)) (int_le (end k) u) (le_no from (end k) (before k lt early))))

-- a begin is not above the instant, and each end up to the instant lies before it
begun : (begin end : ℕ → ℤ) (u : ℤ) (i : ℕ) → i < 130 → begin i ≤ℤ u → ((k : ℕ) → k < 130 → end k ≤ℤ u → end k <ℤ begin i) → has_begun begin end u ≡ true
begun begin end u i lt le before =
    some_yes (λ n. int_le (begin n) u && not (is_ended end (begin n) u)) i lt (both_true (int_le (begin i) u) (not (is_ended end (begin i) u)) (le_yes (begin i) u le) (not_false (is_ended end (begin i) u) (not_ended end (begin i) u before)))

-- an end up to the instant lies at or after each begin up to the instant
over : (begin end : ℕ → ℤ) (u : ℤ) (j : ℕ) → j < 130 → end j ≤ℤ u → ((n : ℕ) → n < 130 → begin n ≤ℤ u → begin n ≤ℤ end j) → has_begun begin end u ≡ false
over begin end u j lt le after =
    some_no (λ n. int_le (begin n) u && not (is_ended end (begin n) u)) (λ n below.
    by_lt_z u (begin n)
    (λ late. high_false (int_le (begin n) u) (not (is_ended end (begin n) u)) (le_no (begin n) u late))
    (λ early. low_false (int_le (begin n) u) (not (is_ended end (begin n) u)) (not_true (is_ended end (begin n) u) (ended end (begin n) u j lt (after n below early) le))))

not_begun : (begin end : ℕ → ℤ) (u : ℤ) → ((n : ℕ) → n < 130 → u <ℤ begin n) → has_begun begin end u ≡ false
not_begun begin end u late =
    some_no (λ n. int_le (begin n) u && not (is_ended end (begin n) u)) (λ n below. high_false (int_le (begin n) u) (not (is_ended end (begin n) u)) (le_no (begin n) u (late n below)))

unchanged : (begin end : ℕ → ℤ) (u : ℤ) → ((n : ℕ) → n < 130 → u <ℤ begin n) → ((n : ℕ) → n < 130 → u <ℤ end n) → is_changed begin end u ≡ false
unchanged begin end u begins ends =
    some_no (λ n. int_le (begin n) u || int_le (end n) u) (λ n below. neither (int_le (begin n) u) (int_le (end n) u) (le_no (begin n) u (begins n below)) (le_no (end n) u (ends n below)))

ended_before : (begin end : ℕ → ℤ) (u : ℤ) (n : ℕ) → n < 130 → end n ≤ℤ u → is_before_end begin end u ≡ false
ended_before begin end u n lt le =
    high_false (not (is_changed begin end u)) (some_year (λ k. not (is_preceded begin (end k))))
    (not_true (is_changed begin end u) (some_yes (λ k. int_le (begin k) u || int_le (end k) u) n lt (right_or (int_le (begin n) u) (int_le (end n) u) (le_yes (end n) u le))))

-- no change yet, and the first is an end
end_first : (begin end : ℕ → ℤ) (u : ℤ) → is_changed begin end u ≡ false → ((n : ℕ) → n < 130 → end 0 ≤ℤ begin n) → is_before_end begin end u ≡ true
end_first begin end u none after =
    both_true (not (is_changed begin end u)) (some_year (λ k. not (is_preceded begin (end k)))) (not_false (is_changed begin end u) none)
    (some_yes (λ k. not (is_preceded begin (end k))) 0 (omega arith) (not_false (is_preceded begin (end 0)) (some_no (λ n. int_lt (begin n) (end 0)) (λ n below. lt_no (begin n) (end 0) (after n below)))))

-- or it is a begin
begin_first : (begin end : ℕ → ℤ) (u : ℤ) → ((n : ℕ) → n < 130 → begin 0 <ℤ end n) → is_before_end begin end u ≡ false
begin_first begin end u before =
    low_false (not (is_changed begin end u)) (some_year (λ k. not (is_preceded begin (end k))))
    (some_no (λ k. not (is_preceded begin (end k))) (λ k below. not_true (is_preceded begin (end k)) (some_yes (λ n. int_lt (begin n) (end k)) 0 (omega arith) (lt_yes (begin 0) (end k) (before k below)))))

before_all : (begin end : ℕ → ℤ) (u : ℤ) → Rises begin → Rises end → ((n : ℕ) → n < 130 → u <ℤ begin n) → ((n : ℕ) → n < 130 → u <ℤ end n) → int_le (end 0) (begin 0) ≡ is_daylight begin end u
before_all begin end u rb re begins ends =
    by_lt_z (begin 0) (end 0)
    (λ lt. le_no (end 0) (begin 0) lt ∙ sym (neither (has_begun begin end u) (is_before_end begin end u) (not_begun begin end u begins) (begin_first begin end u (λ n below. omega (arith, signed_arith, re 0 n (omega arith) below)))))
    (λ le. le_yes (end 0) (begin 0) le ∙ sym (right_or (has_begun begin end u) (is_before_end begin end u) (end_first begin end u (unchanged begin end u begins ends) (λ n below. omega (arith, signed_arith, rb 0 n (omega arith) below)))))

-- the last of the instants that are not above another
last_passed : (change : ℕ → ℤ) (u : ℤ) (n k : ℕ) → Rises change → IsPassed change u n → k < 130 → change k ≤ℤ u → (0 < n) × (change k ≤ℤ change (n - 1))
last_passed change u n k rises h lt le =
    elim (cases_lt k n) [
      | inl early ↦ (omega arith, rises k (n - 1) (omega arith) (omega (arith, h.most)))
      | inr late ↦ absurd (let gone : u <ℤ change k = h.to_come k late lt in omega (arith, signed_arith))
    ]

after_end : (begin end : ℕ → ℤ) (u : ℤ) (j : ℕ) → IsPassed end u j → 0 < j → ((n : ℕ) → n < 130 → begin n ≤ℤ u → begin n ≤ℤ end (j - 1)) → false ≡ is_daylight begin end u
after_end begin end u j h some after =
    let lt : j - 1 < 130 = omega (arith, h.most) in
    let le : end (j - 1) ≤ℤ u = h.passed (j - 1) (omega arith) in
    sym (neither (has_begun begin end u) (is_before_end begin end u) (over begin end u (j - 1) lt le after) (ended_before begin end u (j - 1) lt le))

after_begin : (begin end : ℕ → ℤ) (u : ℤ) (i : ℕ) → IsPassed begin u i → 0 < i → ((k : ℕ) → k < 130 → end k ≤ℤ u → end k <ℤ begin (i - 1)) → true ≡ is_daylight begin end u
after_begin begin end u i h some before =
    sym (left_or (has_begun begin end u) (is_before_end begin end u) (begun begin end u (i - 1) (omega (arith, h.most)) (h.passed (i - 1) (omega arith)) before))

not_zero : (n : ℕ) → nat_eq (suc n) 0 ≡ false
not_zero n = grind (arith, nat_tests)

-- daylight time after so many begins and so many ends
abbrev is_daylight_after : (ℕ → ℤ) → (ℕ → ℤ) → ℕ → ℕ → Bool
is_daylight_after begin end begins ends =
    if nat_eq begins 0 then (if nat_eq ends 0 then int_le (end 0) (begin 0) else false)
    else if nat_eq ends 0 then true
    else int_lt (end (ends - 1)) (begin (begins - 1))

-- the offset goes by the numbers of begins and ends so far
is_daylight_after-is : (begin end : ℕ → ℤ) (u : ℤ) (i j : ℕ) → Rises begin → Rises end → IsPassed begin u i → IsPassed end u j → is_daylight_after begin end i j ≡ is_daylight begin end u
is_daylight_after-is begin end u zero zero rb re hb he =
    before_all begin end u rb re (λ n below. hb.to_come n (omega arith) below) (λ n below. he.to_come n (omega arith) below)
is_daylight_after-is begin end u zero (suc j) rb re hb he =
    rw (not_zero j)
    (after_end begin end u (suc j) he (omega arith) (λ n below le. absurd (let late : u <ℤ begin n = hb.to_come n (omega arith) below in omega (arith, signed_arith))))
is_daylight_after-is begin end u (suc i) zero rb re hb he =
    rw (not_zero i)
    (after_begin begin end u (suc i) hb (omega arith) (λ n below le. absurd (let late : u <ℤ end n = he.to_come n (omega arith) below in omega (arith, signed_arith))))
is_daylight_after-is begin end u (suc i) (suc j) rb re hb he =
    rw (not_zero i, not_zero j)
    (by_lt_z (end (suc j - 1)) (begin (suc i - 1))
    (λ lt. lt_yes (end (suc j - 1)) (begin (suc i - 1)) lt ∙ after_begin begin end u (suc i) hb (omega arith) (λ k below le. let last = last_passed end u (suc j) k re he below le in omega (arith, signed_arith, last.1)))
    (λ le. lt_no (end (suc j - 1)) (begin (suc i - 1)) le ∙ after_end begin end u (suc j) he (omega arith) (λ k below early. let last = last_passed begin u (suc i) k rb hb below early in omega (arith, signed_arith, last.1))))

past_after : (begin end : ℕ → ℤ) (i j : ℕ) (begin_last begin_next end_last end_next : ℤ) → (0 < i → begin_last ≡ begin (i - 1)) → (i < 130 → begin_next ≡ begin i) → (0 < j → end_last ≡ end (j - 1)) → (j < 130 → end_next ≡ end j) → is_daylight_past (record { count = i; last = begin_last; next = begin_next }) (record { count = j; last = end_last; next = end_next }) ≡ is_daylight_after begin end i j
past_after begin end zero zero bl bn el en hbl hbn hel hen = rw (hbn (omega arith), hen (omega arith))
past_after begin end zero (suc j) bl bn el en hbl hbn hel hen = rw (not_zero j)
past_after begin end (suc i) zero bl bn el en hbl hbn hel hen = rw (not_zero i)
past_after begin end (suc i) (suc j) bl bn el en hbl hbn hel hen = rw (not_zero i, not_zero j, hbl (omega arith), hel (omega arith))

-- it goes by the last of them, at each instant at which as many have passed
pub is_daylight_past-is : (begin end : ℕ → ℤ) (u v : ℤ) (begins ends : Passed) → Rises begin → Rises end → IsPassing begin u begins → IsPassing end u ends → IsPassed begin v begins.count → IsPassed end v ends.count → is_daylight_past begins ends ≡ is_daylight begin end v
is_daylight_past-is begin end u v begins ends rb re hb he kb ke =
    past_after begin end begins.count ends.count begins.last begins.next ends.last ends.next hb.last hb.next he.last he.next
    ∙ is_daylight_after-is begin end v begins.count ends.count rb re kb ke

-- the next change is above the instant
pub passing-before : (change : ℕ → ℤ) (at : ℕ) (p : Passed) → IsPassing change (pos at) p → IsBeforeNext p at
passing-before change at p h lt =
    let late : pos at <ℤ change p.count = h.count.to_come p.count (omega arith) lt in
    rw (h.next lt) late

pub passing-next : (change : ℕ → ℤ) (u : ℤ) (p : Passed) (until : ℕ) → IsPassing change u p → IsUpToNext p until → IsNextFrom change p.count until
passing-next change u p until h le lt = rw (h.next lt) at (le lt)

pub passing-reached : (change : ℕ → ℤ) (u : ℤ) (p : Passed) (until : ℕ) → IsPassing change u p → IsNextReached p until → change p.count ≤ℤ pos until
passing-reached change u p until h reached = rw (h.next reached.0) at reached.1

-- the changes of a rule come in order of their years
rule_date : (rule : Change) (n : ℕ) → IsRule rule → n < 130 → IsCivilDate (pos (1970 + n)) rule.month (rule_day rule (pos (1970 + n)))
rule_date rule n h lt =
    let own : IsYear (pos (1970 + n)) = (omega (arith, signed_arith), omega (arith, signed_arith)) in
    let long = days_in_month_bounds (pos (1970 + n)) rule.month in
    let week = h.week_in in
    (own, h.month_in, (grind (arith, nat_tests), grind (arith, nat_tests)))

later_year : (rule : Change) (offset : ℤ) (k m : ℕ) → IsRule rule → k < m → m < 130 → change_at rule offset k ≤ℤ change_at rule offset m
later_year rule offset k m h lt below =
    let date = rule_date rule k h (omega arith) in
    let next = rule_date rule m h below in
    omega (arith, signed_arith, days_from_civil-day_count (pos (1970 + k)) rule.month (rule_day rule (pos (1970 + k))), days_from_civil-day_count (pos (1970 + m)) rule.month (rule_day rule (pos (1970 + m))), day_count-lt_year (pos (1970 + k)) rule.month (rule_day rule (pos (1970 + k))) (pos (1970 + m)) rule.month (rule_day rule (pos (1970 + m))) date next.2.0 (omega (arith, signed_arith)))

pub change_at-rises : (rule : Change) (offset : ℤ) → IsRule rule → Rises (change_at rule offset)
change_at-rises rule offset h k m le below =
    elim (cases_lt k m) [
      | inl lt ↦ later_year rule offset k m h lt below
      | inr ge ↦ let e : k ≡ m = omega arith in rw e (omega (arith, signed_arith))
    ]

-- the offset by rules at each instant at which as many have passed
pub offset_after-is : (standard : ℤ) (rules : ZoneRules) (u v : ℤ) (begins ends : Passed) → IsRule rules.begin → IsRule rules.end → IsPassing (begin_at standard rules) u begins → IsPassing (end_at rules) u ends → IsPassed (begin_at standard rules) v begins.count → IsPassed (end_at rules) v ends.count → offset_after standard rules begins ends ≡ offset_under standard rules v
offset_after-is standard rules u v begins ends br er hb he kb ke =
    ap (λ (light : Bool). if light then rules.daylight else standard) (is_daylight_past-is (begin_at standard rules) (end_at rules) u v begins ends (change_at-rises rules.begin standard br) (change_at-rises rules.end rules.daylight er) hb he kb ke)

-- as many have passed at a later instant below the next
pub passing_on : (change : ℕ → ℤ) (u v : ℤ) (p : Passed) → Rises change → IsPassing change u p → u ≤ℤ v → (p.count < 130 → v <ℤ p.next) → IsPassing change v p
passing_on change u v p rises h le early = record {
  count = record {
    most = h.count.most;
    passed = λ k lt. omega (arith, signed_arith, h.count.passed k lt);
    to_come = λ k low below.
        let lt : p.count < 130 = omega arith in
        let next : v <ℤ change p.count = rw (h.next lt) at (early lt) in
        omega (arith, signed_arith, rises p.count k low below);
  };
  last = h.last;
  next = h.next;
  bound = h.bound;
}

-- as many have passed at each instant of a stretch
pub passed_on : (change : ℕ → ℤ) (u v : ℤ) (until n : ℕ) → Rises change → IsPassed change u n → IsNextFrom change n until → u ≤ℤ v → v <ℤ pos until → IsPassed change v n
passed_on change u v until n rises h next le lt = record {
  most = h.most;
  passed = λ k below. omega (arith, signed_arith, h.passed k below);
  to_come = λ k low below. omega (arith, signed_arith, next (omega arith), rises n k low below);
}

-- later not fewer have passed
pub passed_more : (change : ℕ → ℤ) (u v : ℤ) (n m : ℕ) → IsPassed change u n → IsPassed change v m → u ≤ℤ v → n ≤ m
passed_more change u v n m h k le =
    elim (cases_lt m n) [
      | inr ge ↦ ge
      | inl lt ↦ absurd (let late : v <ℤ change m = k.to_come m (omega arith) (omega (arith, h.most)) in omega (arith, signed_arith, h.passed m lt))
    ]

-- and one more where the next one was reached
pub passed_next : (change : ℕ → ℤ) (v : ℤ) (n m : ℕ) → IsPassed change v m → n < 130 → change n ≤ℤ v → n < m
passed_next change v n m k below le =
    elim (cases_lt n m) [
      | inl lt ↦ lt
      | inr ge ↦ absurd (let late : v <ℤ change n = k.to_come n ge below in omega (arith, signed_arith))
    ]

day_cases : (rule : Change) (y : ℤ) → ((rule_day rule y ≡ nth_day y rule.month rule.day rule.week) × (nth_day y rule.month rule.day rule.week ≤ days_in_month y rule.month)) ⊎ ((rule_day rule y ≡ nth_day y rule.month rule.day 4) × (days_in_month y rule.month < nth_day y rule.month rule.day rule.week))
day_cases rule y =
    elim (cases_lt (days_in_month y rule.month) (nth_day y rule.month rule.day rule.week)) [
      | inl lt ↦ let test : nat_le (nth_day y rule.month rule.day rule.week) (days_in_month y rule.month) ≡ false = grind (arith, nat_tests) in inr (rw test refl, lt)
      | inr le ↦ let test : nat_le (nth_day y rule.month rule.day rule.week) (days_in_month y rule.month) ≡ true = grind (arith, nat_tests) in inl (rw test refl, le)
    ]

weekday_at : (y : ℤ) (m d : ℕ) → 1 ≤ d → weekday_on y m d ≡ (weekday_on y m 1 + (d - 1)) % 7
weekday_at y m d le = weekday_number-day y m 1 d (omega arith) le

day_is : (rule : Change) (y : ℤ) → IsRule rule → IsRuleDay rule y (rule_day rule y)
day_is rule y h =
    let long = days_in_month_bounds y rule.month in
    let first = weekday_on_bound y rule.month 1 in
    elim (day_cases rule y) [
      | inl c ↦
          let here = weekday_at y rule.month (rule_day rule y) (omega (arith, c.0, h.week_in)) in
          record {
            least = omega (arith, c.0, h.week_in);
            most = omega (arith, c.0, c.1);
            weekday = omega (arith, c.0, h.week_in, h.day_in, here);
            week = λ few. (omega (arith, c.0, h.week_in), omega (arith, c.0, h.week_in));
            last = λ five. omega (arith, c.0, five);
          }
      | inr c ↦
          let here = weekday_at y rule.month (rule_day rule y) (omega (arith, c.0)) in
          record {
            least = omega (arith, c.0);
            most = omega (arith, c.0);
            weekday = omega (arith, c.0, h.day_in, here);
            week = λ few. absurd (omega (arith, c.1));
            last = λ five. omega (arith, c.0, c.1, five);
          }
    ]

one_day : (rule : Change) (y : ℤ) (d : ℕ) → IsRule rule → IsRuleDay rule y d → d ≡ rule_day rule y
one_day rule y d h k =
    let own = day_is rule y h in
    let first = weekday_on_bound y rule.month 1 in
    let here = weekday_at y rule.month (rule_day rule y) own.least in
    let there = weekday_at y rule.month d k.least in
    elim (cases_lt rule.week 5) [
      | inl few ↦ let near = k.week few in let at = own.week few in omega (arith, here, there, k.weekday, own.weekday, near, at, own.least, k.least)
      | inr many ↦
          let five : rule.week ≡ 5 = omega (arith, h.week_in) in
          let near = k.last five in
          let at = own.last five in
          omega (arith, here, there, k.weekday, own.weekday, near, at, own.least, k.least, own.most, k.most)
    ]

pub rule_days : RuleDays
rule_days rule y h = (day_is rule y h, λ d k. one_day rule y d h k)
