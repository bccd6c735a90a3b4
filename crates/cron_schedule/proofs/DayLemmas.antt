-- Weekdays within a month, and the last Monday to Friday day.
use Rattle.std.proofs.Common.{◌≡◌, ℕ, ◌+◌, ◌-◌, ◌%◌, ◌<◌, ◌≤◌, true, false, ◌&&◌, ◌||◌, nat_eq, nat_lt, Option, Some, None, sym, arith, ℤ, inl, inr}
use Rattle.std.specs.Prelude.{nat_le, is_none}
use Rattle.std.proofs.lemmas.Bool.{cases_lt}
use Rattle.std.proofs.lemmas.Bool.Decides.{nat_tests}
use Rattle.jiff_core.specs.Calendar.{days_in_month, days_from_civil}
use Rattle.jiff_core.proofs.CalendarLemmas.{weekday_number_bound}
use Rattle.jiff_core.proofs.DateLemmas.{weekday_number-day}
use Rattle.cron_schedule.specs.First.{first_in, IsFirst, IsFirstAt}
use Rattle.cron_schedule.specs.Calendar.{weekday_on, is_workday}
use Rattle.cron_schedule.specs.Days.{is_last_workday}
use Rattle.cron_schedule.proofs.FirstLemmas.{IsFirst-first_in}

pub weekday_on_bound : (y : ℤ) (m d : ℕ) → weekday_on y m d < 7
weekday_on_bound y m d = weekday_number_bound (days_from_civil y m d)

-- within a month the weekday goes with the day
pub weekday_on-shift : (y : ℤ) (m d n : ℕ) → 1 ≤ d → d ≤ 31 → 1 ≤ n → (weekday_on y m d + 35 + n - d) % 7 ≡ weekday_on y m n
weekday_on-shift y m d n low high first =
    let here = weekday_on_bound y m d in
    let there = weekday_on_bound y m n in
    elim (cases_lt n d) [
      | inl lt ↦
          let e : weekday_on y m d ≡ (weekday_on y m n + (d - n)) % 7 = weekday_number-day y m n d first (omega arith) in
          omega arith
      | inr le ↦
          let e : weekday_on y m n ≡ (weekday_on y m d + (n - d)) % 7 = weekday_number-day y m d n low le in
          omega arith
    ]

workday_is : (y : ℤ) (m d w : ℕ) → weekday_on y m d ≡ w → is_workday y m d ≡ nat_lt w 5
workday_is y m d w e = rw e

later_weekday : (y : ℤ) (m d n : ℕ) → 1 ≤ d → d ≤ n → weekday_on y m n ≡ (weekday_on y m d + (n - d)) % 7
later_weekday y m d n low le = weekday_number-day y m d n low le

-- no day of the month after d is a workday exactly where d is the last day, or a Friday with at most two days left
last_none : (y : ℤ) (m d : ℕ) → 1 ≤ d → d ≤ days_in_month y m → weekday_on y m d < 5 → IsFirst (is_workday y m) (d + 1) (days_in_month y m + 1) None → (nat_eq (days_in_month y m - d) 0 || (nat_eq (weekday_on y m d) 4 && nat_le (days_in_month y m - d) 2)) ≡ true
last_none y m d low le work none =
    elim (cases_lt d (days_in_month y m)) [
      | inr last ↦ let e : days_in_month y m - d ≡ 0 = omega arith in rw e
      | inl more ↦
          let next = later_weekday y m d (d + 1) low (omega arith) in
          let rest : nat_lt (weekday_on y m (d + 1)) 5 ≡ false = none (d + 1) (omega arith) (omega arith) in
          let friday : weekday_on y m d ≡ 4 = grind (arith, nat_tests) in
          elim (cases_lt 2 (days_in_month y m - d)) [
            | inr few ↦ grind (arith, nat_tests)
            | inl many ↦
                let monday = later_weekday y m d (d + 3) low (omega arith) in
                let monday_is : weekday_on y m (d + 3) ≡ 0 = omega arith in
                let idle : nat_lt (weekday_on y m (d + 3)) 5 ≡ false = none (d + 3) (omega arith) (omega arith) in
                absurd (grind (arith, nat_tests))
          ]
    ]

last_some : (y : ℤ) (m d x : ℕ) → 1 ≤ d → d ≤ days_in_month y m → weekday_on y m d < 5 → IsFirstAt (is_workday y m) (d + 1) (days_in_month y m + 1) x → (nat_eq (days_in_month y m - d) 0 || (nat_eq (weekday_on y m d) 4 && nat_le (days_in_month y m - d) 2)) ≡ false
last_some y m d x low le work h =
    let from : d + 1 ≤ x = h.least in
    let below : x < days_in_month y m + 1 = h.below in
    let there = later_weekday y m d x low (omega arith) in
    let pass : nat_lt (weekday_on y m x) 5 ≡ true = h.passes in
    let open_day : weekday_on y m x < 5 = grind (arith, nat_tests) in
    elim (cases_lt 2 (days_in_month y m - d)) [
      | inl many ↦ grind (arith, nat_tests)
      | inr few ↦
          let apart : (weekday_on y m d ≡ 4) → ⊥ = λ e. omega arith in
          grind (arith, nat_tests)
    ]

last_cases : (y : ℤ) (m d : ℕ) (r : Option ℕ) → 1 ≤ d → d ≤ days_in_month y m → weekday_on y m d < 5 → IsFirst (is_workday y m) (d + 1) (days_in_month y m + 1) r → is_none r ≡ (nat_eq (days_in_month y m - d) 0 || (nat_eq (weekday_on y m d) 4 && nat_le (days_in_month y m - d) 2))
last_cases y m d None low le work h = sym (last_none y m d low le work h)
last_cases y m d (Some x) low le work h = sym (last_some y m d x low le work h)

-- the last workday by its weekday and the days left
pub is_last_workday-test : (y : ℤ) (m d : ℕ) → 1 ≤ d → d ≤ days_in_month y m → weekday_on y m d < 5 → is_last_workday y m d ≡ (nat_eq (days_in_month y m - d) 0 || (nat_eq (weekday_on y m d) 4 && nat_le (days_in_month y m - d) 2))
is_last_workday-test y m d low le work =
    let day : is_workday y m d ≡ true = grind (arith, nat_tests) in
    rw day (last_cases y m d (first_in (is_workday y m) (d + 1) (days_in_month y m + 1)) low le work (IsFirst-first_in (is_workday y m) (d + 1) (days_in_month y m + 1)))
