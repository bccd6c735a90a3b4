-- The calendar a day at a time is the library's: the same dates have the same day numbers.
use Rattle.std.proofs.Common.{◌≡◌, ℕ, zero, suc, ◌+◌, ◌<◌, ◌≤◌, true, false, nat_lt, refl, sym, ap, ◌∙◌, arith, pos, ◌+ℤ◌, inl, inr}
use Rattle.std.proofs.lemmas.Bool.{cases_lt}
use Rattle.std.proofs.lemmas.Bool.Decides.{nat_tests}
use Rattle.std.proofs.lemmas.Int.{by_lt_z}
use Rattle.jiff_core.specs.declared.civil.date.Date.{Date}
use Rattle.jiff_core.specs.Calendar.{days_in_month, days_from_civil, day_count, IsYear}
use Rattle.jiff_core.specs.Date.{epoch_day}
use Rattle.jiff_core.proofs.SignedLemmas.{signed_arith}
use Rattle.jiff_core.proofs.CalendarLemmas.{days_in_month_bounds, days_from_civil-day_count, day_count-lt_year, day_count-epoch}
use Rattle.jiff_core.proofs.DateLemmas.{civil, epoch_day_injective, days_from_civil-day, days_from_civil-next_month, days_from_civil-next_year}
use Rattle.cron_schedule.specs.Calendar.{CivilDay, next_day, civil_day}

-- a day of the calendar from 1970 on, with this day number
pub record IsDayNumber (d : CivilDay) (n : ℕ) : Type 0 where
  pub year : 1970 ≤ d.year
  pub month_least : 1 ≤ d.month
  pub month_most : d.month ≤ 12
  pub day_least : 1 ≤ d.day
  pub day_most : d.day ≤ days_in_month (pos d.year) d.month
  pub number : days_from_civil (pos d.year) d.month d.day ≡ pos n

within_month : (y m d n : ℕ) → IsDayNumber (record { year = y; month = m; day = d }) n → d < days_in_month (pos y) m → IsDayNumber (record { year = y; month = m; day = d + 1 }) (suc n)
within_month y m d n h lt = record {
  year = h.year;
  month_least = h.month_least;
  month_most = h.month_most;
  day_least = omega arith;
  day_most = omega arith;
  number = omega (arith, signed_arith, h.number, days_from_civil-day (pos y) m d (d + 1) h.day_least (omega arith));
}

month_end : (y m d n : ℕ) → IsDayNumber (record { year = y; month = m; day = d }) n → days_in_month (pos y) m ≤ d → m < 12 → IsDayNumber (record { year = y; month = m + 1; day = 1 }) (suc n)
month_end y m d n h le lt =
    let most : d ≤ days_in_month (pos y) m = h.day_most in
    let last : d ≡ days_in_month (pos y) m = omega arith in
    let long = days_in_month_bounds (pos y) (m + 1) in
    record {
      year = h.year;
      month_least = omega arith;
      month_most = omega arith;
      day_least = omega arith;
      day_most = omega arith;
      number = omega (arith, signed_arith, h.number, days_from_civil-next_month (pos y) m d h.month_least last);
    }

year_end : (y m d n : ℕ) → IsDayNumber (record { year = y; month = m; day = d }) n → days_in_month (pos y) m ≤ d → 12 ≤ m → IsDayNumber (record { year = y + 1; month = 1; day = 1 }) (suc n)
year_end y m d n h le last_month =
    let month_most : m ≤ 12 = h.month_most in
    let m_is : m ≡ 12 = omega arith in
    let most : d ≤ days_in_month (pos y) m = h.day_most in
    let d_is : d ≡ 31 = (let e : d ≡ days_in_month (pos y) m = omega arith in e ∙ ap (days_in_month (pos y)) m_is) in
    let number : days_from_civil (pos y) m d ≡ pos n = h.number in
    let long = days_in_month_bounds (pos (y + 1)) 1 in
    let next : pos (y + 1) ≡ pos y +ℤ pos 1 = omega (arith, signed_arith) in
    record {
      year = omega (arith, h.year);
      month_least = omega arith;
      month_most = omega arith;
      day_least = omega arith;
      day_most = omega arith;
      number = omega (arith, signed_arith, rw (m_is, d_is) at number, days_from_civil-next_year (pos y) (pos (y + 1)) (omega (arith, signed_arith)) next);
    }

next_number : (y m d n : ℕ) → IsDayNumber (record { year = y; month = m; day = d }) n → IsDayNumber (next_day (record { year = y; month = m; day = d })) (suc n)
next_number y m d n h =
    elim (cases_lt d (days_in_month (pos y) m)) [
      | inl lt ↦ let test : nat_lt d (days_in_month (pos y) m) ≡ true = grind (arith, nat_tests) in rw test (within_month y m d n h lt)
      | inr le ↦
          let test : nat_lt d (days_in_month (pos y) m) ≡ false = grind (arith, nat_tests) in
          elim (cases_lt m 12) [
            | inl early ↦ let month : nat_lt m 12 ≡ true = grind (arith, nat_tests) in rw (test, month) (month_end y m d n h le early)
            | inr late ↦ let month : nat_lt m 12 ≡ false = grind (arith, nat_tests) in rw (test, month) (year_end y m d n h le late)
          ]
    ]

first_number : IsDayNumber (record { year = 1970; month = 1; day = 1 }) 0
first_number = record {
  year = omega arith;
  month_least = omega arith;
  month_most = omega arith;
  day_least = omega arith;
  day_most = omega (arith, days_in_month_bounds (pos 1970) 1);
  number = omega (arith, signed_arith, days_from_civil-day_count (pos 1970) 1 1, day_count-epoch);
}

-- the day that many days after 1 January 1970 has that day number
pub civil_day-number : (n : ℕ) → IsDayNumber (civil_day n) n
unfolding civil_day
civil_day-number zero = first_number
civil_day-number (suc n) =
    let d : CivilDay = civil_day n in
    next_number d.year d.month d.day n (civil_day-number n)

-- a date of the library with a day number from 1970 on has the parts of that day
pub record IsDateOf (date : Date) (d : CivilDay) : Type 0 where
  pub year : date.year ≡ pos d.year
  pub month : date.month ≡ d.month
  pub day : date.day ≡ d.day

counts_same : (date : Date) (d : CivilDay) (n : ℕ) → IsDayNumber d n → epoch_day date ≡ pos n → day_count date.year date.month date.day ≡ day_count (pos d.year) d.month d.day
counts_same date d n h e =
    omega (arith, signed_arith, h.number, days_from_civil-day_count date.year date.month date.day, days_from_civil-day_count (pos d.year) d.month d.day)

year_same : (date : Date) (d : CivilDay) (n : ℕ) → IsDayNumber d n → epoch_day date ≡ pos n → date.year ≡ pos d.year
year_same date d n h e =
    let counts = counts_same date d n h e in
    let year = date.year_in in
    by_lt_z date.year (pos d.year)
    (λ lt. absurd (omega (arith, counts, day_count-lt_year date.year date.month date.day (pos d.year) d.month d.day (civil date) h.day_least lt)))
    (λ ge. by_lt_z (pos d.year) date.year
    (λ gt.
    let own : IsYear (pos d.year) = (omega (arith, signed_arith, h.year), omega (arith, signed_arith)) in
    absurd (omega (arith, counts, day_count-lt_year (pos d.year) d.month d.day date.year date.month date.day (own, (h.month_least, h.month_most), (h.day_least, h.day_most)) date.day_in.0 gt)))
    (λ le. omega (arith, signed_arith)))

-- the library's date of a day of the calendar
pub date_of : (d : CivilDay) (n : ℕ) → IsDayNumber d n → IsYear (pos d.year) → (date : Date) × IsDateOf date d × (epoch_day date ≡ pos n)
date_of d n h year =
    let date : Date = record { year = pos d.year; month = d.month; day = d.day; year_in = year; month_in = (h.month_least, h.month_most); day_in = (h.day_least, h.day_most) } in
    (date, record { year = refl; month = refl; day = refl }, h.number)

pub IsDateOf-number : (date : Date) (n : ℕ) → epoch_day date ≡ pos n → IsDateOf date (civil_day n)
IsDateOf-number date n e =
    let h = civil_day-number n in
    let year = year_same date (civil_day n) n h e in
    let made = date_of (civil_day n) n h (rw year at date.year_in) in
    let same = epoch_day_injective date made.0 (e ∙ sym made.2) in
    record {
      year = year;
      month = same.1 ∙ made.1.month;
      day = same.2 ∙ made.1.day;
    }
