-- The test of a day agrees with the library's dates.
use Rattle.std.proofs.Common.{◌≡◌, ℕ, zero, suc, ◌+◌, ◌-◌, ◌%◌, ◌<◌, ◌≤◌, nat_lt, Bool, true, false, ◌&&◌, refl, sym, ap, ◌∙◌, arith, ℤ, pos, inl, inr, List}
use Rattle.std.proofs.lemmas.Bool.{cases_lt}
use Rattle.std.proofs.lemmas.Bool.Decides.{nat_tests}
use Rattle.jiff_core.specs.declared.civil.date.Date.{Date}
use Rattle.jiff_core.specs.Calendar.{days_in_month, days_from_civil}
use Rattle.jiff_core.specs.Date.{epoch_day}
use Rattle.jiff_core.proofs.SignedLemmas.{signed_arith}
use Rattle.jiff_core.proofs.CalendarLemmas.{weekday_number-parts, days_in_month_bounds}
use Rattle.jiff_core.proofs.DateLemmas.{days_from_civil-day, days_from_civil-next_month}
use Rattle.cron_schedule.specs.declared.item.FieldItem.{FieldItem}
use Rattle.cron_schedule.specs.Calendar.{CivilDay, next_day, civil_day, weekday_on}
use Rattle.cron_schedule.specs.Days.{year_in_field, day_in_field, weekday_in_field, date_in_fields}
use Rattle.cron_schedule.specs.Sets.{in_field}
use Rattle.cron_schedule.specs.First.{NonePasses}
use Rattle.cron_schedule.specs.Due.{is_day_due}
use Rattle.cron_schedule.proofs.CivilLemmas.{IsDateOf-number, civil_day-number}

-- the day is tested by the parts of the library's date
pub is_day_due-date : (items : List FieldItem) (date : Date) (n : ℕ) → epoch_day date ≡ pos n → is_day_due items n ≡ date_in_fields items date.year date.month date.day
is_day_due-date items date n e =
    let same = IsDateOf-number date n e in
    rw (same.year, same.month, same.day)

-- 1 January 1970 was a Thursday
pub weekday_on-number : (date : Date) (n : ℕ) → epoch_day date ≡ pos n → (n + 3) % 7 ≡ weekday_on date.year date.month date.day
weekday_on-number date n e = rw e (omega (arith, signed_arith, weekday_number-parts (pos n)))

day_moved : (y : ℤ) (m d e n k : ℕ) → 1 ≤ d → 1 ≤ e → days_from_civil y m d ≡ pos n → k + d ≡ n + e → days_from_civil y m e ≡ pos k
day_moved y m d e n k low least h same = omega (arith, signed_arith, days_from_civil-day y m d e low least)

-- the day number of another date of a month
pub same_month_day : (a b : Date) (n k : ℕ) → epoch_day a ≡ pos n → b.year ≡ a.year → b.month ≡ a.month → k + a.day ≡ n + b.day → epoch_day b ≡ pos k
same_month_day a b n k h year month days =
    rw (year, month) (day_moved a.year a.month a.day b.day n k a.day_in.0 b.day_in.0 h days)

-- and of the first of the next one
pub next_month_day : (a b : Date) (n k : ℕ) → epoch_day a ≡ pos n → b.year ≡ a.year → b.month ≡ a.month + 1 → b.day ≡ 1 → k + a.day ≡ n + days_in_month a.year a.month + 1 → epoch_day b ≡ pos k
next_month_day a b n k h year month day days =
    let long = days_in_month_bounds a.year a.month in
    let low = a.day_in in
    let last = days_from_civil-day a.year a.month a.day (days_in_month a.year a.month) low.0 (omega arith) in
    let next = days_from_civil-next_month a.year a.month (days_in_month a.year a.month) a.month_in.0 refl in
    rw (year, month, day) (omega (arith, signed_arith, last, next, h))

-- of four tests the first two passed, so the last two decide
pub after_month : (a c d : Bool) → a ≡ true → (c && d) ≡ (a && c && d)
after_month a c d e = rw e

-- or they did not
pub no_month : (a c d : Bool) → a ≡ false → false ≡ (a && c && d)
no_month a c d e = rw e

pub both_of : (a b : Bool) → a ≡ true → b ≡ (a && b)
both_of a b e = rw e

pub none_of_both : (a b : Bool) → a ≡ false → false ≡ (a && b)
none_of_both a b e = rw e

-- the days up to the end of a month have its year and month
pub record IsLater (n k : ℕ) : Type 0 where
  pub year : (civil_day (n + k)).year ≡ (civil_day n).year
  pub month : (civil_day (n + k)).month ≡ (civil_day n).month
  pub day : (civil_day (n + k)).day ≡ (civil_day n).day + k

one_later : (d : CivilDay) → d.day < days_in_month (pos d.year) d.month → ((next_day d).year ≡ d.year) × ((next_day d).month ≡ d.month) × ((next_day d).day ≡ d.day + 1)
one_later d lt =
    let test : nat_lt d.day (days_in_month (pos d.year) d.month) ≡ true = grind (arith, nat_tests) in
    rw test (refl, refl, refl)

later_day : (n : ℕ) → civil_day (suc n) ≡ next_day (civil_day n)
unfolding civil_day
later_day n = refl

later_step : (n k : ℕ) → IsLater n k → (civil_day n).day + suc k ≤ days_in_month (pos (civil_day n).year) (civil_day n).month → IsLater n (suc k)
later_step n k h le =
    let lt : (civil_day (n + k)).day < days_in_month (pos (civil_day (n + k)).year) (civil_day (n + k)).month = rw (h.year, h.month, h.day) (omega arith) in
    let next = one_later (civil_day (n + k)) lt in
    let at : n + suc k ≡ suc (n + k) = omega arith in
    let is : civil_day (n + suc k) ≡ next_day (civil_day (n + k)) = ap civil_day at ∙ later_day (n + k) in
    record {
      year = rw is (next.0 ∙ h.year);
      month = rw is (next.1 ∙ h.month);
      day = rw is (omega (arith, next.2, h.day));
    }

pub same_month : (n k : ℕ) → (civil_day n).day + k ≤ days_in_month (pos (civil_day n).year) (civil_day n).month → IsLater n k
same_month n zero le =
    let at : n + zero ≡ n = omega arith in
    record {
      year = ap (λ (v : ℕ). (civil_day v).year) at;
      month = ap (λ (v : ℕ). (civil_day v).month) at;
      day = omega (arith, ap (λ (v : ℕ). (civil_day v).day) at);
    }
same_month n (suc k) le = later_step n k (same_month n k (omega arith)) le

month_out : (items : List FieldItem) (n k : ℕ) → IsLater n k → (year_in_field items (pos (civil_day n).year) && in_field 5 items (civil_day n).month) ≡ false → is_day_due items (n + k) ≡ false
month_out items n k h out = rw (h.year, h.month) (sym (no_month _ _ _ out))

third_false : (a b c d : Bool) → c ≡ false → (a && b && c && d) ≡ false
third_false true true c d e = rw e
third_false true false c d e = refl
third_false false b c d e = refl

date_out : (items : List FieldItem) (n k : ℕ) → IsLater n k → day_in_field items (pos (civil_day n).year) (civil_day n).month ((civil_day n).day + k) ≡ false → is_day_due items (n + k) ≡ false
date_out items n k h out = rw (h.year, h.month, h.day) (third_false (year_in_field items (pos (civil_day n).year)) (in_field 5 items (civil_day n).month) (day_in_field items (pos (civil_day n).year) (civil_day n).month ((civil_day n).day + k)) (weekday_in_field items (pos (civil_day n).year) (civil_day n).month ((civil_day n).day + k)) out)

-- nor a day after one that is not due, up to a day of its month with none between in the set of days
pub none_to_date : (items : List FieldItem) (date : Date) (n next high : ℕ) → epoch_day date ≡ pos n → is_day_due items n ≡ false → ((d : ℕ) → date.day < d → d < next → day_in_field items date.year date.month d ≡ false) → high + date.day ≤ n + 1 + days_in_month date.year date.month → high + date.day ≤ n + next → NonePasses (is_day_due items) n high
none_to_date items date n next high e gone out within most v least below =
    elim (cases_lt n v) [
      | inr le ↦ let same : v ≡ n = omega arith in ap (is_day_due items) same ∙ gone
      | inl later ↦
          let same = IsDateOf-number date n e in
          let at : n + (v - n) ≡ v = omega arith in
          let there : day_in_field items date.year date.month (date.day + (v - n)) ≡ false = out (date.day + (v - n)) (omega arith) (omega arith) in
          let room : (civil_day n).day + (v - n) ≤ days_in_month (pos (civil_day n).year) (civil_day n).month = rw (← same.year, ← same.month, ← same.day) (omega arith) in
          rw at at (date_out items n (v - n) (same_month n (v - n) room) (rw (same.year, same.month, same.day) at there))
    ]

-- no day from one on to the end of its month is due where its year or its month is in no set
pub none_in_month : (items : List FieldItem) (date : Date) (n : ℕ) → epoch_day date ≡ pos n → (year_in_field items date.year && in_field 5 items date.month) ≡ false → NonePasses (is_day_due items) n (n + 1 + (days_in_month date.year date.month - date.day))
none_in_month items date n e out v least below =
    let same = IsDateOf-number date n e in
    let own = rw (same.year, same.month) at out in
    let within : v < n + 1 + (days_in_month (pos (civil_day n).year) (civil_day n).month - (civil_day n).day) = rw (same.year, same.month, same.day) at below in
    let number = civil_day-number n in
    let at : n + (v - n) ≡ v = omega arith in
    rw at at (month_out items n (v - n) (same_month n (v - n) (omega (arith, number.day_most))) own)
