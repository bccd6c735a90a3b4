-- The tests of days and moments are the relations on civil dates and times.
use Rattle.std.proofs.Common.{◌≡◌, ℕ, ◌+◌, ◌*◌, ◌/◌, ◌%◌, ◌<◌, Bool, true, false, ◌&&◌, nat_eq, refl, sym, ◌∙◌, arith, ℤ, pos, ◌+ℤ◌, ◌<ℤ◌, ◌≤ℤ◌, List, inl, inr, ◌⊎◌}
use Rattle.std.proofs.lemmas.Bool.Decides.{nat_tests}
use Rattle.std.proofs.lemmas.Int.{by_lt_z}
use Rattle.jiff_core.specs.declared.civil.date.Date.{Date}
use Rattle.jiff_core.specs.declared.civil.time.Time.{Time}
use Rattle.jiff_core.specs.declared.civil.datetime.DateTime.{DateTime}
use Rattle.jiff_core.specs.Calendar.{IsYear}
use Rattle.jiff_core.specs.Date.{epoch_day}
use Rattle.jiff_core.specs.Time.{time_nanos, time_seconds}
use Rattle.jiff_core.proofs.SignedLemmas.{signed_arith}
use Rattle.jiff_core.proofs.CalendarLemmas.{days_from_civil-day_count, day_count-lt_year, day_count-last_of_year, day_count-next_year, day_count-epoch}
use Rattle.jiff_core.proofs.DateTimeLemmas.{civil_nanos-parts}
use Rattle.cron_schedule.specs.declared.item.FieldItem.{FieldItem}
use Rattle.cron_schedule.specs.Sets.{in_field}
use Rattle.cron_schedule.specs.Calendar.{civil_day}
use Rattle.cron_schedule.specs.Days.{year_in_field, day_in_field, weekday_in_field, date_in_fields}
use Rattle.cron_schedule.specs.Due.{TimeDue, DateDue, Due, DayDue, is_day_due, is_hour_second_due, is_second_due, is_local_due, is_clock_due, is_due}
use Rattle.cron_schedule.proofs.CivilLemmas.{civil_day-number, date_of}
use Rattle.cron_schedule.proofs.SetLemmas.{year_in_field-outside}
use Rattle.cron_schedule.proofs.DueLemmas.{is_day_due-date}
use Rattle.cron_schedule.proofs.AfterLemmas.{is_day_due-late, is_local_due-late, cases_second, clock_at, clock_before}

left_true : (a b : Bool) → (a && b) ≡ true → a ≡ true
left_true true b e = refl
left_true false b e = cc

right_true : (a b : Bool) → (a && b) ≡ true → b ≡ true
right_true true b e = e
right_true false b e = cc

both_true : (a b : Bool) → a ≡ true → b ≡ true → (a && b) ≡ true
both_true a b e f = rw (e, f)

-- the four tests of a date are the relation
date_due : (items : List FieldItem) (date : Date) → date_in_fields items date.year date.month date.day ≡ true → DateDue items date
date_due items date h =
    let year = year_in_field items date.year in
    let month = in_field 5 items date.month in
    let day = day_in_field items date.year date.month date.day in
    let weekday = weekday_in_field items date.year date.month date.day in
    let three = left_true (year && month && day) weekday h in
    let two = left_true (year && month) day three in
    record {
      year = left_true year month two;
      month = right_true year month two;
      day = right_true (year && month) day three;
      weekday = right_true (year && month && day) weekday h;
    }

date_test : (items : List FieldItem) (date : Date) → DateDue items date → date_in_fields items date.year date.month date.day ≡ true
date_test items date h =
    let year = year_in_field items date.year in
    let month = in_field 5 items date.month in
    let day = day_in_field items date.year date.month date.day in
    let weekday = weekday_in_field items date.year date.month date.day in
    both_true (year && month && day) weekday (both_true (year && month) day (both_true year month h.year h.month) h.day) h.weekday

-- a year of a set lies from 1970 to 2099
year_bounds : (items : List FieldItem) (z : ℤ) → year_in_field items z ≡ true → (pos 1970 ≤ℤ z) × (z ≤ℤ pos 2099)
year_bounds items z h =
    by_lt_z z (pos 1970)
    (λ lt. let none : year_in_field items z ≡ false = year_in_field-outside items z (inl lt) in cc)
    (λ ge. by_lt_z (pos 2099) z
    (λ gt. let none : year_in_field items z ≡ false = year_in_field-outside items z (inr gt) in cc)
    (λ le. (ge, le)))

-- a day that passes the test is a civil day in the four sets
pub day_due : (items : List FieldItem) (n : ℕ) → is_day_due items n ≡ true → DayDue items (pos n)
day_due items n h =
    let d = civil_day n in
    let number = civil_day-number n in
    let year : year_in_field items (pos d.year) ≡ true = left_true (year_in_field items (pos d.year)) (in_field 5 items d.month) (left_true (year_in_field items (pos d.year) && in_field 5 items d.month) (day_in_field items (pos d.year) d.month d.day) (left_true (year_in_field items (pos d.year) && in_field 5 items d.month && day_in_field items (pos d.year) d.month d.day) (weekday_in_field items (pos d.year) d.month d.day) h)) in
    let bounds = year_bounds items (pos d.year) year in
    let own : IsYear (pos d.year) = (omega (arith, signed_arith), omega (arith, signed_arith)) in
    let made = date_of d n number own in
    record {
      date = made.0;
      is_day = made.2;
      date_due = date_due items made.0 (sym (is_day_due-date items made.0 n made.2) ∙ h);
    }

-- a date from 1970 on has a day number that is not negative
number_from : (date : Date) → pos 1970 ≤ℤ date.year → pos 0 ≤ℤ epoch_day date
number_from date h =
    let own : IsYear (pos 1969) = (omega (arith, signed_arith), omega (arith, signed_arith)) in
    let next : pos 1970 ≡ pos 1969 +ℤ pos 1 = omega (arith, signed_arith) in
    omega (arith, signed_arith, days_from_civil-day_count date.year date.month date.day, day_count-epoch, day_count-last_of_year (pos 1969), day_count-next_year (pos 1969) (pos 1970) (omega (arith, signed_arith)) next, day_count-lt_year (pos 1969) 12 31 date.year date.month date.day (own, (omega arith, omega arith), (omega arith, omega arith)) date.day_in.0 (omega (arith, signed_arith)))

pub day_due-from_1970 : (items : List FieldItem) (z : ℤ) → DayDue items z → pos 0 ≤ℤ z
day_due-from_1970 items z h =
    let from = number_from h.date (year_bounds items h.date.year h.date_due.year).0 in
    omega (arith, signed_arith, h.is_day)

-- and a civil day in the four sets passes it
pub day_test : (items : List FieldItem) (z : ℤ) (n : ℕ) → z ≡ pos n → DayDue items z → is_day_due items n ≡ true
day_test items z n e h = is_day_due-date items h.date n (h.is_day ∙ e) ∙ date_test items h.date h.date_due

-- no day outside 1970 to 2099 is in the sets
pub day_outside : (items : List FieldItem) (z : ℤ) → (z <ℤ pos 0) ⊎ (pos 47482 ≤ℤ z) → DayDue items z → ⊥
day_outside items z (inl lt) h = let from = day_due-from_1970 items z h in omega (arith, signed_arith)
day_outside items z (inr le) h =
    elim (cases_second z) [
      | inr gone ↦ omega (arith, signed_arith)
      | inl at ↦
          let test : is_day_due items at.0 ≡ true = day_test items z at.0 at.1 h in
          let none : is_day_due items at.0 ≡ false = is_day_due-late items at.0 (omega (arith, signed_arith, at.1)) in
          cc
    ]

-- the time of day at a second of the day
time_at : (s : ℕ) → s < 86400 → (time : Time) × (time.hour ≡ s / 3600) × (time.minute ≡ s % 3600 / 60) × (time.second ≡ s % 3600 % 60) × (time_nanos time ≡ s * 1_000_000_000)
time_at s lt =
    let time : Time = record { hour = s / 3600; minute = s % 3600 / 60; second = s % 3600 % 60; subsec_nanosecond = 0; hour_in = omega arith; minute_in = omega arith; second_in = omega arith; subsec_in = omega arith } in
    (time, refl, refl, refl, omega arith)

time_due : (items : List FieldItem) (s : ℕ) (time : Time) → time.hour ≡ s / 3600 → time.minute ≡ s % 3600 / 60 → time.second ≡ s % 3600 % 60 → is_second_due items s ≡ true → TimeDue items time
time_due items s time hour minute second h =
    let rest = right_true (in_field 3 items (s / 3600)) (is_hour_second_due items (s % 3600)) h in
    record {
      hour = rw hour (left_true (in_field 3 items (s / 3600)) (is_hour_second_due items (s % 3600)) h);
      minute = rw minute (left_true (in_field 2 items (s % 3600 / 60)) (in_field 1 items (s % 3600 % 60)) rest);
      second = rw second (right_true (in_field 2 items (s % 3600 / 60)) (in_field 1 items (s % 3600 % 60)) rest);
    }

-- a second of the clock that passes gives a moment that is due
due_at : (items : List FieldItem) (offset : ℤ) (t v : ℕ) → t % 1000 ≡ 0 → pos (t / 1000) +ℤ offset ≡ pos v → is_local_due items v ≡ true → Due items offset t
due_at items offset t v whole at h =
    let day = day_due items (v / 86400) (left_true (is_day_due items (v / 86400)) (is_second_due items (v % 86400)) h) in
    let time = time_at (v % 86400) (omega arith) in
    let civil : DateTime = record { date = day.date; time = time.0 } in
    record {
      whole = whole;
      civil = civil;
      is_civil = omega (arith, signed_arith, civil_nanos-parts civil, day.is_day, time.4, at);
      time_due = time_due items (v % 86400) time.0 time.1 time.2 time.3 (right_true (is_day_due items (v / 86400)) (is_second_due items (v % 86400)) h);
      date_due = day.date_due;
    }

-- a moment that passes the test is due
pub due_by_test : (items : List FieldItem) (offset : ℤ) (t : ℕ) → is_due items offset t ≡ true → Due items offset t
due_by_test items offset t h =
    let test = left_true (nat_eq (t % 1000) 0) (is_clock_due items (pos (t / 1000) +ℤ offset)) h in
    let clock = right_true (nat_eq (t % 1000) 0) (is_clock_due items (pos (t / 1000) +ℤ offset)) h in
    let whole : t % 1000 ≡ 0 = grind (arith, nat_tests) in
    elim (cases_second (pos (t / 1000) +ℤ offset)) [
      | inr gone ↦
          let none : is_clock_due items (pos (t / 1000) +ℤ offset) ≡ false = clock_before items (pos (t / 1000) +ℤ offset) gone in
          cc
      | inl at ↦ due_at items offset t at.0 whole at.1 (sym (clock_at items (pos (t / 1000) +ℤ offset) at.0 at.1) ∙ clock)
    ]

time_test : (items : List FieldItem) (time : Time) (s : ℕ) → s ≡ time_seconds time → TimeDue items time → is_second_due items s ≡ true
time_test items time s e h =
    let hour : s / 3600 ≡ time.hour = omega arith in
    let minute : s % 3600 / 60 ≡ time.minute = omega arith in
    let second : s % 3600 % 60 ≡ time.second = omega arith in
    both_true (in_field 3 items (s / 3600)) (is_hour_second_due items (s % 3600)) (rw hour h.hour)
    (both_true (in_field 2 items (s % 3600 / 60)) (in_field 1 items (s % 3600 % 60)) (rw minute h.minute) (rw second h.second))

-- and a moment that is due passes it
pub test_by_due : (items : List FieldItem) (offset : ℤ) (t : ℕ) → Due items offset t → is_due items offset t ≡ true
test_by_due items offset t h =
    elim (cases_second (epoch_day h.civil.date)) [
      | inr gone ↦
          let from = number_from h.civil.date (year_bounds items h.civil.date.year h.date_due.year).0 in
          absurd (omega (arith, signed_arith))
      | inl day ↦
          let seconds = time_seconds h.civil.time in
          let v = day.0 * 86400 + seconds in
          let within : seconds < 86400 = omega (arith, h.civil.time.hour_in, h.civil.time.minute_in, h.civil.time.second_in) in
          let at : pos (t / 1000) +ℤ offset ≡ pos v = omega (arith, signed_arith, civil_nanos-parts h.civil, h.is_civil, h.whole, day.1, h.civil.time.subsec_in) in
          let day_is : v / 86400 ≡ day.0 = omega arith in
          let second_is : v % 86400 ≡ seconds = omega arith in
          let whole = h.whole in
          let test : nat_eq (t % 1000) 0 ≡ true = grind (arith, nat_tests) in
          both_true (nat_eq (t % 1000) 0) (is_clock_due items (pos (t / 1000) +ℤ offset)) test
          (clock_at items (pos (t / 1000) +ℤ offset) v at ∙ both_true (is_day_due items (v / 86400)) (is_second_due items (v % 86400))
          (rw day_is (day_test items (epoch_day h.civil.date) day.0 day.1 (record { date = h.civil.date; is_day = refl; date_due = h.date_due })))
          (time_test items h.civil.time (v % 86400) second_is h.time_due))
    ]

low_false : (a b : Bool) → b ≡ false → (a && b) ≡ false
low_false true b e = e
low_false false b e = refl

-- no moment whose second of the clock lies before 1970 or after 2099 passes
pub is_due-outside : (items : List FieldItem) (offset : ℤ) (t : ℕ) → ((pos (t / 1000) +ℤ offset) <ℤ pos 0) ⊎ (pos 4102444800 ≤ℤ (pos (t / 1000) +ℤ offset)) → is_due items offset t ≡ false
is_due-outside items offset t (inl lt) =
    low_false (nat_eq (t % 1000) 0) (is_clock_due items (pos (t / 1000) +ℤ offset)) (clock_before items (pos (t / 1000) +ℤ offset) lt)
is_due-outside items offset t (inr le) =
    elim (cases_second (pos (t / 1000) +ℤ offset)) [
      | inr gone ↦ absurd (omega (arith, signed_arith))
      | inl at ↦
          low_false (nat_eq (t % 1000) 0) (is_clock_due items (pos (t / 1000) +ℤ offset))
          (clock_at items (pos (t / 1000) +ℤ offset) at.0 at.1 ∙ is_local_due-late items at.0 (omega (arith, signed_arith, at.1)))
    ]
