-- When a cron text is due.
use Rattle.std.specs.Prelude.{◌≡◌, ℕ, ◌/◌, ◌%◌, ◌==◌, Bool, false, ◌&&◌, IsTrue, ℤ, pos, negsuc, ◌+ℤ◌, ◌*ℤ◌, List}
use Rattle.jiff_core.specs.declared.civil.date.Date.{Date}
use Rattle.jiff_core.specs.declared.civil.time.Time.{Time}
use Rattle.jiff_core.specs.declared.civil.datetime.DateTime.{DateTime}
use Rattle.jiff_core.specs.Date.{epoch_day}
use Rattle.jiff_core.specs.DateTime.{civil_nanos}
use Rattle.cron_schedule.specs.declared.item.FieldItem.{FieldItem}
use Rattle.zone_texts.specs.declared.zone.Zone.{Zone}
use Rattle.cron_schedule.specs.Sets.{in_field}
use Rattle.cron_schedule.specs.Zones.{offset_at}
use Rattle.cron_schedule.specs.Calendar.{civil_day}
use Rattle.cron_schedule.specs.Days.{year_in_field, day_in_field, weekday_in_field, date_in_fields}

-- the civil time of the moment t on a clock that is so many seconds ahead of UTC
abbrev pub IsCivilTime : ℤ → ℕ → DateTime → Type 0
IsCivilTime offset t civil = civil_nanos civil ≡ (pos t +ℤ offset *ℤ pos 1_000) *ℤ pos 1_000_000

-- hour, minute and second are in their sets
pub record TimeDue (items : List FieldItem) (time : Time) : Type 0 where
  pub hour : IsTrue (in_field 3 items time.hour)
  pub minute : IsTrue (in_field 2 items time.minute)
  pub second : IsTrue (in_field 1 items time.second)

-- year, month, day and weekday are in their sets
pub record DateDue (items : List FieldItem) (date : Date) : Type 0 where
  pub year : IsTrue (year_in_field items date.year)
  pub month : IsTrue (in_field 5 items date.month)
  pub day : IsTrue (day_in_field items date.year date.month date.day)
  pub weekday : IsTrue (weekday_in_field items date.year date.month date.day)

-- t is a whole second, and the seven parts of its civil time are in the seven sets
pub record Due (items : List FieldItem) (offset : ℤ) (t : ℕ) : Type 0 where
  pub whole : t % 1000 ≡ 0
  pub civil : DateTime
  pub is_civil : IsCivilTime offset t civil
  pub time_due : TimeDue items civil.time
  pub date_due : DateDue items civil.date

-- the civil day with this day number is in the four sets of days
pub record DayDue (items : List FieldItem) (day : ℤ) : Type 0 where
  pub date : Date
  pub is_day : epoch_day date ≡ day
  pub date_due : DateDue items date

-- the day that many days after 1 January 1970 is in the four sets of days
abbrev pub is_day_due : List FieldItem → ℕ → Bool
is_day_due items n =
    date_in_fields items (pos (civil_day n).year) (civil_day n).month (civil_day n).day

-- this second of an hour is in the sets of minutes and seconds
abbrev pub is_hour_second_due : List FieldItem → ℕ → Bool
is_hour_second_due items s = in_field 2 items (s / 60) && in_field 1 items (s % 60)

-- this second of a day is in the sets of hours, minutes and seconds
abbrev pub is_second_due : List FieldItem → ℕ → Bool
is_second_due items s = in_field 3 items (s / 3600) && is_hour_second_due items (s % 3600)

-- this second of the civil clock, from 1970 on, is in the seven sets
abbrev pub is_local_due : List FieldItem → ℕ → Bool
is_local_due items v = is_day_due items (v / 86400) && is_second_due items (v % 86400)

-- the same of any second; those before 1970 are in no set
abbrev pub is_clock_due : List FieldItem → ℤ → Bool
is_clock_due items (pos v) = is_local_due items v
is_clock_due items (negsuc v) = false

-- whether a cron text is due at the moment t on a clock that is so many seconds ahead of UTC
abbrev pub is_due : List FieldItem → ℤ → ℕ → Bool
is_due items offset t = (t % 1000 == 0) && is_clock_due items (pos (t / 1000) +ℤ offset)

-- the same on the clock of a zone, at the offset of that moment
abbrev pub DueIn : List FieldItem → Zone → ℕ → Type 0
DueIn items zone t = Due items (offset_at zone t) t

abbrev pub is_due_in : List FieldItem → Zone → ℕ → Bool
is_due_in items zone t = is_due items (offset_at zone t) t

-- the same of a second of UTC, on a clock whose offset goes by the instant
abbrev pub is_utc_due : List FieldItem → (ℤ → ℤ) → ℕ → Bool
is_utc_due items offset u = is_clock_due items (pos u +ℤ offset (pos u))
