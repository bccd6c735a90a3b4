-- The civil calendar from 1970 on, a day at a time, with the weekdays.
use Rattle.std.specs.Prelude.{ℕ, zero, suc, ◌+◌, ◌%◌, nat_lt, Bool, pos, ℤ, if◌then◌else◌}
use Rattle.jiff_core.specs.Calendar.{days_in_month, days_from_civil, weekday_number}

-- a day of the calendar
pub record CivilDay : Type 0 where
  pub year : ℕ
  pub month : ℕ
  pub day : ℕ

-- the day after a day
abbrev pub next_day : CivilDay → CivilDay
next_day d =
    if nat_lt d.day (days_in_month (pos d.year) d.month)
    then record { year = d.year; month = d.month; day = d.day + 1 }
    else if nat_lt d.month 12 then record { year = d.year; month = d.month + 1; day = 1 }
    else record { year = d.year + 1; month = 1; day = 1 }

-- the day that many days after 1 January 1970
unfoldable pub civil_day : ℕ → CivilDay
civil_day zero = record { year = 1970; month = 1; day = 1 }
civil_day (suc n) = next_day (civil_day n)

-- the weekday of a date, from 0 for Monday
abbrev pub weekday_on : ℤ → ℕ → ℕ → ℕ
weekday_on year month day = weekday_number (days_from_civil year month day)

-- Monday to Friday
abbrev pub is_workday : ℤ → ℕ → ℕ → Bool
is_workday year month day = nat_lt (weekday_on year month day) 5

-- the weekday as cron texts number it, from 1 for Sunday
abbrev pub cron_weekday : ℤ → ℕ → ℕ → ℕ
cron_weekday year month day = (weekday_on year month day + 1) % 7 + 1
