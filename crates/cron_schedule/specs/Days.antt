-- The days that items of the day of month and of the day of week give, and the days of a list.
use Rattle.std.specs.Prelude.{ℕ, ◌+◌, ◌-◌, ◌*◌, ◌==◌, nat_le, nat_lt, Bool, false, true, ◌&&◌, is_none, ℤ, pos, negsuc, List, if◌then◌else◌}
use Rattle.std.specs.List.{list_any}
use Rattle.jiff_core.specs.Calendar.{days_in_month}
use Rattle.cron_schedule.specs.declared.item.Item.{Item}
use Rattle.cron_schedule.specs.declared.item.Item.TheVariants.{Values, Free, Last, LastWorkday, Workday, LastWeekday, NthWeekday}
use Rattle.cron_schedule.specs.declared.item.FieldItem.{FieldItem}
use Rattle.cron_schedule.specs.First.{first_in}
use Rattle.cron_schedule.specs.Sets.{in_run, in_field}
use Rattle.cron_schedule.specs.Calendar.{weekday_on, is_workday, cron_weekday}

-- a Monday to Friday day with none after it in its month
abbrev pub is_last_workday : ℤ → ℕ → ℕ → Bool
is_last_workday y m d =
    is_workday y m d && is_none (first_in (is_workday y m) (d + 1) (days_in_month y m + 1))

-- the Monday to Friday day nearest to day n, within its month
abbrev pub nearest_workday : ℤ → ℕ → ℕ → ℕ
nearest_workday y m n =
    if weekday_on y m n == 5 then (if n == 1 then 3 else n - 1)
    else if weekday_on y m n == 6 then (if n == days_in_month y m then n - 2 else n + 1)
    else n

-- an item of the day of month gives this day
abbrev pub day_in : Item → ℤ → ℕ → ℕ → Bool
day_in (Values run) y m d = in_run 1 31 run d
day_in Free y m d = true
day_in (Last back) y m d = d + back == days_in_month y m
day_in LastWorkday y m d = is_last_workday y m d
day_in (Workday n) y m d = nat_le 1 n && nat_le n (days_in_month y m) && (d == nearest_workday y m n)
day_in (LastWeekday weekday) y m d = false
day_in (NthWeekday weekday k) y m d = false

-- an item of the day of week gives this day
abbrev pub weekday_in : Item → ℤ → ℕ → ℕ → Bool
weekday_in (Values run) y m d = in_run 1 7 run (cron_weekday y m d)
weekday_in Free y m d = true
weekday_in (Last back) y m d = cron_weekday y m d == 7
weekday_in LastWorkday y m d = false
weekday_in (Workday n) y m d = false
weekday_in (LastWeekday weekday) y m d = (cron_weekday y m d == weekday) && nat_lt (days_in_month y m) (d + 7)
weekday_in (NthWeekday weekday k) y m d =
    (cron_weekday y m d == weekday) && nat_lt (7 * k) (d + 7) && nat_le d (7 * k)

-- the year is in the set of the years: one from 1970 to 2099
abbrev pub year_in_field : List FieldItem → ℤ → Bool
year_in_field items (pos year) = in_field 7 items year
year_in_field items (negsuc year) = false

-- the day is in the set of the days of month
abbrev pub day_in_field : List FieldItem → ℤ → ℕ → ℕ → Bool
day_in_field items y m d = list_any (λ i. (i.field == 4) && day_in i.item y m d) items

-- the day is in the set of the days of week
abbrev pub weekday_in_field : List FieldItem → ℤ → ℕ → ℕ → Bool
weekday_in_field items y m d = list_any (λ i. (i.field == 6) && weekday_in i.item y m d) items

-- year, month, day and weekday are in their four sets
abbrev pub date_in_fields : List FieldItem → ℤ → ℕ → ℕ → Bool
date_in_fields items y m d =
    year_in_field items y && in_field 5 items m && day_in_field items y m d && weekday_in_field items y m d
