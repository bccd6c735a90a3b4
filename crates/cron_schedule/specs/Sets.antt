-- The sets of values that items give.
use Rattle.std.specs.Prelude.{ℕ, ◌+◌, ◌-◌, ◌%◌, ◌==◌, nat_le, Bool, false, ◌&&◌, List, if◌then◌else◌}
use Rattle.std.specs.List.{list_any}
use Rattle.cron_schedule.specs.declared.item.Run.{Run}
use Rattle.cron_schedule.specs.declared.item.Item.{Item}
use Rattle.cron_schedule.specs.declared.item.Item.TheVariants.{Values, Free, Last, LastWorkday, Workday, LastWeekday, NthWeekday}
use Rattle.cron_schedule.specs.declared.item.FieldItem.{FieldItem}
use Rattle.cron_schedule.specs.Field.{least, greatest}

-- how many values a sequence from `from` has before v, going up to the greatest and on from the least
abbrev pub place : ℕ → ℕ → ℕ → ℕ → ℕ
place low high from v = if nat_le from v then v - from else (high - from) + 1 + (v - low)

-- v is one of every step-th value of the sequence from `from` to `to`
abbrev pub in_run : ℕ → ℕ → Run → ℕ → Bool
in_run low high run v =
    nat_le 1 run.step && nat_le low v && nat_le v high
    && nat_le (place low high run.from v) (place low high run.from run.to)
    && (place low high run.from v % run.step == 0)

-- v is one of the values that an item gives in a field
abbrev pub value_in : ℕ → Item → ℕ → Bool
value_in field (Values run) v = in_run (least field) (greatest field) run v
value_in field Free v = nat_le (least field) v && nat_le v (greatest field)
value_in field (Last back) v = false
value_in field LastWorkday v = false
value_in field (Workday n) v = false
value_in field (LastWeekday weekday) v = false
value_in field (NthWeekday weekday k) v = false

-- v is in the set of a field: one of the field's items gives it
abbrev pub in_field : ℕ → List FieldItem → ℕ → Bool
in_field field items v = list_any (λ i. (i.field == field) && value_in field i.item v) items
