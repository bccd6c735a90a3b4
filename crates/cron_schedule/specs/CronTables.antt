-- What a cron text's tables and its mark keep beside its items.
use Rattle.std.specs.Prelude.{◌≡◌, ℕ, ◌+◌, Bool, true, false, List}
use Rattle.std.specs.List.{list_all}
use Rattle.cron_schedule.specs.declared.item.Item.{Item}
use Rattle.cron_schedule.specs.declared.item.Item.TheVariants.{Values, Free, Last, LastWorkday, Workday, LastWeekday, NthWeekday}
use Rattle.cron_schedule.specs.declared.item.FieldItem.{FieldItem}
use Rattle.cron_schedule.specs.Sets.{in_field}
use Rattle.cron_schedule.specs.Tables.{IsFirsts}

-- an item that is a set of values, and not a rule on days
abbrev pub is_plain : Item → Bool
is_plain (Values run) = true
is_plain Free = true
is_plain (Last back) = false
is_plain LastWorkday = false
is_plain (Workday n) = false
is_plain (LastWeekday weekday) = false
is_plain (NthWeekday weekday k) = false

abbrev pub are_plain : List FieldItem → Bool
are_plain items = list_all (λ i. is_plain i.item) items

-- each table is that of its field's set; years count from 1970
pub record AgreeWith (items : List FieldItem) (seconds minutes hours days months weekdays years : List ℕ) (plain : Bool) : Type 0 where
  pub second : IsFirsts (λ v. in_field 1 items v) 60 seconds
  pub minute : IsFirsts (λ v. in_field 2 items v) 60 minutes
  pub hour : IsFirsts (λ v. in_field 3 items v) 24 hours
  pub day : IsFirsts (λ v. in_field 4 items v) 32 days
  pub month : IsFirsts (λ v. in_field 5 items v) 13 months
  pub weekday : IsFirsts (λ v. in_field 6 items v) 8 weekdays
  pub year : IsFirsts (λ v. in_field 7 items (1970 + v)) 130 years
  pub plain_is : plain ≡ are_plain items
