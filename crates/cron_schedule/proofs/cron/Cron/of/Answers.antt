use Rattle.std.proofs.Common.{ℕ, ◌+◌, ap, sym, zero-add, List}
use Rattle.cron_schedule.specs.declared.item.FieldItem.{FieldItem}
use Rattle.cron_schedule.specs.Sets.{in_field}
use Rattle.cron_schedule.specs.Tables.{IsFirsts}
use Rattle.cron_schedule.proofs.TableLemmas.{IsFirsts-same}
use Rattle.cron_schedule.proofs.cron.Cron.of.Goals as goal

-- a table that counts from 0 is that of the field itself
from_zero : (field : ℕ) (items : List FieldItem) (size : ℕ) (table : List ℕ) → IsFirsts (λ v. in_field field items (0 + v)) size table → IsFirsts (λ v. in_field field items v) size table
from_zero field items size table h =
    IsFirsts-same (λ v. in_field field items (0 + v)) (λ v. in_field field items v) size table (λ v. ap (in_field field items) (sym (zero-add v))) h

pub invariant_of-result : goal.invariant_of-result
invariant_of-result c = rw (← c.as_slice-list.ensures) (record {
  second = from_zero 1 c.as_slice-list.result.now 60 _ c.table_of-seconds.ensures;
  minute = from_zero 2 c.as_slice-list.result.now 60 _ c.table_of-minutes.ensures;
  hour = from_zero 3 c.as_slice-list.result.now 24 _ c.table_of-hours.ensures;
  day = from_zero 4 c.as_slice-list.result.now 32 _ c.table_of-days.ensures;
  month = from_zero 5 c.as_slice-list.result.now 13 _ c.table_of-months.ensures;
  weekday = from_zero 6 c.as_slice-list.result.now 8 _ c.table_of-weekdays.ensures;
  year = c.table_of-years.ensures;
  plain_is = c.all_plain-plain.ensures;
})
