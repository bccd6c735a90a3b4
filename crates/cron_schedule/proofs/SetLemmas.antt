-- What the sets of fields hold: plain items, years, days in range.
use Rattle.std.proofs.Common.{◌≡◌, ℕ, ◌<◌, ◌≤◌, Bool, true, false, ◌&&◌, nat_eq, List, [], ◌∷◌, refl, sym, arith, ℤ, pos, negsuc, ◌<ℤ◌, inl, inr, ◌⊎◌}
use Rattle.std.specs.Prelude.{nat_le}
use Rattle.std.specs.List.{list_any}
use Rattle.std.proofs.lemmas.Bool.Decides.{nat_tests}
use Rattle.jiff_core.proofs.SignedLemmas.{signed_arith}
use Rattle.cron_schedule.specs.declared.item.Run.{Run}
use Rattle.cron_schedule.specs.declared.item.Item.{Item}
use Rattle.cron_schedule.specs.declared.item.Item.TheVariants.{Values, Free, Last, LastWorkday, Workday, LastWeekday, NthWeekday}
use Rattle.cron_schedule.specs.declared.item.FieldItem.{FieldItem}
use Rattle.cron_schedule.specs.Sets.{in_run, value_in, in_field}
use Rattle.cron_schedule.specs.Calendar.{cron_weekday}
use Rattle.cron_schedule.specs.Days.{day_in, weekday_in, day_in_field, weekday_in_field, year_in_field}
use Rattle.cron_schedule.specs.CronTables.{is_plain, are_plain}

-- tests that agree at each element find the same
list_any-same : {A : Type 0} (p q : A → Bool) (xs : List A) → ((x : A) → p x ≡ q x) → list_any p xs ≡ list_any q xs
list_any-same p q [] same = refl
list_any-same p q (x ∷ xs) same = rw (same x, list_any-same p q xs same)

in_range : (low high v : ℕ) → low ≤ v → v ≤ high → (nat_le low v && nat_le v high) ≡ true
in_range low high v l h = grind (arith, nat_tests)

-- a plain item of the days of month gives its values
plain_day : (item : Item) (y : ℤ) (m d : ℕ) → 1 ≤ d → d ≤ 31 → is_plain item ≡ true → day_in item y m d ≡ value_in 4 item d
plain_day (Values run) y m d low high plain = refl
plain_day Free y m d low high plain = sym (in_range 1 31 d low high)
plain_day (Last back) y m d low high plain = cc
plain_day LastWorkday y m d low high plain = cc
plain_day (Workday n) y m d low high plain = cc
plain_day (LastWeekday weekday) y m d low high plain = cc
plain_day (NthWeekday weekday k) y m d low high plain = cc

plain_weekday : (item : Item) (y : ℤ) (m d : ℕ) → is_plain item ≡ true → weekday_in item y m d ≡ value_in 6 item (cron_weekday y m d)
plain_weekday (Values run) y m d plain = refl
plain_weekday Free y m d plain = sym (in_range 1 7 (cron_weekday y m d) (omega arith) (omega arith))
plain_weekday (Last back) y m d plain = cc
plain_weekday LastWorkday y m d plain = cc
plain_weekday (Workday n) y m d plain = cc
plain_weekday (LastWeekday weekday) y m d plain = cc
plain_weekday (NthWeekday weekday k) y m d plain = cc

first_and : (a b : Bool) → (a && b) ≡ true → a ≡ true
first_and true b e = refl
first_and false b e = cc

rest_and : (a b : Bool) → (a && b) ≡ true → b ≡ true
rest_and true b e = e
rest_and false b e = cc

-- of plain items the days are those of the values
pub day_in_field-plain : (items : List FieldItem) (y : ℤ) (m d : ℕ) → 1 ≤ d → d ≤ 31 → are_plain items ≡ true → day_in_field items y m d ≡ in_field 4 items d
day_in_field-plain [] y m d low high plain = refl
day_in_field-plain (i ∷ items) y m d low high plain =
    rw (plain_day i.item y m d low high (first_and (is_plain i.item) (are_plain items) plain), day_in_field-plain items y m d low high (rest_and (is_plain i.item) (are_plain items) plain))

pub weekday_in_field-plain : (items : List FieldItem) (y : ℤ) (m d : ℕ) → are_plain items ≡ true → weekday_in_field items y m d ≡ in_field 6 items (cron_weekday y m d)
weekday_in_field-plain [] y m d plain = refl
weekday_in_field-plain (i ∷ items) y m d plain =
    rw (plain_weekday i.item y m d (first_and (is_plain i.item) (are_plain items) plain), weekday_in_field-plain items y m d (rest_and (is_plain i.item) (are_plain items) plain))

run_outside : (low high v : ℕ) (run : Run) → (v < low) ⊎ (high < v) → in_run low high run v ≡ false
run_outside low high v run (inl lt) = grind (arith, nat_tests)
run_outside low high v run (inr gt) = grind (arith, nat_tests)

range_outside : (low high v : ℕ) → (v < low) ⊎ (high < v) → (nat_le low v && nat_le v high) ≡ false
range_outside low high v (inl lt) = grind (arith, nat_tests)
range_outside low high v (inr gt) = grind (arith, nat_tests)

year_outside : (item : Item) (v : ℕ) → (v < 1970) ⊎ (2099 < v) → value_in 7 item v ≡ false
year_outside (Values run) v out = run_outside 1970 2099 v run out
year_outside Free v out = range_outside 1970 2099 v out
year_outside (Last back) v out = refl
year_outside LastWorkday v out = refl
year_outside (Workday n) v out = refl
year_outside (LastWeekday weekday) v out = refl
year_outside (NthWeekday weekday k) v out = refl

and_false : (a b : Bool) → b ≡ false → (a && b) ≡ false
and_false true b e = e
and_false false b e = refl

-- no set of years holds a year outside 1970 to 2099
pub in_field-year : (items : List FieldItem) (v : ℕ) → (v < 1970) ⊎ (2099 < v) → in_field 7 items v ≡ false
in_field-year [] v out = refl
in_field-year (i ∷ items) v out =
    rw (and_false (nat_eq i.field 7) (value_in 7 i.item v) (year_outside i.item v out)) (in_field-year items v out)

pub year_in_field-outside : (items : List FieldItem) (z : ℤ) → (z <ℤ pos 1970) ⊎ (pos 2099 <ℤ z) → year_in_field items z ≡ false
year_in_field-outside items (negsuc n) out = refl
year_in_field-outside items (pos n) (inl lt) = in_field-year items n (inl (omega (arith, signed_arith)))
year_in_field-outside items (pos n) (inr gt) = in_field-year items n (inr (omega (arith, signed_arith)))

pub year_in_field-at : (items : List FieldItem) (z : ℤ) (v : ℕ) → z ≡ pos v → year_in_field items z ≡ in_field 7 items v
year_in_field-at items z v e = rw e
