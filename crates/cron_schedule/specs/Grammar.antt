-- The grammar of items as a relation: which texts are which items of a field.
use Rattle.std.specs.Prelude.{◌≡◌, ℕ, ◌≤◌, ◌⊎◌, List, [], ◌∷◌, ◌++◌, Some, ◌↔◌}
use Rattle.std.specs.Char.{to_ascii_uppercase}
use Rattle.cron_schedule.specs.declared.item.Item.{Item}
use Rattle.cron_schedule.specs.declared.item.Item.TheVariants.{Values, Free, Last, LastWorkday, Workday, LastWeekday, NthWeekday}
use Rattle.cron_schedule.specs.Field.{least, greatest}
use Rattle.cron_schedule.specs.Number.{number_of}
use Rattle.cron_schedule.specs.Reading.{within, value_of, step_of, item_of}

-- the byte is a letter, in any case
abbrev pub IsLetter : ℕ → ℕ → Type 0
IsLetter letter byte = to_ascii_uppercase byte ≡ letter

-- the text is a number or a name of a value of the field
abbrev pub IsValue : ℕ → List ℕ → ℕ → Type 0
IsValue field text v = value_of field text ≡ Some v

-- the text is a step of the field
abbrev pub IsStep : ℕ → List ℕ → ℕ → Type 0
IsStep field text n = step_of field text ≡ Some n

-- the text is a number of one to four digits within bounds
abbrev pub IsNumber : ℕ → ℕ → List ℕ → ℕ → Type 0
IsNumber low high text n = within low high (number_of 4 text) ≡ Some n

-- the item of a run
abbrev pub run_item : ℕ → ℕ → ℕ → Item
run_item from to step = Values (record { from = from; to = to; step = step })

-- a text is the values of a range, without a step or before one
pub data IsRange (field : ℕ) (text : List ℕ) (from to : ℕ) : Type 0 where
  -- a-b; in the years a is not above b
  range : (a b : List ℕ) → text ≡ a ++ 45 ∷ b → IsValue field a from → IsValue field b to
      → (field ≡ 7 → from ≤ to) → IsRange field text from to
  -- `*`
  star : text ≡ 42 ∷ [] → from ≡ least field → to ≡ greatest field → IsRange field text from to

-- a text is an item of a field
pub data IsItem (field : ℕ) (text : List ℕ) (item : Item) : Type 0 where
  -- n
  value : (v : ℕ) → IsValue field text v → item ≡ run_item v v 1 → IsItem field text item
  -- `*` and a-b
  values : (from to : ℕ) → IsRange field text from to → item ≡ run_item from to 1 → IsItem field text item
  -- n/s
  value_step : (a s : List ℕ) (v n : ℕ) → text ≡ a ++ 47 ∷ s → IsValue field a v → IsStep field s n
      → item ≡ run_item v (greatest field) n → IsItem field text item
  -- `*/s` and a-b/s
  values_step : (a s : List ℕ) (from to n : ℕ) → text ≡ a ++ 47 ∷ s → IsRange field a from to
      → IsStep field s n → item ≡ run_item from to n → IsItem field text item
  -- `?`
  free : (field ≡ 4) ⊎ (field ≡ 6) → text ≡ 63 ∷ [] → item ≡ Free → IsItem field text item
  -- L
  last : (l : ℕ) → (field ≡ 4) ⊎ (field ≡ 6) → IsLetter 76 l → text ≡ l ∷ [] → item ≡ Last 0 → IsItem field text item
  -- L-n, n from 1 to 30
  last_back : (l : ℕ) (a : List ℕ) (n : ℕ) → field ≡ 4 → IsLetter 76 l → text ≡ l ∷ 45 ∷ a → IsNumber 1 30 a n
      → item ≡ Last n → IsItem field text item
  -- LW
  last_workday : (l w : ℕ) → field ≡ 4 → IsLetter 76 l → IsLetter 87 w → text ≡ l ∷ w ∷ [] → item ≡ LastWorkday
      → IsItem field text item
  -- nW, n from 1 to 31
  workday : (a : List ℕ) (w n : ℕ) → field ≡ 4 → IsLetter 87 w → text ≡ a ++ w ∷ [] → IsNumber 1 31 a n
      → item ≡ Workday n → IsItem field text item
  -- dL
  last_weekday : (a : List ℕ) (l d : ℕ) → field ≡ 6 → IsLetter 76 l → text ≡ a ++ l ∷ [] → IsValue 6 a d
      → item ≡ LastWeekday d → IsItem field text item
  -- d#k, k from 1 to 5
  nth_weekday : (a b : List ℕ) (d k : ℕ) → field ≡ 6 → text ≡ a ++ 35 ∷ b → IsValue 6 a d → IsNumber 1 5 b k
      → item ≡ NthWeekday d k → IsItem field text item

-- the item that is read is the one that the grammar gives, and there is no other
abbrev pub ReaderIsGrammar : Type 0
ReaderIsGrammar = (field : ℕ) (text : List ℕ) (item : Item) → (item_of field text ≡ Some item) ↔ IsItem field text item
