-- Reading a message from its bytes, with the first fault that is met.
use Rattle.std.specs.Prelude.{◌≡◌, ◌⊎◌, ℕ, ℤ, pos, List, [], ◌∷◌, ◌++◌, codes, length, take, Bool, ◌&&◌, if◌then◌else◌, nat_lt, nat_le, int_le, Option, Some, None, option_map, option_and_then, is_some, Result, Ok, Err}
use Rattle.std.specs.Int.{int_max}
use Rattle.std.specs.List.{list_all}
use Rattle.std.specs.Str.{is_utf8}
use Rattle.std.specs.Str.Lossy.{utf8_valid_len}
use Rattle.serde_json.specs.Data.{Data, Items, no_items, item}
use Rattle.serde_json.specs.Find.{get, as_null, as_number, as_integer, as_str, as_bool, as_array, as_object}
use Rattle.serde_json.specs.Read.{read}
use Rattle.api_messages.specs.Members.{Cell, int, text, bool, value, Kind, whole, not_negative, text_within, any_text, cut_text, truth, any_value, Row}
use Rattle.job_values.specs.declared.limits.TheConstants.{LONGEST_BODY, BATCH_ITEMS}
use Rattle.api_messages.specs.Tables.{told_rows, place_rows, result_rows}
use Rattle.api_messages.specs.declared.fault.MessageFault.{MessageFault}
use Rattle.api_messages.specs.declared.fault.MessageFault.TheVariants as faults

infixl 10 ◌>>=◌
abbrev pub ◌>>=◌ : {A B : Type 0} → Result A MessageFault → (A → Result B MessageFault) → Result B MessageFault
(Ok x) >>= f = f x
(Err e) >>= f = Err e

-- the value, or this fault where there is none
abbrev pub or_fault : {A : Type 0} → MessageFault → Option A → Result A MessageFault
or_fault e None = Err e
or_fault e (Some x) = Ok x

-- a result of reading a member
abbrev pub found : Result Cell MessageFault → Result Cell MessageFault
found r = r

-- What a call answered, with its value seen by view, is what reading gives, unless memory ran out.
abbrev pub Fails : {Y : Type 0} → MessageFault → Result Y MessageFault → Type 0
Fails e given = (e ≡ faults.NoMemory) ⊎ (given ≡ Err e)

abbrev pub Gives : {X Y : Type 0} → (X → Y) → Result X MessageFault → Result Y MessageFault → Type 0
Gives view (Ok x) given = given ≡ Ok (view x)
Gives view (Err e) given = Fails e given

-- ---- a member

abbrev pub within : ℤ → ℤ → ℤ → Option ℤ
within low high z = if int_le low z && int_le z high then Some z else None

abbrev pub whole_in : ℤ → ℤ → Data → Option ℤ
whole_in low high d = option_and_then (within low high) (option_and_then as_integer (as_number d))

abbrev pub short_text : ℕ → List ℕ → Option (List ℕ)
short_text most s = if nat_le (length s) most then Some s else None

-- the text where it fits, else its longest front of whole characters that fits
unfoldable pub cut : ℕ → List ℕ → List ℕ
cut most s = if nat_le (length s) most then s else take (utf8_valid_len (take most s)) (take most s)

-- a JSON value as the value of a member
unfoldable pub read_as : Kind → Data → Option Cell
read_as (whole low high) d = option_map int (whole_in low high d)
read_as (not_negative low high) d = option_map (λ z. int (int_max (pos 0) z)) (whole_in low high d)
read_as (text_within most) d = option_map text (option_and_then (short_text most) (as_str d))
read_as any_text d = option_map text (as_str d)
read_as (cut_text most) d = option_map (λ s. text (cut most s)) (as_str d)
read_as truth d = option_map bool (as_bool d)
read_as any_value d = Some (value d)

abbrev pub not_null : Data → Option Data
not_null d = if is_some (as_null d) then None else Some d

-- the member's value, unless it is missing or null
abbrev pub present : List ℕ → Data → Option Data
present name d = option_and_then not_null (get name d)

abbrev pub found_or : Option Cell → Kind → Option Data → Option Cell
found_or missing kind None = missing
found_or missing kind (Some d) = read_as kind d

-- the row's value in the object
unfoldable pub cell_at : Row → Data → Result Cell MessageFault
cell_at row d = or_fault (faults.Member row.name) (found_or row.missing row.kind (present row.name d))

-- the values of the rows, behind those of the rows before them
unfoldable pub cells_from : List Cell → List Row → Data → Result (List Cell) MessageFault
cells_from before [] d = Ok before
cells_from before (row ∷ rows) d = do
  c ← cell_at row d
  cells_from (before ++ c ∷ []) rows d

abbrev pub cells_at : List Row → Data → Result (List Cell) MessageFault
cells_at rows d = cells_from [] rows d

-- ---- a body

abbrev pub json_at : List ℕ → Option Data
json_at bytes = if is_utf8 bytes then read bytes else None

unfoldable pub value_at : List ℕ → Result Data MessageFault
value_at bytes = if nat_lt LONGEST_BODY (length bytes) then Err faults.TooLong else or_fault faults.NotJson (json_at bytes)

abbrev pub is_object : Data → Bool
is_object d = is_some (as_object d)

abbrev pub as_message : Data → Result Data MessageFault
as_message d = if is_object d then Ok d else Err faults.WrongShape

unfoldable pub object_at : List ℕ → Result Data MessageFault
object_at bytes = do
  d ← value_at bytes
  as_message d

-- the values of a message's rows
unfoldable pub message_at : List Row → List ℕ → Result (List Cell) MessageFault
message_at rows bytes = do
  d ← object_at bytes
  cells_at rows d

-- ---- callbacks

abbrev pub list_of : Items → List Data
list_of no_items = []
list_of (item d ds) = d ∷ list_of ds

abbrev pub all_objects : List Data → Bool
all_objects ds = list_all is_object ds

-- the code and the text of an executeResult, which is faulty as a whole
abbrev pub whole_result : Result (List Cell) MessageFault → Result (List Cell) MessageFault
whole_result (Ok cells) = Ok cells
whole_result (Err e) = Err (faults.Member (codes "executeResult"))

unfoldable pub result_in : Data → Result (List Cell) MessageFault
result_in result = whole_result (if is_object result then cells_at result_rows result else Err faults.WrongShape)

-- the executeResult of an item that has no handleCode
abbrev pub older_by : Option Data → Option Data → Option Data
older_by (Some code) result = None
older_by None result = result

abbrev pub older_result : Data → Option Data
older_result d = older_by (present (codes "handleCode") d) (present (codes "executeResult") d)

-- the code and the text of an item, by that executeResult
abbrev pub told_by : Option Data → Data → Result (List Cell) MessageFault
told_by None d = cells_at told_rows d
told_by (Some result) d = result_in result

unfoldable pub told_in : Data → Result (List Cell) MessageFault
told_in d = told_by (older_result d) d

-- the values of an item
unfoldable pub item_in : Data → Result (List Cell) MessageFault
item_in d = do
  told ← told_in d
  cells_from told place_rows d

-- the values of the item that a body is
unfoldable pub one_item_at : List ℕ → Result (List Cell) MessageFault
one_item_at bytes = do
  d ← object_at bytes
  item_in d

-- the values of the items, behind those of the items before them
unfoldable pub items_from : List (List Cell) → List Data → Result (List (List Cell)) MessageFault
items_from before [] = Ok before
items_from before (d ∷ ds) = do
  cs ← item_in d
  items_from (before ++ cs ∷ []) ds

abbrev pub items_at : List Data → Result (List (List Cell)) MessageFault
items_at ds = items_from [] ds

abbrev pub array_in : Data → Result (List Data) MessageFault
array_in d = or_fault faults.WrongShape (option_map list_of (as_array d))

abbrev pub results_in : List Data → Result (List (List Cell)) MessageFault
results_in ds = if all_objects ds then (if nat_lt BATCH_ITEMS (length ds) then Err faults.TooLong else items_at ds) else Err faults.WrongShape

-- the values of each item
unfoldable pub callbacks_at : List ℕ → Result (List (List Cell)) MessageFault
callbacks_at bytes = do
  d ← value_at bytes
  ds ← array_in d
  results_in ds
