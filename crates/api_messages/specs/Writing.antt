-- What is written for a message, and which messages are read back from it.
use Rattle.std.specs.Prelude.{◌≡◌, ◌≢◌, ℕ, ◌≤◌, pos, ◌≤ℤ◌, List, [], ◌∷◌, length, map, Some, is_some, if◌then◌else◌}
use Rattle.serde_json.specs.Data.{Data, null, boolean, number, string, array, object, Members, no_members, member, put, depth}
use Rattle.serde_json.specs.Find.{as_null, of_integer}
use Rattle.serde_json.specs.View.{items_of}
use Rattle.api_messages.specs.Members.{Cell, none, int, text, bool, value, Kind, whole, not_negative, text_within, any_text, cut_text, truth, any_value, Row}
use Rattle.api_messages.specs.Tables.{item_rows}

-- a member's value as JSON
abbrev pub data_of : Cell → Data
data_of none = null
data_of (int z) = number (of_integer z)
data_of (text s) = string s
data_of (bool b) = boolean b
data_of (value d) = d

-- a member before the others, unless it is null
abbrev pub unless_null : List ℕ → Data → Members → Members
unless_null name d ms = if is_some (as_null d) then ms else member name d ms

-- the same, where other members stand before it
abbrev pub put_unless_null : List ℕ → Data → Members → Members
put_unless_null name d ms = if is_some (as_null d) then ms else put name d ms

-- the members in the order of the rows
abbrev pub written : List Row → List Cell → Members
written (row ∷ rows) (c ∷ cs) = unless_null row.name (data_of c) (written rows cs)
written _ _ = no_members

abbrev pub object_of : List Row → List Cell → Data
object_of rows cells = object (written rows cells)

abbrev pub array_of : List (List Cell) → Data
array_of items = array (items_of (map (object_of item_rows) items))

-- ---- what is read back

-- the deepest content
abbrev pub most_depth : ℕ
most_depth = 126

-- a value within the limits of its kind; a negative number that would be read as 0 is not
abbrev pub FitsKind : Kind → Cell → Type 0
FitsKind (whole low high) (int z) = (low ≤ℤ z) × (z ≤ℤ high)
FitsKind (not_negative low high) (int z) = (low ≤ℤ z) × (pos 0 ≤ℤ z) × (z ≤ℤ high)
FitsKind (text_within most) (text s) = length s ≤ most
FitsKind any_text (text s) = Unit {0}
FitsKind (cut_text most) (text s) = length s ≤ most
FitsKind truth (bool b) = Unit {0}
FitsKind any_value (value d) = (d ≢ null) × (depth d ≤ most_depth)
FitsKind _ _ = ⊥

-- and no value only where that is the default
abbrev pub FitsRow : Row → Cell → Type 0
FitsRow row none = row.missing ≡ Some none
FitsRow row (int z) = FitsKind row.kind (int z)
FitsRow row (text s) = FitsKind row.kind (text s)
FitsRow row (bool b) = FitsKind row.kind (bool b)
FitsRow row (value d) = FitsKind row.kind (value d)

abbrev pub Fit : List Row → List Cell → Type 0
Fit [] [] = Unit {0}
Fit (row ∷ rows) (c ∷ cs) = FitsRow row c × Fit rows cs
Fit _ _ = ⊥

abbrev pub FitAll : List (List Cell) → Type 0
FitAll [] = Unit {0}
FitAll (cells ∷ items) = Fit item_rows cells × FitAll items
