-- What the members of a message are: a table has a row for each.
use Rattle.std.specs.Prelude.{ℕ, ℤ, List, Bool, Option, Some, None}
use Rattle.serde_json.specs.Data.{Data}

-- the value of a member; none is that of an optional member that is not there
pub data Cell : Type 0 where
  none : Cell
  int : ℤ → Cell
  text : List ℕ → Cell
  bool : Bool → Cell
  value : Data → Cell

-- which values a member may have: a whole number from the one bound to the other; such a number, where a negative one
-- is read as 0; a text of at most so many bytes; any text; a text that is cut to so many bytes; true or false; any value
pub data Kind : Type 0 where
  whole : ℤ → ℤ → Kind
  not_negative : ℤ → ℤ → Kind
  text_within : ℕ → Kind
  any_text : Kind
  cut_text : ℕ → Kind
  truth : Kind
  any_value : Kind

-- a member by its name, the values that it may have, and its value where it is missing or null, if it may be
pub record Row : Type 0 where
  pub name : List ℕ
  pub kind : Kind
  pub missing : Option Cell

abbrev pub row : List ℕ → Kind → Option Cell → Row
row n k c = record { name = n; kind = k; missing = c }

-- a member that has to be there
abbrev pub required : List ℕ → Kind → Row
required n k = row n k None

-- a member that may be missing, with its default
abbrev pub optional : List ℕ → Kind → Cell → Row
optional n k c = row n k (Some c)

-- the value of a text, and of any value, that may be missing
abbrev pub text_or_none : Option (List ℕ) → Cell
text_or_none None = none
text_or_none (Some s) = text s

abbrev pub value_or_none : Option Data → Cell
value_or_none None = none
value_or_none (Some d) = value d
