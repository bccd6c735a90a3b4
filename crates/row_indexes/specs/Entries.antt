-- The keys of rows in an index: a row has one key in it, or none.
use Rattle.std.specs.Prelude.{◌≡◌, ℕ, List, [], ◌∷◌, Bool, false, Option, Some, None}
use Rattle.sorted_blocks.specs.declared.key.Key.{Key}
use Rattle.sorted_blocks.specs.Keys.{with_key, without_key}

-- the keys with this one, if there is one
abbrev pub with_entry : Option Key → List Key → List Key
with_entry None keys = keys
with_entry (Some key) keys = with_key key keys

-- the keys without this one
abbrev pub without_entry : Option Key → List Key → List Key
without_entry None keys = keys
without_entry (Some key) keys = without_key key keys

-- the keys of the rows that have one, in rising order
abbrev pub keys_of : {R : Type 0} → (R → Option Key) → List R → List Key
keys_of entry_of [] = []
keys_of entry_of (row ∷ rows) = with_entry (entry_of row) (keys_of entry_of rows)

-- the key of a row has the id of that row
abbrev pub IsNamedById : {R : Type 0} → (R → ℕ) → (R → Option Key) → Type 0
IsNamedById {R} id_of entry_of = (row : R) (key : Key) → entry_of row ≡ Some key → key.id ≡ id_of row

-- whether there is a row, and it passes a test
abbrev pub passes : {R : Type 0} → (R → Bool) → Option R → Bool
passes test None = false
passes test (Some row) = test row
