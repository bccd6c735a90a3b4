-- Lists of rows in rising order of keys that are numbers.
use Rattle.std.specs.Prelude.{ℕ, ◌<◌, ◌≤◌, ◌==◌, List, [], ◌∷◌, map, find, filter, not, is_some, Option, if◌then◌else◌}
use Rattle.rising_rows.specs.Seats.{key_order, put_by}

-- the row with this key, if there is one
abbrev pub row_with : {R : Type 0} → (R → ℕ) → ℕ → List R → Option R
row_with key_of key rows = find (λ row. key_of row == key) rows

-- the rows, with the one that has this key changed
abbrev pub changed : {R : Type 0} → (R → ℕ) → ℕ → (R → R) → List R → List R
changed key_of key change rows = map (λ row. if key_of row == key then change row else row) rows

-- the rows with this one: in place of the one that has its key, or in order of the keys
abbrev pub put_row : {R : Type 0} → (R → ℕ) → R → List R → List R
put_row key_of row rows = put_by (key_order key_of (key_of row)) row rows

-- the rows but for the one with this key
abbrev pub without : {R : Type 0} → (R → ℕ) → ℕ → List R → List R
without key_of key rows = filter (λ row. not (key_of row == key)) rows

-- the rows whose keys none of these others has
abbrev pub without_all : {R D : Type 0} → (R → ℕ) → (D → ℕ) → List D → List R → List R
without_all key_of other_key others rows = filter (λ row. not (is_some (row_with other_key (key_of row) others))) rows

-- the keys rise, and the first one is above `low`
abbrev pub RisesFrom : {R : Type 0} → (R → ℕ) → ℕ → List R → Type 0
RisesFrom key_of low [] = Unit {0}
RisesFrom key_of low (row ∷ rows) = (low < key_of row) × RisesFrom key_of (key_of row) rows

-- the keys rise, from above `low` up to `last`
abbrev pub IsRising : {R : Type 0} → (R → ℕ) → ℕ → List R → ℕ → Type 0
IsRising key_of low [] last = low ≤ last
IsRising key_of low (row ∷ rows) last = (low < key_of row) × IsRising key_of (key_of row) rows last
