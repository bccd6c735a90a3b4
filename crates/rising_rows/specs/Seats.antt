-- Where a row stands in an ordered list, or would stand, and the list with it. An order says of each row whether it is
-- less than what is looked for, equal to it, or greater.
use Rattle.std.specs.Prelude.{◌≡◌, ℕ, ◌+◌, ◌<◌, ◌≤◌, ◌⊎◌, List, [], ◌∷◌, length, slice_index_or, Result, Ok, Err}
use Rattle.std.specs.declared.cmp.Ordering.{Ordering}
use Rattle.std.specs.declared.cmp.Ordering.TheVariants.{Less, Equal, Greater}
use Rattle.std.specs.List.{AllWithin, HoldsAt}
use Rattle.std.specs.Ordering.{nat_cmp, match_ordering}

-- how the key of a row compares with a key
abbrev pub key_order : {R : Type 0} → (R → ℕ) → ℕ → R → Ordering
key_order key_of key row = nat_cmp (key_of row) key

-- the rows with one put among them: behind those that are less, and in place of the one that is equal
abbrev pub put_by : {R : Type 0} → (R → Ordering) → R → List R → List R
put_by order row [] = row ∷ []
put_by order row (first ∷ rows) =
    match_ordering (order first) (first ∷ put_by order row rows) (row ∷ rows) (row ∷ first ∷ rows)

-- of two rows the earlier is less, or the later is greater
abbrev pub IsSplitBy : {R : Type 0} → (R → Ordering) → List R → Type 0
IsSplitBy {R} order rows =
    (i j : ℕ) (d : R) → i < j → j < length rows
    → (order (slice_index_or rows i d) ≡ Less) ⊎ (order (slice_index_or rows j d) ≡ Greater)

-- the rows before a place are less, and those from another place on are greater
abbrev pub IsBetween : {R : Type 0} → (R → Ordering) → List R → ℕ → ℕ → Type 0
IsBetween order rows low high =
    AllWithin (λ row. order row ≡ Less) rows 0 low × AllWithin (λ row. order row ≡ Greater) rows high (length rows)

-- the place of the equal row, or where it would stand
abbrev pub IsSeat : {R : Type 0} → (R → Ordering) → List R → Result ℕ ℕ → Type 0
IsSeat order rows (Ok at) =
    (at < length rows) × HoldsAt (λ row. order row ≡ Equal) rows at × IsBetween order rows at (at + 1)
IsSeat order rows (Err at) = (at ≤ length rows) × IsBetween order rows at at
