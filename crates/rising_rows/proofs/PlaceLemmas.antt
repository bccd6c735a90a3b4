-- Lemmas on the place of a key, by its seat.
use Rattle.std.proofs.Common.{◌≡◌, ℕ, zero, suc, ◌+◌, ◌<◌, ◌≤◌, List, [], ◌∷◌, Bool, true, false, cond, not, eqb, leb, nat_lt, Some, None, Ok, Err, is_some, length, get_or, refl, sym, ap, ◌∙◌, ⊎_elim, arith}
use Rattle.std.specs.declared.cmp.Ordering.TheVariants.{Less, Equal, Greater}
use Rattle.std.specs.List.{slice_get, find, position, position_or_len}
use Rattle.std.specs.Ordering.{nat_cmp}
use Rattle.std.proofs.lemmas.Bool.{cases_lt}
use Rattle.std.proofs.lemmas.Bool.Decides.{nat_tests}
use Rattle.rising_rows.specs.Rising.{row_with}
use Rattle.rising_rows.specs.Seats.{key_order, IsSeat}

-- the place of the first row that passes a test
pub first-at : {R : Type 0} (p : R → Bool) (rows : List R) (at : ℕ) → at ≤ length rows → ((k : ℕ) (d : R) → k < at → p (get_or rows k d) ≡ false) → ((d : R) → at < length rows → p (get_or rows at d) ≡ true) → position_or_len p rows ≡ at
first-at p [] at le below here = omega arith
first-at p (row ∷ rows) zero le below here = rw (here row (omega arith)) refl
first-at p (row ∷ rows) (suc at) le below here =
    let step : position_or_len p rows ≡ at = first-at p rows at (omega arith) (λ k d lt. below (suc k) d (omega arith)) (λ d lt. here d (omega arith)) in
    rw (below 0 row (omega arith)) (omega (arith, step))

-- as an option
pub position-some : {R : Type 0} (p : R → Bool) (rows : List R) (at : ℕ) → position_or_len p rows ≡ at → at < length rows → position p rows ≡ Some at
position-some p rows at is lt =
    let within : nat_lt at (length rows) ≡ true = grind (arith, nat_tests) in
    rw (is, within) refl

pub position-none : {R : Type 0} (p : R → Bool) (rows : List R) → position_or_len p rows ≡ length rows → position p rows ≡ None
position-none p rows is =
    let past : nat_lt (length rows) (length rows) ≡ false = grind (arith, nat_tests) in
    rw (is, past) refl

less-apart : (m n : ℕ) → nat_cmp m n ≡ Less → eqb m n ≡ false
less-apart m n h = grind (arith, nat_tests)

greater-apart : (m n : ℕ) → nat_cmp m n ≡ Greater → eqb m n ≡ false
greater-apart m n h = grind (arith, nat_tests)

equal-same : (m n : ℕ) → nat_cmp m n ≡ Equal → eqb m n ≡ true
equal-same m n h = grind (arith, nat_tests)

less-below : (m n : ℕ) → nat_cmp m n ≡ Less → leb n m ≡ false
less-below m n h = grind (arith, nat_tests)

equal-from : (m n : ℕ) → nat_cmp m n ≡ Equal → leb n m ≡ true
equal-from m n h = grind (arith, nat_tests)

greater-from : (m n : ℕ) → nat_cmp m n ≡ Greater → leb n m ≡ true
greater-from m n h = grind (arith, nat_tests)

-- the place of a key that a row has
pub place-found : {R : Type 0} (key_of : R → ℕ) (key : ℕ) (rows : List R) (at : ℕ) → IsSeat (key_order key_of key) rows (Ok at) → position (λ row. eqb (key_of row) key) rows ≡ Some at
place-found key_of key rows at seat =
    position-some (λ row. eqb (key_of row) key) rows at
    (first-at (λ row. eqb (key_of row) key) rows at (let lt : at < length rows = seat.0 in omega arith)
    (λ k d lt. less-apart (key_of (get_or rows k d)) key (seat.2.0 k d (omega arith) lt)) (λ d lt. equal-same (key_of (get_or rows at d)) key (seat.1 d)))
    seat.0

none-at : {R : Type 0} (p : R → Bool) (rows : List R) → ((k : ℕ) (d : R) → k < length rows → p (get_or rows k d) ≡ false) → position_or_len p rows ≡ length rows
none-at p rows none = first-at p rows (length rows) (omega arith) none (λ d lt. absurd (omega arith))

-- a key that no row has is at no place
pub place-absent : {R : Type 0} (key_of : R → ℕ) (key : ℕ) (rows : List R) (at : ℕ) → IsSeat (key_order key_of key) rows (Err at) → position (λ row. eqb (key_of row) key) rows ≡ None
place-absent key_of key rows at seat =
    position-none (λ row. eqb (key_of row) key) rows
    (none-at (λ row. eqb (key_of row) key) rows (λ k d lt.
    ⊎_elim (λ (before : k < at). less-apart (key_of (get_or rows k d)) key (seat.1.0 k d (omega arith) before))
    (λ (after : at ≤ k). greater-apart (key_of (get_or rows k d)) key (seat.1.1 k d after lt))
    (cases_lt k at)))

-- the first row from a key on is at its seat
pub from-found : {R : Type 0} (key_of : R → ℕ) (key : ℕ) (rows : List R) (at : ℕ) → IsSeat (key_order key_of key) rows (Ok at) → position_or_len (λ row. leb key (key_of row)) rows ≡ at
from-found key_of key rows at seat =
    first-at (λ row. leb key (key_of row)) rows at (let lt : at < length rows = seat.0 in omega arith)
    (λ k d lt. less-below (key_of (get_or rows k d)) key (seat.2.0 k d (omega arith) lt)) (λ d lt. equal-from (key_of (get_or rows at d)) key (seat.1 d))

pub from-absent : {R : Type 0} (key_of : R → ℕ) (key : ℕ) (rows : List R) (at : ℕ) → IsSeat (key_order key_of key) rows (Err at) → position_or_len (λ row. leb key (key_of row)) rows ≡ at
from-absent key_of key rows at seat =
    first-at (λ row. leb key (key_of row)) rows at seat.0
    (λ k d lt. less-below (key_of (get_or rows k d)) key (seat.1.0 k d (omega arith) lt))
    (λ d lt. greater-from (key_of (get_or rows at d)) key (seat.1.1 at d (omega arith) lt))

-- the first row that passes is the one at its place
found-first : {R : Type 0} (p : R → Bool) (rows : List R) → find p rows ≡ slice_get rows (position_or_len p rows)
found-first p [] = refl
found-first p (row ∷ rows) = by (p row) (found-first p rows)
  where
    next : (n : ℕ) → slice_get rows n ≡ slice_get (row ∷ rows) (1 + n)
    next n = ap (slice_get (row ∷ rows)) (let e : suc n ≡ 1 + n = omega arith in e)

    by : (b : Bool) → find p rows ≡ slice_get rows (position_or_len p rows) → cond b (Some row) (find p rows) ≡ slice_get (row ∷ rows) (cond (not b) (1 + position_or_len p rows) 0)
    by true rest = refl
    by false rest = rest ∙ next (position_or_len p rows)

-- the row that has a key is the one at its seat
pub row-found : {R : Type 0} (key_of : R → ℕ) (key : ℕ) (rows : List R) (at : ℕ) → IsSeat (key_order key_of key) rows (Ok at) → row_with key_of key rows ≡ slice_get rows at
row-found key_of key rows at seat =
    found-first (λ row. eqb (key_of row) key) rows
    ∙ ap (slice_get rows) (first-at (λ row. eqb (key_of row) key) rows at (let lt : at < length rows = seat.0 in omega arith)
    (λ k d lt. less-apart (key_of (get_or rows k d)) key (seat.2.0 k d (omega arith) lt)) (λ d lt. equal-same (key_of (get_or rows at d)) key (seat.1 d)))

past-end : {R : Type 0} (rows : List R) → slice_get rows (length rows) ≡ None
past-end [] = refl
past-end (row ∷ rows) = past-end rows

-- no row has a key that has no place
pub row-absent : {R : Type 0} (key_of : R → ℕ) (key : ℕ) (rows : List R) (at : ℕ) → IsSeat (key_order key_of key) rows (Err at) → row_with key_of key rows ≡ None
row-absent key_of key rows at seat =
    found-first (λ row. eqb (key_of row) key) rows
    ∙ ap (slice_get rows) (none-at (λ row. eqb (key_of row) key) rows (λ k d lt.
    ⊎_elim (λ (before : k < at). less-apart (key_of (get_or rows k d)) key (seat.1.0 k d (omega arith) before))
    (λ (after : at ≤ k). greater-apart (key_of (get_or rows k d)) key (seat.1.1 k d after lt))
    (cases_lt k at)))
    ∙ past-end rows

-- a list has a row at each of its places
pub got-within : {R : Type 0} (rows : List R) (place : ℕ) → place < length rows → is_some (slice_get rows place) ≡ true
got-within [] place lt = absurd (omega arith)
got-within (row ∷ rows) zero lt = refl
got-within (row ∷ rows) (suc place) lt = got-within rows place (omega arith)

-- the row that is read at a place
got-at : {R : Type 0} (rows : List R) (place : ℕ) (row : R) → place < length rows → row ≡ get_or rows place row → slice_get rows place ≡ Some row
got-at [] place row lt is = absurd (omega arith)
got-at (first ∷ rows) zero row lt is = ap Some (sym is)
got-at (first ∷ rows) (suc place) row lt is = got-at rows place row (omega arith) is

pub row-read : {R : Type 0} (key_of : R → ℕ) (key : ℕ) (rows : List R) (at : ℕ) (row : R) → IsSeat (key_order key_of key) rows (Ok at) → row ≡ get_or rows at row → row_with key_of key rows ≡ Some row
row-read key_of key rows at row seat is = row-found key_of key rows at seat ∙ got-at rows at row seat.0 is

-- whether a row has a key
pub has-found : {R : Type 0} (key_of : R → ℕ) (key : ℕ) (rows : List R) (at : ℕ) → IsSeat (key_order key_of key) rows (Ok at) → is_some (row_with key_of key rows) ≡ true
has-found key_of key rows at seat = ap is_some (row-found key_of key rows at seat) ∙ got-within rows at seat.0

pub has-absent : {R : Type 0} (key_of : R → ℕ) (key : ℕ) (rows : List R) (at : ℕ) → IsSeat (key_order key_of key) rows (Err at) → is_some (row_with key_of key rows) ≡ false
has-absent key_of key rows at seat = ap is_some (row-absent key_of key rows at seat)
