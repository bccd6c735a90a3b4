-- What is read of a list by its places, and of the rows that pass a test by their ids.
use Rattle.std.proofs.Common.{◌≡◌, ℕ, zero, suc, ◌+◌, ◌<◌, List, [], ◌∷◌, ◌++◌, Bool, true, false, cond, eqb, Some, None, length, map, take, refl, sym, ap, ◌∙◌, arith}
use Rattle.std.specs.List.{filter, find, slice_get}
use Rattle.std.specs.Option.{option_map}
use Rattle.std.proofs.lemmas.Bool.Decides.{nat_tests}
use Rattle.rising_rows.specs.Rising.{row_with, RisesFrom}
use Rattle.rising_rows.proofs.RowLemmas.{row_has, rises-above, find-skip, find-here}

take-next : {X : Type 0} (xs : List X) (at : ℕ) (x : X) → slice_get xs at ≡ Some x → take (suc at) xs ≡ take at xs ++ x ∷ []
take-next [] at x is = (cc)
take-next (y ∷ ys) zero x is = let same : y ≡ x = (cc) in ap (λ z. z ∷ []) same
take-next {X = X} (y ∷ ys) (suc at) x is = ap (λ (zs : List X). y ∷ zs) (take-next ys at x is)

-- up to and with the element at a place
pub get-push : {X : Type 0} (xs : List X) (at : ℕ) (x : X) → slice_get xs at ≡ Some x → take (at + 1) xs ≡ take at xs ++ x ∷ []
get-push xs at x is = let next : at + 1 ≡ suc at = omega arith in ap (λ (n : ℕ). take n xs) next ∙ take-next xs at x is

pub get-within : {X : Type 0} (xs : List X) (at : ℕ) (x : X) → slice_get xs at ≡ Some x → at < length xs
get-within [] at x is = (cc)
get-within (y ∷ ys) zero x is = omega arith
get-within (y ∷ ys) (suc at) x is = let lt : at < length ys = get-within ys at x is in omega arith

-- up to a place past the end
pub get-past : {X : Type 0} (xs : List X) (at : ℕ) → slice_get xs at ≡ None → take at xs ≡ xs
get-past [] zero is = refl
get-past [] (suc at) is = refl
get-past (y ∷ ys) zero is = (cc)
get-past {X = X} (y ∷ ys) (suc at) is = ap (λ (zs : List X). y ∷ zs) (get-past ys at is)

pub get-map : {X Y : Type 0} (f : X → Y) (xs : List X) (at : ℕ) → slice_get (map f xs) at ≡ option_map f (slice_get xs at)
get-map f [] at = refl
get-map f (x ∷ xs) zero = refl
get-map f (x ∷ xs) (suc at) = get-map f xs at

-- the first that passes is the first of those that pass
pub find-filter : {X : Type 0} (test : X → Bool) (xs : List X) → find test xs ≡ slice_get (filter test xs) 0
find-filter test [] = refl
find-filter {X = X} test (x ∷ xs) = by (test x) (find-filter test xs)
  where
    by : (b : Bool) → find test xs ≡ slice_get (filter test xs) 0 → cond b (Some x) (find test xs) ≡ slice_get (cond b (x ∷ filter test xs) (filter test xs)) 0
    by true rest = refl
    by false rest = rest

apart : (m n : ℕ) → (m < n) → eqb m n ≡ false
apart m n h = grind (arith, nat_tests)

same : (n : ℕ) → eqb n n ≡ true
same n = grind (arith, nat_tests)

-- a row of those that pass is the row with its id
pub row-filtered : {R : Type 0} (id_of : R → ℕ) (test : R → Bool) (low : ℕ) (rows : List R) (at : ℕ) (row : R) → RisesFrom id_of low rows → slice_get (filter test rows) at ≡ Some row → row_with id_of (id_of row) rows ≡ Some row
row-filtered id_of test low [] at row up is = (cc)
row-filtered {R = R} id_of test low (first ∷ rows) at row up is = by (test first) at (λ place here. later (row-filtered id_of test (id_of first) rows place row up.1 here)) is
  where
    later : row_with id_of (id_of row) rows ≡ Some row → row_with id_of (id_of row) (first ∷ rows) ≡ Some row
    later found =
        let above : id_of first < id_of row = row_has (λ r. id_of first < id_of r) id_of (id_of row) rows row found (λ k d lt. rises-above id_of (id_of first) rows k d up.1 lt) in
        find-skip (λ r. eqb (id_of r) (id_of row)) first rows (apart (id_of first) (id_of row) above) ∙ found

    by : (b : Bool) (place : ℕ) → ((p : ℕ) → slice_get (filter test rows) p ≡ Some row → row_with id_of (id_of row) (first ∷ rows) ≡ Some row)
        → slice_get (cond b (first ∷ filter test rows) (filter test rows)) place ≡ Some row → row_with id_of (id_of row) (first ∷ rows) ≡ Some row
    by true zero rest here =
        let is : first ≡ row = (cc) in
        ap (λ (r : R). row_with id_of (id_of r) (first ∷ rows)) (sym is) ∙ find-here (λ r. eqb (id_of r) (id_of first)) first rows (same (id_of first)) ∙ ap Some is
    by true (suc place) rest here = rest place here
    by false place rest here = rest place here
