-- Lemmas on seats in ordered lists, and on what is put or removed there.
use Rattle.std.proofs.Common.{◌≡◌, ℕ, zero, suc, ◌-◌, ◌<◌, ◌≤◌, ◌⊎◌, List, [], ◌∷◌, Bool, true, false, cond, not, ◌||◌, eqb, Result, Ok, Err, inl, inr, length, get_or, set, refl, sym, ap, ◌∙◌, ⊎_elim, arith}
use Rattle.std.specs.declared.cmp.Ordering.{Ordering}
use Rattle.std.specs.declared.cmp.Ordering.TheVariants.{Less, Equal, Greater}
use Rattle.std.specs.List.{insert, remove, filter, list_any}
use Rattle.std.specs.List.Sorted.{IsBinarySearchResult, IsNonDecreasingBy, IsSearchInRange}
use Rattle.std.specs.Ordering.{nat_cmp, match_ordering, ordering_index, is_eq}
use Rattle.std.proofs.lemmas.Bool.{cases_lt}
use Rattle.std.proofs.lemmas.Bool.Decides.{nat_tests}
use Rattle.std.proofs.lemmas.List.{get_or_default}
use Rattle.std.proofs.lemmas.List.Elements.{filter_agree}
use Rattle.rising_rows.specs.Rising.{without, RisesFrom}
use Rattle.rising_rows.specs.Seats.{key_order, put_by, IsSplitBy, IsBetween, IsSeat}
use Rattle.rising_rows.proofs.RowLemmas.{rises-apart}

index-most : (o : Ordering) → ordering_index o ≤ 2
index-most Less = omega arith
index-most Equal = omega arith
index-most Greater = omega arith

index-below : (a b : Ordering) → (a ≡ Less) ⊎ (b ≡ Greater) → ordering_index a ≤ ordering_index b
index-below a b split =
    ⊎_elim (λ (less : a ≡ Less). omega (arith, ap ordering_index less)) (λ (greater : b ≡ Greater). omega (arith, ap ordering_index greater, index-most a)) split

-- the answers rise along a list that is split
pub non_decreasing-split : {R : Type 0} (order : R → Ordering) (rows : List R) → IsSplitBy order rows → IsNonDecreasingBy (λ row. ordering_index (order row)) rows
non_decreasing-split order rows split i j d le within =
    ⊎_elim (λ (before : i < j). index-below (order (get_or rows i d)) (order (get_or rows j d)) (split i j d before within))
    (λ (after : j ≤ i).
    let same : i ≡ j = omega arith in
    let e : ordering_index (order (get_or rows i d)) ≡ ordering_index (order (get_or rows j d)) = ap (λ (n : ℕ). ordering_index (order (get_or rows n d))) same in
    omega arith)
    (cases_lt i j)

less-before : {R : Type 0} (order : R → Ordering) (rows : List R) (i j : ℕ) (d : R) → IsSplitBy order rows → i < j → j < length rows → order (get_or rows j d) ≡ Equal → order (get_or rows i d) ≡ Less
less-before order rows i j d split before within equal =
    ⊎_elim (λ less. less) (λ (greater : order (get_or rows j d) ≡ Greater). cc) (split i j d before within)

greater-after : {R : Type 0} (order : R → Ordering) (rows : List R) (i j : ℕ) (d : R) → IsSplitBy order rows → i < j → j < length rows → order (get_or rows i d) ≡ Equal → order (get_or rows j d) ≡ Greater
greater-after order rows i j d split before within equal =
    ⊎_elim (λ (less : order (get_or rows i d) ≡ Less). cc) (λ greater. greater) (split i j d before within)

-- what a binary search gives is a seat
pub seat-searched : {R : Type 0} (order : R → Ordering) (rows : List R) (r : Result ℕ ℕ) → IsSplitBy order rows → IsSearchInRange r (length rows) → IsBinarySearchResult order rows r → IsSeat order rows r
seat-searched order rows (Ok at) split within found =
    (within, found, (λ k d above below. less-before order rows k at d split below within (found d), λ k d above below. greater-after order rows at k d split (omega arith) below (found d)))
seat-searched order rows (Err at) split within found = (within, found (non_decreasing-split order rows split))

-- above the last row is the seat behind it
pub seat-behind : {R : Type 0} (order : R → Ordering) (rows : List R) (last : R) → IsSplitBy order rows → last ≡ get_or rows (length rows - 1) last → order last ≡ Less → IsSeat order rows (Err (length rows))
seat-behind order rows last split is less = (
  omega arith,
  (
    λ k d above below.
        let here : order (get_or rows (length rows - 1) d) ≡ Less = ap order (get_or_default rows (length rows - 1) d last (omega arith) ∙ sym is) ∙ less in
        ⊎_elim (λ (before : k < length rows - 1).
        ⊎_elim (λ l. l) (λ (greater : order (get_or rows (length rows - 1) d) ≡ Greater). cc) (split k (length rows - 1) d before (omega arith)))
        (λ (after : length rows - 1 ≤ k).
        let same : k ≡ length rows - 1 = omega arith in
        ap (λ (n : ℕ). order (get_or rows n d)) same ∙ here)
        (cases_lt k (length rows - 1)),
    λ k d above below. absurd (omega arith),
  ),
)

ordered : {X : Type 0} (a b c : X) (o p : Ordering) → o ≡ p → match_ordering o a b c ≡ match_ordering p a b c
ordered a b c o p e = ap (λ q. match_ordering q a b c) e

-- a row that is put on the equal one
pub put-found : {R : Type 0} (order : R → Ordering) (row : R) (rows : List R) (at : ℕ) → IsSeat order rows (Ok at) → set rows at row ≡ put_by order row rows
put-found order row [] at seat = absurd (let lt : at < 0 = seat.0 in omega arith)
put-found order row (first ∷ rows) zero seat = sym (ordered _ _ _ (order first) Equal (seat.1 row))
put-found order row (first ∷ rows) (suc at) seat =
    let within : suc at < suc (length rows) = seat.0 in
    ap (λ xs. first ∷ xs) (put-found order row rows at (omega arith, (λ d. seat.1 d), (λ k d above below. seat.2.0 (suc k) d (omega arith) (omega arith), λ k d above below. seat.2.1 (suc k) d (omega arith) (omega arith))))
    ∙ sym (ordered _ _ _ (order first) Less (seat.2.0 0 row (omega arith) (omega arith)))

-- a row that is put between the others
pub put-between : {R : Type 0} (order : R → Ordering) (row : R) (rows : List R) (at : ℕ) → IsSeat order rows (Err at) → insert rows at row ≡ put_by order row rows
put-between order row [] zero seat = refl
put-between order row [] (suc at) seat = absurd (let le : suc at ≤ 0 = seat.0 in omega arith)
put-between order row (first ∷ rows) zero seat = sym (ordered _ _ _ (order first) Greater (seat.1.1 0 row (omega arith) (omega arith)))
put-between order row (first ∷ rows) (suc at) seat =
    let within : suc at ≤ suc (length rows) = seat.0 in
    ap (λ xs. first ∷ xs) (put-between order row rows at (omega arith, (λ k d above below. seat.1.0 (suc k) d (omega arith) (omega arith), λ k d above below. seat.1.1 (suc k) d (omega arith) (omega arith))))
    ∙ sym (ordered _ _ _ (order first) Less (seat.1.0 0 row (omega arith) (omega arith)))

kept : {R : Type 0} (test : R → Bool) (first : R) (rows : List R) → test first ≡ true → filter test (first ∷ rows) ≡ first ∷ filter test rows
kept test first rows e = ap (λ b. cond b (first ∷ filter test rows) (filter test rows)) e

left_out : {R : Type 0} (test : R → Bool) (first : R) (rows : List R) → test first ≡ false → filter test (first ∷ rows) ≡ filter test rows
left_out test first rows e = ap (λ b. cond b (first ∷ filter test rows) (filter test rows)) e

-- a list without the equal row, where it has none
pub filter-absent : {R : Type 0} (order : R → Ordering) (rows : List R) (at : ℕ) → IsBetween order rows at at → filter (λ row. not (is_eq (order row))) rows ≡ rows
filter-absent order [] at seat = refl
filter-absent order (first ∷ rows) zero seat =
    kept (λ row. not (is_eq (order row))) first rows (ap (λ o. not (is_eq o)) (seat.1 0 first (omega arith) (omega arith)))
    ∙ ap (λ xs. first ∷ xs) (filter-absent order rows 0 ((λ k d above below. absurd (omega arith)), λ k d above below. seat.1 (suc k) d (omega arith) (omega arith)))
filter-absent order (first ∷ rows) (suc at) seat =
    kept (λ row. not (is_eq (order row))) first rows (ap (λ o. not (is_eq o)) (seat.0 0 first (omega arith) (omega arith)))
    ∙ ap (λ xs. first ∷ xs) (filter-absent order rows at ((λ k d above below. seat.0 (suc k) d (omega arith) (omega arith)), λ k d above below. seat.1 (suc k) d (omega arith) (omega arith)))

-- a list without the equal row, where it has one
pub filter-found : {R : Type 0} (order : R → Ordering) (rows : List R) (at : ℕ) → IsSeat order rows (Ok at) → remove rows at ≡ filter (λ row. not (is_eq (order row))) rows
filter-found order [] at seat = absurd (let lt : at < 0 = seat.0 in omega arith)
filter-found order (first ∷ rows) zero seat =
    sym (left_out (λ row. not (is_eq (order row))) first rows (ap (λ o. not (is_eq o)) (seat.1 first))
    ∙ filter-absent order rows 0 ((λ k d above below. absurd (omega arith)), λ k d above below. seat.2.1 (suc k) d (omega arith) (omega arith)))
filter-found order (first ∷ rows) (suc at) seat =
    let within : suc at < suc (length rows) = seat.0 in
    ap (λ xs. first ∷ xs) (filter-found order rows at (omega arith, (λ d. seat.1 d), (λ k d above below. seat.2.0 (suc k) d (omega arith) (omega arith), λ k d above below. seat.2.1 (suc k) d (omega arith) (omega arith))))
    ∙ sym (kept (λ row. not (is_eq (order row))) first rows (ap (λ o. not (is_eq o)) (seat.2.0 0 first (omega arith) (omega arith))))

-- a list with a seat for an equal row has one
pub any-found : {R : Type 0} (order : R → Ordering) (rows : List R) (at : ℕ) → IsSeat order rows (Ok at) → list_any (λ row. is_eq (order row)) rows ≡ true
any-found order [] at seat = absurd (let lt : at < 0 = seat.0 in omega arith)
any-found order (first ∷ rows) zero seat = ap (λ o. is_eq o || list_any (λ row. is_eq (order row)) rows) (seat.1 first)
any-found order (first ∷ rows) (suc at) seat =
    let within : suc at < suc (length rows) = seat.0 in
    ap (λ o. is_eq o || list_any (λ row. is_eq (order row)) rows) (seat.2.0 0 first (omega arith) (omega arith))
    ∙ any-found order rows at (omega arith, (λ d. seat.1 d), (λ k d above below. seat.2.0 (suc k) d (omega arith) (omega arith), λ k d above below. seat.2.1 (suc k) d (omega arith) (omega arith)))

-- a list with a seat between its rows has no equal one
pub any-absent : {R : Type 0} (order : R → Ordering) (rows : List R) (at : ℕ) → IsBetween order rows at at → list_any (λ row. is_eq (order row)) rows ≡ false
any-absent order [] at seat = refl
any-absent order (first ∷ rows) zero seat =
    ap (λ o. is_eq o || list_any (λ row. is_eq (order row)) rows) (seat.1 0 first (omega arith) (omega arith))
    ∙ any-absent order rows 0 ((λ k d above below. absurd (omega arith)), λ k d above below. seat.1 (suc k) d (omega arith) (omega arith))
any-absent order (first ∷ rows) (suc at) seat =
    ap (λ o. is_eq o || list_any (λ row. is_eq (order row)) rows) (seat.0 0 first (omega arith) (omega arith))
    ∙ any-absent order rows at ((λ k d above below. seat.0 (suc k) d (omega arith) (omega arith)), λ k d above below. seat.1 (suc k) d (omega arith) (omega arith))

pub less-nat : (m n : ℕ) → m < n → nat_cmp m n ≡ Less
less-nat m n h = grind (arith, nat_tests)

pub greater-nat : (m n : ℕ) → n < m → nat_cmp m n ≡ Greater
greater-nat m n h = grind (arith, nat_tests)

-- rows whose keys rise are split by a key
pub split-rising : {R : Type 0} (key_of : R → ℕ) (low key : ℕ) (rows : List R) → RisesFrom key_of low rows → IsSplitBy (key_order key_of key) rows
split-rising key_of low key rows rises i j d before within =
    let apart : key_of (get_or rows i d) < key_of (get_or rows j d) = rises-apart key_of low rows i j d rises before within in
    ⊎_elim (λ (below : key_of (get_or rows i d) < key). inl (less-nat (key_of (get_or rows i d)) key below))
    (λ (above : key ≤ key_of (get_or rows i d)). inr (greater-nat (key_of (get_or rows j d)) key (omega arith)))
    (cases_lt (key_of (get_or rows i d)) key)

tied-nat : (m n : ℕ) → is_eq (nat_cmp m n) ≡ eqb m n
tied-nat m n = grind (arith, nat_tests)

-- the rows but for one are those that are not equal to it in the order of keys
pub without-order : {R : Type 0} (key_of : R → ℕ) (key : ℕ) (rows : List R) → filter (λ row. not (is_eq (key_order key_of key row))) rows ≡ without key_of key rows
without-order key_of key rows = filter_agree (λ row. not (is_eq (key_order key_of key row))) (λ row. not (eqb (key_of row) key)) (λ row. ap not (tied-nat (key_of row) key)) rows
