-- The registrations of a key stand together.
use Rattle.std.proofs.Common.{◌≡◌, ℕ, zero, suc, ◌+◌, ◌<◌, ◌≤◌, List, [], ◌∷◌, Bool, true, false, cond, length, get_or, take, drop, refl, sym, ap, ◌∙◌, arith}
use Rattle.std.specs.declared.cmp.Ordering.{Ordering}
use Rattle.std.specs.declared.cmp.Ordering.TheVariants.{Less, Equal, Greater}
use Rattle.std.specs.Cmp.Lexicographic.{texts_ties}
use Rattle.std.specs.List.{AllWithin, filter}
use Rattle.std.specs.List.Sorted.{IsPartitionPoint}
use Rattle.std.specs.Ordering.{is_lt, is_le, is_eq}
use Rattle.std.specs.Prelude.{bytes_eq}
use Rattle.std.proofs.lemmas.List.{get_or-drop, length-drop}
use Rattle.job_records.specs.declared.registry.RegistryRow.{RegistryRow}
use Rattle.job_records.specs.Order.{RisesByKey}
use Rattle.job_records.proofs.KeyLemmas.{by_key}

-- a test keeps the first row or not
pub filter-step : {R : Type 0} (p : R → Bool) (row : R) (rows : List R) (b : Bool) → p row ≡ b → filter p (row ∷ rows) ≡ cond b (row ∷ filter p rows) (filter p rows)
filter-step p row rows b e = ap (λ (c : Bool). cond c (row ∷ filter p rows) (filter p rows)) e

-- rows before a place that fail a test may be left out
filter-behind : {R : Type 0} (p : R → Bool) (rows : List R) (low : ℕ) → low ≤ length rows → AllWithin (λ row. p row ≡ false) rows 0 low → filter p rows ≡ filter p (drop low rows)
filter-behind p [] zero within before = refl
filter-behind p (row ∷ rows) zero within before = refl
filter-behind p [] (suc low) within before = absurd (omega arith)
filter-behind p (row ∷ rows) (suc low) within before =
    filter-step p row rows false (before 0 row (omega arith) (omega arith))
    ∙ filter-behind p rows low (omega arith) (λ k d above below. before (suc k) d (omega arith) (omega arith))

-- where those before a place pass a test and no others, they are what passes
filter-front : {R : Type 0} (p : R → Bool) (rows : List R) (count : ℕ) → count ≤ length rows → AllWithin (λ row. p row ≡ true) rows 0 count → AllWithin (λ row. p row ≡ false) rows count (length rows) → filter p rows ≡ take count rows
filter-front p [] zero within here after = refl
filter-front p [] (suc count) within here after = absurd (omega arith)
filter-front p (row ∷ rows) zero within here after =
    filter-step p row rows false (after 0 row (omega arith) (omega arith))
    ∙ filter-front p rows 0 (omega arith) (λ k d above below. absurd (omega arith)) (λ k d above below. after (suc k) d (omega arith) (omega arith))
filter-front p (row ∷ rows) (suc count) within here after =
    filter-step p row rows true (here 0 row (omega arith) (omega arith))
    ∙ ap (λ xs. row ∷ xs) (filter-front p rows count (omega arith) (λ k d above below. here (suc k) d (omega arith) (omega arith)) (λ k d above below. after (suc k) d (omega arith) (omega arith)))

lower-apart : (o : Ordering) → is_lt o ≡ true → is_eq o ≡ false
lower-apart Less h = refl
lower-apart Equal h = (cc)
lower-apart Greater h = refl

equal-here : (o : Ordering) → is_lt o ≡ false → is_le o ≡ true → is_eq o ≡ true
equal-here Less h i = (cc)
equal-here Equal h i = refl
equal-here Greater h i = (cc)

higher-apart : (o : Ordering) → is_le o ≡ false → is_eq o ≡ false
higher-apart Less h = refl
higher-apart Equal h = (cc)
higher-apart Greater h = refl

-- registrations that rise do so from any place on
pub rises-drop : (start : ℕ) (rows : List RegistryRow) → RisesByKey rows → RisesByKey (drop start rows)
rises-drop start rows rises i j d before within =
    rw (get_or-drop start rows i d, get_or-drop start rows j d) (rises (start + i) (start + j) d (omega arith) (omega (arith, length-drop start rows)))

-- the registrations of a key are the first, from the first that is not below it on, that are not above it
pub rows-of_key : (key : List ℕ) (rows : List RegistryRow) (start count : ℕ) → start ≤ length rows → count ≤ length (drop start rows)
    → IsPartitionPoint (λ row. is_lt (by_key key row) ≡ true) (λ row. is_lt (by_key key row) ≡ false) rows start
    → IsPartitionPoint (λ row. is_le (by_key key row) ≡ true) (λ row. is_le (by_key key row) ≡ false) (drop start rows) count
    → take count (drop start rows) ≡ filter (λ row. bytes_eq row.key key) rows
rows-of_key key rows start count within short first last =
    sym (filter-behind (λ (row : RegistryRow). bytes_eq row.key key) rows start within
    (λ k d above below. texts_ties (get_or rows k d).key key ∙ lower-apart (by_key key (get_or rows k d)) (first.0 k d above below))
    ∙ filter-front (λ (row : RegistryRow). bytes_eq row.key key) (drop start rows) count short
    (λ k d above below. texts_ties (get_or (drop start rows) k d).key key ∙ equal-here (by_key key (get_or (drop start rows) k d)) (not-lower k d (omega arith)) (last.0 k d above below))
    (λ k d above below. texts_ties (get_or (drop start rows) k d).key key ∙ higher-apart (by_key key (get_or (drop start rows) k d)) (last.1 k d above below)))
  where
    not-lower : (k : ℕ) (d : RegistryRow) → k < length (drop start rows) → is_lt (by_key key (get_or (drop start rows) k d)) ≡ false
    not-lower k d lt =
        ap (λ (row : RegistryRow). is_lt (by_key key row)) (get_or-drop start rows k d)
        ∙ first.1 (start + k) d (omega arith) (omega (arith, length-drop start rows))
