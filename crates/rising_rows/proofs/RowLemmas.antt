-- Lemmas on rows in order of their keys.
use Rattle.std.proofs.Common.{◌≡◌, ℕ, zero, suc, ◌-◌, ◌<◌, ◌≤◌, List, [], ◌∷◌, ◌++◌, Bool, true, false, cond, eqb, Some, None, length, get_or, map, set, refl, sym, ap, ◌∙◌, subst, ⊎_elim, arith}
use Rattle.std.specs.List.{slice_get, find, filter, All}
use Rattle.std.proofs.lemmas.Bool.{cases_lt}
use Rattle.std.proofs.lemmas.Bool.Decides.{nat_tests}
use Rattle.std.proofs.lemmas.List.{get_or_default}
use Rattle.rising_rows.specs.Rising.{row_with, changed, RisesFrom, IsRising}

-- the keys of rows that rise from above `low` are above it
pub rises-above : {R : Type 0} (key_of : R → ℕ) (low : ℕ) (rows : List R) (j : ℕ) (d : R) → RisesFrom key_of low rows → j < length rows → low < key_of (get_or rows j d)
rises-above key_of low [] j d h lt = absurd (omega arith)
rises-above key_of low (row ∷ rows) zero d h lt = h.0
rises-above key_of low (row ∷ rows) (suc j) d h lt =
    let below : key_of row < key_of (get_or rows j d) = rises-above key_of (key_of row) rows j d h.1 (omega arith) in
    let first : low < key_of row = h.0 in
    omega arith

-- the same of a row that is read
pub rises-at : {R : Type 0} (key_of : R → ℕ) (low : ℕ) (rows : List R) (place : ℕ) (row : R) → RisesFrom key_of low rows → slice_get rows place ≡ Some row → low < key_of row
rises-at key_of low [] place row h is = (cc)
rises-at key_of low (first ∷ rows) zero row h is = let here : first ≡ row = (cc) in omega (arith, ap key_of here, h.0)
rises-at key_of low (first ∷ rows) (suc place) row h is =
    let below : key_of first < key_of row = rises-at key_of (key_of first) rows place row h.1 is in
    let above : low < key_of first = h.0 in
    omega arith

-- the key at an earlier place is below the one at a later place
pub rises-apart : {R : Type 0} (key_of : R → ℕ) (low : ℕ) (rows : List R) (i j : ℕ) (d : R) → RisesFrom key_of low rows → i < j → j < length rows → key_of (get_or rows i d) < key_of (get_or rows j d)
rises-apart key_of low [] i j d h lt in_rows = absurd (omega arith)
rises-apart key_of low (row ∷ rows) i zero d h lt in_rows = absurd (omega arith)
rises-apart key_of low (row ∷ rows) zero (suc j) d h lt in_rows = rises-above key_of (key_of row) rows j d h.1 (omega arith)
rises-apart key_of low (row ∷ rows) (suc i) (suc j) d h lt in_rows = rises-apart key_of (key_of row) rows i j d h.1 (omega arith) (omega arith)

apart-false : (m n : ℕ) → (m < n) → eqb m n ≡ false
apart-false m n h = grind (arith, nat_tests)

apart-false_above : (m n : ℕ) → (n < m) → eqb m n ≡ false
apart-false_above m n h = grind (arith, nat_tests)

-- a look-up goes on behind a row that is not looked for
pub find-skip : {R : Type 0} (test : R → Bool) (row : R) (rows : List R) → test row ≡ false → find test (row ∷ rows) ≡ find test rows
find-skip test row rows e = ap (λ b. cond b (Some row) (find test rows)) e

-- and ends at the one that is
pub find-here : {R : Type 0} (test : R → Bool) (row : R) (rows : List R) → test row ≡ true → find test (row ∷ rows) ≡ Some row
find-here test row rows e = ap (λ b. cond b (Some row) (find test rows)) e

-- a change by a key that no row has changes nothing
pub changed-none : {R : Type 0} (key_of : R → ℕ) (low key : ℕ) (change : R → R) (rows : List R) → RisesFrom key_of low rows → key ≤ low → changed key_of key change rows ≡ rows
changed-none key_of low key change [] h below = refl
changed-none key_of low key change (row ∷ rows) h below =
    let first : low < key_of row = h.0 in
    let test : eqb (key_of row) key ≡ false = apart-false_above (key_of row) key (omega arith) in
    ap (λ b. cond b (change row) row ∷ changed key_of key change rows) test
    ∙ ap (λ xs. row ∷ xs) (changed-none key_of (key_of row) key change rows h.1 (omega arith))

-- the row at the place of a key is the one that a change by this key changes
pub changed-at : {R : Type 0} (key_of : R → ℕ) (low key : ℕ) (change : R → R) (rows : List R) (place : ℕ) (row : R) → RisesFrom key_of low rows → slice_get rows place ≡ Some row → key_of row ≡ key → changed key_of key change rows ≡ set rows place (change row)
changed-at key_of low key change [] place row h is same = (cc)
changed-at key_of low key change (first ∷ rows) zero row h is same =
    let here : first ≡ row = (cc) in
    let test : eqb (key_of first) key ≡ true = subst (λ n. eqb n key ≡ true) (sym (ap key_of here ∙ same)) (grind (arith, nat_tests)) in
    let head : cond (eqb (key_of first) key) (change first) first ≡ change row = ap (λ b. cond b (change first) first) test ∙ ap change here in
    let tail : changed key_of key change rows ≡ rows = changed-none key_of (key_of first) key change rows h.1 (omega (arith, ap key_of here)) in
    ap (λ x. x ∷ changed key_of key change rows) head ∙ ap (λ xs. change row ∷ xs) tail
changed-at key_of low key change (first ∷ rows) (suc place) row h is same =
    let above : key_of first < key_of row = rises-at key_of (key_of first) rows place row h.1 is in
    let test : eqb (key_of first) key ≡ false = apart-false (key_of first) key (omega arith) in
    ap (λ b. cond b (change first) first ∷ changed key_of key change rows) test
    ∙ ap (λ xs. first ∷ xs) (changed-at key_of (key_of first) key change rows place row h.1 is same)

-- rows that rise up to a last key rise
pub rises-from_rising : {R : Type 0} (key_of : R → ℕ) (low last : ℕ) (rows : List R) → IsRising key_of low rows last → RisesFrom key_of low rows
rises-from_rising key_of low last [] h = tt
rises-from_rising key_of low last (row ∷ rows) h = (h.0, rises-from_rising key_of (key_of row) last rows h.1)

-- the last key is at least the bound that the keys are above
pub rising-ends : {R : Type 0} (key_of : R → ℕ) (low last : ℕ) (rows : List R) → IsRising key_of low rows last → low ≤ last
rising-ends key_of low last [] h = h
rising-ends key_of low last (row ∷ rows) h =
    let first : low < key_of row = h.0 in
    let rest : key_of row ≤ last = rising-ends key_of (key_of row) last rows h.1 in
    omega arith

-- a row with a higher key goes behind the others
pub rising-push : {R : Type 0} (key_of : R → ℕ) (low last : ℕ) (rows : List R) (row : R) → IsRising key_of low rows last → last < key_of row → IsRising key_of low (rows ++ row ∷ []) (key_of row)
rising-push key_of low last [] row h above = let first : low ≤ last = h in (omega arith, omega arith)
rising-push key_of low last (first ∷ rows) row h above = (h.0, rising-push key_of (key_of first) last rows row h.1 above)

-- the last key may be any higher one
pub rising-more : {R : Type 0} (key_of : R → ℕ) (low last more : ℕ) (rows : List R) → IsRising key_of low rows last → last ≤ more → IsRising key_of low rows more
rising-more key_of low last more [] h above = let first : low ≤ last = h in omega arith
rising-more key_of low last more (row ∷ rows) h above = (h.0, rising-more key_of (key_of row) last more rows h.1 above)

-- a row that keeps its key keeps its place
pub rising-set : {R : Type 0} (key_of : R → ℕ) (low last : ℕ) (rows : List R) (place : ℕ) (row : R) → IsRising key_of low rows last → ((d : R) → place < length rows → key_of row ≡ key_of (get_or rows place d)) → IsRising key_of low (set rows place row) last
rising-set key_of low last [] place row h same = h
rising-set key_of low last (first ∷ rows) zero row h same =
    let e : key_of row ≡ key_of first = same row (omega arith) in
    (subst (λ n. low < n) (sym e) h.0, subst (λ n. IsRising key_of n rows last) (sym e) h.1)
rising-set key_of low last (first ∷ rows) (suc place) row h same =
    (h.0, rising-set key_of (key_of first) last rows place row h.1 (λ d lt. same d (omega arith)))

-- no row has a key above the last one
pub absent-above : {R : Type 0} (key_of : R → ℕ) (low last key : ℕ) (rows : List R) → IsRising key_of low rows last → last < key → row_with key_of key rows ≡ None
absent-above key_of low last key [] h above = refl
absent-above key_of low last key (row ∷ rows) h above =
    let below : key_of row ≤ last = rising-ends key_of (key_of row) last rows h.1 in
    find-skip (λ r. eqb (key_of r) key) row rows (apart-false (key_of row) key (omega arith))
    ∙ absent-above key_of (key_of row) last key rows h.1 above

-- a row that is found has the key that was looked for
pub found-id : {R : Type 0} (key_of : R → ℕ) (key : ℕ) (rows : List R) (row : R) → row_with key_of key rows ≡ Some row → key_of row ≡ key
found-id key_of key [] row found = (cc)
found-id key_of key (first ∷ rows) row found = by (eqb (key_of first) key) refl (found-id key_of key rows row) found
  where
    by : (b : Bool) → eqb (key_of first) key ≡ b → (row_with key_of key rows ≡ Some row → key_of row ≡ key) → cond b (Some first) (row_with key_of key rows) ≡ Some row → key_of row ≡ key
    by true test later here =
        let same : first ≡ row = (cc) in
        let is : key_of first ≡ key = grind (arith, nat_tests) in
        omega (arith, ap key_of same, is)
    by false test later there = later there

-- its key is between the bounds of rows that rise
pub found-within : {R : Type 0} (key_of : R → ℕ) (low last key : ℕ) (rows : List R) (row : R) → IsRising key_of low rows last → row_with key_of key rows ≡ Some row → (low < key) × (key ≤ last)
found-within key_of low last key [] row rising found = ((cc), (cc))
found-within key_of low last key (first ∷ rows) row rising found =
    by (eqb (key_of first) key) refl (found-within key_of (key_of first) last key rows row rising.1) found
  where
    by : (b : Bool) → eqb (key_of first) key ≡ b → (row_with key_of key rows ≡ Some row → (key_of first < key) × (key ≤ last)) → cond b (Some first) (row_with key_of key rows) ≡ Some row → (low < key) × (key ≤ last)
    by true test later here =
        let is : key_of first ≡ key = grind (arith, nat_tests) in
        let above : low < key_of first = rising.0 in
        let within : key_of first ≤ last = rising-ends key_of (key_of first) last rows rising.1 in
        (omega arith, omega arith)
    by false test later there =
        let more : (key_of first < key) × (key ≤ last) = later there in
        let above : low < key_of first = rising.0 in
        (omega (arith, more.0), more.1)

found-all : {R : Type 0} (P : R → Type 0) (test : R → Bool) (rows : List R) (row : R) → find test rows ≡ Some row → All P rows → P row
found-all P test [] row is all = (cc)
found-all P test (first ∷ rows) row is all =
    by (test first) is (λ rest. found-all P test rows row rest (λ k d lt. all (suc k) d (omega arith)))
  where
    by : (b : Bool) → cond b (Some first) (find test rows) ≡ Some row → (find test rows ≡ Some row → P row) → P row
    by true here rest = let e : first ≡ row = (cc) in subst P e (all 0 first (omega arith))
    by false there rest = rest there

-- a row that a list has keeps what all its rows keep
pub row_has : {R : Type 0} (P : R → Type 0) (key_of : R → ℕ) (key : ℕ) (rows : List R) (row : R) → row_with key_of key rows ≡ Some row → All P rows → P row
row_has P key_of key rows row is all = found-all P (λ r. eqb (key_of r) key) rows row is all

-- where keys rise up to a last one, none is above it
pub rising-all : {R : Type 0} (key_of : R → ℕ) (low last : ℕ) (rows : List R) → IsRising key_of low rows last → All (λ row. key_of row ≤ last) rows
rising-all key_of low last [] h k d lt = absurd (omega arith)
rising-all key_of low last (row ∷ rows) h zero d lt = rising-ends key_of (key_of row) last rows h.1
rising-all key_of low last (row ∷ rows) h (suc k) d lt = rising-all key_of (key_of row) last rows h.1 k d (omega arith)

-- keys that rise, none above a last one, rise up to it
pub rising-from_all : {R : Type 0} (key_of : R → ℕ) (low last : ℕ) (rows : List R) → RisesFrom key_of low rows → low ≤ last → All (λ row. key_of row ≤ last) rows → IsRising key_of low rows last
rising-from_all key_of low last [] h le all = le
rising-from_all key_of low last (row ∷ rows) h le all =
    (h.0, rising-from_all key_of (key_of row) last rows h.1 (all 0 row (omega arith)) (λ k d lt. all (suc k) d (omega arith)))

-- a key up to which the last row goes is one up to which all go
pub rising-last : {R : Type 0} (key_of : R → ℕ) (last : ℕ) (rows : List R) (end : R) → RisesFrom key_of 0 rows → end ≡ get_or rows (length rows - 1) end → key_of end ≤ last → IsRising key_of 0 rows last
rising-last key_of last rows end h is within = rising-from_all key_of 0 last rows h (omega arith) (λ k d lt.
    let here : key_of (get_or rows (length rows - 1) d) ≡ key_of end = ap key_of (get_or_default rows (length rows - 1) d end (omega arith) ∙ sym is) in
    ⊎_elim (λ (before : k < length rows - 1).
    let below : key_of (get_or rows k d) < key_of (get_or rows (length rows - 1) d) = rises-apart key_of 0 rows k (length rows - 1) d h before (omega arith) in
    omega arith)
    (λ (after : length rows - 1 ≤ k).
    let same : k ≡ length rows - 1 = omega arith in
    let e : key_of (get_or rows k d) ≡ key_of (get_or rows (length rows - 1) d) = ap (λ (n : ℕ). key_of (get_or rows n d)) same in
    omega arith)
    (cases_lt k (length rows - 1)))

-- what rises by a key of what is said of each row
pub rises-map : {R S : Type 0} (key_of : S → ℕ) (said : R → S) (low : ℕ) (rows : List R) → RisesFrom key_of low (map said rows) → RisesFrom (λ row. key_of (said row)) low rows
rises-map key_of said low [] h = tt
rises-map key_of said low (row ∷ rows) h = (h.0, rises-map key_of said (key_of (said row)) rows h.1)

-- the keys rise from a lower bound too
pub rises-lower : {R : Type 0} (key_of : R → ℕ) (low under : ℕ) (rows : List R) → RisesFrom key_of low rows → under ≤ low → RisesFrom key_of under rows
rises-lower key_of low under [] h below = tt
rises-lower key_of low under (row ∷ rows) h below = (let here : low < key_of row = h.0 in omega arith, h.1)

-- the keys still rise where rows are left out
pub rises-filter : {R : Type 0} (key_of : R → ℕ) (test : R → Bool) (low : ℕ) (rows : List R) → RisesFrom key_of low rows → RisesFrom key_of low (filter test rows)
rises-filter key_of test low [] h = h
rises-filter key_of test low (row ∷ rows) h = filtered (test row) (h.0, rises-filter key_of test (key_of row) rows h.1)
  where
    filtered : (b : Bool) → (low < key_of row) × RisesFrom key_of (key_of row) (filter test rows) → RisesFrom key_of low (cond b (row ∷ filter test rows) (filter test rows))
    filtered true rest = rest
    filtered false rest = rises-lower key_of (key_of row) low (filter test rows) rest.1 (let above : low < key_of row = rest.0 in omega arith)
