-- Rows that are found among rows in order of their ids, and rows that are put in their place.
use Rattle.std.proofs.Common.{◌≡◌, ℕ, ◌<◌, ◌≤◌, List, [], ◌∷◌, Bool, true, false, cond, eqb, Option, Some, refl, sym, ap, ◌∙◌, arith}
use Rattle.std.proofs.lemmas.Bool.Decides.{nat_tests}
use Rattle.job_records.specs.Rows.{row_with, changed, RisesFrom, IsRising}
use Rattle.job_records.specs.Changes.{put_row}
use Rattle.job_records.proofs.RowLemmas.{changed-none, rising-ends}
use Rattle.job_records.proofs.PutLemmas.{put_present}

found-id_by : {R : Type 0} (id_of : R → ℕ) (id : ℕ) (first : R) (rest : Option R) (row : R) (b : Bool) → eqb (id_of first) id ≡ b → (rest ≡ Some row → id_of row ≡ id) → cond b (Some first) rest ≡ Some row → id_of row ≡ id
found-id_by id_of id first rest row true test later found =
    let same : id_of first ≡ id = grind (arith, nat_tests) in
    let here : first ≡ row = (cc) in
    ap id_of (sym here) ∙ same
found-id_by id_of id first rest row false test later found = later found

-- a row that is found has its id
pub found-id : {R : Type 0} (id_of : R → ℕ) (id : ℕ) (rows : List R) (row : R) → row_with id_of id rows ≡ Some row → id_of row ≡ id
found-id id_of id [] row found = (cc)
found-id id_of id (first ∷ rows) row found =
    found-id_by id_of id first (row_with id_of id rows) row (eqb (id_of first) id) refl (found-id id_of id rows row) found

found-within_by : {R : Type 0} (id_of : R → ℕ) (low last id : ℕ) (first : R) (rest : Option R) (row : R) (b : Bool) → eqb (id_of first) id ≡ b → low < id_of first → id_of first ≤ last → (rest ≡ Some row → (id_of first < id) × (id ≤ last)) → cond b (Some first) rest ≡ Some row → (low < id) × (id ≤ last)
found-within_by id_of low last id first rest row true test above within later found = let same : id_of first ≡ id = grind (arith, nat_tests) in (omega arith, omega arith)
found-within_by id_of low last id first rest row false test above within later found = let more : (id_of first < id) × (id ≤ last) = later found in (omega arith, more.1)

-- the id of a row that is found among rows that rise is between their bounds
pub found-within : {R : Type 0} (id_of : R → ℕ) (low last id : ℕ) (rows : List R) (row : R) → IsRising id_of low rows last → row_with id_of id rows ≡ Some row → (low < id) × (id ≤ last)
found-within id_of low last id [] row rising found = ((cc), (cc))
found-within id_of low last id (first ∷ rows) row rising found =
    found-within_by id_of low last id first (row_with id_of id rows) row (eqb (id_of first) id) refl rising.0 (rising-ends id_of (id_of first) last rows rising.1) (found-within id_of (id_of first) last id rows row rising.1) found

changed-found_by : {R : Type 0} (id_of : R → ℕ) (change : R → R) (id : ℕ) (first row : R) (rows : List R) (b : Bool) → eqb (id_of first) id ≡ b → RisesFrom id_of (id_of first) rows → (row_with id_of id rows ≡ Some row → changed id_of id (λ _. change row) rows ≡ changed id_of id change rows)
    → cond b (Some first) (row_with id_of id rows) ≡ Some row → cond b (change row) first ∷ changed id_of id (λ _. change row) rows ≡ cond b (change first) first ∷ changed id_of id change rows
changed-found_by id_of change id first row rows true test rises later found =
    let same : id_of first ≡ id = grind (arith, nat_tests) in
    let here : first ≡ row = (cc) in
    ap (λ xs. change row ∷ xs) (changed-none id_of (id_of first) id (λ _. change row) rows rises (omega arith))
    ∙ ap (λ x. change x ∷ rows) (sym here)
    ∙ ap (λ xs. change first ∷ xs) (sym (changed-none id_of (id_of first) id change rows rises (omega arith)))
changed-found_by id_of change id first row rows false test rises later found = ap (λ xs. first ∷ xs) (later found)

-- a change by an id changes the row that is found by it, and no other
changed-found : {R : Type 0} (id_of : R → ℕ) (change : R → R) (low id : ℕ) (row : R) (rows : List R) → RisesFrom id_of low rows → row_with id_of id rows ≡ Some row → changed id_of id (λ _. change row) rows ≡ changed id_of id change rows
changed-found id_of change low id row [] rises found = refl
changed-found id_of change low id row (first ∷ rows) rises found =
    changed-found_by id_of change id first row rows (eqb (id_of first) id) refl rises.1 (changed-found id_of change (id_of first) id row rows rises.1) found

-- a row that is put in place of the one with its id: the same rows, with this one changed
pub put-changed : {R : Type 0} (id_of : R → ℕ) (change : R → R) (low : ℕ) (row new : R) (rows : List R) → RisesFrom id_of low rows → row_with id_of (id_of new) rows ≡ Some row → new ≡ change row → put_row id_of new rows ≡ changed id_of (id_of new) change rows
put-changed id_of change low row new rows rises found is =
    put_present id_of low new row rows rises found
    ∙ ap (λ x. changed id_of (id_of new) (λ _. x) rows) is
    ∙ changed-found id_of change low (id_of new) row rows rises found
