-- Rows that are found, and rows that are not there.
use Rattle.std.proofs.Common.{◌≡◌, ℕ, ◌<◌, ◌≤◌, List, [], ◌∷◌, Bool, true, false, cond, Option, Some, None, find, refl, sym, ap, ◌∙◌, subst, arith}
use Rattle.std.specs.List.{AllByRecursion}
use Rattle.job_records.specs.Rows.{row_with, IsRising}
use Rattle.job_records.proofs.RowLemmas.{found-within}

passes-by : {R : Type 0} (p : R → Bool) (first : R) (rows : List R) (row : R) (b : Bool) → p first ≡ b → (find p rows ≡ Some row → p row ≡ true) → cond b (Some first) (find p rows) ≡ Some row → p row ≡ true
passes-by p first rows row true test later is = let here : first ≡ row = (cc) in ap p (sym here) ∙ test
passes-by p first rows row false test later is = later is

-- a row that is found passes
pub found-passes : {R : Type 0} (p : R → Bool) (rows : List R) (row : R) → find p rows ≡ Some row → p row ≡ true
found-passes p [] row is = (cc)
found-passes p (first ∷ rows) row is = passes-by p first rows row (p first) refl (found-passes p rows row) is

all-by : {R : Type 0} (P : R → Type 0) (p : R → Bool) (first : R) (rows : List R) (row : R) (b : Bool) → P first → (find p rows ≡ Some row → P row) → cond b (Some first) (find p rows) ≡ Some row → P row
all-by P p first rows row true here later is = let same : first ≡ row = (cc) in subst P same here
all-by P p first rows row false here later is = later is

-- and is so as all are
pub all-found : {R : Type 0} (P : R → Type 0) (p : R → Bool) (rows : List R) (row : R) → AllByRecursion P rows → find p rows ≡ Some row → P row
all-found P p [] row all is = absurd (let never : ⊥ = cc in never)
all-found P p (first ∷ rows) row all is = all-by P p first rows row (p first) all.0 (all-found P p rows row all.1) is

absent-by : {R : Type 0} (id_of : R → ℕ) (low last id : ℕ) (rows : List R) (found : Option R) → IsRising id_of low rows last → last < id → row_with id_of id rows ≡ found → found ≡ None
absent-by id_of low last id rows None rising above is = refl
absent-by id_of low last id rows (Some row) rising above is =
    absurd (let most : id ≤ last = (found-within id_of low last id rows row rising is).1 in let never : ⊥ = omega arith in never)

-- no row has an id above the last one
pub absent-above : {R : Type 0} (id_of : R → ℕ) (low last id : ℕ) (rows : List R) → IsRising id_of low rows last → last < id → row_with id_of id rows ≡ None
absent-above id_of low last id rows rising above = absent-by id_of low last id rows (row_with id_of id rows) rising above refl
