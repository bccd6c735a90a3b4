-- Lemmas on a row put among rows in order of their keys, and on rows left out.
use Rattle.std.proofs.Common.{◌≡◌, ℕ, ◌+◌, ◌<◌, ◌≤◌, List, [], ◌∷◌, ◌++◌, Bool, true, false, cond, eqb, Some, None, length, refl, sym, ap, ◌∙◌, subst, ⊎_elim, arith}
use Rattle.std.specs.declared.cmp.Ordering.{Ordering}
use Rattle.std.specs.declared.cmp.Ordering.TheVariants.{Less, Equal, Greater}
use Rattle.std.specs.List.{filter, All}
use Rattle.std.specs.Ordering.{nat_cmp, match_ordering}
use Rattle.std.proofs.lemmas.Bool.{cases_lt}
use Rattle.std.proofs.lemmas.Bool.Decides.{nat_tests}
use Rattle.std.proofs.lemmas.List.{length-map}
use Rattle.std.proofs.lemmas.List.Elements.{All-cons, All-tail}
use Rattle.rising_rows.specs.Rising.{row_with, changed, put_row, RisesFrom, IsRising}
use Rattle.rising_rows.specs.Seats.{put_by}
use Rattle.rising_rows.proofs.RowLemmas.{changed-none, rising-ends, find-skip, find-here}
use Rattle.rising_rows.proofs.SeatLemmas.{less-nat, greater-nat}

equal-nat : (m n : ℕ) → m ≡ n → nat_cmp m n ≡ Equal
equal-nat m n h = grind (arith, nat_tests)

test-false : (m n : ℕ) → (m ≡ n → ⊥) → eqb m n ≡ false
test-false m n h = grind (arith, nat_tests)

test-true : (m n : ℕ) → m ≡ n → eqb m n ≡ true
test-true m n h = grind (arith, nat_tests)

-- below, equal or above
by_cmp : {G : Type 0} (m n : ℕ) → (m < n → G) → (m ≡ n → G) → (n < m → G) → G
by_cmp m n less equal greater =
    ⊎_elim less (λ (not_less : n ≤ m). ⊎_elim greater (λ (not_greater : m ≤ n). equal (omega arith)) (cases_lt n m)) (cases_lt m n)

put-less : {R : Type 0} (key_of : R → ℕ) (row first : R) (rows : List R) → key_of first < key_of row → put_row key_of row (first ∷ rows) ≡ first ∷ put_row key_of row rows
put-less key_of row first rows h =
    ap (λ o. match_ordering o (first ∷ put_row key_of row rows) (row ∷ rows) (row ∷ first ∷ rows)) (less-nat (key_of first) (key_of row) h)

put-equal : {R : Type 0} (key_of : R → ℕ) (row first : R) (rows : List R) → key_of first ≡ key_of row → put_row key_of row (first ∷ rows) ≡ row ∷ rows
put-equal key_of row first rows h =
    ap (λ o. match_ordering o (first ∷ put_row key_of row rows) (row ∷ rows) (row ∷ first ∷ rows)) (equal-nat (key_of first) (key_of row) h)

put-greater : {R : Type 0} (key_of : R → ℕ) (row first : R) (rows : List R) → key_of row < key_of first → put_row key_of row (first ∷ rows) ≡ row ∷ first ∷ rows
put-greater key_of row first rows h =
    ap (λ o. match_ordering o (first ∷ put_row key_of row rows) (row ∷ rows) (row ∷ first ∷ rows)) (greater-nat (key_of first) (key_of row) h)

-- a row with a key above all others goes behind them
pub put_behind : {R : Type 0} (key_of : R → ℕ) (low last : ℕ) (row : R) (rows : List R) → IsRising key_of low rows last → last < key_of row → put_row key_of row rows ≡ rows ++ row ∷ []
put_behind key_of low last row [] h above = refl
put_behind key_of low last row (first ∷ rows) h above =
    let below : key_of first ≤ last = rising-ends key_of (key_of first) last rows h.1 in
    put-less key_of row first rows (omega arith) ∙ ap (λ xs. first ∷ xs) (put_behind key_of (key_of first) last row rows h.1 above)

-- no row of a list above a key has it
pub absent-low : {R : Type 0} (key_of : R → ℕ) (low key : ℕ) (rows : List R) → RisesFrom key_of low rows → key ≤ low → row_with key_of key rows ≡ None
absent-low key_of low key [] h below = refl
absent-low key_of low key (row ∷ rows) h below =
    let above : low < key_of row = h.0 in
    find-skip (λ r. eqb (key_of r) key) row rows (test-false (key_of row) key (λ e. omega arith)) ∙ absent-low key_of (key_of row) key rows h.1 (omega arith)

-- a row with a key that is there takes its place
pub put_present : {R : Type 0} (key_of : R → ℕ) (low : ℕ) (row found : R) (rows : List R) → RisesFrom key_of low rows → row_with key_of (key_of row) rows ≡ Some found → put_row key_of row rows ≡ changed key_of (key_of row) (λ _. row) rows
put_present key_of low row found [] h is = (cc)
put_present key_of low row found (first ∷ rows) h is =
    let skip : (b : Bool) → eqb (key_of first) (key_of row) ≡ b → changed key_of (key_of row) (λ _. row) (first ∷ rows) ≡ cond b row first ∷ changed key_of (key_of row) (λ _. row) rows =
    λ b e. ap (λ (c : Bool). cond c row first ∷ changed key_of (key_of row) (λ _. row) rows) e in
    by_cmp (key_of first) (key_of row)
    (λ less.
    let test : eqb (key_of first) (key_of row) ≡ false = test-false (key_of first) (key_of row) (λ e. omega arith) in
    put-less key_of row first rows less
    ∙ ap (λ xs. first ∷ xs) (put_present key_of (key_of first) row found rows h.1 (sym (find-skip (λ r. eqb (key_of r) (key_of row)) first rows test) ∙ is))
    ∙ sym (skip false test))
    (λ equal.
    put-equal key_of row first rows equal
    ∙ ap (λ xs. row ∷ xs) (sym (changed-none key_of (key_of first) (key_of row) (λ _. row) rows h.1 (omega arith)))
    ∙ sym (skip true (test-true (key_of first) (key_of row) equal)))
    (λ greater.
    let test : eqb (key_of first) (key_of row) ≡ false = test-false (key_of first) (key_of row) (λ e. omega arith) in
    let none : row_with key_of (key_of row) (first ∷ rows) ≡ None = find-skip (λ r. eqb (key_of r) (key_of row)) first rows test ∙ absent-low key_of (key_of first) (key_of row) rows h.1 (omega arith) in
    cc)

-- the keys still rise with a row put among them
pub rising-put : {R : Type 0} (key_of : R → ℕ) (low last : ℕ) (row : R) (rows : List R) → IsRising key_of low rows last → low < key_of row → key_of row ≤ last → IsRising key_of low (put_row key_of row rows) last
rising-put key_of low last row [] h above within = (above, within)
rising-put key_of low last row (first ∷ rows) h above within =
    by_cmp (key_of first) (key_of row)
    (λ less. subst (λ xs. IsRising key_of low xs last) (sym (put-less key_of row first rows less)) (h.0, rising-put key_of (key_of first) last row rows h.1 less within))
    (λ equal. subst (λ xs. IsRising key_of low xs last) (sym (put-equal key_of row first rows equal)) (above, subst (λ n. IsRising key_of n rows last) equal h.1))
    (λ greater. subst (λ xs. IsRising key_of low xs last) (sym (put-greater key_of row first rows greater)) (above, (greater, h.1)))

-- the keys rise from a lower bound too
pub rising-lower : {R : Type 0} (key_of : R → ℕ) (low under last : ℕ) (rows : List R) → IsRising key_of low rows last → under ≤ low → IsRising key_of under rows last
rising-lower key_of low under last [] h below = let here : low ≤ last = h in omega arith
rising-lower key_of low under last (row ∷ rows) h below = (let here : low < key_of row = h.0 in omega arith, h.1)

-- the keys still rise where rows are left out
pub rising-filter : {R : Type 0} (key_of : R → ℕ) (low last : ℕ) (test : R → Bool) (rows : List R) → IsRising key_of low rows last → IsRising key_of low (filter test rows) last
rising-filter key_of low last test [] h = h
rising-filter key_of low last test (row ∷ rows) h =
    filtered (test row) (h.0, rising-filter key_of (key_of row) last test rows h.1)
  where
    filtered : (b : Bool) → (low < key_of row) × IsRising key_of (key_of row) (filter test rows) last → IsRising key_of low (cond b (row ∷ filter test rows) (filter test rows)) last
    filtered true rest = rest
    filtered false rest = rising-lower key_of (key_of row) low last (filter test rows) rest.1 (let above : low < key_of row = rest.0 in omega arith)

apart-conds : {X : Type 0} (b c : Bool) (x y z : X) → (b ≡ true → c ≡ true → ⊥) → cond b x (cond c y z) ≡ cond c y (cond b x z)
apart-conds true true x y z never = absurd (never refl refl)
apart-conds true false x y z never = refl
apart-conds false c x y z never = refl

same-conds : {X : Type 0} (b c : Bool) (x y z : X) → b ≡ c → cond c x z ≡ cond c x (cond b y z)
same-conds b true x y z same = refl
same-conds b false x y z same = ap (λ e. cond e y z) (sym same)

test-is : (m n : ℕ) → eqb m n ≡ true → m ≡ n
test-is m n h = grind (arith, nat_tests)

-- the row with a key, with a row put among the others
pub row_with-put : {R : Type 0} (key_of : R → ℕ) (key : ℕ) (row : R) (rows : List R) → row_with key_of key (put_row key_of row rows) ≡ cond (eqb (key_of row) key) (Some row) (row_with key_of key rows)
row_with-put key_of key row [] = refl
row_with-put key_of key row (first ∷ rows) =
    by_cmp (key_of first) (key_of row)
    (λ less.
    ap (row_with key_of key) (put-less key_of row first rows less)
    ∙ ap (λ o. cond (eqb (key_of first) key) (Some first) o) (row_with-put key_of key row rows)
    ∙ apart-conds (eqb (key_of first) key) (eqb (key_of row) key) (Some first) (Some row) (row_with key_of key rows) (λ e f. let p : key_of first ≡ key = test-is (key_of first) key e in let q : key_of row ≡ key = test-is (key_of row) key f in omega arith))
    (λ equal.
    ap (row_with key_of key) (put-equal key_of row first rows equal)
    ∙ same-conds (eqb (key_of first) key) (eqb (key_of row) key) (Some row) (Some first) (row_with key_of key rows) (ap (λ (n : ℕ). eqb n key) equal))
    (λ greater. ap (row_with key_of key) (put-greater key_of row first rows greater))

-- a row that takes the place of another leaves as many
pub length-put_present : {R : Type 0} (key_of : R → ℕ) (low : ℕ) (row found : R) (rows : List R) → RisesFrom key_of low rows → row_with key_of (key_of row) rows ≡ Some found → length (put_row key_of row rows) ≡ length rows
length-put_present key_of low row found rows h is =
    ap length (put_present key_of low row found rows h is) ∙ length-map rows (λ r. cond (eqb (key_of r) (key_of row)) row r)

-- a new row is one more
pub length-put_absent : {R : Type 0} (key_of : R → ℕ) (row : R) (rows : List R) → row_with key_of (key_of row) rows ≡ None → length (put_row key_of row rows) ≡ length rows + 1
length-put_absent key_of row [] is = refl
length-put_absent key_of row (first ∷ rows) is =
    by_cmp (key_of first) (key_of row)
    (λ less.
    let rest : length (put_row key_of row rows) ≡ length rows + 1 = length-put_absent key_of row rows (sym (find-skip (λ r. eqb (key_of r) (key_of row)) first rows (test-false (key_of first) (key_of row) (λ e. omega arith))) ∙ is) in
    ap length (put-less key_of row first rows less) ∙ omega arith)
    (λ equal. let here : row_with key_of (key_of row) (first ∷ rows) ≡ Some first = find-here (λ r. eqb (key_of r) (key_of row)) first rows (test-true (key_of first) (key_of row) equal) in cc)
    (λ greater. ap length (put-greater key_of row first rows greater) ∙ omega arith)

-- what is true of each row and of one that is put is true of all
pub All-put : {R : Type 0} (P : R → Type 0) (order : R → Ordering) (row : R) (rows : List R) → All P rows → P row → All P (put_by order row rows)
All-put P order row [] all here = All-cons P row [] here all
All-put P order row (first ∷ rows) all here =
    by (order first) (All-put P order row rows (All-tail P first rows all) here)
  where
    by : (o : Ordering) → All P (put_by order row rows) → All P (match_ordering o (first ∷ put_by order row rows) (row ∷ rows) (row ∷ first ∷ rows))
    by Less rest = All-cons P first (put_by order row rows) (all 0 first (omega arith)) rest
    by Equal rest = All-cons P row rows here (All-tail P first rows all)
    by Greater rest = All-cons P row (first ∷ rows) here all

same-key : (n : ℕ) → eqb n n ≡ true
same-key n = grind (arith, nat_tests)

-- the row that was put is there
pub row_with-put_same : {R : Type 0} (key_of : R → ℕ) (row : R) (rows : List R) → row_with key_of (key_of row) (put_row key_of row rows) ≡ Some row
row_with-put_same key_of row rows =
    row_with-put key_of (key_of row) row rows ∙ ap (λ b. cond b (Some row) (row_with key_of (key_of row) rows)) (same-key (key_of row))

-- the keys still rise with a row put among them, with no last one
pub rises-put : {R : Type 0} (key_of : R → ℕ) (low : ℕ) (row : R) (rows : List R) → RisesFrom key_of low rows → low < key_of row → RisesFrom key_of low (put_row key_of row rows)
rises-put key_of low row [] h above = (above, tt)
rises-put key_of low row (first ∷ rows) h above =
    by_cmp (key_of first) (key_of row)
    (λ less. subst (λ xs. RisesFrom key_of low xs) (sym (put-less key_of row first rows less)) (h.0, rises-put key_of (key_of first) row rows h.1 less))
    (λ equal. subst (λ xs. RisesFrom key_of low xs) (sym (put-equal key_of row first rows equal)) (above, subst (λ n. RisesFrom key_of n rows) equal h.1))
    (λ greater. subst (λ xs. RisesFrom key_of low xs) (sym (put-greater key_of row first rows greater)) (above, (greater, h.1)))
