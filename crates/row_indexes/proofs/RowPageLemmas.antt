-- A page by the rows whose next times are in the index.
use Rattle.std.proofs.Common.{◌≡◌, ℕ, ◌+◌, ◌<◌, ◌≤◌, List, [], ◌∷◌, Bool, true, false, cond, ◌&&◌, ◌||◌, eqb, leb, Option, Some, None, get_or, map, take, refl, sym, ap, ◌∙◌, ⊎_elim, arith}
use Rattle.std.specs.declared.cmp.Ordering.{Ordering}
use Rattle.std.specs.declared.cmp.Ordering.TheVariants.{Less, Equal, Greater}
use Rattle.std.specs.List.{filter, All, AllPairs, list_any}
use Rattle.std.specs.Ordering.{match_ordering}
use Rattle.std.proofs.lemmas.Bool.{cases_lt}
use Rattle.std.proofs.lemmas.Bool.Decides.{nat_tests}
use Rattle.std.proofs.lemmas.List.Elements.{All-nil, All-cons, All-weaker}
use Rattle.std.proofs.lemmas.List.Folds.{list_any_none}
use Rattle.std.proofs.lemmas.List.Kept.{AllPairs-cons, AllPairs-from_increasing}
use Rattle.rising_rows.specs.Rising.{RisesFrom}
use Rattle.rising_rows.proofs.RowLemmas.{rises-filter}
use Rattle.job_values.specs.declared.limits.TheConstants.{LOOK_AHEAD}
use Rattle.sorted_blocks.specs.declared.key.Key.{Key}
use Rattle.sorted_blocks.specs.Keys.{key_order, with_key}
use Rattle.sorted_blocks.proofs.ListLemmas.{pairs-head, pairs-tail}
use Rattle.sorted_blocks.proofs.LawLemmas.{equal-keys}
use Rattle.row_indexes.specs.Entries.{with_entry, keys_of, passes}
use Rattle.row_indexes.specs.Due.{due_entry}
use Rattle.row_indexes.specs.Pages.{due_ids, has_id, is_next_by, IsPage}
use Rattle.row_indexes.proofs.DueLemmas.{entry_by_next}

or-swap : (a b c : Bool) → (a || (b || c)) ≡ (b || (a || c))
or-swap true true c = refl
or-swap true false c = refl
or-swap false true c = refl
or-swap false false c = refl

or-again : (a b : Bool) → (a || (a || b)) ≡ (a || b)
or-again true b = refl
or-again false b = refl

-- a test of keys with one put among them
any-with : (test : Key → Bool) (key : Key) (keys : List Key) → list_any test (with_key key keys) ≡ (test key || list_any test keys)
any-with test key [] = refl
any-with test key (first ∷ keys) = by (key_order key first) refl (any-with test key keys)
  where
    by : (o : Ordering) → key_order key first ≡ o → list_any test (with_key key keys) ≡ (test key || list_any test keys)
        → list_any test (match_ordering o (first ∷ with_key key keys) (key ∷ keys) (key ∷ first ∷ keys)) ≡ (test key || (test first || list_any test keys))
    by Less is rest = ap (λ (b : Bool). test first || b) rest ∙ or-swap (test first) (test key) (list_any test keys)
    by Equal is rest =
        sym (ap (λ (k : Key). test key || (test k || list_any test keys)) (equal-keys first key is) ∙ or-again (test key) (list_any test keys))
    by Greater is rest = refl

any-entry : (test : Key → Bool) (entry : Option Key) (keys : List Key) → list_any test (with_entry entry keys) ≡ (passes test entry || list_any test keys)
any-entry test None keys = refl
any-entry test (Some key) keys = any-with test key keys

-- a test of the keys of rows is one of the rows
any-keys : {R : Type 0} (test : Key → Bool) (entry_of : R → Option Key) (rows : List R) → list_any test (keys_of entry_of rows) ≡ list_any (λ row. passes test (entry_of row)) rows
any-keys test entry_of [] = refl
any-keys test entry_of (row ∷ rows) =
    any-entry test (entry_of row) (keys_of entry_of rows) ∙ ap (λ (b : Bool). passes test (entry_of row) || b) (any-keys test entry_of rows)

-- an id is among those of the elements that pass
any-ids : {X : Type 0} (id : ℕ) (id_of : X → ℕ) (test : X → Bool) (xs : List X) → has_id id (map id_of (filter test xs)) ≡ list_any (λ x. test x && eqb id (id_of x)) xs
any-ids id id_of test [] = refl
any-ids {X = X} id id_of test (x ∷ xs) = by (test x) (any-ids id id_of test xs)
  where
    by : (b : Bool) → has_id id (map id_of (filter test xs)) ≡ list_any (λ y. test y && eqb id (id_of y)) xs → has_id id (map id_of (cond b (x ∷ filter test xs) (filter test xs))) ≡ ((b && eqb id (id_of x)) || list_any (λ y. test y && eqb id (id_of y)) xs)
    by true rest = ap (λ (b : Bool). eqb id (id_of x) || b) rest
    by false rest = rest

any-agree : {X : Type 0} (p q : X → Bool) → ((x : X) → p x ≡ q x) → (xs : List X) → list_any p xs ≡ list_any q xs
any-agree p q same [] = refl
any-agree p q same (x ∷ xs) = ap (λ (b : Bool). b || list_any p xs) (same x) ∙ ap (λ (b : Bool). q x || b) (any-agree p q same xs)

-- the same ids are due by the index and by the rows
due-rows : {R : Type 0} (id_of : R → ℕ) (next_of : R → Option ℕ) (bound : ℕ) (rows : List R) (id : ℕ) → has_id id (due_ids bound (keys_of (entry_by_next id_of next_of) rows)) ≡ has_id id (map id_of (filter (λ row. is_next_by bound (next_of row)) rows))
due-rows {R = R} id_of next_of bound rows id =
    any-ids id (λ (key : Key). key.id) (λ key. leb key.time bound) (keys_of (entry_by_next id_of next_of) rows)
    ∙ any-keys (λ key. leb key.time bound && eqb id key.id) (entry_by_next id_of next_of) rows
    ∙ any-agree (λ row. passes (λ key. leb key.time bound && eqb id key.id) (entry_by_next id_of next_of row)) (λ row. is_next_by bound (next_of row) && eqb id (id_of row)) (λ row. by row (next_of row)) rows
    ∙ sym (any-ids id id_of (λ row. is_next_by bound (next_of row)) rows)
  where
    by : (row : R) (o : Option ℕ) → passes (λ key. leb key.time bound && eqb id key.id) (due_entry (id_of row) o) ≡ (is_next_by bound o && eqb id (id_of row))
    by row None = refl
    by row (Some next) = refl

all-over : {R : Type 0} (id_of : R → ℕ) (low : ℕ) (rows : List R) → RisesFrom id_of low rows → All (λ id. low < id) (map id_of rows)
all-over id_of low [] up = All-nil (λ id. low < id)
all-over id_of low (row ∷ rows) up =
    let first : low < id_of row = up.0 in
    All-cons (λ id. low < id) (id_of row) (map id_of rows) first (All-weaker (λ id. id_of row < id) (λ id. low < id) (λ id above. omega arith) (map id_of rows) (all-over id_of (id_of row) rows up.1))

-- the ids of rows that rise
rising-ids : {R : Type 0} (id_of : R → ℕ) (low : ℕ) (rows : List R) → RisesFrom id_of low rows → AllPairs (λ a b. a < b) (map id_of rows)
rising-ids id_of low [] up = λ i j d lt within. absurd (omega arith)
rising-ids id_of low (row ∷ rows) up =
    AllPairs-cons (λ a b. a < b) (id_of row) (map id_of rows) (all-over id_of (id_of row) rows up.1) (rising-ids id_of (id_of row) rows up.1)

unequal : (m n : ℕ) → m < n → eqb m n ≡ false
unequal m n h = grind (arith, nat_tests)

equal : (m n : ℕ) → eqb m n ≡ true → m ≡ n
equal m n h = grind (arith, nat_tests)

self : (n : ℕ) → eqb n n ≡ true
self n = grind (arith, nat_tests)

absent : (id : ℕ) (ids : List ℕ) → All (λ other. id < other) ids → has_id id ids ≡ false
absent id ids above = list_any_none (eqb id) ids (λ k d lt. unequal id (get_or ids k d) (above k d lt))

never : {G : Type 0} (x : ℕ) (xs ys : List ℕ) → has_id x (x ∷ xs) ≡ has_id x ys → has_id x ys ≡ false → G
never x xs ys same none = absurd (let wrong : true ≡ false = sym (ap (λ b. b || has_id x xs) (self x)) ∙ same ∙ none in cc)

-- ids that rise are the same where the same ids are among them
same-ids : (xs ys : List ℕ) → AllPairs (λ a b. a < b) xs → AllPairs (λ a b. a < b) ys → ((id : ℕ) → has_id id xs ≡ has_id id ys) → xs ≡ ys
same-ids [] [] up up' same = refl
same-ids [] (y ∷ ys) up up' same = never y ys [] (sym (same y)) refl
same-ids (x ∷ xs) [] up up' same = never x xs [] (same x) refl
same-ids (x ∷ xs) (y ∷ ys) up up' same =
    cases (λ tails. same-ids xs ys (pairs-tail (λ a b. a < b) x xs up) (pairs-tail (λ a b. a < b) y ys up') tails)
  where
    lower : (a b : ℕ) (bs : List ℕ) → a < b → All (λ other. b < other) bs → has_id a (b ∷ bs) ≡ false
    lower a b bs below all =
        absent a (b ∷ bs) (All-cons (λ other. a < other) b bs below (All-weaker (λ other. b < other) (λ other. a < other) (λ other after. omega arith) bs all))

    rest : (id : ℕ) (b : Bool) → eqb id x ≡ b → x ≡ y → has_id id xs ≡ has_id id ys
    rest id true is e =
        let k : id ≡ x = equal id x is in
        ap (λ (n : ℕ). has_id n xs) k
        ∙ absent x xs (pairs-head (λ a b. a < b) x xs up)
        ∙ sym (ap (λ (n : ℕ). has_id n ys) (k ∙ e) ∙ absent y ys (pairs-head (λ a b. a < b) y ys up'))
    rest id false is e =
        let at : (eqb id x || has_id id xs) ≡ (eqb id y || has_id id ys) = same id in
        let no : eqb id y ≡ false = ap (λ (n : ℕ). eqb id n) (sym e) ∙ is in
        sym (ap (λ b. b || has_id id xs) is) ∙ at ∙ ap (λ b. b || has_id id ys) no

    cases : (((id : ℕ) → has_id id xs ≡ has_id id ys) → xs ≡ ys) → x ∷ xs ≡ y ∷ ys
    cases more =
        ⊎_elim (λ (less : x < y). never x xs (y ∷ ys) (same x) (lower x y ys less (pairs-head (λ a b. a < b) y ys up')))
        (λ (not_less : y ≤ x).
        ⊎_elim (λ (greater : y < x). never y ys (x ∷ xs) (sym (same y)) (lower y x xs greater (pairs-head (λ a b. a < b) x xs up)))
        (λ (not_greater : x ≤ y).
        let e : x ≡ y = omega arith in
        ap (λ (n : ℕ). n ∷ xs) e ∙ ap (λ (ns : List ℕ). y ∷ ns) (more (λ id. rest id (eqb id x) refl e)))
        (cases_lt y x))
        (cases_lt x y)

-- a page is the first of the rows whose next times come soon
pub page-rows : {R : Type 0} (id_of : R → ℕ) (next_of : R → Option ℕ) (limit now : ℕ) (rows : List R) (page : List ℕ) → RisesFrom id_of 0 rows → IsPage limit now (keys_of (entry_by_next id_of next_of) rows) page
    → page ≡ take limit (map id_of (filter (λ row. is_next_by (now + LOOK_AHEAD) (next_of row)) rows))
page-rows {R = R} id_of next_of limit now rows page up is =
    is.first
    ∙ ap (take limit) (same-ids is.ids (map id_of (filter due rows)) (AllPairs-from_increasing is.ids is.rising) (rising-ids id_of 0 (filter due rows) (rises-filter id_of due 0 rows up))
    (λ id. is.due id ∙ due-rows id_of next_of (now + LOOK_AHEAD) rows id))
  where
    due : R → Bool
    due row = is_next_by (now + LOOK_AHEAD) (next_of row)
