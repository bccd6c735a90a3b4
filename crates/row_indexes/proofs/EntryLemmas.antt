-- The keys of rows, after a row is put or rows are dropped.
use Rattle.std.proofs.Common.{◌≡◌, ℕ, ◌<◌, List, [], ◌∷◌, Bool, true, false, cond, not, ◌&&◌, ◌||◌, eqb, Option, Some, None, refl, sym, ap, ◌∙◌, arith}
use Rattle.std.specs.List.{filter, All}
use Rattle.std.specs.Option.{option_and_then, IfSome}
use Rattle.std.specs.Ordering.{is_eq}
use Rattle.std.proofs.lemmas.Bool.Decides.{nat_tests}
use Rattle.std.proofs.lemmas.List.Elements.{All-filter}
use Rattle.rising_rows.specs.Rising.{row_with, put_row, without, RisesFrom}
use Rattle.rising_rows.proofs.RowLemmas.{found-id, rises-filter}
use Rattle.rising_rows.proofs.PutLemmas.{absent-low, row_with-put, rises-put as rises-put_row, All-put}
use Rattle.sorted_blocks.specs.declared.key.Key.{Key}
use Rattle.sorted_blocks.specs.Keys.{key_order, has_key, Rises}
use Rattle.sorted_blocks.proofs.LawLemmas.{equal-keys, eq-equal, has-put, has-without}
use Rattle.sorted_blocks.proofs.OrderLemmas.{rises-put, rises-without}
use Rattle.row_indexes.specs.Entries.{with_entry, without_entry, keys_of, IsNamedById}
use Rattle.row_indexes.proofs.SameKeys.{same-keys}

-- whether a key is this one
abbrev pub is_entry : Key → Option Key → Bool
is_entry key None = false
is_entry key (Some other) = is_eq (key_order key other)

-- the key of the row with an id
abbrev pub entry_with : {R : Type 0} → (R → ℕ) → (R → Option Key) → ℕ → List R → Option Key
entry_with id_of entry_of id rows = option_and_then entry_of (row_with id_of id rows)

has-with_entry : (key : Key) (entry : Option Key) (keys : List Key) → has_key key (with_entry entry keys) ≡ (is_entry key entry || has_key key keys)
has-with_entry key None keys = refl
has-with_entry key (Some other) keys = has-put other key keys

has-without_entry : (key : Key) (entry : Option Key) (keys : List Key) → has_key key (without_entry entry keys) ≡ (not (is_entry key entry) && has_key key keys)
has-without_entry key None keys = refl
has-without_entry key (Some other) keys = has-without other key keys

rises-with_entry : (entry : Option Key) (keys : List Key) → Rises keys → Rises (with_entry entry keys)
rises-with_entry None keys up = up
rises-with_entry (Some key) keys up = rises-put key keys up

rises-without_entry : (entry : Option Key) (keys : List Key) → Rises keys → Rises (without_entry entry keys)
rises-without_entry None keys up = up
rises-without_entry (Some key) keys up = rises-without key keys up

-- the keys of rows rise
pub rises-keys_of : {R : Type 0} (entry_of : R → Option Key) (rows : List R) → Rises (keys_of entry_of rows)
rises-keys_of entry_of [] = λ i j d lt within. absurd (omega arith)
rises-keys_of entry_of (row ∷ rows) = rises-with_entry (entry_of row) (keys_of entry_of rows) (rises-keys_of entry_of rows)

test-is : (m n : ℕ) → eqb m n ≡ true → m ≡ n
test-is m n h = grind (arith, nat_tests)

test-not : (m n : ℕ) → eqb m n ≡ false → m ≡ n → ⊥
test-not m n h e = grind (arith, nat_tests)

-- a key with another id is not that of a row
apart-entry : {R : Type 0} (id_of : R → ℕ) (entry_of : R → Option Key) → IsNamedById id_of entry_of → (row : R) (key : Key) → (id_of row ≡ key.id → ⊥) → is_entry key (entry_of row) ≡ false
apart-entry {R = R} id_of entry_of named row key apart = by (entry_of row) refl
  where
    equal : (other : Key) (b : Bool) → entry_of row ≡ Some other → is_eq (key_order key other) ≡ b → b ≡ false
    equal other true is e =
        let same : other ≡ key = equal-keys other key (eq-equal (key_order key other) e) in
        absurd (apart (sym (named row other is) ∙ ap (λ (k : Key). k.id) same))
    equal other false is e = refl

    by : (o : Option Key) → entry_of row ≡ o → is_entry key o ≡ false
    by None is = refl
    by (Some other) is = equal other (is_eq (key_order key other)) is refl

-- nor that of the row with an id
apart-with : {R : Type 0} (id_of : R → ℕ) (entry_of : R → Option Key) → IsNamedById id_of entry_of → (id : ℕ) (rows : List R) (key : Key) → (id ≡ key.id → ⊥) → is_entry key (entry_with id_of entry_of id rows) ≡ false
apart-with {R = R} id_of entry_of named id rows key apart = by (row_with id_of id rows) refl
  where
    by : (o : Option R) → row_with id_of id rows ≡ o → is_entry key (option_and_then entry_of o) ≡ false
    by None is = refl
    by (Some row) is = apart-entry id_of entry_of named row key (λ e. apart (sym (found-id id_of id rows row is) ∙ e))

or-false : (b : Bool) → (b || false) ≡ b
or-false true = refl
or-false false = refl

-- a key is among those of rows where it is that of the row with its id
pub has-keys_of : {R : Type 0} (id_of : R → ℕ) (entry_of : R → Option Key) (low : ℕ) (rows : List R) → IsNamedById id_of entry_of → RisesFrom id_of low rows → (key : Key) → has_key key (keys_of entry_of rows) ≡ is_entry key (entry_with id_of entry_of key.id rows)
has-keys_of id_of entry_of low [] named up key = refl
has-keys_of {R = R} id_of entry_of low (row ∷ rows) named up key =
    has-with_entry key (entry_of row) (keys_of entry_of rows)
    ∙ ap (λ b. is_entry key (entry_of row) || b) (has-keys_of id_of entry_of (id_of row) rows named up.1 key)
    ∙ by (eqb (id_of row) key.id) refl
  where
    by : (b : Bool) → eqb (id_of row) key.id ≡ b → (is_entry key (entry_of row) || is_entry key (entry_with id_of entry_of key.id rows)) ≡ is_entry key (option_and_then entry_of (cond b (Some row) (row_with id_of key.id rows)))
    by true is =
        let same : id_of row ≡ key.id = test-is (id_of row) key.id is in
        ap (λ (o : Option R). is_entry key (entry_of row) || is_entry key (option_and_then entry_of o)) (absent-low id_of (id_of row) key.id rows up.1 (omega arith))
        ∙ or-false (is_entry key (entry_of row))
    by false is =
        ap (λ b. b || is_entry key (entry_with id_of entry_of key.id rows)) (apart-entry id_of entry_of named row key (test-not (id_of row) key.id is))

or-none : (x y : Bool) → x ≡ (x || (not y && y))
or-none true y = refl
or-none false true = refl
or-none false false = refl

-- the keys after a row is put: without the one of the row that had its id, and with its own
pub put-keys : {R : Type 0} (id_of : R → ℕ) (entry_of : R → Option Key) (row : R) (rows : List R) → IsNamedById id_of entry_of → RisesFrom id_of 0 rows → 0 < id_of row
    → keys_of entry_of (put_row id_of row rows) ≡ with_entry (entry_of row) (without_entry (entry_with id_of entry_of (id_of row) rows) (keys_of entry_of rows))
put-keys {R = R} id_of entry_of row rows named up above =
    same-keys _ _ (rises-keys_of entry_of (put_row id_of row rows))
    (rises-with_entry (entry_of row) (without_entry old (keys_of entry_of rows)) (rises-without_entry old (keys_of entry_of rows) (rises-keys_of entry_of rows)))
    (λ key.
    has-keys_of id_of entry_of 0 (put_row id_of row rows) named (rises-put_row id_of 0 row rows up above) key
    ∙ ap (λ (o : Option R). is_entry key (option_and_then entry_of o)) (row_with-put id_of key.id row rows)
    ∙ by key (eqb (id_of row) key.id) refl
    ∙ sym (has-with_entry key (entry_of row) (without_entry old (keys_of entry_of rows))
    ∙ ap (λ b. is_entry key (entry_of row) || b)
    (has-without_entry key old (keys_of entry_of rows) ∙ ap (λ b. not (is_entry key old) && b) (has-keys_of id_of entry_of 0 rows named up key))))
  where
    old : Option Key
    old = entry_with id_of entry_of (id_of row) rows

    by : (key : Key) (b : Bool) → eqb (id_of row) key.id ≡ b
        → is_entry key (option_and_then entry_of (cond b (Some row) (row_with id_of key.id rows))) ≡ (is_entry key (entry_of row) || (not (is_entry key old) && is_entry key (entry_with id_of entry_of key.id rows)))
    by key true is =
        let same : id_of row ≡ key.id = test-is (id_of row) key.id is in
        or-none (is_entry key (entry_of row)) (is_entry key old)
        ∙ ap (λ (n : ℕ). is_entry key (entry_of row) || (not (is_entry key old) && is_entry key (entry_with id_of entry_of n rows))) same
    by key false is =
        sym (ap (λ b. b || (not (is_entry key old) && is_entry key (entry_with id_of entry_of key.id rows))) (apart-entry id_of entry_of named row key (test-not (id_of row) key.id is))
        ∙ ap (λ b. not b && is_entry key (entry_with id_of entry_of key.id rows)) (apart-with id_of entry_of named (id_of row) rows key (test-not (id_of row) key.id is)))

-- they stay where the row that had its id has the same key
pub put-same : {R : Type 0} (id_of : R → ℕ) (entry_of : R → Option Key) (row : R) (rows : List R) → IsNamedById id_of entry_of → RisesFrom id_of 0 rows → 0 < id_of row
    → entry_with id_of entry_of (id_of row) rows ≡ entry_of row → keys_of entry_of (put_row id_of row rows) ≡ keys_of entry_of rows
put-same {R = R} id_of entry_of row rows named up above same =
    same-keys _ _ (rises-keys_of entry_of (put_row id_of row rows)) (rises-keys_of entry_of rows)
    (λ key.
    has-keys_of id_of entry_of 0 (put_row id_of row rows) named (rises-put_row id_of 0 row rows up above) key
    ∙ ap (λ (o : Option R). is_entry key (option_and_then entry_of o)) (row_with-put id_of key.id row rows)
    ∙ by key (eqb (id_of row) key.id) refl
    ∙ sym (has-keys_of id_of entry_of 0 rows named up key))
  where
    by : (key : Key) (b : Bool) → eqb (id_of row) key.id ≡ b → is_entry key (option_and_then entry_of (cond b (Some row) (row_with id_of key.id rows))) ≡ is_entry key (entry_with id_of entry_of key.id rows)
    by key true is = sym (ap (is_entry key) same) ∙ ap (λ (n : ℕ). is_entry key (entry_with id_of entry_of n rows)) (test-is (id_of row) key.id is)
    by key false is = refl

row_with-cond : {R : Type 0} (id_of : R → ℕ) (key : ℕ) (b : Bool) (row : R) (rows : List R) → row_with id_of key (cond b (row ∷ rows) rows) ≡ cond b (cond (eqb (id_of row) key) (Some row) (row_with id_of key rows)) (row_with id_of key rows)
row_with-cond id_of key true row rows = refl
row_with-cond id_of key false row rows = refl

left-step : {R : Type 0} (b e c : Bool) (row : R) (inner : Option R) → (e ≡ true → b ≡ c) → cond (not b) (cond e (Some row) (cond c None inner)) (cond c None inner) ≡ cond c None (cond e (Some row) inner)
left-step true true true row inner same = refl
left-step true true false row inner same = absurd (let wrong : true ≡ false = same refl in cc)
left-step true false c row inner same = refl
left-step false true true row inner same = absurd (let wrong : false ≡ true = same refl in cc)
left-step false true false row inner same = refl
left-step false false c row inner same = refl

left-none : {R : Type 0} (o : Option R) (c : Bool) → o ≡ None → o ≡ cond c None o
left-none o true is = is
left-none o false is = refl

-- the row with a key where rows with some keys are left out
pub row_with-left : {R : Type 0} (id_of : R → ℕ) (out : ℕ → Bool) (key : ℕ) (rows : List R) → row_with id_of key (filter (λ row. not (out (id_of row))) rows) ≡ cond (out key) None (row_with id_of key rows)
row_with-left {R = R} id_of out key [] = left-none (row_with id_of key []) (out key) refl
row_with-left {R = R} id_of out key (row ∷ rows) =
    let rest : List R = filter (λ other. not (out (id_of other))) rows in
    row_with-cond id_of key (not (out (id_of row))) row rest
    ∙ ap (λ (o : Option R). cond (not (out (id_of row))) (cond (eqb (id_of row) key) (Some row) o) o) (row_with-left id_of out key rows)
    ∙ left-step (out (id_of row)) (eqb (id_of row) key) (out key) row (row_with id_of key rows) (λ e. ap out (test-is (id_of row) key e))

-- the keys of the rows that are left, where the row with one more id is left out
pub left-keys : {R : Type 0} (id_of : R → ℕ) (entry_of : R → Option Key) (out : ℕ → Bool) (id : ℕ) (rows left fewer : List R) → IsNamedById id_of entry_of → RisesFrom id_of 0 left → RisesFrom id_of 0 fewer
    → ((key : ℕ) → row_with id_of key left ≡ cond (out key) None (row_with id_of key rows))
    → ((key : ℕ) → row_with id_of key fewer ≡ cond (out key || eqb key id) None (row_with id_of key rows))
    → keys_of entry_of fewer ≡ without_entry (entry_with id_of entry_of id rows) (keys_of entry_of left)
left-keys {R = R} id_of entry_of out id rows left fewer named up up' is is' =
    same-keys _ _ (rises-keys_of entry_of fewer) (rises-without_entry old (keys_of entry_of left) (rises-keys_of entry_of left))
    (λ key.
    has-keys_of id_of entry_of 0 fewer named up' key
    ∙ ap (λ (o : Option R). is_entry key (option_and_then entry_of o)) (is' key.id)
    ∙ by key (out key.id) (eqb key.id id) refl
    ∙ sym (has-without_entry key old (keys_of entry_of left)
    ∙ ap (λ b. not (is_entry key old) && b) (has-keys_of id_of entry_of 0 left named up key ∙ ap (λ (o : Option R). is_entry key (option_and_then entry_of o)) (is key.id))))
  where
    old : Option Key
    old = entry_with id_of entry_of id rows

    not-both : (b : Bool) → false ≡ (not b && b)
    not-both true = refl
    not-both false = refl

    not-false : (b : Bool) → false ≡ (not b && false)
    not-false true = refl
    not-false false = refl

    here : (key : Key) (c : Bool) → key.id ≡ id → false ≡ (not (is_entry key old) && is_entry key (option_and_then entry_of (cond c None (row_with id_of key.id rows))))
    here key true same = not-false (is_entry key old)
    here key false same =
        not-both (is_entry key old) ∙ ap (λ (n : ℕ). not (is_entry key old) && is_entry key (entry_with id_of entry_of n rows)) (sym same)

    by : (key : Key) (c b : Bool) → eqb key.id id ≡ b
        → is_entry key (option_and_then entry_of (cond (c || b) None (row_with id_of key.id rows))) ≡ (not (is_entry key old) && is_entry key (option_and_then entry_of (cond c None (row_with id_of key.id rows))))
    by key true true is = here key true (test-is key.id id is)
    by key false true is = here key false (test-is key.id id is)
    by key true false is = not-false (is_entry key old)
    by key false false is =
        sym (ap (λ b. not b && is_entry key (entry_with id_of entry_of key.id rows)) (apart-with id_of entry_of named id rows key (λ e. test-not key.id id is (sym e))))

-- the keys after the row with an id is dropped
pub drop-keys : {R : Type 0} (id_of : R → ℕ) (entry_of : R → Option Key) (id : ℕ) (rows : List R) → IsNamedById id_of entry_of → RisesFrom id_of 0 rows
    → keys_of entry_of (without id_of id rows) ≡ without_entry (entry_with id_of entry_of id rows) (keys_of entry_of rows)
drop-keys {R = R} id_of entry_of id rows named up =
    left-keys id_of entry_of (λ key. false) id rows rows (without id_of id rows) named up (rises-filter id_of (λ row. not (eqb (id_of row) id)) 0 rows up) (λ key. refl)
    (λ key. row_with-left id_of (λ n. eqb n id) key rows)

-- what is true of all keys and of one that is put is true of all with it
pub all-with_entry : (P : Key → Type 0) (entry : Option Key) (keys : List Key) → IfSome entry P → All P keys → All P (with_entry entry keys)
all-with_entry P None keys here all = all
all-with_entry P (Some key) keys here all = All-put P (key_order key) key keys all here

pub all-without_entry : (P : Key → Type 0) (entry : Option Key) (keys : List Key) → All P keys → All P (without_entry entry keys)
all-without_entry P None keys all = all
all-without_entry P (Some key) keys all = All-filter (λ other. not (is_eq (key_order key other))) P keys all
