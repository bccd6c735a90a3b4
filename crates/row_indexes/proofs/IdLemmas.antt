-- The ids of the rows that pass a test, after a row is put or rows are dropped.
use Rattle.std.proofs.Common.{◌≡◌, ℕ, ◌<◌, List, [], ◌∷◌, Bool, true, false, cond, not, ◌||◌, eqb, Option, Some, None, map, refl, sym, ap, ◌∙◌, subst, arith}
use Rattle.std.specs.declared.cmp.Ordering.{Ordering}
use Rattle.std.specs.declared.cmp.Ordering.TheVariants.{Less, Equal, Greater}
use Rattle.std.specs.List.{filter, All}
use Rattle.std.specs.Option.{option_and_then}
use Rattle.std.specs.Ordering.{nat_cmp, match_ordering, ordering_reverse, ordering_then, is_eq}
use Rattle.std.proofs.lemmas.Bool.Decides.{nat_tests}
use Rattle.std.proofs.lemmas.List.Elements.{All-nil, All-cons, All-tail, All-weaker, All-filter}
use Rattle.rising_rows.specs.Rising.{row_with, put_row, RisesFrom}
use Rattle.rising_rows.proofs.RowLemmas.{found-id, rises-lower}
use Rattle.rising_rows.proofs.PutLemmas.{All-put}
use Rattle.rising_rows.proofs.SeatLemmas.{less-nat}
use Rattle.sorted_blocks.specs.declared.key.Key.{Key}
use Rattle.sorted_blocks.specs.Keys.{key_order, with_key, without_key}
use Rattle.sorted_blocks.proofs.OrderLemmas.{IsBelow, key_cmp-total}
use Rattle.row_indexes.specs.Entries.{with_entry, without_entry, keys_of, passes, IsNamedById}
use Rattle.row_indexes.specs.LogLists.{id_key, id_entry, with_id, without_id, moved, IsLogKey}
use Rattle.row_indexes.proofs.EntryLemmas.{entry_with, put-keys, put-same, left-keys}

-- the ids of keys
abbrev pub ids_in : List Key → List ℕ
ids_in keys = map (λ key. key.id) keys

-- the key of a row that passes a test
abbrev pub entry_by : {R : Type 0} → (R → ℕ) → (R → Bool) → R → Option Key
entry_by id_of test row = id_entry (id_of row) (test row)

-- a key that is an id alone
abbrev pub IsId : Key → Type 0
IsId key = key.time ≡ 0

order-id : (id : ℕ) (key : Key) → IsId key → key_order (id_key id) key ≡ nat_cmp key.id id
order-id id key zero = ap (λ (n : ℕ). ordering_then (nat_cmp n 0) (nat_cmp key.id id)) zero

-- the ids with one put among them
pub ids-with : (id : ℕ) (keys : List Key) → All IsId keys → ids_in (with_key (id_key id) keys) ≡ with_id id (ids_in keys)
ids-with id [] all = refl
ids-with id (key ∷ keys) all =
    ap (λ o. ids_in (match_ordering o (key ∷ with_key (id_key id) keys) (id_key id ∷ keys) (id_key id ∷ key ∷ keys))) (order-id id key (all 0 key (omega arith)))
    ∙ by (nat_cmp key.id id) (ids-with id keys (All-tail IsId key keys all))
  where
    by : (o : Ordering) → ids_in (with_key (id_key id) keys) ≡ with_id id (ids_in keys)
        → ids_in (match_ordering o (key ∷ with_key (id_key id) keys) (id_key id ∷ keys) (id_key id ∷ key ∷ keys)) ≡ match_ordering o (key.id ∷ with_id id (ids_in keys)) (id ∷ ids_in keys) (id ∷ key.id ∷ ids_in keys)
    by Less rest = ap (λ (ids : List ℕ). key.id ∷ ids) rest
    by Equal rest = refl
    by Greater rest = refl

equal-test : (m n : ℕ) → is_eq (nat_cmp m n) ≡ eqb m n
equal-test m n = grind (arith, nat_tests)

-- the ids without one
pub ids-without : (id : ℕ) (keys : List Key) → All IsId keys → ids_in (without_key (id_key id) keys) ≡ without_id id (ids_in keys)
ids-without id [] all = refl
ids-without id (key ∷ keys) all =
    ap (λ b. ids_in (cond (not b) (key ∷ without_key (id_key id) keys) (without_key (id_key id) keys))) (ap is_eq (order-id id key (all 0 key (omega arith))) ∙ equal-test key.id id)
    ∙ by (eqb key.id id) (ids-without id keys (All-tail IsId key keys all))
  where
    by : (b : Bool) → ids_in (without_key (id_key id) keys) ≡ without_id id (ids_in keys)
        → ids_in (cond (not b) (key ∷ without_key (id_key id) keys) (without_key (id_key id) keys)) ≡ cond (not b) (key.id ∷ without_id id (ids_in keys)) (without_id id (ids_in keys))
    by true rest = rest
    by false rest = ap (λ (ids : List ℕ). key.id ∷ ids) rest

-- the keys of rows that pass are ids alone
pub all-ids : {R : Type 0} (id_of : R → ℕ) (test : R → Bool) (rows : List R) → All IsId (keys_of (entry_by id_of test) rows)
all-ids id_of test [] = All-nil IsId
all-ids id_of test (row ∷ rows) = by (test row) (all-ids id_of test rows)
  where
    by : (b : Bool) → All IsId (keys_of (entry_by id_of test) rows) → All IsId (with_entry (id_entry (id_of row) b) (keys_of (entry_by id_of test) rows))
    by true rest = All-put IsId (key_order (id_key (id_of row))) (id_key (id_of row)) (keys_of (entry_by id_of test) rows) rest refl
    by false rest = rest

-- a key below all others goes before them
put-first : (key : Key) (keys : List Key) → All (IsBelow key) keys → with_key key keys ≡ key ∷ keys
put-first key [] below = refl
put-first key (first ∷ keys) below =
    ap (λ o. match_ordering o (first ∷ with_key key keys) (key ∷ keys) (key ∷ first ∷ keys))
    (key_cmp-total.antisymm first key ∙ ap ordering_reverse (below 0 first (omega arith)))

below-id : (low id : ℕ) → low < id → IsBelow (id_key low) (id_key id)
below-id low id lt = ap (λ o. ordering_then (nat_cmp 0 0) o) (less-nat low id lt)

-- the keys of rows that rise are above a lower id
all-above : {R : Type 0} (id_of : R → ℕ) (test : R → Bool) (low : ℕ) (rows : List R) → RisesFrom id_of low rows → All (IsBelow (id_key low)) (map (λ row. id_key (id_of row)) (filter test rows))
all-above id_of test low [] up = All-nil (IsBelow (id_key low))
all-above id_of test low (row ∷ rows) up =
    by (test row) (all-above id_of test low rows (rises-lower id_of (id_of row) low rows up.1 (let lt : low < id_of row = up.0 in omega arith)))
  where
    by : (b : Bool) → All (IsBelow (id_key low)) (map (λ r. id_key (id_of r)) (filter test rows)) → All (IsBelow (id_key low)) (map (λ r. id_key (id_of r)) (cond b (row ∷ filter test rows) (filter test rows)))
    by true rest = All-cons (IsBelow (id_key low)) (id_key (id_of row)) (map (λ r. id_key (id_of r)) (filter test rows)) (below-id low (id_of row) up.0) rest
    by false rest = rest

-- the keys of the rows that pass, one after another
keys-filter : {R : Type 0} (id_of : R → ℕ) (test : R → Bool) (low : ℕ) (rows : List R) → RisesFrom id_of low rows → keys_of (entry_by id_of test) rows ≡ map (λ row. id_key (id_of row)) (filter test rows)
keys-filter id_of test low [] up = refl
keys-filter {R = R} id_of test low (row ∷ rows) up =
    ap (with_entry (entry_by id_of test row)) (keys-filter id_of test (id_of row) rows up.1) ∙ by (test row)
  where
    by : (b : Bool) → with_entry (id_entry (id_of row) b) (map (λ r. id_key (id_of r)) (filter test rows)) ≡ map (λ r. id_key (id_of r)) (cond b (row ∷ filter test rows) (filter test rows))
    by true = put-first (id_key (id_of row)) (map (λ r. id_key (id_of r)) (filter test rows)) (all-above id_of test (id_of row) rows up.1)
    by false = refl

ids-map : {R : Type 0} (id_of : R → ℕ) (rows : List R) → ids_in (map (λ row. id_key (id_of row)) rows) ≡ map id_of rows
ids-map id_of [] = refl
ids-map id_of (row ∷ rows) = ap (λ (ids : List ℕ). id_of row ∷ ids) (ids-map id_of rows)

-- the ids of the rows that pass are those of their keys
pub ids-filter : {R : Type 0} (id_of : R → ℕ) (test : R → Bool) (rows : List R) → RisesFrom id_of 0 rows → ids_in (keys_of (entry_by id_of test) rows) ≡ map id_of (filter test rows)
ids-filter id_of test rows up = ap ids_in (keys-filter id_of test 0 rows up) ∙ ids-map id_of (filter test rows)

named-by : {R : Type 0} (id_of : R → ℕ) (test : R → Bool) → IsNamedById id_of (entry_by id_of test)
named-by {R = R} id_of test row key is = by (test row) is
  where
    by : (b : Bool) → id_entry (id_of row) b ≡ Some key → key.id ≡ id_of row
    by true e = let same : id_key (id_of row) ≡ key = (cc) in sym (ap (λ (k : Key). k.id) same)
    by false e = (cc)

-- the key of the row with an id, by whether that row passes
entry-passes : {R : Type 0} (id_of : R → ℕ) (test : R → Bool) (id : ℕ) (rows : List R) → entry_with id_of (entry_by id_of test) id rows ≡ id_entry id (passes test (row_with id_of id rows))
entry-passes {R = R} id_of test id rows = by (row_with id_of id rows) refl
  where
    by : (o : Option R) → row_with id_of id rows ≡ o → option_and_then (entry_by id_of test) o ≡ id_entry id (passes test o)
    by None is = refl
    by (Some row) is = ap (λ (n : ℕ). id_entry n (test row)) (found-id id_of id rows row is)

-- the ids of the rows that pass, after a row is put
pub ids-put : {R : Type 0} (id_of : R → ℕ) (test : R → Bool) (row : R) (rows : List R) → RisesFrom id_of 0 rows → RisesFrom id_of 0 (put_row id_of row rows) → 0 < id_of row
    → map id_of (filter test (put_row id_of row rows)) ≡ moved (id_of row) (passes test (row_with id_of (id_of row) rows)) (test row) (map id_of (filter test rows))
ids-put {R = R} id_of test row rows up up' above =
    sym (ids-filter id_of test (put_row id_of row rows) up')
    ∙ by (passes test (row_with id_of (id_of row) rows)) (test row) (entry-passes id_of test (id_of row) rows) refl
    ∙ ap (moved (id_of row) (passes test (row_with id_of (id_of row) rows)) (test row)) (ids-filter id_of test rows up)
  where
    entry_of : R → Option Key
    entry_of = entry_by id_of test

    named : IsNamedById id_of entry_of
    named = named-by id_of test

    both : (was is : Bool) → entry_with id_of entry_of (id_of row) rows ≡ id_entry (id_of row) was → test row ≡ is
        → keys_of entry_of (put_row id_of row rows) ≡ with_entry (id_entry (id_of row) is) (without_entry (id_entry (id_of row) was) (keys_of entry_of rows))
    both was is old new =
        put-keys id_of entry_of row rows named up above
        ∙ ap (λ (o : Option Key). with_entry (entry_of row) (without_entry o (keys_of entry_of rows))) old
        ∙ ap (λ (b : Bool). with_entry (id_entry (id_of row) b) (without_entry (id_entry (id_of row) was) (keys_of entry_of rows))) new

    by : (was is : Bool) → entry_with id_of entry_of (id_of row) rows ≡ id_entry (id_of row) was → test row ≡ is
        → ids_in (keys_of entry_of (put_row id_of row rows)) ≡ moved (id_of row) was is (ids_in (keys_of entry_of rows))
    by true true old new = ap ids_in (put-same id_of entry_of row rows named up above (old ∙ ap (id_entry (id_of row)) (sym new)))
    by false false old new = ap ids_in (put-same id_of entry_of row rows named up above (old ∙ ap (id_entry (id_of row)) (sym new)))
    by false true old new = ap ids_in (both false true old new) ∙ ids-with (id_of row) (keys_of entry_of rows) (all-ids id_of test rows)
    by true false old new = ap ids_in (both true false old new) ∙ ids-without (id_of row) (keys_of entry_of rows) (all-ids id_of test rows)

-- the ids of the rows that pass, where the row with one more id is left out
pub ids-left : {R : Type 0} (id_of : R → ℕ) (test : R → Bool) (out : ℕ → Bool) (id : ℕ) (rows left fewer : List R) → RisesFrom id_of 0 left → RisesFrom id_of 0 fewer
    → ((key : ℕ) → row_with id_of key left ≡ cond (out key) None (row_with id_of key rows))
    → ((key : ℕ) → row_with id_of key fewer ≡ cond (out key || eqb key id) None (row_with id_of key rows))
    → map id_of (filter test fewer) ≡ moved id (passes test (row_with id_of id rows)) false (map id_of (filter test left))
ids-left {R = R} id_of test out id rows left fewer up up' is is' =
    sym (ids-filter id_of test fewer up')
    ∙ ap ids_in (left-keys id_of entry_of out id rows left fewer (named-by id_of test) up up' is is')
    ∙ ap (λ (o : Option Key). ids_in (without_entry o (keys_of entry_of left))) (entry-passes id_of test id rows)
    ∙ by (passes test (row_with id_of id rows))
    ∙ ap (moved id (passes test (row_with id_of id rows)) false) (ids-filter id_of test left up)
  where
    entry_of : R → Option Key
    entry_of = entry_by id_of test

    by : (was : Bool) → ids_in (without_entry (id_entry id was) (keys_of entry_of left)) ≡ moved id was false (ids_in (keys_of entry_of left))
    by true = ids-without id (keys_of entry_of left) (all-ids id_of test left)
    by false = refl

only-ids : (keys : List Key) → All IsLogKey keys → All IsId keys
only-ids keys all = All-weaker IsLogKey IsId (λ key h. h.0) keys all

-- a list of logs with one more
pub ids-put_key : (id : ℕ) (key : Key) (keys new : List Key) → key ≡ id_key id → new ≡ with_key key keys → All IsLogKey keys → ids_in new ≡ with_id id (ids_in keys)
ids-put_key id key keys new same is all = ap ids_in (is ∙ ap (λ (k : Key). with_key k keys) same) ∙ ids-with id keys (only-ids keys all)

pub all-put_key : (key : Key) (keys new : List Key) → IsLogKey key → new ≡ with_key key keys → All IsLogKey keys → All IsLogKey new
all-put_key key keys new here is all = subst (All IsLogKey) (sym is) (All-put IsLogKey (key_order key) key keys all here)

-- a list of logs but for one
pub ids-drop_key : (id : ℕ) (key : Key) (keys new : List Key) → key ≡ id_key id → new ≡ without_key key keys → All IsLogKey keys → ids_in new ≡ without_id id (ids_in keys)
ids-drop_key id key keys new same is all = ap ids_in (is ∙ ap (λ (k : Key). without_key k keys) same) ∙ ids-without id keys (only-ids keys all)

pub all-drop_key : (key : Key) (keys new : List Key) → new ≡ without_key key keys → All IsLogKey keys → All IsLogKey new
all-drop_key key keys new is all = subst (All IsLogKey) (sym is) (All-filter (λ other. not (is_eq (key_order key other))) IsLogKey keys all)
