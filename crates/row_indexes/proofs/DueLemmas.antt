-- The keys of jobs in the due index.
use Rattle.std.proofs.Common.{◌≡◌, ℕ, ◌<◌, List, Bool, true, false, cond, eqb, Option, Some, None, refl, sym, ap, ◌∙◌, arith}
use Rattle.std.specs.Option.{option_and_then, option_eq}
use Rattle.std.proofs.lemmas.Bool.Decides.{nat_tests}
use Rattle.rising_rows.specs.Rising.{row_with, put_row, RisesFrom}
use Rattle.rising_rows.proofs.RowLemmas.{found-id}
use Rattle.sorted_blocks.specs.declared.key.Key.{Key}
use Rattle.row_indexes.specs.Entries.{with_entry, without_entry, keys_of, IsNamedById}
use Rattle.row_indexes.specs.Due.{due_entry, due_moved}
use Rattle.row_indexes.proofs.EntryLemmas.{entry_with, put-keys, put-same}

-- the key of a row by its next time
abbrev pub entry_by_next : {R : Type 0} → (R → ℕ) → (R → Option ℕ) → R → Option Key
entry_by_next id_of next_of row = due_entry (id_of row) (next_of row)

pub named-by_next : {R : Type 0} (id_of : R → ℕ) (next_of : R → Option ℕ) → IsNamedById id_of (entry_by_next id_of next_of)
named-by_next id_of next_of row key is = by (next_of row) is
  where
    by : (o : Option ℕ) → due_entry (id_of row) o ≡ Some key → key.id ≡ id_of row
    by None e = (cc)
    by (Some next) e =
        let own : Key = record { time = next; id = id_of row } in
        let same : own ≡ key = (cc) in
        sym (ap (λ (k : Key). k.id) same)

-- the key of the row with an id, by its next time
pub entry-next : {R : Type 0} (id_of : R → ℕ) (next_of : R → Option ℕ) (id : ℕ) (rows : List R) → entry_with id_of (entry_by_next id_of next_of) id rows ≡ due_entry id (option_and_then next_of (row_with id_of id rows))
entry-next {R = R} id_of next_of id rows = by (row_with id_of id rows) refl
  where
    by : (o : Option R) → row_with id_of id rows ≡ o → option_and_then (entry_by_next id_of next_of) o ≡ due_entry id (option_and_then next_of o)
    by None is = refl
    by (Some row) is = ap (λ (n : ℕ). due_entry n (next_of row)) (found-id id_of id rows row is)

equal-numbers : (m n : ℕ) → eqb m n ≡ true → m ≡ n
equal-numbers m n h = grind (arith, nat_tests)

equal-options : (a b : Option ℕ) → option_eq eqb a b ≡ true → a ≡ b
equal-options None None h = refl
equal-options None (Some y) h = (cc)
equal-options (Some x) None h = (cc)
equal-options (Some x) (Some y) h = ap Some (equal-numbers x y h)

-- the keys after a row is put
pub keys-put : {R : Type 0} (id_of : R → ℕ) (next_of : R → Option ℕ) (row : R) (rows : List R) → RisesFrom id_of 0 rows → 0 < id_of row
    → keys_of (entry_by_next id_of next_of) (put_row id_of row rows) ≡ due_moved (id_of row) (option_and_then next_of (row_with id_of (id_of row) rows)) (next_of row) (keys_of (entry_by_next id_of next_of) rows)
keys-put {R = R} id_of next_of row rows up above = by (option_eq eqb old (next_of row)) refl
  where
    old : Option ℕ
    old = option_and_then next_of (row_with id_of (id_of row) rows)

    by : (b : Bool) → option_eq eqb old (next_of row) ≡ b
        → keys_of (entry_by_next id_of next_of) (put_row id_of row rows) ≡ cond b (keys_of (entry_by_next id_of next_of) rows) (with_entry (due_entry (id_of row) (next_of row)) (without_entry (due_entry (id_of row) old) (keys_of (entry_by_next id_of next_of) rows)))
    by true is =
        put-same id_of (entry_by_next id_of next_of) row rows (named-by_next id_of next_of) up above
        (entry-next id_of next_of (id_of row) rows ∙ ap (due_entry (id_of row)) (equal-options old (next_of row) is))
    by false is =
        put-keys id_of (entry_by_next id_of next_of) row rows (named-by_next id_of next_of) up above
        ∙ ap (λ (o : Option Key). with_entry (due_entry (id_of row) (next_of row)) (without_entry o (keys_of (entry_by_next id_of next_of) rows))) (entry-next id_of next_of (id_of row) rows)
