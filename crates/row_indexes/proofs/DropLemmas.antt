-- The keys and the ids of the rows that are left where many are dropped, one after another.
use Rattle.std.proofs.Common.{◌≡◌, ℕ, ◌+◌, ◌<◌, List, [], ◌∷◌, ◌++◌, Bool, true, false, cond, not, ◌||◌, eqb, Option, Some, None, is_some, length, get_or, map, take, refl, sym, ap, ◌∙◌, arith}
use Rattle.std.specs.List.{filter}
use Rattle.std.specs.Option.{option_or}
use Rattle.std.proofs.lemmas.Bool.Decides.{nat_tests}
use Rattle.std.proofs.lemmas.List.{take_more}
use Rattle.std.proofs.lemmas.List.Folds.{find-append}
use Rattle.rising_rows.specs.Rising.{row_with, without_all, RisesFrom}
use Rattle.rising_rows.proofs.RowLemmas.{rises-filter}
use Rattle.sorted_blocks.specs.declared.key.Key.{Key}
use Rattle.row_indexes.specs.Entries.{without_entry, keys_of, passes, IsNamedById}
use Rattle.row_indexes.specs.LogLists.{moved}
use Rattle.row_indexes.proofs.EntryLemmas.{entry_with, row_with-left, left-keys}
use Rattle.row_indexes.proofs.IdLemmas.{ids-left}

turned : (m n : ℕ) → eqb m n ≡ eqb n m
turned m n = grind (arith, nat_tests)

found-more : {D : Type 0} (first : Option D) (b c : Bool) (drop : D) → b ≡ c → is_some (option_or first (cond b (Some drop) None)) ≡ (is_some first || c)
found-more (Some other) b c drop same = refl
found-more None true true drop same = refl
found-more None false false drop same = refl
found-more None true false drop same = absurd (let wrong : true ≡ false = same in cc)
found-more None false true drop same = absurd (let wrong : false ≡ true = same in cc)

-- whether a key is dropped by the first drops, and by one more
dropped-more : {D : Type 0} (key_of : D → ℕ) (drops : List D) (at : ℕ) (drop : D) → at < length drops → drop ≡ get_or drops at drop → (key : ℕ)
    → is_some (row_with key_of key (take (at + 1) drops)) ≡ (is_some (row_with key_of key (take at drops)) || eqb key (key_of drop))
dropped-more {D = D} key_of drops at drop within is key =
    let last : List D = get_or drops at drop ∷ [] in
    let more : take (at + 1) drops ≡ take at drops ++ drop ∷ [] = take_more drops at drop within ∙ ap (λ (d : D). take at drops ++ d ∷ []) (sym is) in
    ap (λ (ds : List D). is_some (row_with key_of key ds)) more
    ∙ ap is_some (find-append (λ d. eqb (key_of d) key) (take at drops) (drop ∷ []))
    ∙ found-more (row_with key_of key (take at drops)) (eqb (key_of drop) key) (eqb key (key_of drop)) drop (turned (key_of drop) key)

-- the row with a key where many rows are dropped
left-all : {R D : Type 0} (id_of : R → ℕ) (key_of : D → ℕ) (drops : List D) (rows : List R) (key : ℕ) → row_with id_of key (without_all id_of key_of drops rows) ≡ cond (is_some (row_with key_of key drops)) None (row_with id_of key rows)
left-all id_of key_of drops rows key = row_with-left id_of (λ n. is_some (row_with key_of n drops)) key rows

left-more : {R D : Type 0} (id_of : R → ℕ) (key_of : D → ℕ) (drops : List D) (at : ℕ) (drop : D) (rows : List R) → at < length drops → drop ≡ get_or drops at drop → (key : ℕ)
    → row_with id_of key (without_all id_of key_of (take (at + 1) drops) rows) ≡ cond (is_some (row_with key_of key (take at drops)) || eqb key (key_of drop)) None (row_with id_of key rows)
left-more {R = R} id_of key_of drops at drop rows within is key =
    left-all id_of key_of (take (at + 1) drops) rows key
    ∙ ap (λ (b : Bool). cond b None (row_with id_of key rows)) (dropped-more key_of drops at drop within is key)

left-rises : {R D : Type 0} (id_of : R → ℕ) (key_of : D → ℕ) (drops : List D) (rows : List R) → RisesFrom id_of 0 rows → RisesFrom id_of 0 (without_all id_of key_of drops rows)
left-rises id_of key_of drops rows up = rises-filter id_of (λ row. not (is_some (row_with key_of (id_of row) drops))) 0 rows up

-- no drops leave all rows
pub undropped : {R D : Type 0} (id_of : R → ℕ) (key_of : D → ℕ) (rows : List R) → without_all id_of key_of [] rows ≡ rows
undropped id_of key_of [] = refl
undropped {R = R} id_of key_of (row ∷ rows) = ap (λ (rs : List R). row ∷ rs) (undropped id_of key_of rows)

-- the keys of the rows that are left by one drop more
pub keys-more : {R D : Type 0} (id_of : R → ℕ) (entry_of : R → Option Key) (key_of : D → ℕ) (drops : List D) (at : ℕ) (drop : D) (rows : List R) → IsNamedById id_of entry_of → RisesFrom id_of 0 rows → at < length drops → drop ≡ get_or drops at drop
    → keys_of entry_of (without_all id_of key_of (take (at + 1) drops) rows) ≡ without_entry (entry_with id_of entry_of (key_of drop) rows) (keys_of entry_of (without_all id_of key_of (take at drops) rows))
keys-more id_of entry_of key_of drops at drop rows named up within is =
    left-keys id_of entry_of (λ key. is_some (row_with key_of key (take at drops))) (key_of drop) rows (without_all id_of key_of (take at drops) rows) (without_all id_of key_of (take (at + 1) drops) rows) named
    (left-rises id_of key_of (take at drops) rows up) (left-rises id_of key_of (take (at + 1) drops) rows up)
    (left-all id_of key_of (take at drops) rows) (left-more id_of key_of drops at drop rows within is)

-- the ids of the rows that are left and pass, by one drop more
pub ids-more : {R D : Type 0} (id_of : R → ℕ) (test : R → Bool) (key_of : D → ℕ) (drops : List D) (at : ℕ) (drop : D) (rows : List R) → RisesFrom id_of 0 rows → at < length drops → drop ≡ get_or drops at drop
    → map id_of (filter test (without_all id_of key_of (take (at + 1) drops) rows)) ≡ moved (key_of drop) (passes test (row_with id_of (key_of drop) rows)) false (map id_of (filter test (without_all id_of key_of (take at drops) rows)))
ids-more id_of test key_of drops at drop rows up within is =
    ids-left id_of test (λ key. is_some (row_with key_of key (take at drops))) (key_of drop) rows (without_all id_of key_of (take at drops) rows) (without_all id_of key_of (take (at + 1) drops) rows)
    (left-rises id_of key_of (take at drops) rows up) (left-rises id_of key_of (take (at + 1) drops) rows up)
    (left-all id_of key_of (take at drops) rows) (left-more id_of key_of drops at drop rows within is)

-- the ids of the rows that pass, after the row with an id is dropped
pub ids-drop : {R : Type 0} (id_of : R → ℕ) (test : R → Bool) (id : ℕ) (rows : List R) → RisesFrom id_of 0 rows
    → map id_of (filter test (filter (λ row. not (eqb (id_of row) id)) rows)) ≡ moved id (passes test (row_with id_of id rows)) false (map id_of (filter test rows))
ids-drop id_of test id rows up =
    ids-left id_of test (λ key. false) id rows rows (filter (λ row. not (eqb (id_of row) id)) rows) up (rises-filter id_of (λ row. not (eqb (id_of row) id)) 0 rows up) (λ key. refl)
    (λ key. row_with-left id_of (λ n. eqb n id) key rows)
