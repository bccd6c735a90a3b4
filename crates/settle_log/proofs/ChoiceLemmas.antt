-- The failed log that a monitor chooses, and the lost one, by the index of the logs.
use Rattle.std.proofs.Common.{◌≡◌, ℕ, zero, suc, ◌+◌, ◌≤◌, List, [], ◌∷◌, Bool, true, false, cond, ◌&&◌, Option, Some, None, length, take, refl, sym, ap, ◌∙◌, arith}
use Rattle.std.specs.List.{filter, find, slice_get}
use Rattle.std.specs.Option.{option_map, option_or}
use Rattle.std.specs.Prelude.{nat_le}
use Rattle.std.proofs.lemmas.List.{length-map}
use Rattle.std.proofs.lemmas.List.Folds.{find-append}
use Rattle.std.proofs.lemmas.List.Sums.{length-filter, count_by-le-length}
use Rattle.rising_rows.specs.Rising.{row_with, RisesFrom}
use Rattle.rising_rows.proofs.RowLemmas.{find-skip, find-here}
use Rattle.row_indexes.specs.Entries.{passes}
use Rattle.row_indexes.proofs.ReadLemmas.{get-push, get-map, find-filter, row-filtered}
use Rattle.job_values.specs.declared.limits.TheConstants.{LOST_AFTER}
use Rattle.job_records.specs.declared.log.Log.{Log}
use Rattle.job_records.specs.declared.registry.RegistryRow.{RegistryRow}
use Rattle.job_records.specs.LogClasses.{is_awaited, log_ids}
use Rattle.settle_log.specs.Settling.{is_unregistered, is_lost}

-- the log with the first id of those that pass is the first that passes
pub first-failed : (test : Log → Bool) (logs : List Log) (id : ℕ) → RisesFrom (λ l. l.id) 0 logs → slice_get (log_ids test logs) 0 ≡ Some id → row_with (λ l. l.id) id logs ≡ find test logs
first-failed test logs id up is = by (slice_get (filter test logs) 0) refl (sym (get-map (λ (l : Log). l.id) (filter test logs) 0) ∙ is)
  where
    by : (o : Option Log) → slice_get (filter test logs) 0 ≡ o → option_map (λ l. l.id) o ≡ Some id → row_with (λ l. l.id) id logs ≡ find test logs
    by None at e = (cc)
    by (Some log) at e =
        let same : log.id ≡ id = (cc) in
        ap (λ (n : ℕ). row_with (λ (l : Log). l.id) n logs) (sym same) ∙ row-filtered (λ (l : Log). l.id) test 0 logs 0 log up at ∙ sym (find-filter test logs ∙ at)

pub none-failed : (test : Log → Bool) (logs : List Log) → slice_get (log_ids test logs) 0 ≡ None → find test logs ≡ None
none-failed test logs is = by (slice_get (filter test logs) 0) refl (sym (get-map (λ (l : Log). l.id) (filter test logs) 0) ∙ is)
  where
    by : (o : Option Log) → slice_get (filter test logs) 0 ≡ o → option_map (λ l. l.id) o ≡ None → find test logs ≡ None
    by None at e = find-filter test logs ∙ at
    by (Some log) at e = (cc)

-- and the row of the first one, by its id
pub row-found : (test : Log → Bool) (logs : List Log) (id : ℕ) → RisesFrom (λ l. l.id) 0 logs → option_map (λ l. l.id) (find test logs) ≡ Some id → row_with (λ l. l.id) id logs ≡ find test logs
row-found test logs id up is =
    first-failed test logs id up (get-map (λ (l : Log). l.id) (filter test logs) 0 ∙ ap (option_map (λ (l : Log). l.id)) (sym (find-filter test logs)) ∙ is)

pub none-found : (test : Log → Bool) (logs : List Log) → option_map (λ l. l.id) (find test logs) ≡ None → find test logs ≡ None
none-found test logs is = by (find test logs) is
  where
    by : (o : Option Log) → option_map (λ l. l.id) o ≡ None → o ≡ None
    by None e = refl
    by (Some log) e = (cc)

-- the first that passes, where none before it does
found-at : {X : Type 0} (test : X → Bool) (xs : List X) (at : ℕ) (x : X) → find test (take at xs) ≡ None → slice_get xs at ≡ Some x → test x ≡ true → find test xs ≡ Some x
found-at test [] at x none is pass = (cc)
found-at test (y ∷ ys) zero x none is pass =
    let same : y ≡ x = (cc) in
    find-here test y ys (ap test same ∙ pass) ∙ ap Some same
found-at {X = X} test (y ∷ ys) (suc at) x none is pass = by (test y) refl (λ before. found-at test ys at x before is pass) none
  where
    by : (b : Bool) → test y ≡ b → (find test (take at ys) ≡ None → find test ys ≡ Some x) → cond b (Some y) (find test (take at ys)) ≡ None → find test (y ∷ ys) ≡ Some x
    by true first later e = (cc)
    by false first later e = find-skip test y ys first ∙ later e

-- none passes with one more that does not
none-more : {X : Type 0} (test : X → Bool) (xs : List X) (at : ℕ) (x : X) → find test (take at xs) ≡ None → slice_get xs at ≡ Some x → test x ≡ false → find test (take (at + 1) xs) ≡ None
none-more {X = X} test xs at x none is fails =
    ap (find test) (get-push xs at x is)
    ∙ find-append test (take at xs) (x ∷ [])
    ∙ ap (λ (o : Option X). option_or o (find test (x ∷ []))) none
    ∙ ap (λ b. cond b (Some x) None) fails

take-past : {X : Type 0} (xs : List X) (at : ℕ) → length xs ≤ at → take at xs ≡ xs
take-past [] zero le = refl
take-past [] (suc at) le = refl
take-past (x ∷ xs) zero le = absurd (omega arith)
take-past {X = X} (x ∷ xs) (suc at) le = ap (λ (ys : List X). x ∷ ys) (take-past xs at (omega arith))

-- a lost log is awaited
lost-awaited : (at : ℕ) (rows : List RegistryRow) (logs : List Log) → find (is_lost at rows) (filter is_awaited logs) ≡ find (is_lost at rows) logs
lost-awaited at rows [] = refl
lost-awaited at rows (log ∷ logs) = by (is_awaited log) refl (lost-awaited at rows logs)
  where
    by : (b : Bool) → is_awaited log ≡ b → find (is_lost at rows) (filter is_awaited logs) ≡ find (is_lost at rows) logs → find (is_lost at rows) (cond b (log ∷ filter is_awaited logs) (filter is_awaited logs)) ≡ find (is_lost at rows) (log ∷ logs)
    by true is rest = ap (λ (o : Option Log). cond (is_lost at rows log) (Some log) o) rest
    by false is rest =
        rest ∙ sym (find-skip (is_lost at rows) log logs (ap (λ b. (b && nat_le (log.time + LOST_AFTER) at) && is_unregistered rows log.address) is))

-- the row of an awaited log, by its place
awaited-at : (logs : List Log) (place id : ℕ) → RisesFrom (λ l. l.id) 0 logs → slice_get (log_ids is_awaited logs) place ≡ Some id
    → (log : Log) × (slice_get (filter is_awaited logs) place ≡ Some log) × (row_with (λ l. l.id) id logs ≡ Some log) × (log.id ≡ id)
awaited-at logs place id up is = by (slice_get (filter is_awaited logs) place) refl (sym (get-map (λ (l : Log). l.id) (filter is_awaited logs) place) ∙ is)
  where
    by : (o : Option Log) → slice_get (filter is_awaited logs) place ≡ o → option_map (λ l. l.id) o ≡ Some id → (log : Log) × (slice_get (filter is_awaited logs) place ≡ Some log) × (row_with (λ l. l.id) id logs ≡ Some log) × (log.id ≡ id)
    by None at e = (cc)
    by (Some log) at e =
        let same : log.id ≡ id = (cc) in
        (log, at, ap (λ (n : ℕ). row_with (λ (l : Log). l.id) n logs) (sym same) ∙ row-filtered (λ (l : Log). l.id) is_awaited 0 logs place log up at, same)

-- a log that is lost, where none before it is
pub lost-here : (at : ℕ) (rows : List RegistryRow) (logs : List Log) (place id : ℕ) → RisesFrom (λ l. l.id) 0 logs → find (is_lost at rows) (take place (filter is_awaited logs)) ≡ None
    → slice_get (log_ids is_awaited logs) place ≡ Some id → passes (is_lost at rows) (row_with (λ l. l.id) id logs) ≡ true → Some id ≡ option_map (λ l. l.id) (find (is_lost at rows) logs)
lost-here at rows logs place id up none is lost =
    let there = awaited-at logs place id up is in
    let pass : is_lost at rows there.0 ≡ true = sym (ap (passes (is_lost at rows)) there.2) ∙ lost in
    sym (ap (option_map (λ (l : Log). l.id)) (sym (lost-awaited at rows logs) ∙ found-at (is_lost at rows) (filter is_awaited logs) place there.0 none there.1 pass) ∙ ap Some there.3)

-- one that is not
pub lost-later : (at : ℕ) (rows : List RegistryRow) (logs : List Log) (place id : ℕ) → RisesFrom (λ l. l.id) 0 logs → find (is_lost at rows) (take place (filter is_awaited logs)) ≡ None
    → slice_get (log_ids is_awaited logs) place ≡ Some id → passes (is_lost at rows) (row_with (λ l. l.id) id logs) ≡ false → find (is_lost at rows) (take (place + 1) (filter is_awaited logs)) ≡ None
lost-later at rows logs place id up none is kept =
    let there = awaited-at logs place id up is in
    none-more (is_lost at rows) (filter is_awaited logs) place there.0 none there.1 (sym (ap (passes (is_lost at rows)) there.2) ∙ kept)

-- none is lost where the awaited logs end
pub lost-none : (at : ℕ) (rows : List RegistryRow) (logs : List Log) (place : ℕ) → find (is_lost at rows) (take place (filter is_awaited logs)) ≡ None
    → length (log_ids is_awaited logs) ≤ place → None ≡ option_map (λ l. l.id) (find (is_lost at rows) logs)
lost-none at rows logs place none past =
    let short : length (filter is_awaited logs) ≤ place = omega (arith, length-map (filter is_awaited logs) (λ (l : Log). l.id)) in
    sym (ap (option_map (λ (l : Log). l.id)) (sym (lost-awaited at rows logs) ∙ ap (find (is_lost at rows)) (sym (take-past (filter is_awaited logs) place short)) ∙ none))

-- there are no more awaited logs than logs
pub few-awaited : (logs : List Log) → length (log_ids is_awaited logs) ≤ length logs
few-awaited logs =
    omega (arith, length-map (filter is_awaited logs) (λ (l : Log). l.id), length-filter is_awaited logs, count_by-le-length is_awaited logs)

pub past-end : {X : Type 0} (xs : List X) (at : ℕ) → slice_get xs at ≡ None → length xs ≤ at
past-end [] at is = omega arith
past-end (x ∷ xs) zero is = (cc)
past-end (x ∷ xs) (suc at) is = let le : length xs ≤ at = past-end xs at is in omega arith
