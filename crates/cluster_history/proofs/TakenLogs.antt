-- The logs that were taken, one more or one less.
use Rattle.std.proofs.Common.{◌≡◌, ℕ, ◌+◌, ◌<◌, ◌≤◌, List, [], ◌∷◌, ◌++◌, Bool, true, false, cond, eqb, ◌&&◌, not, Option, Some, None, count_by, filter, refl, sym, ap, ◌∙◌, arith, Ordering, Less, Equal, Greater, nat_cmp}
use Rattle.std.specs.Ordering.{match_ordering}
use Rattle.std.proofs.lemmas.Bool.{false≢true}
use Rattle.std.proofs.lemmas.Bool.Decides.{nat_tests}
use Rattle.job_records.specs.Rows.{row_with}
use Rattle.job_records.specs.Changes.{put_row, without}
use Rattle.cluster_history.specs.declared.taken.TakenLog.{TakenLog}
use Rattle.cluster_history.proofs.Counting.{count-cons}
use Rattle.cluster_history.proofs.OpenLogs.{taken_in}

-- one more row, with a new id
pub count-put : {R : Type 0} (id_of : R → ℕ) (p : R → Bool) (row : R) (rows : List R) → row_with id_of (id_of row) rows ≡ None → count_by p (put_row id_of row rows) ≡ cond (p row) 1 0 + count_by p rows
count-put id_of p row [] absent = count-cons p row []
count-put {R} id_of p row (first ∷ rows) absent = by (eqb (id_of first) (id_of row)) (nat_cmp (id_of first) (id_of row)) refl refl absent (λ gone. count-put id_of p row rows gone)
  where
    by : (b : Bool) (o : Ordering) → eqb (id_of first) (id_of row) ≡ b → nat_cmp (id_of first) (id_of row) ≡ o → cond b (Some first) (row_with id_of (id_of row) rows) ≡ None → (row_with id_of (id_of row) rows ≡ None → count_by p (put_row id_of row rows) ≡ cond (p row) 1 0 + count_by p rows)
        → count_by p (match_ordering o (first ∷ put_row id_of row rows) (row ∷ rows) (row ∷ first ∷ rows)) ≡ cond (p row) 1 0 + count_by p (first ∷ rows)
    by true o test order is rest = (cc)
    by false Less test order is rest =
        let later = rest is in
        let one = count-cons p first (put_row id_of row rows) in
        let two = count-cons p first rows in
        omega (arith, later, one, two)
    by false Equal test order is rest = let never : ⊥ = grind (arith, nat_tests) in absurd never
    by false Greater test order is rest = count-cons p row (first ∷ rows)

-- one less
pub taken-without : (n a id : ℕ) (taken : List TakenLog) → taken_in n a (without (λ t. t.log) id taken) ≡ cond (eqb n id) 0 (taken_in n a taken)
taken-without n a id [] = by (eqb n id)
  where
    by : (b : Bool) → ◌≡◌ {A = ℕ} 0 (cond b 0 0)
    by true = refl
    by false = refl
taken-without n a id (t ∷ taken) = by (eqb t.log id) (eqb n id) refl refl (taken-without n a id taken)
  where
    by : (b c : Bool) → eqb t.log id ≡ b → eqb n id ≡ c → taken_in n a (without (λ u. u.log) id taken) ≡ cond c 0 (taken_in n a taken)
        → taken_in n a (cond (not b) (t ∷ without (λ u. u.log) id taken) (without (λ u. u.log) id taken)) ≡ cond c 0 (taken_in n a (t ∷ taken))
    by true true test same rest = rest
    by true false test same rest =
        let apart : eqb t.log n ≡ false = grind (arith, nat_tests) in
        let one = count-cons (λ (u : TakenLog). eqb u.log n && eqb u.admin a) t taken in
        let none : cond {A = ℕ} (eqb t.log n && eqb t.admin a) 1 0 ≡ 0 = ap (λ d. cond {A = ℕ} (d && eqb t.admin a) 1 0) apart in
        omega (arith, rest, one, none)
    by false true test same rest =
        let apart : eqb t.log n ≡ false = grind (arith, nat_tests) in
        let one = count-cons (λ (u : TakenLog). eqb u.log n && eqb u.admin a) t (without (λ u. u.log) id taken) in
        let none : cond {A = ℕ} (eqb t.log n && eqb t.admin a) 1 0 ≡ 0 = ap (λ d. cond {A = ℕ} (d && eqb t.admin a) 1 0) apart in
        omega (arith, rest, one, none)
    by false false test same rest =
        let one = count-cons (λ (u : TakenLog). eqb u.log n && eqb u.admin a) t (without (λ u. u.log) id taken) in
        let two = count-cons (λ (u : TakenLog). eqb u.log n && eqb u.admin a) t taken in
        omega (arith, rest, one, two)

-- those of an admin are dropped
pub taken-stopped : (n a admin : ℕ) (taken : List TakenLog) → taken_in n a (filter (λ t. not (eqb t.admin admin)) taken) ≡ cond (eqb a admin) 0 (taken_in n a taken)
taken-stopped n a admin [] = by (eqb a admin)
  where
    by : (b : Bool) → ◌≡◌ {A = ℕ} 0 (cond b 0 0)
    by true = refl
    by false = refl
taken-stopped n a admin (t ∷ taken) = by (eqb t.admin admin) (eqb a admin) refl refl (taken-stopped n a admin taken)
  where
    off : (c : Bool) → cond {A = ℕ} (c && false) 1 0 ≡ 0
    off true = refl
    off false = refl

    by : (b c : Bool) → eqb t.admin admin ≡ b → eqb a admin ≡ c → taken_in n a (filter (λ u. not (eqb u.admin admin)) taken) ≡ cond c 0 (taken_in n a taken)
        → taken_in n a (cond (not b) (t ∷ filter (λ u. not (eqb u.admin admin)) taken) (filter (λ u. not (eqb u.admin admin)) taken)) ≡ cond c 0 (taken_in n a (t ∷ taken))
    by true true test same rest = rest
    by true false test same rest =
        let apart : eqb t.admin a ≡ false = grind (arith, nat_tests) in
        let one = count-cons (λ (u : TakenLog). eqb u.log n && eqb u.admin a) t taken in
        let none : cond {A = ℕ} (eqb t.log n && eqb t.admin a) 1 0 ≡ 0 = ap (λ d. cond {A = ℕ} (eqb t.log n && d) 1 0) apart ∙ off (eqb t.log n) in
        omega (arith, rest, one, none)
    by false true test same rest =
        let apart : eqb t.admin a ≡ false = grind (arith, nat_tests) in
        let one = count-cons (λ (u : TakenLog). eqb u.log n && eqb u.admin a) t (filter (λ u. not (eqb u.admin admin)) taken) in
        let none : cond {A = ℕ} (eqb t.log n && eqb t.admin a) 1 0 ≡ 0 = ap (λ d. cond {A = ℕ} (eqb t.log n && d) 1 0) apart ∙ off (eqb t.log n) in
        omega (arith, rest, one, none)
    by false false test same rest =
        let one = count-cons (λ (u : TakenLog). eqb u.log n && eqb u.admin a) t (filter (λ u. not (eqb u.admin admin)) taken) in
        let two = count-cons (λ (u : TakenLog). eqb u.log n && eqb u.admin a) t taken in
        omega (arith, rest, one, two)

-- what is found among them counts for its admin
pub taken-found : (n : ℕ) (t : TakenLog) (taken : List TakenLog) → row_with (λ u. u.log) n taken ≡ Some t → (t.log ≡ n) × (0 < taken_in n t.admin taken)
taken-found n t [] found = absurd (let never : ⊥ = cc in never)
taken-found n t (first ∷ taken) found = by (eqb first.log n) refl found (λ more. taken-found n t taken more)
  where
    by : (b : Bool) → eqb first.log n ≡ b → cond b (Some first) (row_with (λ u. u.log) n taken) ≡ Some t → (row_with (λ u. u.log) n taken ≡ Some t → (t.log ≡ n) × (0 < taken_in n t.admin taken)) → (t.log ≡ n) × (0 < taken_in n t.admin (first ∷ taken))
    by true test is later =
        let here : first ≡ t = (cc) in
        let id : first.log ≡ n = grind (arith, nat_tests) in
        let self : eqb t.admin t.admin ≡ true = grind (arith, nat_tests) in
        let own : eqb first.admin t.admin ≡ true = ap (λ (u : TakenLog). eqb u.admin t.admin) here ∙ self in
        let one = count-cons (λ (u : TakenLog). eqb u.log n && eqb u.admin t.admin) first taken in
        let some : cond {A = ℕ} (eqb first.log n && eqb first.admin t.admin) 1 0 ≡ 1 = ap (λ d. cond {A = ℕ} (d && eqb first.admin t.admin) 1 0) test ∙ ap (λ d. cond {A = ℕ} d 1 0) own in
        (sym (ap (λ (u : TakenLog). u.log) here) ∙ id, omega (arith, one, some))
    by false test is later =
        let rest = later is in
        let one = count-cons (λ (u : TakenLog). eqb u.log n && eqb u.admin t.admin) first taken in
        let some : 0 < taken_in n t.admin taken = rest.1 in
        (rest.0, omega (arith, one, some))
