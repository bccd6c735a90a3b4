-- Lemmas on the registrations: one put among them, some left out, and how many a key has.
use Rattle.std.proofs.Common.{◌≡◌, ℕ, zero, suc, ◌+◌, ◌<◌, ◌≤◌, inl, inr, ⊎_elim, List, [], ◌∷◌, Bool, true, false, cond, not, ◌&&◌, ◌||◌, length, get_or, refl, sym, ap, ◌∙◌, arith}
use Rattle.std.specs.declared.cmp.Ordering.{Ordering}
use Rattle.std.specs.declared.cmp.Ordering.TheVariants.{Less, Equal, Greater}
use Rattle.std.specs.List.{All, AllPairs, count_by, filter, list_any}
use Rattle.std.specs.Ordering.{match_ordering, ordering_reverse, is_eq}
use Rattle.std.specs.Prelude.{bytes_eq}
use Rattle.std.proofs.lemmas.List.Elements.{All-cons, All-tail, All-filter}
use Rattle.std.proofs.lemmas.List.Filters.{sum_by-filter_both}
use Rattle.std.proofs.lemmas.List.Sums.{sum_by-cons, length-filter, count_by-le-length}
use Rattle.std.proofs.lemmas.Slice.Eq.{bytes_eq-Decides}
use Rattle.job_values.specs.declared.limits.TheConstants.{MOST_REGISTRATIONS, MOST_OF_KEY}
use Rattle.job_records.specs.declared.registry.RegistryRow.{RegistryRow}
use Rattle.job_records.specs.Order.{key_order, RisesByKey, is_registered}
use Rattle.job_records.specs.Rules.{count_of_key, IsNamed, HasKeyPlace, RegistryRules}
use Rattle.rising_rows.specs.Seats.{put_by, IsSplitBy}
use Rattle.job_records.proofs.OrderLemmas.{row_cmp, row_cmp-total, registered-order, split-by_key}
use Rattle.rising_rows.proofs.PutLemmas.{All-put}

pairs-cons : {R : Type 0} (P : R → R → Type 0) (row : R) (rows : List R) → All (P row) rows → AllPairs P rows → AllPairs P (row ∷ rows)
pairs-cons P row rows head tail i zero d before within = absurd (omega arith)
pairs-cons P row rows head tail zero (suc j) d before within = head j d (omega arith)
pairs-cons P row rows head tail (suc i) (suc j) d before within = tail i j d (omega arith) (omega arith)

pairs-head : {R : Type 0} (P : R → R → Type 0) (row : R) (rows : List R) → AllPairs P (row ∷ rows) → All (P row) rows
pairs-head P row rows h k d lt = h 0 (suc k) d (omega arith) (omega arith)

pairs-tail : {R : Type 0} (P : R → R → Type 0) (row : R) (rows : List R) → AllPairs P (row ∷ rows) → AllPairs P rows
pairs-tail P row rows h i j d before within = h (suc i) (suc j) d (omega arith) (omega arith)

abbrev Before : RegistryRow → RegistryRow → Type 0
Before row later = row_cmp row later ≡ Less

abbrev put_registration : RegistryRow → List RegistryRow → List RegistryRow
put_registration row rows = put_by (key_order row.key row.value) row rows

rises-step : (row first : RegistryRow) (rows : List RegistryRow) → RisesByKey (first ∷ rows) → (o : Ordering) → row_cmp first row ≡ o → RisesByKey (put_registration row rows) → RisesByKey (match_ordering o (first ∷ put_registration row rows) (row ∷ rows) (row ∷ first ∷ rows))
rises-step row first rows h Less e ih =
    pairs-cons Before first (put_registration row rows) (All-put (Before first) (key_order row.key row.value) row rows (pairs-head Before first rows h) e) ih
rises-step row first rows h Equal e ih =
    pairs-cons Before row rows (λ k d lt. sym (row_cmp-total.congr first row (get_or rows k d) e) ∙ pairs-head Before first rows h k d lt) (pairs-tail Before first rows h)
rises-step row first rows h Greater e ih =
    let below : row_cmp row first ≡ Less = row_cmp-total.antisymm row first ∙ ap ordering_reverse e in
    pairs-cons Before row (first ∷ rows)
    (All-cons (Before row) first rows below (λ k d lt. row_cmp-total.trans row first (get_or rows k d) below (pairs-head Before first rows h k d lt))) h

-- the registrations still rise with one put among them
pub registry-put_rises : (row : RegistryRow) (rows : List RegistryRow) → RisesByKey rows → RisesByKey (put_registration row rows)
registry-put_rises row [] h = λ i j d before within. absurd (omega arith)
registry-put_rises row (first ∷ rows) h =
    rises-step row first rows h (row_cmp first row) refl (registry-put_rises row rows (pairs-tail Before first rows h))

filter-step_rises : (test : RegistryRow → Bool) (first : RegistryRow) (rows : List RegistryRow) → All (Before first) rows → RisesByKey (filter test rows) → (b : Bool) → RisesByKey (cond b (first ∷ filter test rows) (filter test rows))
filter-step_rises test first rows head ih true = pairs-cons Before first (filter test rows) (All-filter test (Before first) rows head) ih
filter-step_rises test first rows head ih false = ih

-- the registrations still rise where some are left out
pub registry-filter_rises : (test : RegistryRow → Bool) (rows : List RegistryRow) → RisesByKey rows → RisesByKey (filter test rows)
registry-filter_rises test [] h = h
registry-filter_rises test (first ∷ rows) h =
    filter-step_rises test first rows (pairs-head Before first rows h) (registry-filter_rises test rows (pairs-tail Before first rows h)) (test first)

-- no more pass a test where some are left out
pub count-filter : {R : Type 0} (p test : R → Bool) (rows : List R) → count_by p (filter test rows) ≤ count_by p rows
count-filter p test rows = omega (arith, sum_by-filter_both test (λ row. not (test row)) (λ _. refl) (λ row. cond (p row) 1 0) rows)

any-greater : {R : Type 0} (order : R → Ordering) (rows : List R) → All (λ row. order row ≡ Greater) rows → list_any (λ row. is_eq (order row)) rows ≡ false
any-greater order [] all = refl
any-greater order (row ∷ rows) all =
    ap (λ o. is_eq o || list_any (λ r. is_eq (order r)) rows) (all 0 row (omega arith)) ∙ any-greater order rows (All-tail (λ r. order r ≡ Greater) row rows all)

-- one row more in a count
pub count-cons : {R : Type 0} (p : R → Bool) (row : R) (rows : List R) → count_by p (row ∷ rows) ≡ cond (p row) 1 0 + count_by p rows
count-cons p row rows = sum_by-cons (λ r. cond (p r) 1 0) row rows

-- one row more, which passes a test or not
record OneMore {R : Type 0} (p : R → Bool) (row : R) (old new : List R) : Type 0 where
  all : length new ≡ length old + 1
  passed : count_by p new ≡ count_by p old + cond (p row) 1 0

more-step : {R : Type 0} (p : R → Bool) (order : R → Ordering) (row first : R) (rows put : List R) (o : Ordering) → order first ≡ o → list_any (λ r. is_eq (order r)) (first ∷ rows) ≡ false → (list_any (λ r. is_eq (order r)) rows ≡ false → OneMore p row rows put) → OneMore p row (first ∷ rows) (match_ordering o (first ∷ put) (row ∷ rows) (row ∷ first ∷ rows))
more-step p order row first rows put Less e none ih =
    let rest : OneMore p row rows put = ih (sym (ap (λ o. is_eq o || list_any (λ r. is_eq (order r)) rows) e) ∙ none) in
    record { all = omega (arith, rest.all); passed = omega (arith, rest.passed, count-cons p first put, count-cons p first rows) }
more-step p order row first rows put Equal e none ih =
    absurd (let never : true ≡ false = sym (ap (λ o. is_eq o || list_any (λ r. is_eq (order r)) rows) e) ∙ none in cc)
more-step p order row first rows put Greater e none ih =
    record { all = omega arith; passed = omega (arith, count-cons p row (first ∷ rows)) }

-- a row that is put where none is equal is one more
more-put : {R : Type 0} (p : R → Bool) (order : R → Ordering) (row : R) (rows : List R) → list_any (λ r. is_eq (order r)) rows ≡ false → OneMore p row rows (put_by order row rows)
more-put p order row [] none = record { all = omega arith; passed = omega (arith, count-cons p row []) }
more-put p order row (first ∷ rows) none =
    more-step p order row first rows (put_by order row rows) (order first) refl none (more-put p order row rows)

-- as many rows, of which as many pass a test
record AsMany {R : Type 0} (p : R → Bool) (old new : List R) : Type 0 where
  all : length new ≡ length old
  passed : count_by p new ≡ count_by p old

same-step : {R : Type 0} (p : R → Bool) (order : R → Ordering) (row first : R) (rows put : List R) (o : Ordering) → order first ≡ o → IsSplitBy order (first ∷ rows) → ((r : R) → order r ≡ Equal → p r ≡ p row) → list_any (λ r. is_eq (order r)) (first ∷ rows) ≡ true → (list_any (λ r. is_eq (order r)) rows ≡ true → AsMany p rows put) → AsMany p (first ∷ rows) (match_ordering o (first ∷ put) (row ∷ rows) (row ∷ first ∷ rows))
same-step p order row first rows put Less e split agrees some ih =
    let rest : AsMany p rows put = ih (sym (ap (λ o. is_eq o || list_any (λ r. is_eq (order r)) rows) e) ∙ some) in
    record { all = omega (arith, rest.all); passed = omega (arith, rest.passed, count-cons p first put, count-cons p first rows) }
same-step p order row first rows put Equal e split agrees some ih =
    let same : ◌≡◌ {A = ℕ} (cond (p first) 1 0) (cond (p row) 1 0) = ap (λ (b : Bool). cond b 1 0) (agrees first e) in
    record { all = refl; passed = omega (arith, same, count-cons p row rows, count-cons p first rows) }
same-step p order row first rows put Greater e split agrees some ih =
    let none : list_any (λ r. is_eq (order r)) rows ≡ false =
    any-greater order rows (λ k d lt. ⊎_elim (λ (less : order first ≡ Less). cc) (λ greater. greater) (split 0 (suc k) d (omega arith) (omega arith))) in
    absurd (let never : true ≡ false = sym some ∙ ap (λ o. is_eq o || list_any (λ r. is_eq (order r)) rows) e ∙ none in cc)

-- a row that is put in place of an equal one leaves as many
same-put : {R : Type 0} (p : R → Bool) (order : R → Ordering) (row : R) (rows : List R) → IsSplitBy order rows → ((r : R) → order r ≡ Equal → p r ≡ p row) → list_any (λ r. is_eq (order r)) rows ≡ true → AsMany p rows (put_by order row rows)
same-put p order row [] split agrees some = absurd (let never : false ≡ true = some in cc)
same-put p order row (first ∷ rows) split agrees some =
    same-step p order row first rows (put_by order row rows) (order first) refl split agrees some
    (same-put p order row rows (λ i j d before within. split (suc i) (suc j) d (omega arith) (omega arith)) agrees)

any-agree : {R : Type 0} (p q : R → Bool) (rows : List R) → ((r : R) → p r ≡ q r) → list_any p rows ≡ list_any q rows
any-agree p q [] agree = refl
any-agree p q (row ∷ rows) agree =
    ap (λ b. b || list_any p rows) (agree row) ∙ ap (λ b. q row || b) (any-agree p q rows agree)

-- whether one is equal to a key and a value is whether one has them
pub any-registered : (key value : List ℕ) (rows : List RegistryRow) → list_any (λ r. is_eq (key_order key value r)) rows ≡ list_any (is_registered key value) rows
any-registered key value rows = any-agree (λ r. is_eq (key_order key value r)) (is_registered key value) rows (registered-order key value)

and-first : (a b : Bool) → (a && b) ≡ true → a ≡ true
and-first true b h = refl
and-first false b h = h

-- equal registrations have one key
equal-key : (row r : RegistryRow) → key_order row.key row.value r ≡ Equal → r.key ≡ row.key
equal-key row r e =
    (bytes_eq-Decides r.key row.key).0 (and-first (bytes_eq r.key row.key) (bytes_eq r.value row.value) (sym (registered-order row.key row.value r) ∙ ap is_eq e))

put-had : {R : Type 0} (P : R → Type 0) (order : R → Ordering) (row : R) (rows : List R) → All P (put_by order row rows) → P row
put-had P order row [] all = all 0 row (omega arith)
put-had P order row (first ∷ rows) all =
    had-step P order row first rows (order first) all (put-had P order row rows)
  where
    had-step : {S : Type 0} (Q : S → Type 0) (by : S → Ordering) (s one : S) (more : List S) (o : Ordering) → All Q (match_ordering o (one ∷ put_by by s more) (s ∷ more) (s ∷ one ∷ more)) → (All Q (put_by by s more) → Q s) → Q s
    had-step Q by s one more Less h ih = ih (All-tail Q one (put_by by s more) h)
    had-step Q by s one more Equal h ih = h 0 s (omega arith)
    had-step Q by s one more Greater h ih = h 0 s (omega arith)

same-keys : (row : RegistryRow) (key : List ℕ) (r : RegistryRow) → key_order row.key row.value r ≡ Equal → bytes_eq r.key key ≡ bytes_eq row.key key
same-keys row key r e = ap (λ (k : List ℕ). bytes_eq k key) (equal-key row r e)

-- where there is place for a registration, putting it leaves no more of a key than the limit
few-of_key : (row : RegistryRow) (rows : List RegistryRow) (key : List ℕ) → count_of_key key rows ≤ MOST_OF_KEY → count_of_key row.key rows < MOST_OF_KEY → OneMore (λ r. bytes_eq r.key key) row rows (put_registration row rows) → count_of_key key (put_registration row rows) ≤ MOST_OF_KEY
few-of_key row rows key few fewer more = by (bytes_eq row.key key) refl
  where
    by : (b : Bool) → bytes_eq row.key key ≡ b → count_of_key key (put_registration row rows) ≤ MOST_OF_KEY
    by true is =
        let passed : count_of_key key (put_registration row rows) ≡ count_of_key key rows + cond (bytes_eq row.key key) 1 0 = more.passed in
        let same : count_of_key row.key rows ≡ count_of_key key rows = ap (λ (k : List ℕ). count_of_key k rows) ((bytes_eq-Decides row.key key).0 is) in
        let one : ◌≡◌ {A = ℕ} (cond (bytes_eq row.key key) 1 0) 1 = ap (λ (c : Bool). cond c 1 0) is in
        omega arith
    by false is =
        let passed : count_of_key key (put_registration row rows) ≡ count_of_key key rows + cond (bytes_eq row.key key) 1 0 = more.passed in
        let none : ◌≡◌ {A = ℕ} (cond (bytes_eq row.key key) 1 0) 0 = ap (λ (c : Bool). cond c 1 0) is in
        omega arith

-- a registration may be put where it is not empty and there is place for it
pub registration_put : (row : RegistryRow) (rows : List RegistryRow) → RegistryRules rows → IsNamed row → HasKeyPlace row rows → RegistryRules (put_registration row rows)
registration_put row rows h named place =
    by (list_any (λ r. is_eq (key_order row.key row.value r)) rows) refl
  where
    by : (b : Bool) → list_any (λ r. is_eq (key_order row.key row.value r)) rows ≡ b → RegistryRules (put_registration row rows)
    by true some =
        let same : (key : List ℕ) → AsMany (λ r. bytes_eq r.key key) rows (put_registration row rows) =
        λ key. same-put (λ (r : RegistryRow). bytes_eq r.key key) (key_order row.key row.value) row rows (split-by_key row.key row.value rows h.rising) (same-keys row key) some in
        record {
          rising = registry-put_rises row rows h.rising;
          named = All-put IsNamed (key_order row.key row.value) row rows h.named named;
          few = omega (arith, (same row.key).all, h.few);
          few_of_key = λ key. omega (arith, (same key).passed, h.few_of_key key);
        }
    by false none =
        let more : (key : List ℕ) → OneMore (λ r. bytes_eq r.key key) row rows (put_registration row rows) =
        λ key. more-put (λ (r : RegistryRow). bytes_eq r.key key) (key_order row.key row.value) row rows none in
        ⊎_elim (λ (there : list_any (is_registered row.key row.value) rows ≡ true). absurd (let never : true ≡ false = sym there ∙ sym (any-registered row.key row.value rows) ∙ none in cc))
        (λ (fewer : (length rows < MOST_REGISTRATIONS) × (count_of_key row.key rows < MOST_OF_KEY)). record {
          rising = registry-put_rises row rows h.rising;
          named = All-put IsNamed (key_order row.key row.value) row rows h.named named;
          few = omega (arith, (more row.key).all, fewer.0);
          few_of_key = λ key. few-of_key row rows key (h.few_of_key key) fewer.1 (more key);
        })
        place

-- and only there
pub registration_put_only : (row : RegistryRow) (rows : List RegistryRow) → RegistryRules (put_registration row rows) → IsNamed row × HasKeyPlace row rows
registration_put_only row rows after =
    (put-had IsNamed (key_order row.key row.value) row rows after.named, by (list_any (is_registered row.key row.value) rows) refl)
  where
    by : (b : Bool) → list_any (is_registered row.key row.value) rows ≡ b → HasKeyPlace row rows
    by true some = inl some
    by false none =
        let more : OneMore (λ r. bytes_eq r.key row.key) row rows (put_registration row rows) =
        more-put (λ (r : RegistryRow). bytes_eq r.key row.key) (key_order row.key row.value) row rows (any-registered row.key row.value rows ∙ none) in
        let one : ◌≡◌ {A = ℕ} (cond (bytes_eq row.key row.key) 1 0) 1 = ap (λ (c : Bool). cond c 1 0) ((bytes_eq-Decides row.key row.key).1 refl) in
        let passed : count_of_key row.key (put_registration row rows) ≡ count_of_key row.key rows + cond (bytes_eq row.key row.key) 1 0 = more.passed in
        inr (omega (arith, more.all, after.few), omega (arith, after.few_of_key row.key))

-- registrations may be left out
pub registration_filter : (test : RegistryRow → Bool) (rows : List RegistryRow) → RegistryRules rows → RegistryRules (filter test rows)
registration_filter test rows h =
    record {
      rising = registry-filter_rises test rows h.rising;
      named = All-filter test IsNamed rows h.named;
      few = omega (arith, length-filter test rows, count_by-le-length test rows, h.few);
      few_of_key = λ key. omega (arith, count-filter (λ (r : RegistryRow). bytes_eq r.key key) test rows, h.few_of_key key);
    }
