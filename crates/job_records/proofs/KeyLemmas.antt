-- Lemmas on the registrations of one key, which stand together.
use Rattle.std.proofs.Common.{◌≡◌, ℕ, zero, suc, ◌+◌, ◌<◌, ◌≤◌, ⊎_elim, List, [], ◌∷◌, Bool, true, false, cond, length, get_or, refl, sym, ap, ◌∙◌, arith}
use Rattle.std.specs.declared.cmp.Ordering.{Ordering}
use Rattle.std.specs.declared.cmp.Ordering.TheVariants.{Less, Equal, Greater}
use Rattle.std.specs.Cmp.{IsTotalOrder}
use Rattle.std.specs.Cmp.Lexicographic.{slice_cmp, texts_ties}
use Rattle.std.specs.List.{AllWithin, count_by}
use Rattle.std.specs.List.Sorted.{IsPartitionedBy, IsPartitionPoint}
use Rattle.std.specs.Ordering.{nat_cmp, ordering_then, is_lt, is_le, is_eq}
use Rattle.std.specs.Prelude.{bytes_eq}
use Rattle.std.proofs.lemmas.Bool.{cases_lt}
use Rattle.std.proofs.lemmas.Cmp.{nat_list_cmp_total, alike_right}
use Rattle.job_records.specs.declared.registry.RegistryRow.{RegistryRow}
use Rattle.job_records.specs.Order.{RisesByKey}
use Rattle.job_records.specs.Rules.{count_of_key}
use Rattle.job_records.proofs.RegistryLemmas.{count-cons}

-- how the key of a registration compares with a key
abbrev pub by_key : List ℕ → RegistryRow → Ordering
by_key key row = slice_cmp nat_cmp row.key key

-- a test that holds of the lower ones holds below one of which it holds
abbrev HoldsBelow : (Ordering → Bool) → Type 0
HoldsBelow test = (test Less ≡ true) × (test Greater ≡ false)

under : {K : Type 0} {R : K → K → Ordering} (o : IsTotalOrder R) (test : Ordering → Bool) → HoldsBelow test → (a b c : K) (r s : Ordering) → R a b ≡ r → R b c ≡ s → ordering_then r Less ≡ Less → test (R b c) ≡ true → test (R a c) ≡ true
under {R = R} o test below a b c Equal s e f le h = ap test (o.congr a b c e) ∙ h
under {R = R} o test below a b c Less Less e f le h = ap test (o.trans a b c e f) ∙ below.0
under {R = R} o test below a b c Less Equal e f le h = ap test (sym (alike_right o b c a f) ∙ e) ∙ below.0
under {R = R} o test below a b c Less Greater e f le h = absurd (let never : true ≡ false = sym h ∙ ap test f ∙ below.1 in cc)
under {R = R} o test below a b c Greater s e f le h = (cc)

less-then : (r s : Ordering) → ordering_then r s ≡ Less → ordering_then r Less ≡ Less
less-then Less s h = refl
less-then Equal s h = refl
less-then Greater s h = h

-- registrations that rise are parted by such a test of their keys
pub parted-key : (test : Ordering → Bool) → HoldsBelow test → (key : List ℕ) (rows : List RegistryRow) → RisesByKey rows → IsPartitionedBy (λ row. test (by_key key row)) rows
parted-key test below key rows rises i j d le within h =
    ⊎_elim (λ (before : i < j).
    let a : List ℕ = (get_or rows i d).key in
    let b : List ℕ = (get_or rows j d).key in
    under nat_list_cmp_total test below a b key (slice_cmp nat_cmp a b) (slice_cmp nat_cmp b key) refl refl
    (less-then (slice_cmp nat_cmp a b) (slice_cmp nat_cmp (get_or rows i d).value (get_or rows j d).value) (rises i j d before within)) h)
    (λ (after : j ≤ i).
    let same : i ≡ j = omega arith in
    ap (λ (n : ℕ). test (by_key key (get_or rows n d))) same ∙ h)
    (cases_lt i j)

count-range : {R : Type 0} (p : R → Bool) (rows : List R) (low high : ℕ) → low ≤ high → high ≤ length rows → AllWithin (λ row. p row ≡ false) rows 0 low → AllWithin (λ row. p row ≡ true) rows low high → AllWithin (λ row. p row ≡ false) rows high (length rows) → count_by p rows + low ≡ high
count-range p [] low high le within before here after = omega arith
count-range p (row ∷ rows) zero zero le within before here after =
    let none : ◌≡◌ {A = ℕ} (cond (p row) 1 0) 0 = ap (λ (b : Bool). cond b 1 0) (after 0 row (omega arith) (omega arith)) in
    let rest : count_by p rows + 0 ≡ 0 = count-range p rows 0 0 (omega arith) (omega arith) (λ k d above below. absurd (omega arith)) (λ k d above below. absurd (omega arith)) (λ k d above below. after (suc k) d (omega arith) (omega arith)) in
    omega (arith, count-cons p row rows)
count-range p (row ∷ rows) zero (suc high) le within before here after =
    let one : ◌≡◌ {A = ℕ} (cond (p row) 1 0) 1 = ap (λ (b : Bool). cond b 1 0) (here 0 row (omega arith) (omega arith)) in
    let rest : count_by p rows + 0 ≡ high = count-range p rows 0 high (omega arith) (omega arith) (λ k d above below. absurd (omega arith)) (λ k d above below. here (suc k) d (omega arith) (omega arith)) (λ k d above below. after (suc k) d (omega arith) (omega arith)) in
    omega (arith, count-cons p row rows)
count-range p (row ∷ rows) (suc low) zero le within before here after = absurd (omega arith)
count-range p (row ∷ rows) (suc low) (suc high) le within before here after =
    let none : ◌≡◌ {A = ℕ} (cond (p row) 1 0) 0 = ap (λ (b : Bool). cond b 1 0) (before 0 row (omega arith) (omega arith)) in
    let rest : count_by p rows + low ≡ high = count-range p rows low high (omega arith) (omega arith) (λ k d above below. before (suc k) d (omega arith) (omega arith)) (λ k d above below. here (suc k) d (omega arith) (omega arith)) (λ k d above below. after (suc k) d (omega arith) (omega arith)) in
    omega (arith, count-cons p row rows)

lt-not_eq : (o : Ordering) → is_lt o ≡ true → is_eq o ≡ false
lt-not_eq Less h = refl
lt-not_eq Equal h = (cc)
lt-not_eq Greater h = refl

eq-between : (o : Ordering) → is_lt o ≡ false → is_le o ≡ true → is_eq o ≡ true
eq-between Less h i = (cc)
eq-between Equal h i = refl
eq-between Greater h i = (cc)

gt-not_eq : (o : Ordering) → is_le o ≡ false → is_eq o ≡ false
gt-not_eq Less h = refl
gt-not_eq Equal h = (cc)
gt-not_eq Greater h = refl

lt-le : (o : Ordering) → is_lt o ≡ true → is_le o ≡ true
lt-le Less h = refl
lt-le Equal h = refl
lt-le Greater h = h

keyed : (key : List ℕ) (row : RegistryRow) → bytes_eq row.key key ≡ is_eq (by_key key row)
keyed key row = texts_ties row.key key

-- the registrations of a key are those from the first that is not below it up to the last that is not above it
pub count-between : (key : List ℕ) (rows : List RegistryRow) (start end : ℕ) → start ≤ length rows → end ≤ length rows
    → IsPartitionPoint (λ row. is_lt (by_key key row) ≡ true) (λ row. is_lt (by_key key row) ≡ false) rows start
    → IsPartitionPoint (λ row. is_le (by_key key row) ≡ true) (λ row. is_le (by_key key row) ≡ false) rows end
    → (start ≤ end) × (count_of_key key rows + start ≡ end)
count-between key rows start end short within first last =
    let ordered : start ≤ end = in_order rows start end within short first last in (
      ordered,
      count-range (λ (row : RegistryRow). bytes_eq row.key key) rows start end ordered within
          (λ k d above below. keyed key (get_or rows k d) ∙ lt-not_eq (by_key key (get_or rows k d)) (first.0 k d above below))
          (λ k d above below. keyed key (get_or rows k d) ∙ eq-between (by_key key (get_or rows k d)) (first.1 k d above (omega arith)) (last.0 k d (omega arith) below))
          (λ k d above below. keyed key (get_or rows k d) ∙ gt-not_eq (by_key key (get_or rows k d)) (last.1 k d above below)),
    )
  where
    in_order : (xs : List RegistryRow) (m n : ℕ) → n ≤ length xs → m ≤ length xs
        → IsPartitionPoint (λ row. is_lt (by_key key row) ≡ true) (λ row. is_lt (by_key key row) ≡ false) xs m
        → IsPartitionPoint (λ row. is_le (by_key key row) ≡ true) (λ row. is_le (by_key key row) ≡ false) xs n → m ≤ n
    in_order xs m n le lt f l =
        ⊎_elim (λ (bad : n < m).
        let d : RegistryRow = record { key = []; value = []; beat = 0 } in
        let o : Ordering = by_key key (get_or xs n d) in
        absurd (let never : true ≡ false = sym (lt-le (by_key key (get_or xs n d)) (f.0 n d (omega arith) bad)) ∙ l.1 n d (omega arith) (omega arith) in cc))
        (λ (good : m ≤ n). good) (cases_lt n m)
