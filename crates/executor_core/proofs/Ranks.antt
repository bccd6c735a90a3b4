-- Ranks of last runs, by their moments and logs.
use Rattle.std.proofs.Common.{◌≡◌, ℕ, ◌+◌, ◌*◌, ◌^◌, ◌<◌, ◌≤◌, ◌⊎◌, sym, ap, ◌∙◌, ⊎_elim, arith}
use Rattle.std.specs.declared.cmp.Ordering.TheVariants.{Equal}
use Rattle.std.specs.Ordering.{nat_cmp, ordering_then}
use Rattle.std.proofs.lemmas.Bool.{cases_lt}
use Rattle.std.proofs.lemmas.Bool.Decides.{nat_tests}
use Rattle.rising_rows.proofs.SeatLemmas.{less-nat, greater-nat}

equal_nat : (m n : ℕ) → m ≡ n → nat_cmp m n ≡ Equal
equal_nat m n h = grind (arith, nat_tests)

-- below, equal or above
by_cmp : {G : Type 0} (m n : ℕ) → (m < n → G) → (m ≡ n → G) → (n < m → G) → G
by_cmp m n less equal greater =
    ⊎_elim less (λ (not_less : n ≤ m). ⊎_elim greater (λ (not_greater : m ≤ n). equal (omega arith)) (cases_lt n m)) (cases_lt m n)

same_moment : (m n j k : ℕ) → m ≡ n → nat_cmp j k ≡ nat_cmp (m * 2 ^ 64 + j) (n * 2 ^ 64 + k)
same_moment m n j k same =
    by_cmp j k (λ lt. less-nat j k lt ∙ sym (less-nat (m * 2 ^ 64 + j) (n * 2 ^ 64 + k) (omega (arith, same, lt))))
    (λ e. equal_nat j k e ∙ sym (equal_nat (m * 2 ^ 64 + j) (n * 2 ^ 64 + k) (omega (arith, same, e))))
    (λ lt. greater-nat j k lt ∙ sym (greater-nat (m * 2 ^ 64 + j) (n * 2 ^ 64 + k) (omega (arith, same, lt))))

-- by the moments, then by the logs
pub rank_cmp : (m n j k : ℕ) → j < 2 ^ 64 → k < 2 ^ 64 → ordering_then (nat_cmp m n) (nat_cmp j k) ≡ nat_cmp (m * 2 ^ 64 + j) (n * 2 ^ 64 + k)
rank_cmp m n j k lj lk =
    by_cmp m n
    (λ lt. ap (λ o. ordering_then o (nat_cmp j k)) (less-nat m n lt) ∙ sym (less-nat (m * 2 ^ 64 + j) (n * 2 ^ 64 + k) (omega (arith, lj, lk, lt))))
    (λ e. ap (λ o. ordering_then o (nat_cmp j k)) (equal_nat m n e) ∙ same_moment m n j k e)
    (λ lt. ap (λ o. ordering_then o (nat_cmp j k)) (greater-nat m n lt) ∙ sym (greater-nat (m * 2 ^ 64 + j) (n * 2 ^ 64 + k) (omega (arith, lj, lk, lt))))

-- the moments do not fall
pub older : (m n j k at : ℕ) → k < 2 ^ 64 → m * 2 ^ 64 + j < n * 2 ^ 64 + k → n < at → m < at
older m n j k at lk lt below = omega (arith, lk, lt, below)
