-- A row with a new key, put by its key, stands before those with higher keys.
use Rattle.std.proofs.Common.{◌≡◌, ℕ, ◌+◌, ◌<◌, zero, suc, Bool, true, false, ◌==◌, nat_lt, List, [], ◌∷◌, None, Err, find, length, get_or, refl, sym, ap, ◌∙◌, arith}
use Rattle.std.proofs.lemmas.Bool.Decides.{nat_tests}
use Rattle.std.specs.List.{list_any, insert}
use Rattle.std.specs.declared.cmp.Ordering.TheVariants.{Equal}
use Rattle.std.specs.Ordering.{match_ordering, nat_cmp}
use Rattle.job_lane.specs.Runs.{put_before}
use Rattle.rising_rows.specs.Rising.{put_row}
use Rattle.rising_rows.specs.Seats.{key_order, IsSeat}
use Rattle.rising_rows.proofs.SeatLemmas.{less-nat, greater-nat, put-between}
use Rattle.run_queues.specs.declared.serving.Serving.{Serving}

fresh_step : {R : Type 0} (key : R → ℕ) (p : R → Bool) (row y : R) (ys : List R) (b c : Bool) → p y ≡ b → nat_lt (key row) (key y) ≡ b → (key row == key y) ≡ c → list_any (λ r. key row == key r) (y ∷ ys) ≡ false
    → (list_any (λ r. key row == key r) ys ≡ false → put_row key row ys ≡ put_before p row ys) → put_row key row (y ∷ ys) ≡ put_before p row (y ∷ ys)
fresh_step key p row y ys true c passes lt e new rest =
    let above : key row < key y = grind (arith, nat_tests) in
    ap (λ o. match_ordering o (y ∷ put_row key row ys) (row ∷ ys) (row ∷ y ∷ ys)) (greater-nat (key y) (key row) above) ∙ sym (rw passes refl)
fresh_step key p row y ys false true passes lt e new rest = let k = rw e at new in absurd cc
fresh_step key p row y ys false false passes lt e new rest =
    let below : key y < key row = grind (arith, nat_tests) in
    let k = rw e at new in
    ap (λ o. match_ordering o (y ∷ put_row key row ys) (row ∷ ys) (row ∷ y ∷ ys)) (less-nat (key y) (key row) below) ∙ (ap (λ zs. y ∷ zs) (rest k) ∙ sym (rw passes refl))

pub put_fresh : {R : Type 0} (key : R → ℕ) (p : R → Bool) (row : R) (rows : List R) → ((r : R) → p r ≡ nat_lt (key row) (key r)) → list_any (λ r. key row == key r) rows ≡ false → put_row key row rows ≡ put_before p row rows
put_fresh key p row [] same new = refl
put_fresh key p row (y ∷ ys) same new =
    fresh_step key p row y ys (nat_lt (key row) (key y)) (key row == key y) (same y) refl refl new (put_fresh key p row ys same)

-- it goes to its seat
pub put_seat : {R : Type 0} (key : R → ℕ) (row : R) (rows : List R) (at : ℕ) → IsSeat (key_order key (key row)) rows (Err at) → list_any (λ r. key row == key r) rows ≡ false → insert rows at row ≡ put_before (λ r. nat_lt (key row) (key r)) row rows
put_seat key row rows at seat new = put-between (key_order key (key row)) row rows at seat ∙ put_fresh key (λ r. nat_lt (key row) (key r)) row rows (λ r. refl) new

tied : (m n : ℕ) → nat_cmp m n ≡ Equal → (n == m) ≡ true
tied m n e = grind (arith, nat_tests)

taken_step : {R : Type 0} (key : R → ℕ) (row y : R) (ys : List R) (b : Bool) → (key row == key y) ≡ b → list_any (λ r. key row == key r) (y ∷ ys) ≡ false → (b ≡ false) × (list_any (λ r. key row == key r) ys ≡ false)
taken_step key row y ys true e new = let k = rw e at new in absurd cc
taken_step key row y ys false e new = (refl, rw e at new)

-- no row stands where it goes
pub not_taken : {R : Type 0} (key : R → ℕ) (row : R) (rows : List R) (at : ℕ) → at < length rows → ((d : R) → nat_cmp (key (get_or rows at d)) (key row) ≡ Equal) → list_any (λ r. key row == key r) rows ≡ false → ⊥
not_taken key row [] at lt same new = absurd (omega arith)
not_taken key row (y ∷ ys) zero lt same new = let k = taken_step key row y ys true (tied (key y) (key row) (same row)) new in absurd cc
not_taken key row (y ∷ ys) (suc at) lt same new = not_taken key row ys at (omega arith) (λ d. same d) (taken_step key row y ys (key row == key y) refl new).1

pub one_more : (m n : ℕ) → nat_lt m n ≡ nat_lt (m + 1) (n + 1)
one_more m n = by_test (nat_lt m n) refl where
  by_test : (b : Bool) → nat_lt m n ≡ b → b ≡ nat_lt (m + 1) (n + 1)
  by_test true e = grind (arith, nat_tests)
  by_test false e = grind (arith, nat_tests)

key_apart : (m n : ℕ) → (m == n) ≡ false → (m + 1 == n + 1) ≡ false
key_apart m n e = grind (arith, nat_tests)

-- a runner that serves no job has a new key
pub free_key : (r : ℕ) (ss : List Serving) → find (λ (s : Serving). r == s.runner) ss ≡ None → list_any (λ (s : Serving). r + 1 == s.runner + 1) ss ≡ false
free_key r [] none = refl
free_key r (s ∷ ss) none = by_test (r == s.runner) refl none (free_key r ss) where
  by_test : (b : Bool) → (r == s.runner) ≡ b → find (λ (s : Serving). r == s.runner) (s ∷ ss) ≡ None → (find (λ (s : Serving). r == s.runner) ss ≡ None → list_any (λ (s : Serving). r + 1 == s.runner + 1) ss ≡ false) → list_any (λ (s : Serving). r + 1 == s.runner + 1) (s ∷ ss) ≡ false
  by_test true e h rest = let k = rw e at h in absurd cc
  by_test false e h rest = let k = rw e at h in rw (key_apart r s.runner e) (rest k)
