-- A stop of all admins loses every waiting ticket.
use Rattle.std.proofs.Common.{◌≡◌, ℕ, zero, suc, ◌+◌, ◌<◌, ◌≤◌, List, [], ◌∷◌, Bool, true, false, cond, eqb, map, length, refl, sym, ◌∙◌, arith}
use Rattle.std.specs.List.{count_by, sum, range_with_len, AllByRecursion}
use Rattle.std.proofs.lemmas.Bool.{false≢true}
use Rattle.std.proofs.lemmas.Bool.Decides.{nat_tests}
use Rattle.std.proofs.lemmas.List.Sums.{sum_by-cons}
use Rattle.job_values.specs.declared.limits.TheConstants.{ADMINS}
use Rattle.cluster_history.specs.History.{History}
use Rattle.cluster_history.specs.Nodes.{runs, admins}
use Rattle.cluster_history.specs.Tickets.{Waiting, waiting, waiting_at, is_at}
use Rattle.cluster_history.specs.Replies.{over_running}
use Rattle.cluster_history.specs.Runs.{IsAnswered, AreWithin}
use Rattle.cluster_history.proofs.Running.{tickets_run, runs_low}
use Rattle.cluster_history.proofs.Reopened.{reopened_lost}
use Rattle.cluster_history.proofs.Counting.{count-cons}

sum-cons : (x : ℕ) (xs : List ℕ) → sum (x ∷ xs) ≡ x + sum xs
sum-cons x xs = sum_by-cons (λ y. y) x xs

sum-add : (f g t : ℕ → ℕ) → ((a : ℕ) → t a ≡ f a + g a) → (numbers : List ℕ) → sum (map t numbers) ≡ sum (map f numbers) + sum (map g numbers)
sum-add f g t add [] = omega arith
sum-add f g t add (a ∷ numbers) =
    omega (arith, sum-cons (t a) (map t numbers), sum-cons (f a) (map f numbers), sum-cons (g a) (map g numbers), add a, sum-add f g t add numbers)

sum-zero : (f : ℕ → ℕ) → ((a : ℕ) → f a ≡ 0) → (numbers : List ℕ) → sum (map f numbers) ≡ 0
sum-zero f zeros [] = refl
sum-zero f zeros (a ∷ numbers) = omega (arith, sum-cons (f a) (map f numbers), zeros a, sum-zero f zeros numbers)

-- a number is once in a range
at-one : (n a : ℕ) → n ≡ a → cond {A = ℕ} (eqb n a) 1 0 ≡ 1
at-one n a same = grind (arith, nat_tests)

at-none : (n a : ℕ) → (n < a) → cond {A = ℕ} (eqb n a) 1 0 ≡ 0
at-none n a below = grind (arith, nat_tests)

at-none_above : (n a : ℕ) → (a < n) → cond {A = ℕ} (eqb n a) 1 0 ≡ 0
at-none_above n a above = grind (arith, nat_tests)

range-none : (n from count : ℕ) → n < from → sum (map (λ a. cond (eqb n a) 1 0) (range_with_len from count)) ≡ 0
range-none n from zero below = refl
range-none n from (suc count) below =
    omega (arith, sum-cons (cond (eqb n from) 1 0) (map (λ a. cond (eqb n a) 1 0) (range_with_len (from + 1) count)), at-none n from below, range-none n (from + 1) count (omega arith))

range-step : (n from count : ℕ) (b : Bool) → eqb n from ≡ b → (from < n → sum (map (λ a. cond (eqb n a) 1 0) (range_with_len (from + 1) count)) ≡ 1) → from ≤ n
    → sum (map (λ a. cond (eqb n a) 1 0) (range_with_len from (suc count))) ≡ 1
range-step n from count true test more up =
    let same : n ≡ from = grind (arith, nat_tests) in
    omega (arith, sum-cons (cond (eqb n from) 1 0) (map (λ a. cond (eqb n a) 1 0) (range_with_len (from + 1) count)), at-one n from same, range-none n (from + 1) count (omega arith))
range-step n from count false test more up =
    let other : n ≡ from → ⊥ = λ (same : n ≡ from). let here : eqb n from ≡ true = grind (arith, nat_tests) in absurd (false≢true (sym test ∙ here)) in
    let above : from < n = omega arith in
    omega (arith, sum-cons (cond (eqb n from) 1 0) (map (λ a. cond (eqb n a) 1 0) (range_with_len (from + 1) count)), at-none_above n from above, more above)

range-one : (n from count : ℕ) → from ≤ n → n < from + count → sum (map (λ a. cond (eqb n a) 1 0) (range_with_len from count)) ≡ 1
range-one n from zero up below = absurd (omega arith)
range-one n from (suc count) up below = range-step n from count (eqb n from) refl (λ above. range-one n (from + 1) count (omega arith) (omega arith)) up

-- a ticket counts once among the admins
count-admins : (tickets : List Waiting) → AllByRecursion (λ ticket. ticket.admin < ADMINS) tickets → sum (map (λ a. count_by (is_at a) tickets) admins) ≡ length tickets
count-admins [] low = sum-zero (λ a. 0) (λ a. refl) admins
count-admins (ticket ∷ tickets) low =
    omega (
      arith,
      sum-add (λ a. cond (eqb ticket.admin a) 1 0) (λ a. count_by (is_at a) tickets) (λ a. count_by (is_at a) (ticket ∷ tickets)) (λ a. count-cons (is_at a) ticket tickets) admins,
      range-one ticket.admin 0 ADMINS (omega arith) (omega (arith, low.0)),
      count-admins tickets low.1,
    )

low-admins : (f : ℕ → Bool) (tickets : List Waiting) → ((a : ℕ) → f a ≡ true → a < ADMINS) → AllByRecursion (λ ticket. f ticket.admin ≡ true) tickets → AllByRecursion (λ ticket. ticket.admin < ADMINS) tickets
low-admins f [] low run = tt
low-admins f (ticket ∷ tickets) low run = (low ticket.admin run.0, low-admins f tickets low run.1)

-- over the admins that run, all waiting tickets are counted
pub lost-all : (h : History) → IsAnswered h → AreWithin h → over_running h (waiting_at h) ≡ length (waiting h)
lost-all h answered within = reopened_lost h answered ∙ count-admins (waiting h) (low-admins (runs h) (waiting h) (runs_low h within) (tickets_run h answered))
