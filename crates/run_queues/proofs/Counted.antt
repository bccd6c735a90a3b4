-- The logs of the runs that wait, counted over each change.
use Rattle.std.proofs.Common.{◌≡◌, ℕ, ◌+◌, ◌-◌, ◌≤◌, Bool, true, false, cond, not, ◌==◌, nat_eq, nat_lt, List, [], ◌∷◌, ◌++◌, Some, if◌then◌else◌, map, filter, find, count_by, refl, sym, ap, subst, ◌∙◌, arith}
use Rattle.std.proofs.lemmas.Bool.Decides.{nat_tests}
use Rattle.std.proofs.lemmas.List.Sums.{sum_by-cons, sum_by_push}
use Rattle.std.specs.List.{IsDistinct, list_any}
use Rattle.std.specs.Map.{keys_of}
use Rattle.job_lane.specs.Runs.{without_first}
use Rattle.job_lane.specs.declared.runs.QueuedRun.{QueuedRun}
use Rattle.job_lane.specs.Lanes.{LaneView}
use Rattle.executor_history.specs.declared.records.Queued.{Queued}
use Rattle.executor_history.specs.Runs.{is_queued_of}
use Rattle.run_queues.specs.declared.front.Front.{Front}
use Rattle.run_queues.specs.Order.{queued_in, in_order, RisesWithin, Hold, first_of}
use Rattle.run_queues.specs.Waiting.{is_run_of, times, one_of, Counts}
use Rattle.run_queues.proofs.Holds.{seen}

count-cons : {X : Type 0} (p : X → Bool) (x : X) (xs : List X) → count_by p (x ∷ xs) ≡ cond (p x) 1 0 + count_by p xs
count-cons p x xs = sum_by-cons (λ y. cond (p y) 1 0) x xs

count-no : {X : Type 0} (p : X → Bool) (x : X) (xs : List X) → p x ≡ false → count_by p (x ∷ xs) ≡ count_by p xs
count-no p x xs e =
    let k = count-cons p x xs in
    let none : cond {A = ℕ} (p x) 1 0 ≡ 0 = rw e refl in
    omega (arith, k, none)

-- ---- whether there are some
pub any-counted : (p : Queued → Bool) (qs : List Queued) → nat_lt 0 (count_by p qs) ≡ list_any p qs
any-counted p [] = refl
any-counted p (q ∷ qs) = by_test (p q) refl (any-counted p qs) where
  some_more : (n : ℕ) → nat_lt 0 (1 + n) ≡ true
  some_more n = grind (arith, nat_tests)

  by_test : (b : Bool) → p q ≡ b → nat_lt 0 (count_by p qs) ≡ list_any p qs → nat_lt 0 (count_by p (q ∷ qs)) ≡ list_any p (q ∷ qs)
  by_test true e h = ap (nat_lt 0) (count-cons p q qs) ∙ rw e (some_more (count_by p qs))
  by_test false e h = ap (nat_lt 0) (count-no p q qs e) ∙ (h ∙ rw e refl)

-- there are no more than the numbers that they have
pub counted-most : (p : Queued → Bool) (low high : ℕ) (qs : List Queued) → RisesWithin low qs high → low + count_by p qs ≤ high
counted-most p low high [] h = omega (arith, h)
counted-most p low high (q ∷ qs) h = omega (arith, count-cons p q qs, at_most (p q), counted-most p q.run.number high qs h.1, h.0) where
  at_most : (b : Bool) → cond {A = ℕ} b 1 0 ≤ 1
  at_most true = omega arith
  at_most false = omega arith

-- ---- a run put behind
of_turned : (log : ℕ) (q : Queued) → cond {A = ℕ} (q.run.log == log) 1 0 ≡ cond {A = ℕ} (is_run_of log q) 1 0
of_turned log q = by_test (q.run.log == log) refl where
  turn : (m n : ℕ) (b : Bool) → (m == n) ≡ b → (n == m) ≡ b
  turn m n true e = grind (arith, nat_tests)
  turn m n false e = grind (arith, nat_tests)

  by_test : (b : Bool) → (q.run.log == log) ≡ b → cond {A = ℕ} (q.run.log == log) 1 0 ≡ cond {A = ℕ} (is_run_of log q) 1 0
  by_test true e = rw (e, turn q.run.log log true e) refl
  by_test false e = rw (e, turn q.run.log log false e) refl

pub pushed-counts : (logs logs' : List (ℕ × ℕ)) (qs : List Queued) (new : Queued) → Counts logs qs → IsDistinct nat_eq (keys_of logs')
    → ((log : ℕ) → times log logs' ≡ times log logs + (if new.run.log == log then 1 else 0)) → Counts logs' (qs ++ new ∷ [])
pushed-counts logs logs' qs new h once is = record {
  once = once;
  times_are = λ log. is log ∙ (ap (λ n. n + (if new.run.log == log then 1 else 0)) (h.times_are log) ∙ (ap (λ n. count_by (is_run_of log) qs + n) (of_turned log new) ∙ sym (sum_by_push (λ (q : Queued). cond (is_run_of log q) 1 0) qs new)));
}

-- ---- a run taken out
less_step : (p r : Queued → Bool) (x q : Queued) (qs : List Queued) (b : Bool) → r q ≡ b → find r (q ∷ qs) ≡ Some x → (find r qs ≡ Some x → count_by p qs ≡ count_by p (without_first r qs) + cond (p x) 1 0)
    → count_by p (q ∷ qs) ≡ count_by p (without_first r (q ∷ qs)) + cond (p x) 1 0
less_step p r x q qs true e is rest =
    let k = rw e at is in
    let same : q ≡ x = cc in
    rw (e, ← same) (count-cons p q qs ∙ omega arith)
less_step p r x q qs false e is rest =
    let h = rest (rw e at is) in
    let a = count-cons p q qs in
    let b = count-cons p q (without_first r qs) in
    rw e (omega (arith, h, a, b))

counted-less : (p r : Queued → Bool) (x : Queued) (qs : List Queued) → find r qs ≡ Some x → count_by p qs ≡ count_by p (without_first r qs) + cond (p x) 1 0
counted-less p r x [] is = absurd cc
counted-less p r x (q ∷ qs) is = less_step p r x q qs (r q) refl is (counted-less p r x qs)

one_is : (log job : ℕ) (queue : List QueuedRun) (x : Queued) → first_of (map (queued_in job) queue) ≡ Some x → one_of log (first_of queue) ≡ cond (is_run_of log x) 1 0
one_is log job [] x is = absurd cc
one_is log job (run ∷ queue) x is = let same : queued_in job run ≡ x = cc in ap (λ (q : Queued). cond (is_run_of log q) 1 0) same

pub took-counts : (r : Queued → Bool) (x : Queued) (job : ℕ) (queue : List QueuedRun) (logs logs' : List (ℕ × ℕ)) (qs : List Queued) → Counts logs qs → find r qs ≡ Some x → first_of (map (queued_in job) queue) ≡ Some x → IsDistinct nat_eq (keys_of logs')
    → ((log : ℕ) → times log logs' ≡ times log logs - one_of log (first_of queue)) → Counts logs' (without_first r qs)
took-counts r x job queue logs logs' qs h is first once new = record {
  once = once;
  times_are = λ log.
      let a = new log in
      let b = h.times_are log in
      let c = one_is log job queue x first in
      let d = counted-less (is_run_of log) r x qs is in
      omega (arith, a, b, c, d);
}

-- ---- the queue of a job emptied
count_by-map : {A B : Type 0} (f : A → B) (p : B → Bool) (xs : List A) → count_by (λ y. p (f y)) xs ≡ count_by p (map f xs)
count_by-map f p [] = refl
count_by-map f p (x ∷ xs) = count-cons (λ y. p (f y)) x xs ∙ (ap (λ n. cond (p (f x)) 1 0 + n) (count_by-map f p xs) ∙ sym (count-cons p (f x) (map f xs)))

split_step : (p r : Queued → Bool) (q : Queued) (qs : List Queued) (b : Bool) → r q ≡ b → count_by p qs ≡ count_by p (filter r qs) + count_by p (filter (λ x. not (r x)) qs)
    → count_by p (q ∷ qs) ≡ count_by p (filter r (q ∷ qs)) + count_by p (filter (λ x. not (r x)) (q ∷ qs))
split_step p r q qs true e h =
    let a = count-cons p q qs in
    let b = count-cons p q (filter r qs) in
    rw e (omega (arith, h, a, b))
split_step p r q qs false e h =
    let a = count-cons p q qs in
    let b = count-cons p q (filter (λ x. not (r x)) qs) in
    rw e (omega (arith, h, a, b))

counted-parts : (p r : Queued → Bool) (qs : List Queued) → count_by p qs ≡ count_by p (filter r qs) + count_by p (filter (λ x. not (r x)) qs)
counted-parts p r [] = refl
counted-parts p r (q ∷ qs) = split_step p r q qs (r q) refl (counted-parts p r qs)

pub dropped-counts : (job : ℕ) (queue : List QueuedRun) (logs logs' : List (ℕ × ℕ)) (qs : List Queued) → Counts logs qs → filter (is_queued_of job) qs ≡ map (queued_in job) queue → IsDistinct nat_eq (keys_of logs')
    → ((log : ℕ) → times log logs' ≡ times log logs - count_by (λ (run : QueuedRun). log == run.log) queue) → Counts logs' (filter (λ q. not (is_queued_of job q)) qs)
dropped-counts job queue logs logs' qs h are once new = record {
  once = once;
  times_are = λ log.
      let a = new log in
      let b = h.times_are log in
      let c = count_by-map (queued_in job) (is_run_of log) queue ∙ ap (count_by (is_run_of log)) (sym are) in
      let d = counted-parts (is_run_of log) (is_queued_of job) qs in
      omega (arith, a, b, c, d);
}

-- ---- as the queues tell the runs
pub counts-seen : (es : List (ℕ × LaneView)) (fs : List Front) (qs : List Queued) (last : ℕ) (logs : List (ℕ × ℕ)) → Hold es fs qs last → Counts logs qs → Counts logs (in_order es)
counts-seen es fs qs last logs h counts = let P : List Queued → Type 0 = λ ys. Counts logs ys in subst P (sym (seen es fs qs last h)) counts
