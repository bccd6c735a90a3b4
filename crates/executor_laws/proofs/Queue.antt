-- The queue is the runs that were accepted and have neither Poll nor result.
use Rattle.std.proofs.Common.{◌≡◌, ℕ, ◌+◌, ◌<◌, ◌≤◌, ◌==◌, Bool, true, false, not, ◌&&◌, ◌||◌, if◌then◌else◌, List, [], ◌∷◌, ◌++◌, Option, None, Some, is_some, is_none, filter, find, refl, sym, ap, ◌∙◌, arith}
use Rattle.std.specs.List.{AllByRecursion as Each}
use Rattle.job_values.specs.declared.run.Run.{Run}
use Rattle.job_events.specs.declared.executor.ExecutorEvent.{ExecutorEvent}
use Rattle.job_events.specs.declared.executor.ExecutorEvent.TheVariants as event
use Rattle.job_events.specs.declared.executor.ExecutorReply.{ExecutorReply}
use Rattle.job_lane.specs.Runs.{is_running, without_first}
use Rattle.executor_history.specs.declared.records.Queued.{Queued}
use Rattle.executor_history.specs.declared.records.Working.{Working}
use Rattle.executor_history.specs.History.{History, Opening, After}
use Rattle.executor_history.specs.Runs.{is_cover, is_queued_of, is_ready, queued_run}
use Rattle.executor_history.specs.Past.{queued, on_runners, run_count, left_queued}
use Rattle.executor_laws.specs.Given.{times, RunItem, given}
use Rattle.executor_laws.specs.Results.{run_at, Start, started_of, is_ended, Result, result_of, result_told}
use Rattle.executor_laws.specs.Queue.{waits, runs, IsAccepted, InOrder}
use Rattle.executor_laws.proofs.Each.{each-append, each-weaker, each-filter, each-without, not-found, none-times}
use Rattle.executor_laws.proofs.Counts.{is_numbered, is_open, given_times, holds}
use Rattle.executor_laws.proofs.Once.{given_count}
use Rattle.executor_laws.proofs.Free.{Free}
use Rattle.executor_laws.proofs.Standing.{Waits, Works, start_of, equal_of, run_kept, same}
use Rattle.executor_laws.proofs.Stands.{Stands, stands}
use Rattle.executor_laws.proofs.Gives.{result_is_told}

-- ---- the numbers of accepted runs
bounds_case : (h : History) (later run : Run) (n : ℕ) (b : Bool) → (n == (run_count h + 1)) ≡ b → (run_at h n ≡ Some run → (1 ≤ n) × (n ≤ run_count h)) → (if n == (run_count h + 1) then Some later else run_at h n) ≡ Some run → (1 ≤ n) × (n ≤ run_count h + 1)
bounds_case h later run n true e before is = let one = equal_of n (run_count h + 1) e in (omega (arith, one), omega (arith, one))
bounds_case h later run n false e before is = let k = rw e at is in let b = before k in (b.0, omega (arith, b.1))

run_bounds : (h : History) (n : ℕ) (run : Run) → run_at h n ≡ Some run → (1 ≤ n) × (n ≤ run_count h)
run_bounds (Opening names kept) n run is = let never : ⊥ = cc is in absurd never
run_bounds (After h (event.Run later at) r) n run is = bounds_case h later run n (n == (run_count h + 1)) refl (run_bounds h n run) is
run_bounds (After h e r) n run is = run_bounds h n run is

-- ---- items
found-step : {X : Type 0} (p : X → Bool) (x y : X) (xs : List X) (b : Bool) → p x ≡ b → find p (x ∷ xs) ≡ Some y → (find p xs ≡ Some y → 1 ≤ times p xs) → 1 ≤ times p (x ∷ xs)
found-step p x y xs true e h rest = rw e (omega arith)
found-step p x y xs false e h rest = let k = rw e at h in rw e (omega (arith, rest k))

found-times : {X : Type 0} (p : X → Bool) (y : X) (xs : List X) → find p xs ≡ Some y → 1 ≤ times p xs
found-times p y [] h = let never : ⊥ = cc h in absurd never
found-times p y (x ∷ xs) h = found-step p x y xs (p x) refl h (found-times p y xs)

told-none : (o : Option RunItem) → result_told o ≡ None → o ≡ None
told-none None h = refl
told-none (Some x) h = let never : ⊥ = cc h in absurd never

told-some : (p : RunItem → Bool) (xs : List RunItem) (o : Option RunItem) (result : Result) → find p xs ≡ o → result_told o ≡ Some result → 1 ≤ times p xs
told-some p xs None result is h = let never : ⊥ = cc h in absurd never
told-some p xs (Some x) result is h = found-times p x xs is

none_given : (h : History) (n : ℕ) → Free h → result_of h n ≡ None → given_times h n ≡ 0
none_given h n free none =
    sym (given_count h n) ∙ not-found (λ (x : RunItem). n == x.number) (given h) (told-none (find (λ (x : RunItem). n == x.number) (given h)) (sym (result_is_told h free n) ∙ none))

some_given : (h : History) (n : ℕ) (result : Result) → Free h → result_of h n ≡ Some result → 1 ≤ given_times h n
some_given h n result free is =
    let some = told-some (λ (x : RunItem). n == x.number) (given h) (find (λ (x : RunItem). n == x.number) (given h)) result refl (sym (result_is_told h free n) ∙ is) in
    omega (arith, some, given_count h n)

-- ---- runs of a number
numbered_case : (h : History) (n : ℕ) (q : Queued) (b : Bool) → (n == q.run.number) ≡ b → (Waits h q → n ≡ q.run.number → ⊥) → Waits h q → is_numbered n q ≡ false
numbered_case h n q true e never w = absurd (never w (equal_of n q.run.number e))
numbered_case h n q false e never w = e

none_waits : (h : History) (n : ℕ) → ((q : Queued) → Waits h q → n ≡ q.run.number → ⊥) → Each (Waits h) (queued h) → times (is_numbered n) (queued h) ≡ 0
none_waits h n never all = none-times (is_numbered n) (queued h) (each-weaker (Waits h) (λ q. is_numbered n q ≡ false) (λ q w. numbered_case h n q (n == q.run.number) refl (never q) w) (queued h) all)

open_case : (h : History) (n : ℕ) (w : Working) (b : Bool) → (n == w.number) ≡ b → started_of h n ≡ None → Works h w → is_open n w ≡ false
open_case h n w true e none k =
    let one = equal_of n w.number e in
    let start : started_of h n ≡ Some (start_of w.run) = rw one k.started in
    let never : ⊥ = cc in absurd never
open_case h n w false e none k = rw e refl

none_open : (h : History) (n : ℕ) → started_of h n ≡ None → Each (Works h) (on_runners h) → times (is_open n) (on_runners h) ≡ 0
none_open h n none all = none-times (is_open n) (on_runners h) (each-weaker (Works h) (λ w. is_open n w ≡ false) (λ w k. open_case h n w (n == w.number) refl none k) (on_runners h) all)

no_accepted : (h : History) (n : ℕ) → run_at h n ≡ None → (q : Queued) → Waits h q → n ≡ q.run.number → ⊥
no_accepted h n none q w one = let is : run_at h n ≡ Some w.run = rw one w.is_run in cc

no_polled : (h : History) (n : ℕ) (start : Start) → started_of h n ≡ Some start → (q : Queued) → Waits h q → n ≡ q.run.number → ⊥
no_polled h n start some q w one = let is : started_of h n ≡ None = rw one w.no_start in cc

no_settled : (h : History) (n : ℕ) (result : Result) → result_of h n ≡ Some result → (q : Queued) → Waits h q → n ≡ q.run.number → ⊥
no_settled h n result some q w one = let is : result_of h n ≡ None = rw one w.no_result in cc

waits_case : (h : History) (n : ℕ) (a : Option Run) (b : Option Start) (c : Option Result) → run_at h n ≡ a → started_of h n ≡ b → result_of h n ≡ c → Free h → times (is_numbered n) (queued h) ≡ (if waits h n then 1 else 0)
waits_case h n None b c ea eb ec free = rw ea (none_waits h n (no_accepted h n ea) (stands h free).waits)
waits_case h n (Some run) (Some start) c ea eb ec free = rw (ea, eb) (none_waits h n (no_polled h n start eb) (stands h free).waits)
waits_case h n (Some run) None (Some result) ea eb ec free = rw (ea, eb, ec) (none_waits h n (no_settled h n result ec) (stands h free).waits)
waits_case h n (Some run) None None ea eb ec free =
    let bounds = run_bounds h n run ea in
    let whole = (holds h n).whole bounds.0 bounds.1 in
    let none = none_given h n free ec in
    let working = none_open h n eb (stands h free).works in
    rw (ea, eb, ec) (omega (arith, whole, none, working))

-- as many queued runs of a number as wait by the entries
pub waits_is : (h : History) (n : ℕ) → Free h → times (λ (q : Queued). n == q.run.number) (queued h) ≡ (if waits h n then 1 else 0)
waits_is h n free = waits_case h n (run_at h n) (started_of h n) (result_of h n) refl refl refl free

-- ---- runs that run
same_step : (a b : Bool) (n m : ℕ) → a ≡ b → n ≡ m → (if a then 1 else 0) + n ≡ (if b then 1 else 0) + m
same_step a b n m e f = rw (e, f) refl

times-same : {X : Type 0} (p q : X → Bool) (xs : List X) → Each (λ x. p x ≡ q x) xs → times p xs ≡ times q xs
times-same p q [] all = refl
times-same p q (x ∷ xs) all = same_step (p x) (q x) (times p xs) (times q xs) all.0 (times-same p q xs all.1)

abbrev is_running_at : ℕ → Working → Bool
is_running_at n w = n == w.number && is_running w.run

running_case : (h : History) (n : ℕ) (w : Working) (ended b g : Bool) → is_ended h n ≡ ended → (n == w.number) ≡ b → w.run.given ≡ g → Works h w → is_running_at n w ≡ (not ended && is_open n w)
running_case h n w true false g ee e f k = rw e refl
running_case h n w false false g ee e f k = rw e refl
running_case h n w true true true ee e f k = rw (e, f) (or_true w.run.ended) where
  or_true : (b : Bool) → not (b || true) ≡ false
  or_true true = refl
  or_true false = refl
running_case h n w false true true ee e f k = rw (e, f) (or_true w.run.ended) where
  or_true : (b : Bool) → not (b || true) ≡ false
  or_true true = refl
  or_true false = refl
running_case h n w ended true false ee e f k =
    let one = equal_of n w.number e in
    let is : w.run.ended ≡ ended = sym (k.as_ended f) ∙ ap (is_ended h) (sym one) ∙ ee in
    rw (e, f, is) (last ended) where
      last : (b : Bool) → not (b || false) ≡ (not b && true)
      last true = refl
      last false = refl

runs_count : (h : History) (n : ℕ) (ended : Bool) → is_ended h n ≡ ended → Each (Works h) (on_runners h) → times (is_running_at n) (on_runners h) ≡ times (λ w. not ended && is_open n w) (on_runners h)
runs_count h n ended ee all =
    times-same (is_running_at n) (λ w. not ended && is_open n w) (on_runners h)
    (each-weaker (Works h) (λ w. is_running_at n w ≡ (not ended && is_open n w)) (λ w k. running_case h n w ended (n == w.number) w.run.given ee refl refl k) (on_runners h) all)

never_times : {X : Type 0} (xs : List X) → times (λ (x : X). false) xs ≡ 0
never_times [] = refl
never_times (x ∷ xs) = omega (arith, never_times xs)

accepted_run : (h : History) (n : ℕ) (start : Start) (o : Option Run) → run_at h n ≡ o → started_of h n ≡ Some start → Stands h → (1 ≤ n) × (n ≤ run_count h)
accepted_run h n start None is some s = let none = (s.unused n is).no_start in let never : ⊥ = cc in absurd never
accepted_run h n start (Some run) is some s = run_bounds h n run is

open_count : (h : History) (n : ℕ) (b : Option Start) (c : Option Result) → started_of h n ≡ b → result_of h n ≡ c → Free h → Stands h → times (is_open n) (on_runners h) ≡ (if is_some b && is_none c then 1 else 0)
open_count h n None c eb ec free s = none_open h n eb s.works
open_count h n (Some start) None eb ec free s =
    let bounds = accepted_run h n start (run_at h n) refl eb s in
    let whole = (holds h n).whole bounds.0 bounds.1 in
    let none = none_given h n free ec in
    let queue = none_waits h n (no_polled h n start eb) s.waits in
    omega (arith, whole, none, queue)
open_count h n (Some start) (Some result) eb ec free s =
    let most = (holds h n).most in
    let some = some_given h n result free ec in
    omega (arith, most, some)

runs_case : (h : History) (n : ℕ) (a : Bool) (b : Option Start) (c : Option Result) → is_ended h n ≡ a → started_of h n ≡ b → result_of h n ≡ c → Free h → times (is_running_at n) (on_runners h) ≡ (if runs h n then 1 else 0)
runs_case h n true b c ea eb ec free = rw (ea, eb) (runs_count h n true ea (stands h free).works ∙ never_times (on_runners h) ∙ none b) where
  none : (o : Option Start) → ◌≡◌ {A = ℕ} 0 (if is_some o && false then 1 else 0)
  none None = refl
  none (Some x) = refl
runs_case h n false b c ea eb ec free = rw (ea, eb, ec) (runs_count h n false ea (stands h free).works ∙ open_count h n b c eb ec free (stands h free))

-- as many runs of a number run as do by the entries
pub runs_is : (h : History) (n : ℕ) → Free h → times (λ (w : Working). n == w.number && is_running w.run) (on_runners h) ≡ (if runs h n then 1 else 0)
runs_is h n free = runs_case h n (is_ended h n) (started_of h n) (result_of h n) refl refl refl free

-- ---- order
filter-order : (p : Queued → Bool) (q : Queued) (qs : List Queued) (b : Bool) → p q ≡ b → InOrder (q ∷ qs) → InOrder (filter p qs) → InOrder (filter p (q ∷ qs))
filter-order p q qs true e all rest = rw e (each-filter (λ (later : Queued). q.run.number < later.run.number) p qs all.0, rest)
filter-order p q qs false e all rest = rw e rest

order-filter : (p : Queued → Bool) (qs : List Queued) → InOrder qs → InOrder (filter p qs)
order-filter p [] all = tt
order-filter p (q ∷ qs) all = filter-order p q qs (p q) refl all (order-filter p qs all.1)

without-order : (p : Queued → Bool) (q : Queued) (qs : List Queued) (b : Bool) → p q ≡ b → InOrder (q ∷ qs) → InOrder (without_first p qs) → InOrder (without_first p (q ∷ qs))
without-order p q qs true e all rest = rw e all.1
without-order p q qs false e all rest = rw e (each-without (λ (later : Queued). q.run.number < later.run.number) p qs all.0, rest)

order-without : (p : Queued → Bool) (qs : List Queued) → InOrder qs → InOrder (without_first p qs)
order-without p [] all = tt
order-without p (q ∷ qs) all = without-order p q qs (p q) refl all (order-without p qs all.1)

order-push : (new : Queued) (qs : List Queued) → Each (λ (q : Queued). q.run.number < new.run.number) qs → InOrder qs → InOrder (qs ++ new ∷ [])
order-push new [] below all = (tt, tt)
order-push new (q ∷ qs) below all = (each-append (λ (later : Queued). q.run.number < later.run.number) qs (new ∷ []) all.0 (below.0, tt), order-push new qs below.1 all.1)

-- ---- what is queued
-- a queued run is the accepted one of its number, which is one of those so far
pub record IsOne (h : History) (q : Queued) : Type 0 where
  pub run : Run
  pub is_run : run_at h q.run.number ≡ Some run
  pub is : q ≡ record { job = run.job; run = queued_run q.run.number run }
  pub below : q.run.number ≤ run_count h

one_after : (h : History) (e : ExecutorEvent) (r : ExecutorReply) (q : Queued) → run_count h ≤ run_count (After h e r) → IsOne h q → IsOne (After h e r) q
one_after h e r q later one = record { run = one.run; is_run = run_kept h e r q.run.number one.below ∙ one.is_run; is = one.is; below = omega (arith, one.below, later) }

left-each : (P : Queued → Type 0) (run : Run) (qs : List Queued) (b : Bool) → is_cover run ≡ b → Each P qs → Each P (left_queued run qs)
left-each P run qs true e all = rw e (each-filter P (λ q. not (is_queued_of run.job q)) qs all)
left-each P run qs false e all = rw e all

left-order : (run : Run) (qs : List Queued) (b : Bool) → is_cover run ≡ b → InOrder qs → InOrder (left_queued run qs)
left-order run qs true e all = rw e (order-filter (λ q. not (is_queued_of run.job q)) qs all)
left-order run qs false e all = rw e all

ones : (h : History) → Each (IsOne h) (queued h)
ones (Opening names kept) = tt
ones (After h (event.Run run at) r) =
    let h' : History = After h (event.Run run at) r in
    each-append (IsOne h') (left_queued run (queued h)) (record { job = run.job; run = queued_run (run_count h + 1) run } ∷ [])
    (left-each (IsOne h') run (queued h) (is_cover run) refl (each-weaker (IsOne h) (IsOne h') (λ q one. one_after h (event.Run run at) r q (omega arith) one) (queued h) (ones h)))
    (record { run = run; is_run = ap (λ (b : Bool). if b then Some run else run_at h (run_count h + 1)) (same (run_count h + 1)); is = refl; below = omega arith }, tt)
ones (After h (event.Kill job) r) = each-weaker (IsOne h) (IsOne (After h (event.Kill job) r)) (λ q one. one_after h (event.Kill job) r q (omega arith) one) (filter (λ q. not (is_queued_of job q)) (queued h)) (each-filter (IsOne h) (λ q. not (is_queued_of job q)) (queued h) (ones h))
ones (After h (event.Poll runner at) r) = each-weaker (IsOne h) (IsOne (After h (event.Poll runner at) r)) (λ q one. one_after h (event.Poll runner at) r q (omega arith) one) (without_first (is_ready (on_runners h)) (queued h)) (each-without (IsOne h) (is_ready (on_runners h)) (queued h) (ones h))
ones (After h e r) = each-weaker (IsOne h) (IsOne (After h e r)) (λ q one. record { run = one.run; is_run = one.is_run; is = one.is; below = one.below }) (queued h) (ones h)

pub accepted_ones : (h : History) → Each (IsAccepted h) (queued h)
accepted_ones h = each-weaker (IsOne h) (IsAccepted h) (λ q one. (one.run, one.is_run, one.is)) (queued h) (ones h)

pub in_order : (h : History) → InOrder (queued h)
in_order (Opening names kept) = tt
in_order (After h (event.Run run at) r) =
    order-push (record { job = run.job; run = queued_run (run_count h + 1) run }) (left_queued run (queued h))
    (left-each (λ (q : Queued). q.run.number < run_count h + 1) run (queued h) (is_cover run) refl (each-weaker (IsOne h) (λ (q : Queued). q.run.number < run_count h + 1) (λ q one. omega (arith, one.below)) (queued h) (ones h)))
    (left-order run (queued h) (is_cover run) refl (in_order h))
in_order (After h (event.Kill job) r) = order-filter (λ q. not (is_queued_of job q)) (queued h) (in_order h)
in_order (After h (event.Poll runner at) r) = order-without (is_ready (on_runners h)) (queued h) (in_order h)
in_order (After h e r) = in_order h
