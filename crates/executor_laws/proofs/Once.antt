-- A run is given at most one item: those with its number are as many as were counted.
use Rattle.std.proofs.Common.{nat_lt, ◌≡◌, ℕ, ◌+◌, ◌≤◌, ◌==◌, Bool, true, false, ◌&&◌, if◌then◌else◌, List, [], ◌∷◌, ◌++◌, Option, None, Some, map, filter, refl, sym, ap, ◌∙◌, arith}
use Rattle.job_values.specs.declared.run.Run.{Run}
use Rattle.job_events.specs.declared.executor.FinishCode.{FinishCode}
use Rattle.job_events.specs.declared.executor.ExecutorEvent.TheVariants as event
use Rattle.job_events.specs.declared.executor.ExecutorEvent.{ExecutorEvent}
use Rattle.executor_history.specs.declared.records.Queued.{Queued}
use Rattle.executor_history.specs.declared.records.Working.{Working}
use Rattle.executor_history.specs.History.{History, Opening, After}
use Rattle.executor_history.specs.Runs.{is_cover, is_queued_of, is_late, run_on}
use Rattle.executor_history.specs.Items.{put_all, by_number, put_by_number}
use Rattle.executor_history.specs.Past.{queued, on_runners}
use Rattle.executor_laws.specs.Given.{times, RunItem, killed_run, killed_runs, covered_runs, expired_working, finished_runs, gives, given}
use Rattle.executor_laws.proofs.Times.{times-put}
use Rattle.executor_laws.proofs.Counts.{is_numbered, open_on, gives_times, given_times, holds}

append-step : {X : Type 0} (p : X → Bool) (x : X) (xs ys : List X) → times p (xs ++ ys) ≡ times p xs + times p ys → times p ((x ∷ xs) ++ ys) ≡ times p (x ∷ xs) + times p ys
append-step p x xs ys h = omega (arith, h)

pub times-append : {X : Type 0} (p : X → Bool) (xs ys : List X) → times p (xs ++ ys) ≡ times p xs + times p ys
times-append p [] ys = omega arith
times-append p (x ∷ xs) ys = append-step p x xs ys (times-append p xs ys)

pub times-map : {X Y : Type 0} (p : Y → Bool) (f : X → Y) (xs : List X) → times p (map f xs) ≡ times (λ x. p (f x)) xs
times-map p f [] = refl
times-map p f (x ∷ xs) = ap (λ n. (if p (f x) then 1 else 0) + n) (times-map p f xs)

filter-step : {X : Type 0} (p q : X → Bool) (x : X) (xs : List X) (b : Bool) → q x ≡ b → times p (filter q xs) ≡ times (λ y. q y && p y) xs → times p (filter q (x ∷ xs)) ≡ times (λ y. q y && p y) (x ∷ xs)
filter-step p q x xs true e h = rw e (ap (λ n. (if p x then 1 else 0) + n) h)
filter-step p q x xs false e h = rw e (h ∙ sym (zero-plus (times (λ y. q y && p y) xs))) where
  zero-plus : (n : ℕ) → 0 + n ≡ n
  zero-plus n = omega arith

times-filter : {X : Type 0} (p q : X → Bool) (xs : List X) → times p (filter q xs) ≡ times (λ y. q y && p y) xs
times-filter p q [] = refl
times-filter p q (x ∷ xs) = filter-step p q x xs (q x) refl (times-filter p q xs)

times-put_all : (p : Working → Bool) (ws sorted : List Working) → times p (put_all ws sorted) ≡ times p ws + times p sorted
times-put_all p [] sorted = omega arith
times-put_all p (w ∷ ws) sorted = let a = times-put_all p ws (put_by_number w sorted) in let b = times-put p (λ x. nat_lt w.number x.number) w sorted in omega (arith, a, b)

killed_times : (n job : ℕ) (qs : List Queued) → times (λ (r : RunItem). n == r.number) (killed_runs job qs) ≡ times (λ q. is_queued_of job q && is_numbered n q) qs
killed_times n job qs = times-map (λ (r : RunItem). n == r.number) killed_run (filter (is_queued_of job) qs) ∙ times-filter (is_numbered n) (is_queued_of job) qs

covered_times : (n : ℕ) (run : Run) (qs : List Queued) (b : Bool) → is_cover run ≡ b → times (λ (r : RunItem). n == r.number) (covered_runs run qs) ≡ (if is_cover run then times (λ q. is_queued_of run.job q && is_numbered n q) qs else 0)
covered_times n run qs true e = rw e (killed_times n run.job qs)
covered_times n run qs false e = rw e refl

finished_case : (n : ℕ) (code : FinishCode) (text : List ℕ) (w : Working) (b m : Bool) → w.run.given ≡ b → (n == w.number) ≡ m → times (λ (r : RunItem). n == r.number) (finished_runs code text (Some w)) ≡ open_on n (Some w)
finished_case n code text w true true e f = rw (e, f) refl
finished_case n code text w true false e f = rw (e, f) refl
finished_case n code text w false true e f = rw (e, f) refl
finished_case n code text w false false e f = rw (e, f) refl

finished_times : (n : ℕ) (code : FinishCode) (text : List ℕ) (o : Option Working) → times (λ (r : RunItem). n == r.number) (finished_runs code text o) ≡ open_on n o
finished_times n code text None = refl
finished_times n code text (Some w) = finished_case n code text w w.run.given (n == w.number) refl refl

expired_times : (n at : ℕ) (ws : List Working) → times (λ (r : RunItem). n == r.number) (map expired_working (by_number (filter (is_late at) ws))) ≡ times (λ w. is_late at w && n == w.number) ws
expired_times n at ws =
    let a = times-map (λ (r : RunItem). n == r.number) expired_working (by_number (filter (is_late at) ws)) in
    let b = times-put_all (λ w. n == w.number) (filter (is_late at) ws) [] in
    let c = times-filter (λ w. n == w.number) (is_late at) ws in
    a ∙ omega (arith, b) ∙ c

by_times : (h : History) (e : ExecutorEvent) (n : ℕ) → times (λ (r : RunItem). n == r.number) (gives h e) ≡ gives_times h e n
by_times h (event.Run run at) n = covered_times n run (queued h) (is_cover run) refl
by_times h (event.Kill job) n = killed_times n job (queued h)
by_times h (event.Finish runner at code text) n = finished_times n code text (run_on runner (on_runners h))
by_times h (event.Expire at) n = expired_times n at (on_runners h)
by_times h e n = refl

pub given_count : (h : History) (n : ℕ) → times (λ (r : RunItem). n == r.number) (given h) ≡ given_times h n
given_count (Opening names kept) n = refl
given_count (After h e r) n =
    let a = times-append (λ (x : RunItem). n == x.number) (given h) (gives h e) in
    let b = given_count h n in
    let c = by_times h e n in
    omega (arith, a, b, c)

-- a run is given at most one item
pub once : (h : History) (n : ℕ) → times (λ (r : RunItem). n == r.number) (given h) ≤ 1
once h n = let a = given_count h n in let b = (holds h n).most in omega (arith, a, b)
