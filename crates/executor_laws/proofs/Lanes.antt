-- A lane has at most one run that runs.
use Rattle.std.proofs.Common.{◌≡◌, ℕ, ◌+◌, ◌≤◌, ◌==◌, nat_lt, Bool, true, false, not, ◌&&◌, ◌||◌, if◌then◌else◌, List, [], ◌∷◌, Option, None, Some, map, refl, sym, arith}
use Rattle.std.proofs.lemmas.Bool.{false≢true}
use Rattle.std.proofs.lemmas.Bool.Decides.{nat_tests}
use Rattle.std.specs.List.{list_any}
use Rattle.job_values.specs.declared.run.Run.{Run}
use Rattle.job_events.specs.declared.executor.ExecutorEvent.TheVariants as event
use Rattle.job_lane.specs.Runs.{is_running, is_overdue}
use Rattle.executor_history.specs.declared.records.Queued.{Queued}
use Rattle.executor_history.specs.declared.records.Working.{Working}
use Rattle.executor_history.specs.History.{History, Opening, After}
use Rattle.executor_history.specs.Runs.{is_cover, is_on, is_ready, is_running_of, ready_front, ended_of, expired_of, put_working, working_run}
use Rattle.executor_history.specs.Past.{queued, on_runners, left_working}
use Rattle.executor_laws.specs.Given.{times}
use Rattle.executor_laws.proofs.Times.{times-put, times-without}
use Rattle.executor_laws.proofs.Each.{IfFound, found-passes}

fewer_step : (a b : Bool) (n m : ℕ) → (a ≡ true → b ≡ true) → n ≤ m → (if a then 1 else 0) + n ≤ (if b then 1 else 0) + m
fewer_step true true n m h le = omega (arith, le)
fewer_step true false n m h le = absurd (false≢true (h refl))
fewer_step false true n m h le = omega (arith, le)
fewer_step false false n m h le = omega (arith, le)

times-fewer : {X : Type 0} (g : X → X) (p : X → Bool) → ((x : X) → p (g x) ≡ true → p x ≡ true) → (xs : List X) → times p (map g xs) ≤ times p xs
times-fewer g p h [] = omega arith
times-fewer g p h (x ∷ xs) = fewer_step (p (g x)) (p x) (times p (map g xs)) (times p xs) (h x) (times-fewer g p h xs)

-- a run that is ended or expired does not run
ended_case : (job n : ℕ) (w : Working) (b c : Bool) → (n == w.job) ≡ b → is_running w.run ≡ c → is_running_of job (ended_of n w) ≡ true → is_running_of job w ≡ true
ended_case job n w true true e f h = let k = rw (e, f) at h in absurd (no_both (job == w.job) w.run.given k) where
  no_both : (b g : Bool) → (b && not (true || g)) ≡ true → ⊥
  no_both true g h = false≢true h
  no_both false g h = false≢true h
ended_case job n w true false e f h = rw (e, f) at h
ended_case job n w false c e f h = rw e at h

expired_case : (job at : ℕ) (w : Working) (b : Bool) → is_overdue at w.run ≡ b → is_running_of job (expired_of at w) ≡ true → is_running_of job w ≡ true
expired_case job at w true e h = let k = rw e at h in absurd (no_both (job == w.job) w.run.ended k) where
  no_both : (b g : Bool) → (b && not (g || true)) ≡ true → ⊥
  no_both true true h = false≢true h
  no_both true false h = false≢true h
  no_both false g h = false≢true h
expired_case job at w false e h = rw e at h

left_lanes : (job : ℕ) (run : Run) (ws : List Working) (b : Bool) → is_cover run ≡ b → times (is_running_of job) (left_working run ws) ≤ times (is_running_of job) ws
left_lanes job run ws true e = rw e (times-fewer (ended_of run.job) (is_running_of job) (λ w. ended_case job run.job w (run.job == w.job) (is_running w.run) refl refl) ws)
left_lanes job run ws false e = rw e (omega arith)

none_step : {X : Type 0} (p : X → Bool) (x : X) (xs : List X) (b : Bool) → p x ≡ b → list_any p (x ∷ xs) ≡ false → (list_any p xs ≡ false → times p xs ≡ 0) → times p (x ∷ xs) ≡ 0
none_step p x xs true e h rest = let k = rw e at h in absurd (false≢true (sym k))
none_step p x xs false e h rest = let k = rw e at h in rw e (omega (arith, rest k))

none_any : {X : Type 0} (p : X → Bool) (xs : List X) → list_any p xs ≡ false → times p xs ≡ 0
none_any p [] h = refl
none_any p (x ∷ xs) h = none_step p x xs (p x) refl h (none_any p xs)

not_true : (b : Bool) → not b ≡ true → b ≡ false
not_true true e = absurd (false≢true e)
not_true false e = refl

equal_of : (n m : ℕ) → (n == m) ≡ true → n ≡ m
equal_of n m e = grind (arith, nat_tests)

put_step : (job runner at : ℕ) (q : Queued) (ws : List Working) (b : Bool) → (job == q.job) ≡ b → times (is_running_of q.job) ws ≡ 0 → times (is_running_of job) ws ≤ 1 → times (is_running_of job) ws + (if is_running_of job (working_run runner at q) then 1 else 0) ≤ 1
put_step job runner at q ws true e none most = let one = equal_of job q.job e in let here : times (is_running_of job) ws ≡ 0 = rw one none in rw e (omega (arith, here))
put_step job runner at q ws false e none most = rw e (omega (arith, most))

put_lanes : (job runner at : ℕ) (o : Option Queued) (ws : List Working) → IfFound (λ q. is_ready ws q ≡ true) o → times (is_running_of job) ws ≤ 1 → times (is_running_of job) (put_working runner at o ws) ≤ 1
put_lanes job runner at None ws ready most = most
put_lanes job runner at (Some q) ws ready most =
    rw (times-put (is_running_of job) (λ (w : Working). nat_lt runner w.run.runner) (working_run runner at q) ws) (put_step job runner at q ws (job == q.job) refl (none_any (is_running_of q.job) ws (not_true (list_any (is_running_of q.job) ws) ready)) most)

pub one_runs : (h : History) (job : ℕ) → times (is_running_of job) (on_runners h) ≤ 1
one_runs (Opening names kept) job = omega arith
one_runs (After h (event.Run run at) r) job = let a = left_lanes job run (on_runners h) (is_cover run) refl in let m = one_runs h job in omega (arith, a, m)
one_runs (After h (event.Kill n) r) job =
    let a = times-fewer (ended_of n) (is_running_of job) (λ w. ended_case job n w (n == w.job) (is_running w.run) refl refl) (on_runners h) in let m = one_runs h job in omega (arith, a, m)
one_runs (After h (event.Poll runner at) r) job = put_lanes job runner at (ready_front (queued h) (on_runners h)) (on_runners h) (found-passes (is_ready (on_runners h)) (queued h)) (one_runs h job)
one_runs (After h (event.Finish runner at code text) r) job = let t = times-without (is_on runner) (is_running_of job) (on_runners h) in let m = one_runs h job in omega (arith, t, m)
one_runs (After h (event.Expire at) r) job =
    let a = times-fewer (expired_of at) (is_running_of job) (λ w. expired_case job at w (is_overdue at w.run) refl) (on_runners h) in let m = one_runs h job in omega (arith, a, m)
one_runs (After h e r) job = one_runs h job
