-- What a run was given, and what it can still be given, is one together.
use Rattle.std.proofs.Common.{◌≡◌, ℕ, ◌+◌, ◌<◌, ◌≤◌, nat_lt, Bool, true, false, not, ◌&&◌, ◌==◌, if◌then◌else◌, List, Option, None, Some, map, filter, refl, sym, ap, ◌∙◌, arith}
use Rattle.std.proofs.lemmas.Bool.{false≢true}
use Rattle.std.proofs.lemmas.Bool.Decides.{nat_tests}
use Rattle.job_values.specs.declared.run.Run.{Run}
use Rattle.job_events.specs.declared.executor.ExecutorEvent.{ExecutorEvent}
use Rattle.job_events.specs.declared.executor.ExecutorEvent.TheVariants as event
use Rattle.job_events.specs.declared.executor.ExecutorReply.{ExecutorReply}
use Rattle.job_lane.specs.Runs.{is_running, is_overdue, without_first}
use Rattle.executor_history.specs.declared.records.Queued.{Queued}
use Rattle.executor_history.specs.declared.records.Working.{Working}
use Rattle.executor_history.specs.History.{History, Opening, After}
use Rattle.executor_history.specs.Runs.{is_cover, is_queued_of, is_late, is_on, is_ready, ready_front, run_on, ended_of, expired_of, put_working, working_run, queued_run}
use Rattle.executor_history.specs.Past.{queued, on_runners, run_count}
use Rattle.executor_laws.specs.Given.{times}
use Rattle.executor_laws.proofs.Times.{times-push, times-put, times-split, once_if, times-without, times-map, times-map_split}

-- a queued run with this number
abbrev pub is_numbered : ℕ → Queued → Bool
is_numbered n q = n == q.run.number

-- a run with this number on a runner that has no result yet
abbrev pub is_open : ℕ → Working → Bool
is_open n w = n == w.number && not w.run.given

abbrev pub open_on : ℕ → Option Working → ℕ
open_on n None = 0
open_on n (Some w) = if is_open n w then 1 else 0

-- how many items an event gives for the run with this number
abbrev pub gives_times : History → ExecutorEvent → ℕ → ℕ
gives_times h (event.Run run at) n = if is_cover run then times (λ q. is_queued_of run.job q && is_numbered n q) (queued h) else 0
gives_times h (event.Kill job) n = times (λ q. is_queued_of job q && is_numbered n q) (queued h)
gives_times h (event.Finish runner at code text) n = open_on n (run_on runner (on_runners h))
gives_times h (event.Expire at) n = times (λ w. is_late at w && n == w.number) (on_runners h)
gives_times h _ n = 0

abbrev pub given_times : History → ℕ → ℕ
given_times (Opening names kept) n = 0
given_times (After h e r) n = gives_times h e n + given_times h n

-- what a run can still be given
abbrev pub pending : ℕ → List Queued → List Working → ℕ
pending n qs ws = times (is_numbered n) qs + times (is_open n) ws

-- a count that is one for each run that was accepted, and none for the later numbers
pub record Counted (n runs total : ℕ) : Type 0 where
  pub most : total ≤ 1
  pub fresh : runs < n → total ≡ 0
  pub whole : 1 ≤ n → n ≤ runs → total ≡ 1

abbrev pub Holds : History → ℕ → Type 0
Holds h n = Counted n (run_count h) (given_times h n + pending n (queued h) (on_runners h))

ended_case : (n : ℕ) (w : Working) (job : ℕ) (b c : Bool) → (job == w.job) ≡ b → is_running w.run ≡ c → is_open n (ended_of job w) ≡ is_open n w
ended_case n w job true true e f = rw (e, f) refl
ended_case n w job true false e f = rw (e, f) refl
ended_case n w job false c e f = rw e refl

ended_open : (n job : ℕ) (w : Working) → is_open n (ended_of job w) ≡ is_open n w
ended_open n job w = ended_case n w job (job == w.job) (is_running w.run) refl refl

expired_case : (n at : ℕ) (w : Working) (b g m : Bool) → is_overdue at w.run ≡ b → w.run.given ≡ g → (n == w.number) ≡ m → (b ≡ true → g ≡ false) → (if is_open n (expired_of at w) then 1 else 0) + (if is_late at w && n == w.number then 1 else 0) ≡ (if is_open n w then 1 else 0)
expired_case n at w true true m eb eg em safe = absurd (false≢true (sym (safe refl)))
expired_case n at w true false true eb eg em safe = rw (eb, eg, em) refl
expired_case n at w true false false eb eg em safe = rw (eb, eg, em) refl
expired_case n at w false g true eb eg em safe = rw (eb, eg, em) (omega arith)
expired_case n at w false g false eb eg em safe = rw (eb, eg, em) refl

overdue_open : (at : ℕ) (w : Working) (g : Bool) → w.run.given ≡ g → is_overdue at w.run ≡ true → g ≡ false
overdue_open at w true e h = let k = rw e at h in absurd (false≢true k)
overdue_open at w false e h = refl

expired_open : (n at : ℕ) (w : Working) → (if is_open n (expired_of at w) then 1 else 0) + (if is_late at w && n == w.number then 1 else 0) ≡ (if is_open n w then 1 else 0)
expired_open n at w = expired_case n at w (is_overdue at w.run) w.run.given (n == w.number) refl refl refl (overdue_open at w w.run.given refl)

and_true : (b : Bool) → (b && true) ≡ b
and_true true = refl
and_true false = refl

put_open : (n runner at : ℕ) (o : Option Queued) (ws : List Working) → times (is_open n) (put_working runner at o ws) ≡ times (is_open n) ws + once_if (is_numbered n) o
put_open n runner at None ws = omega arith
put_open n runner at (Some q) ws =
    times-put (is_open n) (λ (w : Working). nat_lt runner w.run.runner) (working_run runner at q) ws ∙ ap (λ (b : Bool). times (is_open n) ws + (if b then 1 else 0)) (and_true (n == q.run.number))

open_once : (n : ℕ) (o : Option Working) → open_on n o ≡ once_if (is_open n) o
open_once n None = refl
open_once n (Some w) = refl

numbered : (n k : ℕ) → (n ≡ k → ⊥) → (n == k) ≡ false
numbered n k h = grind (arith, nat_tests)

run_step : (n rc g q1 w1 cover q0 w0 new : ℕ) (b : Bool) → (n == (rc + 1)) ≡ b → new ≡ (if b then 1 else 0) → q1 + cover ≡ q0 → w1 ≡ w0 → Counted n rc (g + (q0 + w0))
    → Counted n (rc + 1) ((cover + g) + ((q1 + new) + w1))
run_step n rc g q1 w1 cover q0 w0 new true e is eq ew all =
    let one : n ≡ rc + 1 = grind (arith, nat_tests) in
    let none : g + (q0 + w0) ≡ 0 = all.fresh (omega arith) in
    record { most = omega arith; fresh = λ up. omega arith; whole = λ low high. omega arith }
run_step n rc g q1 w1 cover q0 w0 new false e is eq ew all =
    let most : g + (q0 + w0) ≤ 1 = all.most in
    let apart : n ≡ rc + 1 → ⊥ = λ one. grind (arith, nat_tests) in
    record {
      most = omega arith;
      fresh = λ up. let none : g + (q0 + w0) ≡ 0 = all.fresh (omega arith) in omega arith;
      whole = λ low high. let one : g + (q0 + w0) ≡ 1 = all.whole low (up_to n rc high apart) in omega arith;
    } where
      up_to : (n rc : ℕ) → n ≤ rc + 1 → (n ≡ rc + 1 → ⊥) → n ≤ rc
      up_to n rc high apart = omega (arith, high, apart)

abbrev new_of : History → Run → Queued
new_of h run = record { job = run.job; run = queued_run (run_count h + 1) run }

run_case : (h : History) (run : Run) (at : ℕ) (r : ExecutorReply) (n : ℕ) (b : Bool) → is_cover run ≡ b → Holds h n → Holds (After h (event.Run run at) r) n
run_case h run at r n true e ih =
    let qs = queued h in
    let ws = on_runners h in
    let s = times-split (is_queued_of run.job) (is_numbered n) qs in
    let m = times-map (ended_of run.job) (is_open n) (ended_open n run.job) ws in
    let t = times-push (is_numbered n) (filter (λ q. not (is_queued_of run.job q)) qs) (new_of h run) in
    let all = run_step n (run_count h) (given_times h n) (times (is_numbered n) (filter (λ q. not (is_queued_of run.job q)) qs)) (times (is_open n) ws) (times (λ q. is_queued_of run.job q && is_numbered n q) qs) (times (is_numbered n) qs) (times (is_open n) ws) (if n == (run_count h + 1) then 1 else 0) (n == (run_count h + 1)) refl refl s refl ih in
    rw (e, t, m) all
run_case h run at r n false e ih =
    let qs = queued h in
    let ws = on_runners h in
    let t = times-push (is_numbered n) qs (new_of h run) in
    let all = run_step n (run_count h) (given_times h n) (times (is_numbered n) qs) (times (is_open n) ws) 0 (times (is_numbered n) qs) (times (is_open n) ws) (if n == (run_count h + 1) then 1 else 0) (n == (run_count h + 1)) refl refl (omega arith) refl ih in
    rw (e, t) all

-- an entry that leaves the total as it was
same_total : (n runs before after : ℕ) → after ≡ before → Counted n runs before → Counted n runs after
same_total n runs before after e c = record { most = rw e c.most; fresh = λ up. e ∙ c.fresh up; whole = λ low high. e ∙ c.whole low high }

kill_case : (h : History) (job n : ℕ) → (times (λ q. is_queued_of job q && is_numbered n q) (queued h) + given_times h n) + pending n (filter (λ q. not (is_queued_of job q)) (queued h)) (map (ended_of job) (on_runners h)) ≡ given_times h n + pending n (queued h) (on_runners h)
kill_case h job n =
    let s = times-split (is_queued_of job) (is_numbered n) (queued h) in
    let m = times-map (ended_of job) (is_open n) (ended_open n job) (on_runners h) in
    omega (arith, s, m)

poll_case : (h : History) (runner at n : ℕ) → (0 + given_times h n) + pending n (without_first (is_ready (on_runners h)) (queued h)) (put_working runner at (ready_front (queued h) (on_runners h)) (on_runners h)) ≡ given_times h n + pending n (queued h) (on_runners h)
poll_case h runner at n =
    let t = times-without (is_ready (on_runners h)) (is_numbered n) (queued h) in
    let o = put_open n runner at (ready_front (queued h) (on_runners h)) (on_runners h) in
    omega (arith, t, o)

finish_case : (h : History) (runner n : ℕ) → (open_on n (run_on runner (on_runners h)) + given_times h n) + pending n (queued h) (without_first (is_on runner) (on_runners h)) ≡ given_times h n + pending n (queued h) (on_runners h)
finish_case h runner n =
    let t = times-without (is_on runner) (is_open n) (on_runners h) in
    let o = open_once n (run_on runner (on_runners h)) in
    omega (arith, t, o)

expire_case : (h : History) (at n : ℕ) → (times (λ w. is_late at w && n == w.number) (on_runners h) + given_times h n) + pending n (queued h) (map (expired_of at) (on_runners h)) ≡ given_times h n + pending n (queued h) (on_runners h)
expire_case h at n =
    let t = times-map_split (expired_of at) (is_open n) (λ (w : Working). is_late at w && n == w.number) (expired_open n at) (on_runners h) in
    omega (arith, t)

nothing : (n : ℕ) → 0 + n ≡ n
nothing n = omega arith

pub holds : (h : History) (n : ℕ) → Holds h n
holds (Opening names kept) n = record { most = omega arith; fresh = λ up. refl; whole = λ low high. absurd (omega arith) }
holds (After h (event.Run run at) r) n = run_case h run at r n (is_cover run) refl (holds h n)
holds (After h (event.Kill job) r) n = same_total n (run_count h) _ _ (kill_case h job n) (holds h n)
holds (After h (event.Poll runner at) r) n = same_total n (run_count h) _ _ (poll_case h runner at n) (holds h n)
holds (After h (event.Finish runner at code text) r) n = same_total n (run_count h) _ _ (finish_case h runner n) (holds h n)
holds (After h (event.Expire at) r) n = same_total n (run_count h) _ _ (expire_case h at n) (holds h n)
holds (After h e r) n = same_total n (run_count h) _ _ (ap (λ m. m + pending n (queued h) (on_runners h)) (nothing (given_times h n))) (holds h n)
