-- A Poll is by a free runner, so a runner has at most one run.
use Rattle.std.proofs.Common.{◌≡◌, ℕ, ◌+◌, ◌≤◌, ◌==◌, nat_lt, Bool, true, false, if◌then◌else◌, List, Option, None, Some, refl, sym, arith}
use Rattle.std.proofs.lemmas.Bool.{false≢true}
use Rattle.std.proofs.lemmas.Bool.Decides.{nat_tests}
use Rattle.job_values.specs.declared.run.Run.{Run}
use Rattle.job_events.specs.declared.executor.ExecutorEvent.{ExecutorEvent}
use Rattle.job_events.specs.declared.executor.ExecutorEvent.TheVariants as event
use Rattle.job_events.specs.declared.executor.ExecutorReply.{ExecutorReply}
use Rattle.job_lane.specs.Runs.{is_running, is_overdue}
use Rattle.executor_history.specs.declared.records.Queued.{Queued}
use Rattle.executor_history.specs.declared.records.Working.{Working}
use Rattle.executor_history.specs.History.{History, Opening, After, accepted, with_accepted, is_refusal}
use Rattle.executor_history.specs.Runs.{is_cover, is_on, ready_front, run_on, ended_of, expired_of, put_working, working_run}
use Rattle.executor_history.specs.Past.{queued, on_runners, left_working}
use Rattle.executor_history.specs.Replies.{poll_reply, reply_of}
use Rattle.executor_history.specs.Legal.{IsLegal}
use Rattle.executor_laws.specs.Given.{times}
use Rattle.executor_laws.proofs.Times.{times-put, times-without, times-map}
use Rattle.executor_laws.proofs.Each.{not-found}

abbrev pub Free : History → Type 0
Free (Opening names kept) = Unit {0}
Free (After h (event.Poll runner at) r) = Free h × (run_on runner (on_runners h) ≡ None)
Free (After h e r) = Free h

poll_case : (o : Option Working) (front : Option Queued) → is_refusal (poll_reply o front) ≡ false → o ≡ None
poll_case None front e = refl
poll_case (Some w) front e = absurd (false≢true (sym e))

free_step : (h : History) (e : ExecutorEvent) (r : ExecutorReply) → Free (accepted h) → r ≡ reply_of h e → is_refusal r ≡ false → Free (After (accepted h) e r)
free_step h (event.Poll runner at) r free is taken = (free, poll_case (run_on runner (on_runners (accepted h))) (ready_front (queued (accepted h)) (on_runners (accepted h))) (rw is at taken))
free_step h e r free is taken = free

free_case : (h : History) (e : ExecutorEvent) (r : ExecutorReply) (b : Bool) → is_refusal r ≡ b → Free (accepted h) → r ≡ reply_of h e → Free (with_accepted b (accepted h) e r)
free_case h e r true is free reply = free
free_case h e r false is free reply = free_step h e r free reply is

pub free_of : (h : History) → IsLegal h → Free (accepted h)
free_of (Opening names kept) legal = tt
free_of (After h e r) legal = free_case h e r (is_refusal r) refl (free_of h legal.0) legal.1

-- ---- one run a runner
ended_case : (n job : ℕ) (w : Working) (b c : Bool) → (job == w.job) ≡ b → is_running w.run ≡ c → is_on n (ended_of job w) ≡ is_on n w
ended_case n job w true true e f = rw (e, f) refl
ended_case n job w true false e f = rw (e, f) refl
ended_case n job w false c e f = rw e refl

ended_on : (n job : ℕ) (w : Working) → is_on n (ended_of job w) ≡ is_on n w
ended_on n job w = ended_case n job w (job == w.job) (is_running w.run) refl refl

expired_case : (n at : ℕ) (w : Working) (b : Bool) → is_overdue at w.run ≡ b → is_on n (expired_of at w) ≡ is_on n w
expired_case n at w true e = rw e refl
expired_case n at w false e = rw e refl

expired_on : (n at : ℕ) (w : Working) → is_on n (expired_of at w) ≡ is_on n w
expired_on n at w = expired_case n at w (is_overdue at w.run) refl

left_on : (n : ℕ) (run : Run) (ws : List Working) (b : Bool) → is_cover run ≡ b → times (is_on n) (left_working run ws) ≡ times (is_on n) ws
left_on n run ws true e = rw e (times-map (ended_of run.job) (is_on n) (ended_on n run.job) ws)
left_on n run ws false e = rw e refl

equal_of : (n m : ℕ) → (n == m) ≡ true → n ≡ m
equal_of n m e = grind (arith, nat_tests)

put_case : (n runner at : ℕ) (q : Queued) (ws : List Working) (b : Bool) → (n == runner) ≡ b → times (is_on n) ws ≤ 1 → times (is_on runner) ws ≡ 0 → times (is_on n) ws + (if n == runner then 1 else 0) ≤ 1
put_case n runner at q ws true e most none = let same = equal_of n runner e in let here : times (is_on n) ws ≡ 0 = rw same none in rw e (omega (arith, here))
put_case n runner at q ws false e most none = rw e (omega (arith, most))

put_on : (n runner at : ℕ) (o : Option Queued) (ws : List Working) → times (is_on n) ws ≤ 1 → run_on runner ws ≡ None → times (is_on n) (put_working runner at o ws) ≤ 1
put_on n runner at None ws most free = most
put_on n runner at (Some q) ws most free = rw (times-put (is_on n) (λ (w : Working). nat_lt runner w.run.runner) (working_run runner at q) ws) (put_case n runner at q ws (n == runner) refl most (not-found (is_on runner) ws free))

pub one_on : (h : History) → Free h → (n : ℕ) → times (is_on n) (on_runners h) ≤ 1
one_on (Opening names kept) free n = omega arith
one_on (After h (event.Run run at) r) free n = rw (left_on n run (on_runners h) (is_cover run) refl) (one_on h free n)
one_on (After h (event.Kill job) r) free n = rw (times-map (ended_of job) (is_on n) (ended_on n job) (on_runners h)) (one_on h free n)
one_on (After h (event.Poll runner at) r) free n = put_on n runner at (ready_front (queued h) (on_runners h)) (on_runners h) (one_on h free.0 n) free.1
one_on (After h (event.Finish runner at code text) r) free n = let t = times-without (is_on runner) (is_on n) (on_runners h) in let m = one_on h free n in omega (arith, t, m)
one_on (After h (event.Expire at) r) free n = rw (times-map (expired_of at) (is_on n) (expired_on n at) (on_runners h)) (one_on h free n)
one_on (After h e r) free n = one_on h free n
