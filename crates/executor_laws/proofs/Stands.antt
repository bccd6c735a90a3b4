-- In a history whose Polls are by free runners, each run that waits or is on a runner stands as the entries say.
use Rattle.std.proofs.Common.{◌≡◌, ℕ, ◌+◌, ◌≤◌, ◌==◌, nat_lt, Bool, true, false, not, ◌&&◌, if◌then◌else◌, List, [], ◌∷◌, Option, None, Some, filter, find, refl, ap, ◌∙◌, arith}
use Rattle.std.specs.List.{AllByRecursion as Each}
use Rattle.job_values.specs.declared.run.Run.{Run}
use Rattle.job_events.specs.declared.executor.ExecutorEvent.{ExecutorEvent}
use Rattle.job_events.specs.declared.executor.ExecutorEvent.TheVariants as event
use Rattle.job_events.specs.declared.executor.ExecutorReply.{ExecutorReply}
use Rattle.job_lane.specs.Runs.{is_overdue, without_first}
use Rattle.executor_history.specs.declared.records.Queued.{Queued}
use Rattle.executor_history.specs.declared.records.Working.{Working}
use Rattle.executor_history.specs.History.{History, Opening, After}
use Rattle.executor_history.specs.Runs.{is_cover, is_queued_of, is_on, is_ready, ready_front, ended_of, expired_of, put_working, working_run, queued_run}
use Rattle.executor_history.specs.Past.{queued, on_runners, run_count, left_queued, left_working}
use Rattle.executor_laws.specs.Given.{times}
use Rattle.executor_laws.specs.Results.{first_of, run_at, Start, started_by, started_of, is_of, ends, is_ended, runner_result, result_of}
use Rattle.executor_laws.proofs.Times.{times-without, once_if}
use Rattle.executor_laws.proofs.Each.{each-append, each-put, each-weaker, each-map, each-kept, each-both, each-without, IfFound, each-find, times-none}
use Rattle.executor_laws.proofs.Counts.{is_numbered, holds}
use Rattle.executor_laws.proofs.Free.{Free, one_on}
use Rattle.executor_laws.proofs.Standing.{Waits, Works, start_of, equal_of, run_above, ends_none, no_more, end_kept, and_false, same, waits_after, works_after, waits_of, works_of, not_true, ended_works, expired_works}

-- what is said of a number that no run has
pub record Unused (h : History) (n : ℕ) : Type 0 where
  pub no_start : started_of h n ≡ None
  pub no_end : is_ended h n ≡ false
  pub no_result : result_of h n ≡ None

pub record Stands (h : History) : Type 0 where
  pub waits : Each (Waits h) (queued h)
  pub works : Each (Works h) (on_runners h)
  pub unused : (n : ℕ) → run_at h n ≡ None → Unused h n

-- ---- numbers that no run has
none_of : (b : Bool) (run : Run) (o : Option Run) → (if b then Some run else o) ≡ None → o ≡ None
none_of true run o e = absurd cc
none_of false run o e = e

run_before : (h : History) (e : ExecutorEvent) (r : ExecutorReply) (n : ℕ) → run_at (After h e r) n ≡ None → run_at h n ≡ None
run_before h (event.Run run at) r n none = none_of (n == (run_count h + 1)) run (run_at h n) none
run_before h e r n none = none

unused_after : (h : History) (e : ExecutorEvent) (r : ExecutorReply) (n : ℕ) → run_at h n ≡ None → Unused h n → started_of (After h e r) n ≡ started_of h n → Unused (After h e r) n
unused_after h e r n none u start =
    let spared : ends e (run_at h n) ≡ false = ap (ends e) none ∙ ends_none e in
    record {
      no_start = start ∙ u.no_start;
      no_end = end_kept (ends e (run_at h n)) (is_ended h n) spared ∙ u.no_end;
      no_result = no_more e (run_at h n) (result_of h n) (started_of h n) (is_ended h n) u.no_result u.no_start spared;
    }

-- ---- a Poll
later_start : (first later : Option Start) → later ≡ None → first_of first later ≡ first
later_start None later e = e
later_start (Some s) later e = refl

start_case : (h : History) (runner at n : ℕ) (q : Queued) (b : Bool) → (q.run.number == n) ≡ b → Waits h q → run_at h n ≡ None → started_by runner at (Some q) n ≡ None
start_case h runner at n q true e w none = let one = equal_of q.run.number n e in let k : run_at h n ≡ Some w.run = rw (← one) w.is_run in absurd cc
start_case h runner at n q false e w none = rw e refl

start_apart : (h : History) (runner at n : ℕ) (o : Option Queued) → IfFound (Waits h) o → run_at h n ≡ None → started_by runner at o n ≡ None
start_apart h runner at n None w none = refl
start_apart h runner at n (Some q) w none = start_case h runner at n q (q.run.number == n) refl w none

each-all : {X : Type 0} (P : X → Type 0) → ((x : X) → P x) → (xs : List X) → Each P xs
each-all P all [] = tt
each-all P all (x ∷ xs) = (all x, each-all P all xs)

not_started : (runner at : ℕ) (front q : Queued) → is_numbered front.run.number q ≡ false → started_by runner at (Some front) q.run.number ≡ None
not_started runner at front q e = rw e refl

-- no run that still waits has the number of the one that a Poll gives
others : (h : History) (runner at : ℕ) (o : Option Queued) → find (is_ready (on_runners h)) (queued h) ≡ o → Each (λ (q : Queued). started_by runner at o q.run.number ≡ None) (without_first (is_ready (on_runners h)) (queued h))
others h runner at None is = each-all (λ (q : Queued). started_by runner at None q.run.number ≡ None) (λ q. refl) (without_first (is_ready (on_runners h)) (queued h))
others h runner at (Some front) is =
    let t = times-without (is_ready (on_runners h)) (is_numbered front.run.number) (queued h) in
    let one : once_if (is_numbered front.run.number) (find (is_ready (on_runners h)) (queued h)) ≡ 1 = rw (is, same front.run.number) refl in
    let most = (holds h front.run.number).most in
    let none : times (is_numbered front.run.number) (without_first (is_ready (on_runners h)) (queued h)) ≡ 0 = omega (arith, t, one, most) in
    each-weaker (λ (q : Queued). is_numbered front.run.number q ≡ false) (λ (q : Queued). started_by runner at (Some front) q.run.number ≡ None) (not_started runner at front) (without_first (is_ready (on_runners h)) (queued h))
    (times-none (is_numbered front.run.number) (without_first (is_ready (on_runners h)) (queued h)) none)

kept_start : (first later : Option Start) (s : Start) → first ≡ Some s → first_of first later ≡ Some s
kept_start first later s e = rw e refl

polled_start : (runner at : ℕ) (q : Queued) (first : Option Start) (o : Option Queued) → first ≡ None → o ≡ Some q → first_of first (started_by runner at o q.run.number) ≡ Some (record { runner = runner; at = at })
polled_start runner at q first o e is = rw (e, is) (rw (same q.run.number) refl)

polled_works : (h : History) (runner at : ℕ) (r : ExecutorReply) (o : Option Queued) (ws : List Working) → ready_front (queued h) (on_runners h) ≡ o → IfFound (Waits h) o → Each (Works (After h (event.Poll runner at) r)) ws → Each (Works (After h (event.Poll runner at) r)) (put_working runner at o ws)
polled_works h runner at r None ws is w all = all
polled_works h runner at r (Some q) ws is w all =
    each-put (Works (After h (event.Poll runner at) r)) (λ (w : Working). nat_lt runner w.run.runner) (working_run runner at q) ws (
    record {
      run = w.run;
      is_run = w.is_run;
      of_job = w.of_job;
      of_log = w.of_log;
      of_timeout = w.of_timeout;
      below = w.below;
      started = polled_start runner at q (started_of h q.run.number) (ready_front (queued h) (on_runners h)) w.no_start is;
      as_ended = λ ungiven. w.no_end;
      no_result = λ ungiven. no_more (event.Poll runner at) (run_at h q.run.number) (result_of h q.run.number) (started_of h q.run.number) (is_ended h q.run.number) w.no_result w.no_start refl;
    }
    ) all

-- ---- a Run
cover_false : (b c : Bool) → b ≡ false → (b && c) ≡ false
cover_false b c e = rw e refl

cover_true : (b c d : Bool) → b ≡ true → c ≡ d → (b && c) ≡ d
cover_true b c d e f = rw e f

module _ (h : History) (run : Run) (at : ℕ) (r : ExecutorReply) where
  abbrev next : History
  next = After h (event.Run run at) r

  left_waits : (qs : List Queued) (b : Bool) → is_cover run ≡ b → Each (Waits h) qs → Each (Waits next) (left_queued run qs)
  left_waits qs true e all =
      rw e (each-weaker (λ (q : Queued). Waits h q × (not (is_queued_of run.job q) ≡ true)) (Waits next)
      (λ q a. waits_after h (event.Run run at) r q a.0 refl (and_false (is_cover run) (is_of run.job (run_at h q.run.number)) (waits_of h run.job q a.0 ∙ not_true (run.job == q.job) a.1)))
      (filter (λ q. not (is_queued_of run.job q)) qs) (each-kept (Waits h) (λ (q : Queued). not (is_queued_of run.job q)) qs all))
  left_waits qs false e all =
      rw e (each-weaker (Waits h) (Waits next) (λ q w. waits_after h (event.Run run at) r q w refl (cover_false (is_cover run) (is_of run.job (run_at h q.run.number)) e)) qs all)

  left_works : (ws : List Working) (b : Bool) → is_cover run ≡ b → Each (Works h) ws → Each (Works next) (left_working run ws)
  left_works ws true e all =
      rw e (each-map (Works next) (ended_of run.job) ws (each-weaker (Works h) (λ w. Works next (ended_of run.job w))
      (λ w k. ended_works h (event.Run run at) r run.job w (run.job == w.job) w.run.ended w.run.given refl refl refl k refl (cover_true (is_cover run) (is_of run.job (run_at h w.number)) (run.job == w.job) e (works_of h run.job w k)) (λ run s ended. refl)) ws all))
  left_works ws false e all =
      rw e (each-weaker (Works h) (Works next) (λ w k. works_after h (event.Run run at) r w k k.started (cover_false (is_cover run) (is_of run.job (run_at h w.number)) e) (λ ungiven. refl)) ws all)

  new_waits : Unused h (run_count h + 1) → Waits next (record { job = run.job; run = queued_run (run_count h + 1) run })
  new_waits u =
      let above : run_at h (run_count h + 1) ≡ None = run_above h (run_count h + 1) (omega arith) in
      let spared : ends (event.Run run at) (run_at h (run_count h + 1)) ≡ false = ap (ends (event.Run run at)) above ∙ ends_none (event.Run run at) in
      record {
        run = run;
        is_run = ap (λ (b : Bool). if b then Some run else run_at h (run_count h + 1)) (same (run_count h + 1));
        of_job = refl;
        of_log = refl;
        of_timeout = refl;
        below = omega arith;
        no_start = u.no_start;
        no_end = end_kept (ends (event.Run run at) (run_at h (run_count h + 1))) (is_ended h (run_count h + 1)) spared ∙ u.no_end;
        no_result = no_more (event.Run run at) (run_at h (run_count h + 1)) (result_of h (run_count h + 1)) (started_of h (run_count h + 1)) (is_ended h (run_count h + 1)) u.no_result u.no_start spared;
      }

-- ---- all
-- an entry that neither starts nor ends a run, and gives none a result
plain_after : (h : History) (e : ExecutorEvent) (r : ExecutorReply) → Stands h → ((n : ℕ) → started_of (After h e r) n ≡ started_of h n) → ((run : Option Run) → ends e run ≡ false)
    → queued (After h e r) ≡ queued h → on_runners (After h e r) ≡ on_runners h → ((run : Option Run) (s : Start) (ended : Bool) → runner_result e run s ended ≡ None) → Stands (After h e r)
plain_after h e r s start spared qs ws none = record {
  waits = rw qs (each-weaker (Waits h) (Waits (After h e r)) (λ q w. waits_after h e r q w (start q.run.number) (spared _)) (queued h) s.waits);
  works = rw ws (each-weaker (Works h) (Works (After h e r)) (λ w k. works_after h e r w k (start w.number ∙ k.started) (spared _) (λ ungiven. none _ _ _)) (on_runners h) s.works);
  unused = λ n no_run. let before = run_before h e r n no_run in unused_after h e r n before (s.unused n before) (start n);
}

left_runner : {X : Type 0} (x : X) (runner : ℕ) (w : Working) → is_on runner w ≡ false → (if runner == w.run.runner then Some x else None) ≡ None
left_runner x runner w e = rw e refl

once_step : {X : Type 0} (p : X → Bool) (x : X) (xs : List X) (b : Bool) → p x ≡ b → (if p x then 1 else 0) + times p xs ≤ 1 → (times p xs ≤ 1 → times p (without_first p xs) ≡ 0) → times p (without_first p (x ∷ xs)) ≡ 0
once_step p x xs true e most rest = let m = rw e at most in rw e (omega (arith, m))
once_step p x xs false e most rest = let m = rw e at most in rw e (rw e (omega (arith, rest (omega (arith, m)))))

once_found : {X : Type 0} (p : X → Bool) (xs : List X) → times p xs ≤ 1 → times p (without_first p xs) ≡ 0
once_found p [] most = refl
once_found p (x ∷ xs) most = once_step p x xs (p x) refl most (once_found p xs)

pub stands : (h : History) → Free h → Stands h
stands (Opening names kept) free = record { waits = tt; works = tt; unused = λ n none. record { no_start = refl; no_end = refl; no_result = refl } }
stands (After h (event.Run run at) r) free =
    let s = stands h free in
    record {
      waits = each-append (Waits (After h (event.Run run at) r)) (left_queued run (queued h)) (record { job = run.job; run = queued_run (run_count h + 1) run } ∷ []) (left_waits h run at r (queued h) (is_cover run) refl s.waits)
          (new_waits h run at r (s.unused (run_count h + 1) (run_above h (run_count h + 1) (omega arith))), tt);
      works = left_works h run at r (on_runners h) (is_cover run) refl s.works;
      unused = λ n no_run. let before = run_before h (event.Run run at) r n no_run in unused_after h (event.Run run at) r n before (s.unused n before) refl;
    }
stands (After h (event.Kill job) r) free =
    let s = stands h free in
    let h' : History = After h (event.Kill job) r in
    record {
      waits = each-weaker (λ (q : Queued). Waits h q × (not (is_queued_of job q) ≡ true)) (Waits h')
          (λ q a. waits_after h (event.Kill job) r q a.0 refl (waits_of h job q a.0 ∙ not_true (job == q.job) a.1))
          (filter (λ q. not (is_queued_of job q)) (queued h)) (each-kept (Waits h) (λ (q : Queued). not (is_queued_of job q)) (queued h) s.waits);
      works = each-map (Works h') (ended_of job) (on_runners h) (each-weaker (Works h) (λ w. Works h' (ended_of job w))
          (λ w k. ended_works h (event.Kill job) r job w (job == w.job) w.run.ended w.run.given refl refl refl k refl (works_of h job w k) (λ run s ended. refl)) (on_runners h) s.works);
      unused = λ n no_run. unused_after h (event.Kill job) r n no_run (s.unused n no_run) refl;
    }
stands (After h (event.Poll runner at) r) free =
    let s = stands h free.0 in
    let e : ExecutorEvent = event.Poll runner at in
    let h' : History = After h (event.Poll runner at) r in
    let front = ready_front (queued h) (on_runners h) in
    let found = each-find (Waits h) (is_ready (on_runners h)) (queued h) s.waits in
    record {
      waits = each-weaker (λ (q : Queued). Waits h q × (started_by runner at (ready_front (queued h) (on_runners h)) q.run.number ≡ None)) (Waits h')
          (λ q a. waits_after h (event.Poll runner at) r q a.0 (later_start (started_of h q.run.number) (started_by runner at (ready_front (queued h) (on_runners h)) q.run.number) a.1) refl)
          (without_first (is_ready (on_runners h)) (queued h))
          (each-both (Waits h) (λ (q : Queued). started_by runner at (ready_front (queued h) (on_runners h)) q.run.number ≡ None) (without_first (is_ready (on_runners h)) (queued h)) (each-without (Waits h) (is_ready (on_runners h)) (queued h) s.waits) (others h runner at (ready_front (queued h) (on_runners h)) refl));
      works = polled_works h runner at r (ready_front (queued h) (on_runners h)) (on_runners h) refl found
          (each-weaker (Works h) (Works h') (λ w k. works_after h (event.Poll runner at) r w k (kept_start (started_of h w.number) (started_by runner at (ready_front (queued h) (on_runners h)) w.number) (start_of w.run) k.started) refl (λ ungiven. refl)) (on_runners h) s.works);
      unused = λ n no_run. unused_after h (event.Poll runner at) r n no_run (s.unused n no_run) (later_start (started_of h n) (started_by runner at (ready_front (queued h) (on_runners h)) n) (start_apart h runner at n (ready_front (queued h) (on_runners h)) found no_run));
    }
stands (After h (event.Finish runner at code text) r) free =
    let s = stands h free in
    let h' : History = After h (event.Finish runner at code text) r in
    record {
      waits = each-weaker (Waits h) (Waits h') (λ q w. waits_after h (event.Finish runner at code text) r q w refl refl) (queued h) s.waits;
      works = each-weaker (λ (w : Working). Works h w × (is_on runner w ≡ false)) (Works h')
          (λ w a. works_after h (event.Finish runner at code text) r w a.0 a.0.started refl (λ ungiven. left_runner _ runner w a.1))
          (without_first (is_on runner) (on_runners h))
          (each-both (Works h) (λ (w : Working). is_on runner w ≡ false) (without_first (is_on runner) (on_runners h)) (each-without (Works h) (is_on runner) (on_runners h) s.works) (times-none (is_on runner) (without_first (is_on runner) (on_runners h)) (once_found (is_on runner) (on_runners h) (one_on h free runner))));
      unused = λ n no_run. unused_after h (event.Finish runner at code text) r n no_run (s.unused n no_run) refl;
    }
stands (After h (event.Expire at) r) free =
    let s = stands h free in
    let h' : History = After h (event.Expire at) r in
    record {
      waits = each-weaker (Waits h) (Waits h') (λ q w. waits_after h (event.Expire at) r q w refl refl) (queued h) s.waits;
      works = each-map (Works h') (expired_of at) (on_runners h) (each-weaker (Works h) (λ w. Works h' (expired_of at w)) (λ w k. expired_works h at r w (is_overdue at w.run) refl k) (on_runners h) s.works);
      unused = λ n no_run. unused_after h (event.Expire at) r n no_run (s.unused n no_run) refl;
    }
stands (After h e r) free = plain_after h e r (stands h free) (λ n. refl) (λ run. refl) refl refl (λ run s ended. refl)
