-- What the entries say of each run that waits, and of each that is on a runner.
use Rattle.std.proofs.Common.{◌≡◌, ℕ, ◌+◌, ◌<◌, ◌≤◌, ◌==◌, Bool, true, false, not, ◌&&◌, if◌then◌else◌, Option, None, Some, refl, sym, ap, ◌∙◌, subst, arith}
use Rattle.std.proofs.lemmas.Bool.{false≢true}
use Rattle.std.proofs.lemmas.Bool.Decides.{nat_tests}
use Rattle.job_values.specs.declared.run.Run.{Run}
use Rattle.job_events.specs.declared.executor.ExecutorEvent.{ExecutorEvent}
use Rattle.job_events.specs.declared.executor.ExecutorEvent.TheVariants as event
use Rattle.job_events.specs.declared.executor.ExecutorReply.{ExecutorReply}
use Rattle.job_lane.specs.declared.runs.RunnerRun.{RunnerRun}
use Rattle.job_lane.specs.Runs.{is_overdue, ended_run, expired_run}
use Rattle.executor_history.specs.declared.records.Queued.{Queued}
use Rattle.executor_history.specs.declared.records.Working.{Working}
use Rattle.executor_history.specs.History.{History, Opening, After}
use Rattle.executor_history.specs.Runs.{is_cover, ended_of, expired_of}
use Rattle.executor_history.specs.Past.{run_count}
use Rattle.executor_laws.specs.Results.{first_of, run_at, Start, started_of, is_of, ends, is_ended, Result, is_past, runner_result, result_by, result_of}

-- a run that waits: it is accepted, has no Poll, is not ended, and has no result
pub record Waits (h : History) (q : Queued) : Type 0 where
  pub run : Run
  pub is_run : run_at h q.run.number ≡ Some run
  pub of_job : run.job ≡ q.job
  pub of_log : run.log ≡ q.run.log
  pub of_timeout : run.timeout ≡ q.run.timeout
  pub below : q.run.number ≤ run_count h
  pub no_start : started_of h q.run.number ≡ None
  pub no_end : is_ended h q.run.number ≡ false
  pub no_result : result_of h q.run.number ≡ None

abbrev pub start_of : RunnerRun → Start
start_of run = record { runner = run.runner; at = run.start }

-- a run on a runner: it is accepted, and its Poll is there; where it was given no result, it has none, and it is ended as the entries say
pub record Works (h : History) (w : Working) : Type 0 where
  pub run : Run
  pub is_run : run_at h w.number ≡ Some run
  pub of_job : run.job ≡ w.job
  pub of_log : run.log ≡ w.run.log
  pub of_timeout : run.timeout ≡ w.run.timeout
  pub below : w.number ≤ run_count h
  pub started : started_of h w.number ≡ Some (start_of w.run)
  pub as_ended : w.run.given ≡ false → is_ended h w.number ≡ w.run.ended
  pub no_result : w.run.given ≡ false → result_of h w.number ≡ None

-- ---- accepted runs
other : (n k : ℕ) → n ≤ k → (n == (k + 1)) ≡ false
other n k le = grind (arith, nat_tests)

pub same : (n : ℕ) → (n == n) ≡ true
same n = grind (arith, nat_tests)

pub equal_of : (n m : ℕ) → (n == m) ≡ true → n ≡ m
equal_of n m e = grind (arith, nat_tests)

pub run_kept : (h : History) (e : ExecutorEvent) (r : ExecutorReply) (n : ℕ) → n ≤ run_count h → run_at (After h e r) n ≡ run_at h n
run_kept h (event.Run run at) r n le = ap (λ (b : Bool). if b then Some run else run_at h n) (other n (run_count h) le)
run_kept h e r n le = refl

pub count_kept : (h : History) (e : ExecutorEvent) (r : ExecutorReply) (n : ℕ) → n ≤ run_count h → n ≤ run_count (After h e r)
count_kept h (event.Run run at) r n le = omega arith
count_kept h e r n le = le

-- a number of no run that was accepted
pub run_above : (h : History) (n : ℕ) → run_count h < n → run_at h n ≡ None
run_above (Opening names kept) n up = refl
run_above (After h (event.Run run at) r) n up = ap (λ (b : Bool). if b then Some run else run_at h n) (apart n (run_count h) up) ∙ run_above h n (omega arith) where
  apart : (n k : ℕ) → k + 1 < n → (n == (k + 1)) ≡ false
  apart n k up = grind (arith, nat_tests)
run_above (After h e r) n up = run_above h n up

pub run_zero : (h : History) → run_at h 0 ≡ None
run_zero (Opening names kept) = refl
run_zero (After h (event.Run run at) r) = ap (λ (b : Bool). if b then Some run else run_at h 0) (apart (run_count h)) ∙ run_zero h where
  apart : (k : ℕ) → (0 == (k + 1)) ≡ false
  apart k = grind (arith, nat_tests)
run_zero (After h e r) = run_zero h

-- ---- events that end none
pub and_false : (b c : Bool) → c ≡ false → (b && c) ≡ false
and_false true c e = e
and_false false c e = refl

pub ends_none : (e : ExecutorEvent) → ends e None ≡ false
ends_none (event.Kill job) = refl
ends_none (event.Run run at) = and_false (is_cover run) false refl
ends_none e = refl

-- ---- what one entry adds
pub end_kept : (b : Bool) (c : Bool) → b ≡ false → (if b then true else c) ≡ c
end_kept b c e = rw e refl

pub no_more : (e : ExecutorEvent) (run : Option Run) (result : Option Result) (start : Option Start) (ended : Bool) → result ≡ None → start ≡ None → ends e run ≡ false → first_of result (result_by e run start ended) ≡ None
no_more e run result start ended er es ee = rw (er, es) (rw ee refl)

pub none_yet : (e : ExecutorEvent) (run : Option Run) (result : Option Result) (start : Option Start) (ended : Bool) (s : Start) → result ≡ None → start ≡ Some s → runner_result e run s ended ≡ None → first_of result (result_by e run start ended) ≡ None
none_yet e run result start ended s er es ee = rw (er, es) ee

pub waits_after : (h : History) (e : ExecutorEvent) (r : ExecutorReply) (q : Queued) → Waits h q → started_of (After h e r) q.run.number ≡ started_of h q.run.number → ends e (run_at h q.run.number) ≡ false → Waits (After h e r) q
waits_after h e r q w start spared = record {
  run = w.run;
  is_run = run_kept h e r q.run.number w.below ∙ w.is_run;
  of_job = w.of_job;
  of_log = w.of_log;
  of_timeout = w.of_timeout;
  below = count_kept h e r q.run.number w.below;
  no_start = start ∙ w.no_start;
  no_end = end_kept (ends e (run_at h q.run.number)) (is_ended h q.run.number) spared ∙ w.no_end;
  no_result = no_more e (run_at h q.run.number) (result_of h q.run.number) (started_of h q.run.number) (is_ended h q.run.number) w.no_result w.no_start spared;
}

-- a run on a runner whose flags an entry leaves
pub works_after : (h : History) (e : ExecutorEvent) (r : ExecutorReply) (w : Working) → Works h w → started_of (After h e r) w.number ≡ Some (start_of w.run) → ends e (run_at h w.number) ≡ false
    → (w.run.given ≡ false → runner_result e (run_at h w.number) (start_of w.run) (is_ended h w.number) ≡ None) → Works (After h e r) w
works_after h e r w k start spared none = record {
  run = k.run;
  is_run = run_kept h e r w.number k.below ∙ k.is_run;
  of_job = k.of_job;
  of_log = k.of_log;
  of_timeout = k.of_timeout;
  below = count_kept h e r w.number k.below;
  started = start;
  as_ended = λ ungiven. end_kept (ends e (run_at h w.number)) (is_ended h w.number) spared ∙ k.as_ended ungiven;
  no_result = λ ungiven. none_yet e (run_at h w.number) (result_of h w.number) (started_of h w.number) (is_ended h w.number) (start_of w.run) (k.no_result ungiven) k.started (none ungiven);
}

-- ---- ends
pub waits_of : (h : History) (job : ℕ) (q : Queued) → Waits h q → is_of job (run_at h q.run.number) ≡ (job == q.job)
waits_of h job q w = rw (w.is_run, w.of_job) refl

pub works_of : (h : History) (job : ℕ) (w : Working) → Works h w → is_of job (run_at h w.number) ≡ (job == w.job)
works_of h job w k = rw (k.is_run, k.of_job) refl

pub not_true : (b : Bool) → not b ≡ true → b ≡ false
not_true true e = absurd (false≢true e)
not_true false e = refl

-- an entry that ends the runs of a job ends the one that runs
pub ended_works : (h : History) (e : ExecutorEvent) (r : ExecutorReply) (job : ℕ) (w : Working) (b d g : Bool) → (job == w.job) ≡ b → w.run.ended ≡ d → w.run.given ≡ g → Works h w
    → started_of (After h e r) w.number ≡ started_of h w.number → ends e (run_at h w.number) ≡ b → ((run : Option Run) (s : Start) (ended : Bool) → runner_result e run s ended ≡ None) → Works (After h e r) (ended_of job w)
ended_works h e r job w false d g eb ed eg k start is none =
    let one : ended_of job w ≡ w = rw eb refl in
    subst (Works (After h e r)) (sym one) (works_after h e r w k (start ∙ k.started) is (λ ungiven. none _ _ _))
ended_works h e r job w true d true eb ed eg k start is none =
    let one : ended_of job w ≡ record w { run = w.run } = rw eb (ap (λ run. record w { run = run }) (given_same w.run d ed eg)) in
    subst (Works (After h e r)) (sym one) (record {
      run = k.run;
      is_run = run_kept h e r w.number k.below ∙ k.is_run;
      of_job = k.of_job;
      of_log = k.of_log;
      of_timeout = k.of_timeout;
      below = count_kept h e r w.number k.below;
      started = start ∙ k.started;
      as_ended = λ ungiven. absurd (false≢true (sym ungiven ∙ eg));
      no_result = λ ungiven. absurd (false≢true (sym ungiven ∙ eg));
    }) where
      given_same : (run : RunnerRun) (d : Bool) → run.ended ≡ d → run.given ≡ true → ended_run run ≡ run
      given_same run true ed eg = rw (ed, eg) refl
      given_same run false ed eg = rw (ed, eg) refl
ended_works h e r job w true true false eb ed eg k start is none =
    let one : ended_of job w ≡ record w { run = w.run } = rw eb (ap (λ run. record w { run = run }) (ended_same w.run ed)) in
    subst (Works (After h e r)) (sym one) (record {
      run = k.run;
      is_run = run_kept h e r w.number k.below ∙ k.is_run;
      of_job = k.of_job;
      of_log = k.of_log;
      of_timeout = k.of_timeout;
      below = count_kept h e r w.number k.below;
      started = start ∙ k.started;
      as_ended = λ ungiven. now_ended (ends e (run_at h w.number)) (is_ended h w.number) is ∙ sym ed;
      no_result = λ ungiven. none_yet e (run_at h w.number) (result_of h w.number) (started_of h w.number) (is_ended h w.number) (start_of w.run) (k.no_result ungiven) k.started (none _ _ _);
    }) where
      ended_same : (run : RunnerRun) → run.ended ≡ true → ended_run run ≡ run
      ended_same run ed = rw ed refl

      now_ended : (b c : Bool) → b ≡ true → (if b then true else c) ≡ true
      now_ended b c e = rw e refl
ended_works h e r job w true false false eb ed eg k start is none =
    let one : ended_of job w ≡ record w { run = record w.run { ended = true } } = rw eb (ap (λ run. record w { run = run }) (ended_now w.run ed eg)) in
    subst (Works (After h e r)) (sym one) (record {
      run = k.run;
      is_run = run_kept h e r w.number k.below ∙ k.is_run;
      of_job = k.of_job;
      of_log = k.of_log;
      of_timeout = k.of_timeout;
      below = count_kept h e r w.number k.below;
      started = start ∙ k.started;
      as_ended = λ ungiven. now_ended (ends e (run_at h w.number)) (is_ended h w.number) is;
      no_result = λ ungiven. none_yet e (run_at h w.number) (result_of h w.number) (started_of h w.number) (is_ended h w.number) (start_of w.run) (k.no_result ungiven) k.started (none _ _ _);
    }) where
      ended_now : (run : RunnerRun) → run.ended ≡ false → run.given ≡ false → ended_run run ≡ record run { ended = true }
      ended_now run ed eg = rw (ed, eg) refl

      now_ended : (b c : Bool) → b ≡ true → (if b then true else c) ≡ true
      now_ended b c e = rw e refl

-- ---- expiry
pub past_is : (h : History) (at : ℕ) (w : Working) → Works h w → w.run.given ≡ false → is_past at w.run.start (run_at h w.number) ≡ is_overdue at w.run
past_is h at w k ungiven = rw (k.is_run, k.of_timeout, ungiven) refl

pub expired_works : (h : History) (at : ℕ) (r : ExecutorReply) (w : Working) (b : Bool) → is_overdue at w.run ≡ b → Works h w → Works (After h (event.Expire at) r) (expired_of at w)
expired_works h at r w true e k =
    let one : expired_of at w ≡ record w { run = record w.run { given = true } } = ap (λ run. record w { run = run }) (expired_now w.run e) in
    subst (Works (After h (event.Expire at) r)) (sym one) (record {
      run = k.run;
      is_run = k.is_run;
      of_job = k.of_job;
      of_log = k.of_log;
      of_timeout = k.of_timeout;
      below = k.below;
      started = k.started;
      as_ended = λ ungiven. absurd (false≢true (sym ungiven));
      no_result = λ ungiven. absurd (false≢true (sym ungiven));
    }) where
      expired_now : (run : RunnerRun) → is_overdue at run ≡ true → expired_run at run ≡ record run { given = true }
      expired_now run e = rw e refl
expired_works h at r w false e k =
    let one : expired_of at w ≡ record w { run = w.run } = ap (λ run. record w { run = run }) (expired_not w.run e) in
    subst (Works (After h (event.Expire at) r)) (sym one) (record {
      run = k.run;
      is_run = k.is_run;
      of_job = k.of_job;
      of_log = k.of_log;
      of_timeout = k.of_timeout;
      below = k.below;
      started = k.started;
      as_ended = k.as_ended;
      no_result = λ ungiven. none_yet (event.Expire at) (run_at h w.number) (result_of h w.number) (started_of h w.number) (is_ended h w.number) (start_of w.run) (k.no_result ungiven) k.started (not_past _ (is_past at w.run.start (run_at h w.number)) (past_is h at w k ungiven ∙ e));
    }) where
      expired_not : (run : RunnerRun) → is_overdue at run ≡ false → expired_run at run ≡ run
      expired_not run e = rw e refl

      not_past : {X : Type 0} (x : X) (b : Bool) → b ≡ false → (if b then Some x else None) ≡ None
      not_past x b e = rw e refl
