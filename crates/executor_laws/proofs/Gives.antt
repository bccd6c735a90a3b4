-- Each item tells the result of its run.
use Rattle.std.proofs.Common.{◌≡◌, ℕ, ◌<◌, ◌≤◌, ◌==◌, nat_le, Bool, true, false, ◌&&◌, List, [], ◌∷◌, Option, None, Some, filter, find, refl, ap, ◌∙◌, arith}
use Rattle.std.proofs.lemmas.Bool.{false≢true}
use Rattle.std.proofs.lemmas.Bool.Decides.{nat_tests}
use Rattle.std.specs.List.{AllByRecursion as Each}
use Rattle.job_values.specs.declared.run.Run.{Run}
use Rattle.job_events.specs.declared.executor.FinishCode.{FinishCode}
use Rattle.job_events.specs.declared.executor.ExecutorEvent.{ExecutorEvent}
use Rattle.job_events.specs.declared.executor.ExecutorEvent.TheVariants as event
use Rattle.job_events.specs.declared.executor.ExecutorReply.{ExecutorReply}
use Rattle.job_lane.specs.Runs.{is_overdue}
use Rattle.executor_history.specs.declared.records.Queued.{Queued}
use Rattle.executor_history.specs.declared.records.Working.{Working}
use Rattle.executor_history.specs.History.{History, Opening, After}
use Rattle.executor_history.specs.Runs.{is_cover, is_queued_of, is_late, is_on, run_on}
use Rattle.executor_history.specs.Items.{killed_item, expired_item, finished_item, put_all, put_by_number, by_number}
use Rattle.executor_history.specs.Past.{queued, on_runners, run_count}
use Rattle.executor_laws.specs.Given.{RunItem, killed_run, killed_runs, covered_runs, expired_working, expired_runs, finished_runs, gives, given}
use Rattle.executor_laws.specs.Results.{first_of, run_at, Start, started_of, is_of, ends, is_ended, Result, is_past, finished_result, result_by, result_of, result_in, result_told}
use Rattle.executor_laws.proofs.Each.{each-append, each-weaker, each-map, each-kept, each-put, IfFound, each-find, found-passes, not-found}
use Rattle.executor_laws.proofs.Counts.{is_numbered, is_open, holds}
use Rattle.executor_laws.proofs.Free.{Free}
use Rattle.executor_laws.proofs.Once.{given_count}
use Rattle.executor_laws.proofs.Standing.{Waits, Works, start_of, equal_of, run_above, run_zero, past_is, waits_of}
use Rattle.executor_laws.proofs.Stands.{Stands, stands}

-- the result of the run that was given this item is the one that it tells
abbrev pub Tells : History → RunItem → Type 0
Tells h x = result_of h x.number ≡ Some (result_in x.item)

killed_now : (e : ExecutorEvent) (q : Queued) (run : Option Run) (result : Option Result) (start : Option Start) (ended : Bool) → result ≡ None → start ≡ None → ends e run ≡ true → first_of result (result_by e run start ended) ≡ Some (result_in (killed_item q))
killed_now e q run result start ended er es ee = rw (er, es) (rw ee refl)

killed_tells : (h : History) (e : ExecutorEvent) (r : ExecutorReply) (job : ℕ) (qs : List Queued) → ((q : Queued) → Waits h q → (job == q.job) ≡ true → ends e (run_at h q.run.number) ≡ true) → Each (Waits h) qs → Each (Tells (After h e r)) (killed_runs job qs)
killed_tells h e r job qs is all =
    each-map (Tells (After h e r)) killed_run (filter (is_queued_of job) qs)
    (each-weaker (λ (q : Queued). Waits h q × (is_queued_of job q ≡ true)) (λ q. Tells (After h e r) (killed_run q))
    (λ q a. killed_now e q (run_at h q.run.number) (result_of h q.run.number) (started_of h q.run.number) (is_ended h q.run.number) a.0.no_result a.0.no_start (is q a.0 a.1))
    (filter (is_queued_of job) qs) (each-kept (Waits h) (is_queued_of job) qs all))

both_true : (b c : Bool) → b ≡ true → c ≡ true → (b && c) ≡ true
both_true b c e f = rw (e, f) refl

covered_tells : (h : History) (run : Run) (at : ℕ) (r : ExecutorReply) (qs : List Queued) (b : Bool) → is_cover run ≡ b → Each (Waits h) qs → Each (Tells (After h (event.Run run at) r)) (covered_runs run qs)
covered_tells h run at r qs true e all =
    rw e (killed_tells h (event.Run run at) r run.job qs (λ q w one. both_true (is_cover run) (is_of run.job (run_at h q.run.number)) e (waits_of h run.job q w ∙ one)) all)
covered_tells h run at r qs false e all = rw e tt

-- ---- a Finish
as_item : (code : FinishCode) (text : List ℕ) (w : Working) (d : Bool) → w.run.ended ≡ d → finished_result code text d ≡ result_in (finished_item code text w)
as_item code text w true e = rw e refl
as_item code text w false e = rw e refl

finished_now : (runner at : ℕ) (code : FinishCode) (text : List ℕ) (w : Working) (run : Option Run) (result : Option Result) (start : Option Start) (ended : Bool) → result ≡ None → start ≡ Some (start_of w.run) → (runner == w.run.runner) ≡ true → ended ≡ w.run.ended
    → first_of result (result_by (event.Finish runner at code text) run start ended) ≡ Some (result_in (finished_item code text w))
finished_now runner at code text w run result start ended er es on ee = rw (er, es) (rw (on, ee) (ap (λ x. Some x) (as_item code text w w.run.ended refl)))

finished_case : (h : History) (runner at : ℕ) (code : FinishCode) (text : List ℕ) (r : ExecutorReply) (w : Working) (b : Bool) → w.run.given ≡ b → Works h w → is_on runner w ≡ true → Each (Tells (After h (event.Finish runner at code text) r)) (finished_runs code text (Some w))
finished_case h runner at code text r w true e k on = rw e tt
finished_case h runner at code text r w false e k on =
    rw e (finished_now runner at code text w (run_at h w.number) (result_of h w.number) (started_of h w.number) (is_ended h w.number) (k.no_result e) k.started on (k.as_ended e), tt)

finished_tells : (h : History) (runner at : ℕ) (code : FinishCode) (text : List ℕ) (r : ExecutorReply) (o : Option Working) → IfFound (Works h) o → IfFound (λ w. is_on runner w ≡ true) o → Each (Tells (After h (event.Finish runner at code text) r)) (finished_runs code text o)
finished_tells h runner at code text r None k on = tt
finished_tells h runner at code text r (Some w) k on = finished_case h runner at code text r w w.run.given refl k on

-- ---- an Expire
open_of : (at : ℕ) (w : Working) (g : Bool) → w.run.given ≡ g → is_overdue at w.run ≡ true → g ≡ false
open_of at w true e h = let k = rw e at h in absurd (false≢true k)
open_of at w false e h = refl

expired_now : (at : ℕ) (w : Working) (run : Option Run) (result : Option Result) (start : Option Start) (ended : Bool) → result ≡ None → start ≡ Some (start_of w.run) → is_past at w.run.start run ≡ true
    → first_of result (result_by (event.Expire at) run start ended) ≡ Some (result_in (expired_item w))
expired_now at w run result start ended er es past = rw (er, es) (rw past refl)

expired_one : (h : History) (at : ℕ) (r : ExecutorReply) (w : Working) → Works h w × (is_late at w ≡ true) → Tells (After h (event.Expire at) r) (expired_working w)
expired_one h at r w a =
    let ungiven : w.run.given ≡ false = open_of at w w.run.given refl a.1 in
    expired_now at w (run_at h w.number) (result_of h w.number) (started_of h w.number) (is_ended h w.number) (a.0.no_result ungiven) a.0.started (past_is h at w a.0 ungiven ∙ a.1)

sorted : (P : Working → Type 0) (ws done : List Working) → Each P ws → Each P done → Each P (put_all ws done)
sorted P [] done all before = before
sorted P (w ∷ ws) done all before = sorted P ws (put_by_number w done) all.1 (each-put P _ w done all.0 before)

expired_tells : (h : History) (at : ℕ) (r : ExecutorReply) (ws : List Working) → Each (Works h) ws → Each (Tells (After h (event.Expire at) r)) (expired_runs at ws)
expired_tells h at r ws all =
    each-map (Tells (After h (event.Expire at) r)) expired_working (by_number (filter (is_late at) ws))
    (each-weaker (λ (w : Working). Works h w × (is_late at w ≡ true)) (λ w. Tells (After h (event.Expire at) r) (expired_working w)) (expired_one h at r) (by_number (filter (is_late at) ws))
    (sorted (λ (w : Working). Works h w × (is_late at w ≡ true)) (filter (is_late at) ws) [] (each-kept (Works h) (is_late at) ws all) tt))

-- ---- all
pub gives_tell : (h : History) (e : ExecutorEvent) (r : ExecutorReply) → Stands h → Each (Tells (After h e r)) (gives h e)
gives_tell h (event.Run run at) r s = covered_tells h run at r (queued h) (is_cover run) refl s.waits
gives_tell h (event.Kill job) r s = killed_tells h (event.Kill job) r job (queued h) (λ q w one. waits_of h job q w ∙ one) s.waits
gives_tell h (event.Finish runner at code text) r s = finished_tells h runner at code text r (run_on runner (on_runners h)) (each-find (Works h) (is_on runner) (on_runners h) s.works) (found-passes (is_on runner) (on_runners h))
gives_tell h (event.Expire at) r s = expired_tells h at r (on_runners h) s.works
gives_tell h e r s = tt

free_before : (h : History) (e : ExecutorEvent) (r : ExecutorReply) → Free (After h e r) → Free h
free_before h (event.Poll runner at) r free = free.0
free_before h e r free = free

still : (first later : Option Result) (x : Result) → first ≡ Some x → first_of first later ≡ Some x
still first later x e = rw e refl

all_tell : (h : History) → Free h → Each (Tells h) (given h)
all_tell (Opening names kept) free = tt
all_tell (After h e r) free =
    let before = free_before h e r free in
    each-append (Tells (After h e r)) (given h) (gives h e)
    (each-weaker (Tells h) (Tells (After h e r)) (λ x t. still (result_of h x.number) (result_by e (run_at h x.number) (started_of h x.number) (is_ended h x.number)) (result_in x.item) t) (given h) (all_tell h before))
    (gives_tell h e r (stands h before))

-- ---- no result without an item
here_step : {X : Type 0} (P : X → Type 0) (p : X → Bool) (x : X) (o : Option X) → o ≡ Some x → IfFound P o → P x
here_step P p x None e a = absurd cc
here_step P p x (Some y) e a = let one : y ≡ x = cc in rw (← one) a

waits_here : (h : History) (n : ℕ) (o : Option Queued) → IfFound (Waits h) o → IfFound (λ q. is_numbered n q ≡ true) o → (o ≡ None → result_of h n ≡ None) → result_of h n ≡ None
waits_here h n None w is none = none refl
waits_here h n (Some q) w is none = let one = equal_of n q.run.number is in rw one w.no_result

number_of : (n : ℕ) (w : Working) (b g : Bool) → (n == w.number) ≡ b → w.run.given ≡ g → is_open n w ≡ true → (b ≡ true) × (g ≡ false)
number_of n w true true e f h = let k = rw (e, f) at h in absurd (false≢true k)
number_of n w true false e f h = (refl, refl)
number_of n w false g e f h = let k = rw e at h in absurd (false≢true k)

works_here : (h : History) (n : ℕ) (o : Option Working) → IfFound (Works h) o → IfFound (λ w. is_open n w ≡ true) o → (o ≡ None → result_of h n ≡ None) → result_of h n ≡ None
works_here h n None k is none = none refl
works_here h n (Some w) k is none =
    let both = number_of n w (n == w.number) w.run.given refl refl is in
    let one = equal_of n w.number both.0 in
    rw one (k.no_result both.1)

-- a number within those of the accepted runs, or of none
data Place (n runs : ℕ) : Type 0 where
  zeroth : n ≡ 0 → Place n runs
  within : 1 ≤ n → n ≤ runs → Place n runs
  above : runs < n → Place n runs

place : (n runs : ℕ) → Place n runs
place n runs = by_zero (n == 0) refl (nat_le n runs) refl where
  by_zero : (b : Bool) → (n == 0) ≡ b → (c : Bool) → nat_le n runs ≡ c → Place n runs
  by_zero true e c f = zeroth (grind (arith, nat_tests))
  by_zero false e true f = within (grind (arith, nat_tests)) (grind (arith, nat_tests))
  by_zero false e false f = above (grind (arith, nat_tests))

not_given : (h : History) (n : ℕ) → Stands h → find (λ (x : RunItem). n == x.number) (given h) ≡ None → result_of h n ≡ None
not_given h n s none = by_place (place n (run_count h)) where
  by_place : Place n (run_count h) → result_of h n ≡ None
  by_place (zeroth e) = (s.unused n (rw e (run_zero h))).no_result
  by_place (above up) = (s.unused n (run_above h n up)).no_result
  by_place (within low high) =
      let count = given_count h n in
      let zero = not-found (λ (x : RunItem). n == x.number) (given h) none in
      let one = (holds h n).whole low high in
      waits_here h n (find (is_numbered n) (queued h)) (each-find (Waits h) (is_numbered n) (queued h) s.waits) (found-passes (is_numbered n) (queued h))
      (λ no_queued. works_here h n (find (is_open n) (on_runners h)) (each-find (Works h) (is_open n) (on_runners h) s.works) (found-passes (is_open n) (on_runners h))
      (λ no_open.
      let a = not-found (is_numbered n) (queued h) no_queued in
      let b = not-found (is_open n) (on_runners h) no_open in
      absurd (omega (arith, count, zero, one, a, b))))

told_case : (h : History) (n : ℕ) (o : Option RunItem) → find (λ (x : RunItem). n == x.number) (given h) ≡ o → Stands h → IfFound (Tells h) o → IfFound (λ (x : RunItem). (n == x.number) ≡ true) o → result_of h n ≡ result_told o
told_case h n None is s t e = not_given h n s is
told_case h n (Some x) is s t e = let one = equal_of n x.number e in rw one t

-- the result of a run is the one that its item tells
pub result_is_told : (h : History) → Free h → (n : ℕ) → result_of h n ≡ result_told (find (λ (x : RunItem). n == x.number) (given h))
result_is_told h free n =
    told_case h n (find (λ (x : RunItem). n == x.number) (given h)) refl (stands h free) (each-find (Tells h) (λ (x : RunItem). n == x.number) (given h) (all_tell h free)) (found-passes (λ (x : RunItem). n == x.number) (given h))
