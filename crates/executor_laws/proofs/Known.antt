-- Each item of an executor that began without kept items is the result of a run.
use Rattle.std.proofs.Common.{◌≡◌, ℕ, ◌+◌, ◌≤◌, ◌==◌, nat_lt, Bool, true, false, not, if◌then◌else◌, List, [], ◌∷◌, ◌++◌, Option, None, Some, map, filter, refl, sym, ap, ◌∙◌, subst, arith, append_assoc, append-nil}
use Rattle.std.proofs.lemmas.Bool.Decides.{nat_tests}
use Rattle.std.proofs.lemmas.List.Elements.{Contains-append_left, Contains-append_right}
use Rattle.std.specs.List.{AllByRecursion as Each, Contains}
use Rattle.job_values.specs.declared.run.Run.{Run}
use Rattle.job_values.specs.declared.run.CallbackItem.{CallbackItem}
use Rattle.job_events.specs.declared.executor.FinishCode.{FinishCode}
use Rattle.job_events.specs.declared.executor.ExecutorEvent.{ExecutorEvent}
use Rattle.job_events.specs.declared.executor.ExecutorEvent.TheVariants as event
use Rattle.job_events.specs.declared.executor.ExecutorReply.{ExecutorReply}
use Rattle.job_lane.specs.Runs.{is_running, is_overdue}
use Rattle.executor_history.specs.declared.records.Queued.{Queued}
use Rattle.executor_history.specs.declared.records.Working.{Working}
use Rattle.executor_history.specs.History.{History, Opening, After, accepted, with_accepted, is_refusal}
use Rattle.executor_history.specs.Runs.{is_cover, is_queued_of, is_late, is_on, is_ready, ready_front, run_on, ended_of, expired_of, put_working, working_run, queued_run}
use Rattle.executor_history.specs.Items.{killed_items, finished_items, put_by_number, put_all, by_number}
use Rattle.executor_history.specs.Past.{queued, on_runners, run_count, left_queued, left_working, covered_items, waiting, batch, spooled, taken_batch, left_waiting}
use Rattle.callback_spool.specs.Batches.{batch_len}
use Rattle.executor_laws.specs.Given.{RunItem, killed_run, killed_runs, covered_runs, expired_working, finished_runs, gives, given}
use Rattle.executor_laws.specs.Results.{run_at, BeganEmpty}
use Rattle.executor_laws.proofs.Each.{each-append, each-weaker, each-map, each-filter, each-take, each-drop, each-without, each-put, IfFound, each-find, map-map}

-- the n-th accepted run is there, and of this log
pub record Known (h : History) (number log : ℕ) : Type 0 where
  pub run : Run
  pub is_run : run_at h number ≡ Some run
  pub of_log : run.log ≡ log
  pub below : number ≤ run_count h

other : (n k : ℕ) → n ≤ k → (n == (k + 1)) ≡ false
other n k le = grind (arith, nat_tests)

same : (n : ℕ) → (n == n) ≡ true
same n = grind (arith, nat_tests)

pub known_after : (h : History) (e : ExecutorEvent) (r : ExecutorReply) (number log : ℕ) → Known h number log → Known (After h e r) number log
known_after h (event.Run run at) r number log k = record {
  run = k.run;
  is_run = ap (λ (b : Bool). if b then Some run else run_at h number) (other number (run_count h) k.below) ∙ k.is_run;
  of_log = k.of_log;
  below = let le = k.below in omega arith;
}
known_after h e r number log k = record { run = k.run; is_run = k.is_run; of_log = k.of_log; below = k.below }

-- what is known of the runs: those that wait, those on runners, and those with a result
record Fine (h : History) (qs : List Queued) (ws : List Working) (rs : List RunItem) : Type 0 where
  waits : Each (λ q. Known h q.run.number q.run.log) qs
  works : Each (λ w. Known h w.number w.run.log) ws
  gave : Each (λ x. Known h x.number x.item.log) rs

fine_after : (h : History) (e : ExecutorEvent) (r : ExecutorReply) (qs : List Queued) (ws : List Working) (rs : List RunItem) → Fine h qs ws rs → Fine (After h e r) qs ws rs
fine_after h e r qs ws rs f = record {
  waits = each-weaker (λ q. Known h q.run.number q.run.log) (λ q. Known (After h e r) q.run.number q.run.log) (λ q. known_after h e r q.run.number q.run.log) qs f.waits;
  works = each-weaker (λ w. Known h w.number w.run.log) (λ w. Known (After h e r) w.number w.run.log) (λ w. known_after h e r w.number w.run.log) ws f.works;
  gave = each-weaker (λ x. Known h x.number x.item.log) (λ x. Known (After h e r) x.number x.item.log) (λ x. known_after h e r x.number x.item.log) rs f.gave;
}

-- a run that is ended or expired keeps its number and its log
ended_case : (h : History) (job : ℕ) (w : Working) (b c : Bool) → (job == w.job) ≡ b → is_running w.run ≡ c → Known h w.number w.run.log → Known h (ended_of job w).number (ended_of job w).run.log
ended_case h job w true true e f k = rw (e, f) k
ended_case h job w true false e f k = rw (e, f) k
ended_case h job w false c e f k = rw e k

ended_known : (h : History) (job : ℕ) (w : Working) → Known h w.number w.run.log → Known h (ended_of job w).number (ended_of job w).run.log
ended_known h job w k = ended_case h job w (job == w.job) (is_running w.run) refl refl k

expired_case : (h : History) (at : ℕ) (w : Working) (b : Bool) → is_overdue at w.run ≡ b → Known h w.number w.run.log → Known h (expired_of at w).number (expired_of at w).run.log
expired_case h at w true e k = rw e k
expired_case h at w false e k = rw e k

expired_known : (h : History) (at : ℕ) (w : Working) → Known h w.number w.run.log → Known h (expired_of at w).number (expired_of at w).run.log
expired_known h at w k = expired_case h at w (is_overdue at w.run) refl k

works_mapped : (h : History) (f : Working → Working) → ((w : Working) → Known h w.number w.run.log → Known h (f w).number (f w).run.log) → (ws : List Working) → Each (λ w. Known h w.number w.run.log) ws → Each (λ w. Known h w.number w.run.log) (map f ws)
works_mapped h f keeps ws all = each-map (λ w. Known h w.number w.run.log) f ws (each-weaker (λ w. Known h w.number w.run.log) (λ w. Known h (f w).number (f w).run.log) keeps ws all)

killed_known : (h : History) (job : ℕ) (qs : List Queued) → Each (λ q. Known h q.run.number q.run.log) qs → Each (λ x. Known h x.number x.item.log) (killed_runs job qs)
killed_known h job qs all = each-map (λ x. Known h x.number x.item.log) killed_run (filter (is_queued_of job) qs) (each-filter (λ q. Known h q.run.number q.run.log) (is_queued_of job) qs all)

covered_known : (h : History) (run : Run) (qs : List Queued) (b : Bool) → is_cover run ≡ b → Each (λ q. Known h q.run.number q.run.log) qs → Each (λ x. Known h x.number x.item.log) (covered_runs run qs)
covered_known h run qs true e all = rw e (killed_known h run.job qs all)
covered_known h run qs false e all = rw e tt

sorted_known : (h : History) (ws sorted : List Working) → Each (λ w. Known h w.number w.run.log) ws → Each (λ w. Known h w.number w.run.log) sorted → Each (λ w. Known h w.number w.run.log) (put_all ws sorted)
sorted_known h [] sorted all done = done
sorted_known h (w ∷ ws) sorted all done = sorted_known h ws (put_by_number w sorted) all.1 (each-put (λ w. Known h w.number w.run.log) _ w sorted all.0 done)

expired_results_known : (h : History) (at : ℕ) (ws : List Working) → Each (λ w. Known h w.number w.run.log) ws → Each (λ x. Known h x.number x.item.log) (map expired_working (by_number (filter (is_late at) ws)))
expired_results_known h at ws all =
    each-map (λ x. Known h x.number x.item.log) expired_working (by_number (filter (is_late at) ws))
    (sorted_known h (filter (is_late at) ws) [] (each-filter (λ w. Known h w.number w.run.log) (is_late at) ws all) tt)

finished_case : (h : History) (code : FinishCode) (text : List ℕ) (w : Working) (b : Bool) → w.run.given ≡ b → Known h w.number w.run.log → Each (λ x. Known h x.number x.item.log) (finished_runs code text (Some w))
finished_case h code text w true e k = rw e tt
finished_case h code text w false e k = rw e (k, tt)

finished_known : (h : History) (code : FinishCode) (text : List ℕ) (o : Option Working) → IfFound (λ w. Known h w.number w.run.log) o → Each (λ x. Known h x.number x.item.log) (finished_runs code text o)
finished_known h code text None found = tt
finished_known h code text (Some w) found = finished_case h code text w w.run.given refl found

left_waits : (h : History) (run : Run) (qs : List Queued) (b : Bool) → is_cover run ≡ b → Each (λ q. Known h q.run.number q.run.log) qs → Each (λ q. Known h q.run.number q.run.log) (left_queued run qs)
left_waits h run qs true e all = rw e (each-filter (λ q. Known h q.run.number q.run.log) (λ q. not (is_queued_of run.job q)) qs all)
left_waits h run qs false e all = rw e all

left_works : (h : History) (run : Run) (ws : List Working) (b : Bool) → is_cover run ≡ b → Each (λ w. Known h w.number w.run.log) ws → Each (λ w. Known h w.number w.run.log) (left_working run ws)
left_works h run ws true e all = rw e (works_mapped h (ended_of run.job) (ended_known h run.job) ws all)
left_works h run ws false e all = rw e all

new_known : (h : History) (run : Run) (at : ℕ) (r : ExecutorReply) → Known (After h (event.Run run at) r) (run_count h + 1) run.log
new_known h run at r = record {
  run = run;
  is_run = ap (λ (b : Bool). if b then Some run else run_at h (run_count h + 1)) (same (run_count h + 1));
  of_log = refl;
  below = omega arith;
}

put_works : (h : History) (runner at : ℕ) (o : Option Queued) (ws : List Working) → IfFound (λ q. Known h q.run.number q.run.log) o → Each (λ w. Known h w.number w.run.log) ws → Each (λ w. Known h w.number w.run.log) (put_working runner at o ws)
put_works h runner at None ws found all = all
put_works h runner at (Some q) ws found all = each-put (λ w. Known h w.number w.run.log) (λ (w : Working). nat_lt runner w.run.runner) (working_run runner at q) ws found all

-- the results so far and those of an event
gave_more : (h : History) (rs more : List RunItem) → Each (λ x. Known h x.number x.item.log) rs → Each (λ x. Known h x.number x.item.log) more → Each (λ x. Known h x.number x.item.log) (rs ++ more)
gave_more h rs more a b = each-append (λ x. Known h x.number x.item.log) rs more a b

abbrev FineAt : History → Type 0
FineAt h = Fine h (queued h) (on_runners h) (given h)

fine_same : (h : History) (e : ExecutorEvent) (r : ExecutorReply) → Fine h (queued h) (on_runners h) (given h) → Fine (After h e r) (queued h) (on_runners h) (given h ++ [])
fine_same h e r f =
    let g = fine_after h e r (queued h) (on_runners h) (given h) f in
    record { waits = g.waits; works = g.works; gave = rw (append-nil (given h)) g.gave }

fine : (h : History) → FineAt h
fine (Opening names kept) = record { waits = tt; works = tt; gave = tt }
fine (After h (event.Run run at) r) =
    let h' : History = After h (event.Run run at) r in
    let f = fine_after h (event.Run run at) r (queued h) (on_runners h) (given h) (fine h) in
    record {
      waits = each-append (λ q. Known h' q.run.number q.run.log) (left_queued run (queued h)) (record { job = run.job; run = queued_run (run_count h + 1) run } ∷ []) (left_waits h' run (queued h) (is_cover run) refl f.waits) (new_known h run at r, tt);
      works = left_works h' run (on_runners h) (is_cover run) refl f.works;
      gave = gave_more h' (given h) (covered_runs run (queued h)) f.gave (covered_known h' run (queued h) (is_cover run) refl f.waits);
    }
fine (After h (event.Kill job) r) =
    let h' : History = After h (event.Kill job) r in
    let f = fine_after h (event.Kill job) r (queued h) (on_runners h) (given h) (fine h) in
    record {
      waits = each-filter (λ q. Known h' q.run.number q.run.log) (λ q. not (is_queued_of job q)) (queued h) f.waits;
      works = works_mapped h' (ended_of job) (ended_known h' job) (on_runners h) f.works;
      gave = gave_more h' (given h) (killed_runs job (queued h)) f.gave (killed_known h' job (queued h) f.waits);
    }
fine (After h (event.Poll runner at) r) =
    let h' : History = After h (event.Poll runner at) r in
    let f = fine_same h (event.Poll runner at) r (fine h) in
    record {
      waits = each-without (λ q. Known h' q.run.number q.run.log) (is_ready (on_runners h)) (queued h) f.waits;
      works = put_works h' runner at (ready_front (queued h) (on_runners h)) (on_runners h) (each-find (λ q. Known h' q.run.number q.run.log) (is_ready (on_runners h)) (queued h) f.waits) f.works;
      gave = f.gave;
    }
fine (After h (event.Finish runner at code text) r) =
    let h' : History = After h (event.Finish runner at code text) r in
    let f = fine_after h (event.Finish runner at code text) r (queued h) (on_runners h) (given h) (fine h) in
    record {
      waits = f.waits;
      works = each-without (λ w. Known h' w.number w.run.log) (is_on runner) (on_runners h) f.works;
      gave = gave_more h' (given h) (finished_runs code text (run_on runner (on_runners h))) f.gave (finished_known h' code text (run_on runner (on_runners h)) (each-find (λ w. Known h' w.number w.run.log) (is_on runner) (on_runners h) f.works));
    }
fine (After h (event.Expire at) r) =
    let h' : History = After h (event.Expire at) r in
    let f = fine_after h (event.Expire at) r (queued h) (on_runners h) (given h) (fine h) in
    record {
      waits = f.waits;
      works = works_mapped h' (expired_of at) (expired_known h' at) (on_runners h) f.works;
      gave = gave_more h' (given h) (map expired_working (by_number (filter (is_late at) (on_runners h)))) f.gave (expired_results_known h' at (on_runners h) f.works);
    }
fine (After h e r) = fine_same h e r (fine h)

-- an item is the result of a run
pub record Given (h : History) (item : CallbackItem) : Type 0 where
  pub number : ℕ
  pub known : Known h number item.log
  pub result : Contains (given h) (record { number = number; item = item })

pub given_after : (h : History) (e : ExecutorEvent) (r : ExecutorReply) (item : CallbackItem) → Given h item → Given (After h e r) item
given_after h e r item g = record {
  number = g.number;
  known = known_after h e r g.number item.log g.known;
  result = Contains-append_left (given h) (gives h e) (record { number = g.number; item = item }) g.result;
}

given_all : (h : History) (front more : List RunItem) → given h ≡ front ++ more → Each (λ x. Known h x.number x.item.log) more → Each (Given h) (map (λ (x : RunItem). x.item) more)
given_all h front [] is all = tt
given_all h front (x ∷ more) is all =
    let P : List RunItem → Type 0 = λ rs. Contains rs x in (
      record { number = x.number; known = all.0; result = subst P (sym is) (Contains-append_right front (x ∷ more) x (0, omega arith, refl)) },
      given_all h (front ++ x ∷ []) more (is ∙ sym (append_assoc front (x ∷ []) more)) all.1,
    )

-- the part that is new in a list of results
gave_new : (h : History) (rs more : List RunItem) → Each (λ x. Known h x.number x.item.log) (rs ++ more) → Each (λ x. Known h x.number x.item.log) more
gave_new h [] more all = all
gave_new h (x ∷ rs) more all = gave_new h rs more all.1

given_new : (h : History) (e : ExecutorEvent) (r : ExecutorReply) → Each (Given (After h e r)) (map (λ (x : RunItem). x.item) (gives h e))
given_new h e r = given_all (After h e r) (given h) (gives h e) refl (gave_new (After h e r) (given h) (gives h e) (fine (After h e r)).gave)

-- ---- the items
pub record Items (h : History) (ws bs ss : List CallbackItem) : Type 0 where
  pub waits : Each (Given h) ws
  pub out : Each (Given h) bs
  pub saved : Each (Given h) ss

items_after : (h : History) (e : ExecutorEvent) (r : ExecutorReply) (ws bs ss : List CallbackItem) → Items h ws bs ss → Items (After h e r) ws bs ss
items_after h e r ws bs ss i = record {
  waits = each-weaker (Given h) (Given (After h e r)) (given_after h e r) ws i.waits;
  out = each-weaker (Given h) (Given (After h e r)) (given_after h e r) bs i.out;
  saved = each-weaker (Given h) (Given (After h e r)) (given_after h e r) ss i.saved;
}

pub killed_same : (job : ℕ) (qs : List Queued) → map (λ (x : RunItem). x.item) (killed_runs job qs) ≡ killed_items job qs
killed_same job qs = map-map (λ (x : RunItem). x.item) killed_run (filter (is_queued_of job) qs)

pub covered_same : (run : Run) (qs : List Queued) (b : Bool) → is_cover run ≡ b → map (λ (x : RunItem). x.item) (covered_runs run qs) ≡ covered_items run qs
covered_same run qs true e = rw e (killed_same run.job qs)
covered_same run qs false e = rw e refl

finished_same_case : (code : FinishCode) (text : List ℕ) (w : Working) (b : Bool) → w.run.given ≡ b → map (λ (x : RunItem). x.item) (finished_runs code text (Some w)) ≡ finished_items code text (Some w)
finished_same_case code text w true e = rw e refl
finished_same_case code text w false e = rw e refl

pub finished_same : (code : FinishCode) (text : List ℕ) (o : Option Working) → map (λ (x : RunItem). x.item) (finished_runs code text o) ≡ finished_items code text o
finished_same code text None = refl
finished_same code text (Some w) = finished_same_case code text w w.run.given refl

-- items that wait, and those of an event behind them
wait_more : (h : History) (ws more news : List CallbackItem) → more ≡ news → Each (Given h) ws → Each (Given h) more → Each (Given h) (ws ++ news)
wait_more h ws more news is a b = let P : List CallbackItem → Type 0 = λ xs. Each (Given h) (ws ++ xs) in subst P is (each-append (Given h) ws more a b)

taken_case : (h : History) (bs ws : List CallbackItem) → Each (Given h) bs → Each (Given h) ws → Each (Given h) (taken_batch bs ws)
taken_case h [] ws a b = each-take (Given h) (batch_len ws) ws b
taken_case h (x ∷ bs) ws a b = a

left_case : (h : History) (bs ws : List CallbackItem) → Each (Given h) ws → Each (Given h) (left_waiting bs ws)
left_case h [] ws b = each-drop (Given h) (batch_len ws) ws b
left_case h (x ∷ bs) ws b = b

failed_waits : (h : History) (saved : Bool) (bs ws : List CallbackItem) → Each (Given h) bs → Each (Given h) ws → Each (Given h) (if saved then ws else bs ++ ws)
failed_waits h true bs ws a b = b
failed_waits h false bs ws a b = each-append (Given h) bs ws a b

failed_saved : (h : History) (saved : Bool) (bs ss : List CallbackItem) → Each (Given h) bs → Each (Given h) ss → Each (Given h) (if saved then ss ++ bs else ss)
failed_saved h true bs ss a b = each-append (Given h) ss bs b a
failed_saved h false bs ss a b = b

-- each item that waits, is out or is saved is the result of a run
pub items : (h : History) → BeganEmpty h → Items h (waiting h) (batch h) (spooled h)
items (Opening names kept) none = record { waits = rw none tt; out = tt; saved = tt }
items (After h (event.Run run at) r) none =
    let i = items_after h (event.Run run at) r (waiting h) (batch h) (spooled h) (items h none) in
    record { waits = wait_more (After h (event.Run run at) r) (waiting h) _ (covered_items run (queued h)) (covered_same run (queued h) (is_cover run) refl) i.waits (given_new h (event.Run run at) r); out = i.out; saved = i.saved }
items (After h (event.Kill job) r) none =
    let i = items_after h (event.Kill job) r (waiting h) (batch h) (spooled h) (items h none) in
    record { waits = wait_more (After h (event.Kill job) r) (waiting h) _ (killed_items job (queued h)) (killed_same job (queued h)) i.waits (given_new h (event.Kill job) r); out = i.out; saved = i.saved }
items (After h (event.Finish runner at code text) r) none =
    let i = items_after h (event.Finish runner at code text) r (waiting h) (batch h) (spooled h) (items h none) in
    record { waits = wait_more (After h (event.Finish runner at code text) r) (waiting h) _ (finished_items code text (run_on runner (on_runners h))) (finished_same code text (run_on runner (on_runners h))) i.waits (given_new h (event.Finish runner at code text) r); out = i.out; saved = i.saved }
items (After h (event.Expire at) r) none =
    let i = items_after h (event.Expire at) r (waiting h) (batch h) (spooled h) (items h none) in
    record { waits = wait_more (After h (event.Expire at) r) (waiting h) _ _ (map-map (λ (x : RunItem). x.item) expired_working (by_number (filter (is_late at) (on_runners h)))) i.waits (given_new h (event.Expire at) r); out = i.out; saved = i.saved }
items (After h event.BatchTake r) none =
    let h' : History = After h event.BatchTake r in
    let i = items_after h event.BatchTake r (waiting h) (batch h) (spooled h) (items h none) in
    record { waits = left_case h' (batch h) (waiting h) i.waits; out = taken_case h' (batch h) (waiting h) i.out i.waits; saved = i.saved }
items (After h (event.BatchFail saved) r) none =
    let h' : History = After h (event.BatchFail saved) r in
    let i = items_after h (event.BatchFail saved) r (waiting h) (batch h) (spooled h) (items h none) in
    record { waits = failed_waits h' saved (batch h) (waiting h) i.out i.waits; out = tt; saved = failed_saved h' saved (batch h) (spooled h) i.out i.saved }
items (After h event.BatchAck r) none =
    let i = items_after h event.BatchAck r (waiting h) (batch h) (spooled h) (items h none) in
    record { waits = i.waits; out = tt; saved = i.saved }
items (After h event.Reload r) none =
    let i = items_after h event.Reload r (waiting h) (batch h) (spooled h) (items h none) in
    record { waits = each-append (Given (After h event.Reload r)) (waiting h) (spooled h) i.waits i.saved; out = i.out; saved = tt }
items (After h e r) none =
    let i = items_after h e r (waiting h) (batch h) (spooled h) (items h none) in
    record { waits = i.waits; out = i.out; saved = i.saved }

-- refused entries leave out nothing
kept_case : (h : History) (e : ExecutorEvent) (r : ExecutorReply) (b : Bool) → BeganEmpty h → BeganEmpty (with_accepted b h e r)
kept_case h e r true none = none
kept_case h e r false none = none

pub accepted_none : (h : History) → BeganEmpty h → BeganEmpty (accepted h)
accepted_none (Opening names kept) none = none
accepted_none (After h e r) none = kept_case (accepted h) e r (is_refusal r) (accepted_none h none)

given_case : (h : History) (e : ExecutorEvent) (r : ExecutorReply) (item : CallbackItem) (b : Bool) → Given h item → Given (with_accepted b h e r) item
given_case h e r item true g = g
given_case h e r item false g = given_after h e r item g

pub given_kept : (h : History) (e : ExecutorEvent) (r : ExecutorReply) (item : CallbackItem) → Given (accepted h) item → Given (accepted (After h e r)) item
given_kept h e r item g = given_case (accepted h) e r item (is_refusal r) g
