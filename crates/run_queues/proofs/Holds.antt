-- Queues and fronts hold the runs that each change leaves.
use Rattle.std.proofs.Common.{◌≡◌, ℕ, ◌<◌, ◌≤◌, Bool, true, false, not, ◌==◌, nat_eq, List, [], ◌∷◌, ◌++◌, Option, None, Some, if◌then◌else◌, map, filter, find, drop, length, refl, sym, ap, subst, ◌∙◌, arith, append-nil}
use Rattle.std.proofs.lemmas.Bool.Decides.{nat_tests}
use Rattle.std.proofs.lemmas.List.Elements.{filter-append}
use Rattle.std.specs.List.{IsDistinct, list_any}
use Rattle.std.specs.Map.{keys_of, lookup}
use Rattle.std.specs.Option.{option_map}
use Rattle.job_lane.specs.Runs.{without_first}
use Rattle.job_lane.specs.declared.runs.QueuedRun.{QueuedRun}
use Rattle.job_lane.specs.Lanes.{LaneView}
use Rattle.executor_history.specs.declared.records.Queued.{Queued}
use Rattle.executor_history.specs.Runs.{is_queued_of}
use Rattle.run_queues.specs.declared.front.Front.{Front}
use Rattle.rising_rows.specs.Rising.{RisesFrom}
use Rattle.run_queues.specs.Order.{lane_of, queued_in, queue_of, in_order, RisesWithin, front_of, fronts_of, Hold, put_found, put_next, first_of, some_in, without_front, IsNew, room_in}
use Rattle.run_queues.proofs.Merged.{rises-filter, rises-without, rises-push, same_number, equal_of, others, none_left, merged}
use Rattle.run_queues.proofs.Fronts.{find-first, find-front, found_own, fronts-rise, fronts-without, own_front, restored, fronts-push, gone, own_taken, fresh}

pub seen : (es : List (ℕ × LaneView)) (fs : List Front) (qs : List Queued) (last : ℕ) → Hold es fs qs last → in_order es ≡ qs
seen es fs qs last h = merged es qs last h.once h.rises h.queues_are

pub as_seen : (es : List (ℕ × LaneView)) (fs : List Front) (qs : List Queued) (last : ℕ) → Hold es fs qs last → Hold es fs (in_order es) last
as_seen es fs qs last h = let P : List Queued → Type 0 = λ ys. Hold es fs ys last in subst P (sym (seen es fs qs last h)) h

turn : (m n : ℕ) (b : Bool) → (m == n) ≡ b → (n == m) ≡ b
turn m n true e = grind (arith, nat_tests)
turn m n false e = grind (arith, nat_tests)

-- ---- the ready front taken out
took_queue : (r : ℕ → Bool) (x : Queued) (es es' : List (ℕ × LaneView)) (qs : List Queued) (j : ℕ) (b : Bool) → (x.job == j) ≡ b → find (λ (q : Queued). r q.job) qs ≡ Some x
    → ((job : ℕ) → filter (is_queued_of job) qs ≡ queue_of job es)
    → queue_of j es' ≡ (if x.job == j then drop 1 (queue_of x.job es) else queue_of j es) → filter (is_queued_of j) (without_first (λ (q : Queued). r q.job) qs) ≡ queue_of j es'
took_queue r x es es' qs j true e is are new =
    let same : x.job ≡ j = equal_of x.job j e in
    let k = rw e at new in
    let P : ℕ → Type 0 = λ i. filter (is_queued_of i) (without_first (λ (q : Queued). r q.job) qs) ≡ drop 1 (queue_of x.job es) in
    subst P same (own_taken r x qs is ∙ ap (drop 1) (are x.job)) ∙ sym k
took_queue r x es es' qs j false e is are new =
    let k = rw e at new in
    sym (others j x.job (without_first (λ (q : Queued). r q.job) qs) (turn x.job j false e))
    ∙ (ap (filter (is_queued_of j)) (gone r x qs is) ∙ (others j x.job qs (turn x.job j false e) ∙ (are j ∙ sym k)))

took_fronts : (r : ℕ → Bool) (x : Queued) (es' : List (ℕ × LaneView)) (fs' : List Front) (qs : List Queued) (last : ℕ) → RisesWithin 0 qs last → find (λ (q : Queued). r q.job) qs ≡ Some x
    → ((job : ℕ) → filter (is_queued_of job) (without_first (λ (q : Queued). r q.job) qs) ≡ queue_of job es')
    → fs' ≡ put_found (first_of (queue_of x.job es')) (filter (λ (f : Front). not (x.run.number == f.number)) (fronts_of qs)) → fs' ≡ fronts_of (without_first (λ (q : Queued). r q.job) qs)
took_fronts r x es' fs' qs last rises is are new =
    let left = without_first (λ (q : Queued). r q.job) qs in
    let first : find (is_queued_of x.job) left ≡ first_of (queue_of x.job es') = find-first (is_queued_of x.job) left ∙ ap first_of (are x.job) in
    let rest : filter (λ (f : Front). not (x.job == f.job)) (fronts_of left) ≡ filter (λ (f : Front). not (x.run.number == f.number)) (fronts_of qs) =
    sym (fronts-without x.job left) ∙ (ap fronts_of (gone r x qs is) ∙ (fronts-without x.job qs ∙ sym (own_front x.job 0 last qs x rises (found_own r qs x is)))) in
    new ∙ sym (restored x.job 0 last left (rises-without (λ (q : Queued). r q.job) 0 last qs rises) ∙ rw (first, rest) refl)

pub took : (r : ℕ → Bool) (x : Queued) (es es' : List (ℕ × LaneView)) (fs fs' : List Front) (qs : List Queued) (last : ℕ) → Hold es fs qs last → find (λ (q : Queued). r q.job) qs ≡ Some x → IsDistinct nat_eq (keys_of es')
    → ((j : ℕ) → queue_of j es' ≡ (if x.job == j then drop 1 (queue_of x.job es) else queue_of j es))
    → fs' ≡ put_found (first_of (queue_of x.job es')) (filter (λ (f : Front). not (x.run.number == f.number)) fs) → Hold es' fs' (without_first (λ (q : Queued). r q.job) qs) last
took r x es es' fs fs' qs last h is once new fronts =
    let are : (j : ℕ) → filter (is_queued_of j) (without_first (λ (q : Queued). r q.job) qs) ≡ queue_of j es' = λ j. took_queue r x es es' qs j (x.job == j) refl is h.queues_are (new j) in
    record {
      once = once;
      rises = rises-without (λ (q : Queued). r q.job) 0 last qs h.rises;
      queues_are = are;
      fronts_are = took_fronts r x es' fs' qs last h.rises is are (rw h.fronts_are at fronts);
    }

-- ---- the queue of a job emptied
dropped_queue : (job : ℕ) (es es' : List (ℕ × LaneView)) (qs : List Queued) (j : ℕ) (b : Bool) → (job == j) ≡ b → ((i : ℕ) → filter (is_queued_of i) qs ≡ queue_of i es)
    → queue_of j es' ≡ (if job == j then [] else queue_of j es) → filter (is_queued_of j) (filter (λ (q : Queued). not (is_queued_of job q)) qs) ≡ queue_of j es'
dropped_queue job es es' qs j true e are new =
    let same : job ≡ j = equal_of job j e in
    let k = rw e at new in
    let P : ℕ → Type 0 = λ i. filter (is_queued_of i) (filter (λ (q : Queued). not (is_queued_of job q)) qs) ≡ [] in
    subst P same (none_left job qs) ∙ sym k
dropped_queue job es es' qs j false e are new = let k = rw e at new in others j job qs (turn job j false e) ∙ (are j ∙ sym k)

dropped_fronts : (job : ℕ) (es : List (ℕ × LaneView)) (qs : List Queued) (last : ℕ) (o : Option Queued) → RisesWithin 0 qs last → find (is_queued_of job) qs ≡ o
    → without_front (option_map front_of o) (fronts_of qs) ≡ filter (λ (f : Front). not (job == f.job)) (fronts_of qs)
dropped_fronts job es qs last None rises is = let k = restored job 0 last qs rises in rw is at k
dropped_fronts job es qs last (Some x) rises is = own_front job 0 last qs x rises is

pub dropped : (job : ℕ) (es es' : List (ℕ × LaneView)) (fs fs' : List Front) (qs : List Queued) (last : ℕ) → Hold es fs qs last → IsDistinct nat_eq (keys_of es')
    → ((j : ℕ) → queue_of j es' ≡ (if job == j then [] else queue_of j es)) → fs' ≡ without_front (option_map front_of (first_of (queue_of job es))) fs
    → Hold es' fs' (filter (λ (q : Queued). not (is_queued_of job q)) qs) last
dropped job es es' fs fs' qs last h once new fronts =
    let first : find (is_queued_of job) qs ≡ first_of (queue_of job es) = find-first (is_queued_of job) qs ∙ ap first_of (h.queues_are job) in
    let k = rw h.fronts_are at fronts in
    record {
      once = once;
      rises = rises-filter (λ (q : Queued). not (is_queued_of job q)) 0 last qs h.rises;
      queues_are = λ j. dropped_queue job es es' qs j (job == j) refl h.queues_are (new j);
      fronts_are = k ∙ (dropped_fronts job es qs last (first_of (queue_of job es)) h.rises first ∙ sym (fronts-without job qs));
    }

-- ---- a run put behind
pub any-some : (p : Queued → Bool) (qs : List Queued) → list_any p qs ≡ some_in (filter p qs)
any-some p [] = refl
any-some p (q ∷ qs) = by_test (p q) refl (any-some p qs) where
  by_test : (b : Bool) → p q ≡ b → list_any p qs ≡ some_in (filter p qs) → list_any p (q ∷ qs) ≡ some_in (filter p (q ∷ qs))
  by_test true e h = rw e refl
  by_test false e h = rw e h

pushed_queue : (new : Queued) (es es' : List (ℕ × LaneView)) (qs : List Queued) (j : ℕ) (b : Bool) → (new.job == j) ≡ b → ((i : ℕ) → filter (is_queued_of i) qs ≡ queue_of i es)
    → queue_of j es' ≡ (if new.job == j then queue_of new.job es ++ new ∷ [] else queue_of j es) → filter (is_queued_of j) (qs ++ new ∷ []) ≡ queue_of j es'
pushed_queue new es es' qs j true e are given =
    let same : new.job ≡ j = equal_of new.job j e in
    let k = rw e at given in
    let P : ℕ → Type 0 = λ i. filter (is_queued_of i) qs ++ filter (is_queued_of i) (new ∷ []) ≡ queue_of new.job es ++ new ∷ [] in
    filter-append (is_queued_of j) qs (new ∷ []) ∙ (subst P same (rw same_number (ap (λ ys. ys ++ new ∷ []) (are new.job))) ∙ sym k)
pushed_queue new es es' qs j false e are given =
    let k = rw e at given in
    filter-append (is_queued_of j) qs (new ∷ []) ∙ rw (turn new.job j false e) (append-nil (filter (is_queued_of j) qs) ∙ (are j ∙ sym k))

pub pushed : (new : Queued) (es es' : List (ℕ × LaneView)) (fs fs' : List Front) (qs : List Queued) (last : ℕ) → Hold es fs qs last → last < new.run.number → IsDistinct nat_eq (keys_of es')
    → ((j : ℕ) → queue_of j es' ≡ (if new.job == j then queue_of new.job es ++ new ∷ [] else queue_of j es)) → fs' ≡ (if some_in (queue_of new.job es) then fs else fs ++ front_of new ∷ [])
    → Hold es' fs' (qs ++ new ∷ []) new.run.number
pushed new es es' fs fs' qs last h up once given fronts =
    let some : list_any (is_queued_of new.job) qs ≡ some_in (queue_of new.job es) = any-some (is_queued_of new.job) qs ∙ ap some_in (h.queues_are new.job) in
    let k = rw h.fronts_are at fronts in
    record {
      once = once;
      rises = rises-push 0 last qs new h.rises up;
      queues_are = λ j. pushed_queue new es es' qs j (new.job == j) refl h.queues_are (given j);
      fronts_are = k ∙ sym (fronts-push qs new ∙ rw some refl);
    }

-- ---- room made
pub same : (es es' : List (ℕ × LaneView)) (fs : List Front) (qs : List Queued) (last : ℕ) → Hold es fs qs last → IsDistinct nat_eq (keys_of es') → ((j : ℕ) → queue_of j es' ≡ queue_of j es) → Hold es' fs qs last
same es es' fs qs last h once are = record { once = once; rises = h.rises; queues_are = λ j. h.queues_are j ∙ sym (are j); fronts_are = h.fronts_are }

-- ---- by the fronts
pub rises : (es : List (ℕ × LaneView)) (fs : List Front) (qs : List Queued) (last : ℕ) → Hold es fs qs last → RisesFrom (λ (f : Front). f.number) 0 fs
rises es fs qs last h = rw h.fronts_are (fronts-rise 0 last qs h.rises)

pub record FoundRun (r : ℕ → Bool) (qs : List Queued) (f : Front) : Type 0 where
  pub run : Queued
  pub found : find (λ (q : Queued). r q.job) qs ≡ Some run
  pub same : front_of run ≡ f

run_by : (r : ℕ → Bool) (qs : List Queued) (f : Front) (o : Option Queued) → find (λ (q : Queued). r q.job) qs ≡ o → option_map front_of o ≡ Some f → FoundRun r qs f
run_by r qs f None is e = absurd cc
run_by r qs f (Some x) is e = record { run = x; found = is; same = cc }

pub found_run : (r : ℕ → Bool) (es : List (ℕ × LaneView)) (fs : List Front) (qs : List Queued) (last : ℕ) (f : Front) → Hold es fs qs last → find (λ (g : Front). r g.job) fs ≡ Some f → FoundRun r qs f
found_run r es fs qs last f h is = run_by r qs f (find (λ (q : Queued). r q.job) qs) refl (sym (find-front r qs) ∙ rw h.fronts_are at is)

put_same : (o : Option Queued) (fs : List Front) → put_next (option_map front_of o) fs ≡ put_found o fs
put_same None fs = refl
put_same (Some q) fs = refl

-- the run of the ready front is the ready run that was accepted first
pub first_ready : (r : ℕ → Bool) (es : List (ℕ × LaneView)) (fs : List Front) (qs : List Queued) (last : ℕ) (f : Front) → Hold es fs qs last → find (λ (g : Front). r g.job) fs ≡ Some f
    → first_of (queue_of f.job es) ≡ find (λ (q : Queued). r q.job) qs
first_ready r es fs qs last f h is =
    let x = found_run r es fs qs last f h is in
    let P : Front → Type 0 = λ g. first_of (queue_of g.job es) ≡ find (λ (q : Queued). r q.job) qs in
    subst P x.same (sym (find-first (is_queued_of x.run.job) qs ∙ ap first_of (h.queues_are x.run.job)) ∙ (found_own r qs x.run x.found ∙ sym x.found))

pub took_front : (r : ℕ → Bool) (es es' : List (ℕ × LaneView)) (fs fs' : List Front) (qs : List Queued) (last : ℕ) (f : Front) → Hold es fs qs last → find (λ (g : Front). r g.job) fs ≡ Some f → IsDistinct nat_eq (keys_of es')
    → ((j : ℕ) → queue_of j es' ≡ (if f.job == j then drop 1 (queue_of f.job es) else queue_of j es))
    → fs' ≡ put_next (option_map front_of (first_of (queue_of f.job es'))) (filter (λ (g : Front). not (f.number == g.number)) fs) → Hold es' fs' (without_first (λ (q : Queued). r q.job) qs) last
took_front r es es' fs fs' qs last f h is once =
    let x = found_run r es fs qs last f h is in
    let P : Front → Type 0 = λ g. ((j : ℕ) → queue_of j es' ≡ (if g.job == j then drop 1 (queue_of g.job es) else queue_of j es))
    → fs' ≡ put_next (option_map front_of (first_of (queue_of g.job es'))) (filter (λ (k : Front). not (g.number == k.number)) fs) → Hold es' fs' (without_first (λ (q : Queued). r q.job) qs) last in
    subst P x.same (λ new fronts. took r x.run es es' fs fs' qs last h x.found once new (fronts ∙ put_same (first_of (queue_of x.run.job es')) (filter (λ (k : Front). not (x.run.run.number == k.number)) fs)))

none_by : (o : Option Queued) → option_map front_of o ≡ None → o ≡ None
none_by None e = refl
none_by (Some x) e = absurd cc

-- no front is ready where no run is
pub none_ready : (r : ℕ → Bool) (es : List (ℕ × LaneView)) (fs : List Front) (qs : List Queued) (last : ℕ) → Hold es fs qs last → find (λ (g : Front). r g.job) fs ≡ None → find (λ (q : Queued). r q.job) qs ≡ None
none_ready r es fs qs last h is = none_by (find (λ (q : Queued). r q.job) qs) (sym (find-front r qs) ∙ rw h.fronts_are at is)

none_step : (p : Queued → Bool) (q : Queued) (qs : List Queued) (b : Bool) → p q ≡ b → find p (q ∷ qs) ≡ None → (find p qs ≡ None → without_first p qs ≡ qs) → without_first p (q ∷ qs) ≡ q ∷ qs
none_step p q qs true e is h = let k = rw e at is in absurd cc
none_step p q qs false e is h = rw e (ap (λ ys. q ∷ ys) (h (rw e at is)))

pub none_taken : (p : Queued → Bool) (qs : List Queued) → find p qs ≡ None → without_first p qs ≡ qs
none_taken p [] is = refl
none_taken p (q ∷ qs) is = none_step p q qs (p q) refl is (none_taken p qs)

no_more : (p : Front → Bool) (fs : List Front) → length (filter p fs) ≤ length fs
no_more p [] = omega arith
no_more p (f ∷ fs) = by_test (p f) refl (no_more p fs) where
  by_test : (b : Bool) → p f ≡ b → length (filter p fs) ≤ length fs → length (filter p (f ∷ fs)) ≤ length (f ∷ fs)
  by_test true e h = rw e (omega (arith, h))
  by_test false e h = rw e (omega (arith, h))

fewer_step : (p : Front → Bool) (g f : Front) (fs : List Front) (b c : Bool) → p g ≡ b → (f.number == g.number) ≡ c → find p (g ∷ fs) ≡ Some f
    → (find p fs ≡ Some f → length (filter (λ (k : Front). not (f.number == k.number)) fs) < length fs) → length (filter (λ (k : Front). not (f.number == k.number)) (g ∷ fs)) < length (g ∷ fs)
fewer_step p g f fs b true t e is h = rw e (omega (arith, no_more (λ (k : Front). not (f.number == k.number)) fs))
fewer_step p g f fs true false t e is h =
    let k = rw t at is in
    let same : g ≡ f = cc in
    let n : f.number ≡ g.number = ap (λ (k : Front). k.number) (sym same) in
    absurd (grind (arith, nat_tests))
fewer_step p g f fs false false t e is h = let k = h (rw t at is) in rw e (omega (arith, k))

-- without the front that was found there are fewer
pub fewer : (p : Front → Bool) (f : Front) (fs : List Front) → find p fs ≡ Some f → length (filter (λ (k : Front). not (f.number == k.number)) fs) < length fs
fewer p f [] is = absurd cc
fewer p f (g ∷ fs) is = fewer_step p g f fs (p g) (f.number == g.number) refl refl is (fewer p f fs)

-- ---- what lanes tell of their queues
pub some_map : {X Y : Type 0} (f : X → Y) (xs : List X) → some_in (map f xs) ≡ some_in xs
some_map f [] = refl
some_map f (x ∷ xs) = refl

pub first_map : {X Y : Type 0} (f : X → Y) (xs : List X) → first_of (map f xs) ≡ option_map f (first_of xs)
first_map f [] = refl
first_map f (x ∷ xs) = refl

pub queue_ended : (job : ℕ) (es es' : List (ℕ × LaneView)) → ((j : ℕ) → (lane_of j es').queue ≡ (if job == j then [] else (lane_of j es).queue)) → (j : ℕ) → queue_of j es' ≡ (if job == j then [] else queue_of j es)
queue_ended job es es' new j = ap (map (queued_in j)) (new j) ∙ by_test (job == j) refl where
  by_test : (b : Bool) → (job == j) ≡ b → map (queued_in j) (if job == j then [] else (lane_of j es).queue) ≡ (if job == j then [] else queue_of j es)
  by_test true e = rw e refl
  by_test false e = rw e refl

pub queue_same : (es es' : List (ℕ × LaneView)) → ((j : ℕ) → (lane_of j es').queue ≡ (lane_of j es).queue) → (j : ℕ) → queue_of j es' ≡ queue_of j es
queue_same es es' new j = ap (map (queued_in j)) (new j)

map_push : {X Y : Type 0} (f : X → Y) (xs : List X) (x : X) → map f (xs ++ x ∷ []) ≡ map f xs ++ f x ∷ []
map_push f [] x = refl
map_push f (y ∷ ys) x = ap (λ zs. f y ∷ zs) (map_push f ys x)

pub queue_pushed : (job : ℕ) (run : QueuedRun) (es es' : List (ℕ × LaneView)) → ((j : ℕ) → (lane_of j es').queue ≡ (if job == j then (lane_of job es).queue ++ run ∷ [] else (lane_of j es).queue)) → (j : ℕ) → queue_of j es' ≡ (if job == j then queue_of job es ++ queued_in job run ∷ [] else queue_of j es)
queue_pushed job run es es' new j = ap (map (queued_in j)) (new j) ∙ by_test (job == j) refl where
  by_test : (b : Bool) → (job == j) ≡ b → map (queued_in j) (if job == j then (lane_of job es).queue ++ run ∷ [] else (lane_of j es).queue) ≡ (if job == j then queue_of job es ++ queued_in job run ∷ [] else queue_of j es)
  by_test true e =
      let one : job ≡ j = equal_of job j e in
      let P : ℕ → Type 0 = λ i. map (queued_in i) ((lane_of job es).queue ++ run ∷ []) ≡ queue_of job es ++ queued_in job run ∷ [] in
      rw e (subst P one (map_push (queued_in job) (lane_of job es).queue run))
  by_test false e = rw e refl

map_less : {X Y : Type 0} (f : X → Y) (xs : List X) → map f (drop 1 xs) ≡ drop 1 (map f xs)
map_less f [] = refl
map_less f (x ∷ xs) = refl

pub queue_taken : (job : ℕ) (es es' : List (ℕ × LaneView)) → ((j : ℕ) → (lane_of j es').queue ≡ (if job == j then drop 1 (lane_of job es).queue else (lane_of j es).queue)) → (j : ℕ) → queue_of j es' ≡ (if job == j then drop 1 (queue_of job es) else queue_of j es)
queue_taken job es es' new j = ap (map (queued_in j)) (new j) ∙ by_test (job == j) refl where
  by_test : (b : Bool) → (job == j) ≡ b → map (queued_in j) (if job == j then drop 1 (lane_of job es).queue else (lane_of j es).queue) ≡ (if job == j then drop 1 (queue_of job es) else queue_of j es)
  by_test true e =
      let one : job ≡ j = equal_of job j e in
      let P : ℕ → Type 0 = λ i. map (queued_in i) (drop 1 (lane_of job es).queue) ≡ drop 1 (queue_of job es) in
      rw e (subst P one (map_less (queued_in job) (lane_of job es).queue))
  by_test false e = rw e refl

front_case : (job : ℕ) (queue : List QueuedRun) → option_map (λ (run : QueuedRun). record { number = run.number; job = job }) (first_of queue) ≡ option_map front_of (first_of (map (queued_in job) queue))
front_case job [] = refl
front_case job (run ∷ queue) = refl

-- the front of a job
pub lane_front : (job : ℕ) (es : List (ℕ × LaneView)) → option_map (λ (run : QueuedRun). record { number = run.number; job = job }) (first_of (lane_of job es).queue) ≡ option_map front_of (first_of (queue_of job es))
lane_front job es = front_case job (lane_of job es).queue

room_case : (job : ℕ) (e : ℕ × LaneView) (es : List (ℕ × LaneView)) (b : Bool) → nat_eq job e.0 ≡ b → (lane_of job es).room ≡ room_in (lookup (nat_eq job) (map (λ (e : ℕ × LaneView). (e.0, e.1.room)) es)) → (lane_of job (e ∷ es)).room ≡ room_in (lookup (nat_eq job) (map (λ (e : ℕ × LaneView). (e.0, e.1.room)) (e ∷ es)))
room_case job e es true is h = rw is refl
room_case job e es false is h = rw is h

-- the room of a lane, as it is told
pub lane_room : (job : ℕ) (es : List (ℕ × LaneView)) → (lane_of job es).room ≡ room_in (lookup (nat_eq job) (map (λ (e : ℕ × LaneView). (e.0, e.1.room)) es))
lane_room job [] = refl
lane_room job (e ∷ es) = room_case job e es (nat_eq job e.0) refl (lane_room job es)

new_case : (job : ℕ) (o : Option Queued) (fs : List Front) → ((x : Queued) → o ≡ Some x → list_any (λ (g : Front). x.run.number == g.number) fs ≡ false) → IsNew (option_map front_of o) fs
new_case job None fs h = tt
new_case job (Some x) fs h = h x refl

-- the next front of a job is a new one
pub next_new : (r : ℕ → Bool) (es es' : List (ℕ × LaneView)) (fs : List Front) (qs : List Queued) (last : ℕ) (f : Front) → Hold es fs qs last → find (λ (g : Front). r g.job) fs ≡ Some f
    → ((j : ℕ) → queue_of j es' ≡ (if f.job == j then drop 1 (queue_of f.job es) else queue_of j es)) → IsNew (option_map front_of (first_of (queue_of f.job es'))) (filter (λ (g : Front). not (f.number == g.number)) fs)
next_new r es es' fs qs last f h is =
    let x = found_run r es fs qs last f h is in
    let P : Front → Type 0 = λ g. ((j : ℕ) → queue_of j es' ≡ (if g.job == j then drop 1 (queue_of g.job es) else queue_of j es)) → IsNew (option_map front_of (first_of (queue_of g.job es'))) (filter (λ (k : Front). not (g.number == k.number)) fs) in
    subst P x.same (λ new. as_fronts x.run (new_front r x.run es es' qs last h.rises x.found h.queues_are new)) where
      as_fronts : (y : Queued) → IsNew (option_map front_of (first_of (queue_of y.job es'))) (filter (λ (k : Front). not (y.run.number == k.number)) (fronts_of qs)) → IsNew (option_map front_of (first_of (queue_of y.job es'))) (filter (λ (k : Front). not (y.run.number == k.number)) fs)
      as_fronts y new = let Q : List Front → Type 0 = λ gs. IsNew (option_map front_of (first_of (queue_of y.job es'))) (filter (λ (k : Front). not (y.run.number == k.number)) gs) in subst Q (sym h.fronts_are) new

      new_front : (r : ℕ → Bool) (x : Queued) (es es' : List (ℕ × LaneView)) (qs : List Queued) (last : ℕ) → RisesWithin 0 qs last → find (λ (q : Queued). r q.job) qs ≡ Some x → ((job : ℕ) → filter (is_queued_of job) qs ≡ queue_of job es)
          → ((j : ℕ) → queue_of j es' ≡ (if x.job == j then drop 1 (queue_of x.job es) else queue_of j es)) → IsNew (option_map front_of (first_of (queue_of x.job es'))) (filter (λ (k : Front). not (x.run.number == k.number)) (fronts_of qs))
      new_front r x es es' qs last up is are new =
          let left = without_first (λ (q : Queued). r q.job) qs in
          let here : filter (is_queued_of x.job) left ≡ queue_of x.job es' = took_queue r x es es' qs x.job (x.job == x.job) refl is are (new x.job) in
          let first : find (is_queued_of x.job) left ≡ first_of (queue_of x.job es') = find-first (is_queued_of x.job) left ∙ ap first_of here in
          let rest : filter (λ (f : Front). not (x.job == f.job)) (fronts_of left) ≡ filter (λ (f : Front). not (x.run.number == f.number)) (fronts_of qs) =
          sym (fronts-without x.job left) ∙ (ap fronts_of (gone r x qs is) ∙ (fronts-without x.job qs ∙ sym (own_front x.job 0 last qs x up (found_own r qs x is)))) in
          new_case x.job (first_of (queue_of x.job es')) (filter (λ (k : Front). not (x.run.number == k.number)) (fronts_of qs))
          (λ y k. rw (← rest) (fresh x.job 0 last left y (rises-without (λ (q : Queued). r q.job) 0 last qs up) (first ∙ k)))

-- ---- tests of jobs that agree
find_same : (r s : Queued → Bool) → ((q : Queued) → r q ≡ s q) → (qs : List Queued) → find r qs ≡ find s qs
find_same r s same [] = refl
find_same r s same (q ∷ qs) = rw same (ap (λ o. if s q then Some q else o) (find_same r s same qs))

pub ready_same : (r s : Queued → Bool) → ((q : Queued) → r q ≡ s q) → (qs : List Queued) → (find r qs ≡ find s qs) × (without_first r qs ≡ without_first s qs)
ready_same r s same qs = (find_same r s same qs, left_same qs) where
  left_same : (xs : List Queued) → without_first r xs ≡ without_first s xs
  left_same [] = refl
  left_same (x ∷ xs) = rw same (ap (λ ys. if s x then xs else x ∷ ys) (left_same xs))
