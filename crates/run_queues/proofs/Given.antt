-- The ready front given to a free runner.
use Rattle.std.proofs.Common.{◌≡◌, ℕ, ◌-◌, Bool, true, false, not, ◌==◌, nat_lt, nat_eq, List, [], ◌∷◌, None, Some, if◌then◌else◌, map, filter, find, drop, refl, sym, ap, subst, ◌∙◌}
use Rattle.std.proofs.lemmas.Bool.{false≢true}
use Rattle.std.specs.List.{IsDistinct}
use Rattle.std.specs.Map.{keys_of}
use Rattle.std.specs.Option.{option_map}
use Rattle.job_lane.specs.declared.runs.QueuedRun.{QueuedRun}
use Rattle.job_lane.specs.declared.runs.RunnerRun.{RunnerRun}
use Rattle.job_lane.specs.Runs.{without_first, put_before}
use Rattle.job_lane.specs.Lanes.{LaneView, runs, front_of, queue_polled, put_started}
use Rattle.executor_history.specs.declared.records.Queued.{Queued}
use Rattle.executor_history.specs.declared.records.Working.{Working}
use Rattle.executor_history.specs.Runs.{is_ready, ready_front, run_on, working_run, put_working}
use Rattle.run_queues.specs.declared.front.Front.{Front}
use Rattle.run_queues.specs.declared.serving.Serving.{Serving}
use Rattle.run_queues.specs.Order.{lane_of, queued_in, queue_of, first_of, Hold, put_next}
use Rattle.run_queues.specs.Order.{front_of as front_in}
use Rattle.run_queues.specs.Serving.{Serve}
use Rattle.run_queues.proofs.Holds.{found_run, first_ready, first_map, ready_same, queue_taken, took_front}
use Rattle.run_queues.specs.Waiting.{times, one_of, Counts}
use Rattle.run_queues.proofs.Served.{lane_runs, given}
use Rattle.run_queues.proofs.Counted.{took-counts}

-- a job is free where no run in its lane runs
abbrev pub free : List (ℕ × LaneView) → ℕ → Bool
free es job = not (runs (lane_of job es).on_runners)

pub ready_is : (es : List (ℕ × LaneView)) (ss : List Serving) (ws : List Working) (qs : List Queued) → Serve es ss ws → (find (λ (q : Queued). free es q.job) qs ≡ ready_front qs ws) × (without_first (λ (q : Queued). free es q.job) qs ≡ without_first (is_ready ws) qs)
ready_is es ss ws qs h = ready_same (λ (q : Queued). free es q.job) (is_ready ws) (λ q. ap not (lane_runs es ss ws q.job h)) qs

passes_step : (p : Front → Bool) (f g : Front) (gs : List Front) (b : Bool) → p g ≡ b → find p (g ∷ gs) ≡ Some f → (find p gs ≡ Some f → p f ≡ true) → p f ≡ true
passes_step p f g gs true e is rest = let k = rw e at is in let same : g ≡ f = cc in ap p (sym same) ∙ e
passes_step p f g gs false e is rest = rest (rw e at is)

passes : (p : Front → Bool) (f : Front) (fs : List Front) → find p fs ≡ Some f → p f ≡ true
passes p f [] is = absurd cc
passes p f (g ∷ gs) is = passes_step p f g gs (p g) refl is (passes p f gs)

not_true : (b : Bool) → not b ≡ true → b ≡ false
not_true true e = absurd (false≢true e)
not_true false e = refl

-- the lane of the ready front is ready
pub lane_ready : (es : List (ℕ × LaneView)) (fs : List Front) (f : Front) → find (λ (g : Front). free es g.job) fs ≡ Some f → runs (lane_of f.job es).on_runners ≡ false
lane_ready es fs f is = not_true (runs (lane_of f.job es).on_runners) (passes (λ (g : Front). free es g.job) f fs is)

polled_case : (queue : List QueuedRun) (on_runners : List RunnerRun) (b : Bool) → runs on_runners ≡ b → b ≡ false → queue_polled queue on_runners ≡ drop 1 queue
polled_case queue on_runners true e k = absurd (false≢true (sym k))
polled_case queue on_runners false e k = rw e refl

-- the queues behind it
pub queues_polled : (es es' : List (ℕ × LaneView)) (fs : List Front) (f : Front) → find (λ (g : Front). free es g.job) fs ≡ Some f
    → ((j : ℕ) → (lane_of j es').queue ≡ (if f.job == j then queue_polled (lane_of f.job es).queue (lane_of f.job es).on_runners else (lane_of j es).queue))
    → (j : ℕ) → queue_of j es' ≡ (if f.job == j then drop 1 (queue_of f.job es) else queue_of j es)
queues_polled es es' fs f is new =
    let ready = lane_ready es fs f is in
    let one = polled_case (lane_of f.job es).queue (lane_of f.job es).on_runners (runs (lane_of f.job es).on_runners) refl ready in
    queue_taken f.job es es' (λ j. new j ∙ ap (λ queue. if f.job == j then queue else (lane_of j es).queue) one)

front_case : (f : Front) (runner at : ℕ) (queue : List QueuedRun) (on_runners : List RunnerRun) (x : Queued) (b : Bool) → runs on_runners ≡ b → b ≡ false → first_of (map (queued_in f.job) queue) ≡ Some x
    → put_started runner at (front_of queue on_runners) on_runners ≡ put_before (λ (run : RunnerRun). nat_lt runner run.runner) (working_run runner at x).run on_runners
front_case f runner at queue on_runners x true e k is = absurd (false≢true (sym k))
front_case f runner at [] on_runners x false e k is = absurd cc
front_case f runner at (run ∷ queue) on_runners x false e k is =
    let same : queued_in f.job run ≡ x = cc in
    let P : Queued → Type 0 = λ y. put_started runner at (front_of (run ∷ queue) on_runners) on_runners ≡ put_before (λ (other : RunnerRun). nat_lt runner other.runner) (working_run runner at y).run on_runners in
    subst P same (rw e refl)

pub serve_given : (es es' : List (ℕ × LaneView)) (fs : List Front) (ss ss' : List Serving) (ws : List Working) (qs : List Queued) (last : ℕ) (f : Front) (runner at : ℕ) → Hold es fs qs last → Serve es ss ws → find (λ (g : Front). free es g.job) fs ≡ Some f
    → run_on runner ws ≡ None
    → ((j : ℕ) → (lane_of j es').on_runners ≡ (if f.job == j then put_started runner at (front_of (lane_of f.job es).queue (lane_of f.job es).on_runners) (lane_of f.job es).on_runners else (lane_of j es).on_runners))
    → ss' ≡ put_before (λ (s : Serving). nat_lt runner s.runner) (record { runner = runner; job = f.job; number = f.number }) ss
    → Serve es' ss' (put_working runner at (ready_front qs ws) ws)
serve_given es es' fs ss ss' ws qs last f runner at hold h is none =
    let x = found_run (free es) es fs qs last f hold is in
    let found : ready_front qs ws ≡ Some x.run = sym (ready_is es ss ws qs h).0 ∙ x.found in
    let P : Front → Type 0 = λ g. runs (lane_of g.job es).on_runners ≡ false → first_of (queue_of g.job es) ≡ Some x.run
    → ((j : ℕ) → (lane_of j es').on_runners ≡ (if g.job == j then put_started runner at (front_of (lane_of g.job es).queue (lane_of g.job es).on_runners) (lane_of g.job es).on_runners else (lane_of j es).on_runners))
    → ss' ≡ put_before (λ (s : Serving). nat_lt runner s.runner) (record { runner = runner; job = g.job; number = g.number }) ss
    → Serve es' ss' (put_working runner at (ready_front qs ws) ws) in
    let of_run : P (front_in x.run) =
    λ ready first new serving. rw found (given es es' ss ss' ws (working_run runner at x.run) h none
    (λ j. new j ∙ ap (λ rs. if x.run.job == j then rs else (lane_of j es).on_runners)
    (front_case (front_in x.run) runner at (lane_of x.run.job es).queue (lane_of x.run.job es).on_runners x.run (runs (lane_of x.run.job es).on_runners) refl ready first)) serving) in
    subst P x.same of_run (lane_ready es fs f is) (first_ready (free es) es fs qs last f hold is ∙ x.found)

pub hold_given : (es es' : List (ℕ × LaneView)) (fs fs' : List Front) (ss : List Serving) (ws : List Working) (qs : List Queued) (last : ℕ) (f : Front) → Hold es fs qs last → Serve es ss ws → find (λ (g : Front). free es g.job) fs ≡ Some f
    → IsDistinct nat_eq (keys_of es') → ((j : ℕ) → queue_of j es' ≡ (if f.job == j then drop 1 (queue_of f.job es) else queue_of j es))
    → fs' ≡ put_next (option_map front_in (first_of (queue_of f.job es'))) (filter (λ (g : Front). not (f.number == g.number)) fs) → Hold es' fs' (without_first (is_ready ws) qs) last
hold_given es es' fs fs' ss ws qs last f hold h is once new fronts =
    let P : List Queued → Type 0 = λ ys. Hold es' fs' ys last in
    subst P (ready_is es ss ws qs h).1 (took_front (free es) es es' fs fs' qs last f hold is once new fronts)

pub counts_given : (es : List (ℕ × LaneView)) (fs : List Front) (ss : List Serving) (ws : List Working) (qs : List Queued) (last : ℕ) (f : Front) (logs logs' : List (ℕ × ℕ)) → Hold es fs qs last → Serve es ss ws → find (λ (g : Front). free es g.job) fs ≡ Some f
    → Counts logs qs → IsDistinct nat_eq (keys_of logs') → ((log : ℕ) → times log logs' ≡ times log logs - one_of log (first_of (lane_of f.job es).queue)) → Counts logs' (without_first (is_ready ws) qs)
counts_given es fs ss ws qs last f logs logs' hold h is counts once new =
    let x = found_run (free es) es fs qs last f hold is in
    let P : List Queued → Type 0 = λ ys. Counts logs' ys in
    subst P (ready_is es ss ws qs h).1
    (took-counts (λ (q : Queued). free es q.job) x.run f.job (lane_of f.job es).queue logs logs' qs counts x.found (first_ready (free es) es fs qs last f hold is ∙ x.found) once new)

-- the ready front is the first run in the lane of its job
pub front_is : (es : List (ℕ × LaneView)) (fs : List Front) (ss : List Serving) (ws : List Working) (qs : List Queued) (last : ℕ) (f : Front) → Hold es fs qs last → Serve es ss ws → find (λ (g : Front). free es g.job) fs ≡ Some f → ready_front qs ws ≡ option_map (queued_in f.job) (first_of (lane_of f.job es).queue)
front_is es fs ss ws qs last f hold h is =
    sym (ready_is es ss ws qs h).0 ∙ (sym (first_ready (free es) es fs qs last f hold is) ∙ first_map (queued_in f.job) (lane_of f.job es).queue)
