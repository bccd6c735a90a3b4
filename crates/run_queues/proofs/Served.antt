-- Lanes and what runners serve hold the runs on runners that each change leaves.
use Rattle.std.proofs.Common.{◌≡◌, ℕ, ◌+◌, ◌<◌, Bool, true, false, not, ◌==◌, ◌||◌, nat_lt, List, [], ◌∷◌, Option, None, Some, if◌then◌else◌, map, filter, find, take, length, get_or, refl, sym, ap, subst, ◌∙◌, arith, zero, suc, add-one}
use Rattle.std.proofs.lemmas.Bool.Decides.{nat_tests}
use Rattle.std.specs.List.{list_any, AllByRecursion as Each}
use Rattle.std.specs.Option.{option_map}
use Rattle.job_lane.specs.declared.runs.RunnerRun.{RunnerRun}
use Rattle.job_lane.specs.Runs.{without_first, put_before, is_running, is_overdue, ended_run, expired_run}
use Rattle.job_lane.specs.Lanes.{LaneView, runs}
use Rattle.executor_history.specs.declared.records.Working.{Working}
use Rattle.executor_history.specs.Runs.{is_on, job_runs, ended_of, expired_of}
use Rattle.rising_rows.specs.Rising.{RisesFrom}
use Rattle.rising_rows.proofs.RowLemmas.{rises-filter, rises-lower}
use Rattle.run_queues.specs.declared.serving.Serving.{Serving}
use Rattle.run_queues.specs.Order.{lane_of}
use Rattle.run_queues.specs.Serving.{served_run, working_as, put_served, by_runner, serving_of, is_working_of, runner_key, Serve}

abbrev run_of : Working → RunnerRun
run_of w = w.run

-- the runs of a job on runners
abbrev pub own : ℕ → List Working → List RunnerRun
own job ws = map run_of (filter (is_working_of job) ws)

turn : (m n : ℕ) (b : Bool) → (m == n) ≡ b → (n == m) ≡ b
turn m n true e = grind (arith, nat_tests)
turn m n false e = grind (arith, nat_tests)

equal_of : (m n : ℕ) → (m == n) ≡ true → m ≡ n
equal_of m n h = grind (arith, nat_tests)

same_number : (n : ℕ) → (n == n) ≡ true
same_number n = grind (arith, nat_tests)

apart : (m n : ℕ) → m < n → (n == m) ≡ false
apart m n h = grind (arith, nat_tests)

over : (m n : ℕ) → m < n → (m == n) ≡ false
over m n h = grind (arith, nat_tests)

less : (m n : ℕ) → m < n → nat_lt m n ≡ true
less m n h = grind (arith, nat_tests)

-- ---- the run of a runner is in the lane of the job that it serves
own_step : (r : ℕ) (w y : Working) (ys : List Working) (b c : Bool) → is_on r y ≡ b → (w.job == y.job) ≡ c → find (is_on r) (y ∷ ys) ≡ Some w
    → (find (is_on r) ys ≡ Some w → find (λ (run : RunnerRun). r == run.runner) (own w.job ys) ≡ Some w.run)
    → find (λ (run : RunnerRun). r == run.runner) (own w.job (y ∷ ys)) ≡ Some w.run
own_step r w y ys true c e f is rest =
    let k = rw e at is in
    let same : y ≡ w = cc in
    let P : Working → Type 0 = λ x. find (λ (run : RunnerRun). r == run.runner) (own x.job (y ∷ ys)) ≡ Some x.run in
    subst P same (rw (same_number y.job, e) refl)
own_step r w y ys false true e f is rest = let k = rw e at is in rw (f, e) (rest k)
own_step r w y ys false false e f is rest = let k = rw e at is in rw f (rest k)

pub own_found : (r : ℕ) (w : Working) (ws : List Working) → find (is_on r) ws ≡ Some w → find (λ (run : RunnerRun). r == run.runner) (own w.job ws) ≡ Some w.run
own_found r w [] is = absurd cc
own_found r w (y ∷ ys) is = own_step r w y ys (is_on r y) (w.job == y.job) refl refl is (own_found r w ys)

none_step : (r job : ℕ) (y : Working) (ys : List Working) (b c : Bool) → is_on r y ≡ b → (job == y.job) ≡ c → find (is_on r) (y ∷ ys) ≡ None
    → (find (is_on r) ys ≡ None → find (λ (run : RunnerRun). r == run.runner) (own job ys) ≡ None)
    → find (λ (run : RunnerRun). r == run.runner) (own job (y ∷ ys)) ≡ None
none_step r job y ys true c e f is rest = let k = rw e at is in absurd cc
none_step r job y ys false true e f is rest = let k = rw e at is in rw (f, e) (rest k)
none_step r job y ys false false e f is rest = let k = rw e at is in rw f (rest k)

-- a free runner has no run in any lane
pub own_none : (r job : ℕ) (ws : List Working) → find (is_on r) ws ≡ None → find (λ (run : RunnerRun). r == run.runner) (own job ws) ≡ None
own_none r job [] is = refl
own_none r job (y ∷ ys) is = none_step r job y ys (is_on r y) (job == y.job) refl refl is (own_none r job ys)

-- ---- what runners serve, as runs
later_step : (n : ℕ) (ws : List Working) → RisesFrom runner_key n ws → Each (λ (w : Working). n < runner_key w) ws
later_step n [] h = tt
later_step n (y ∷ ys) h = (h.0, lower n (runner_key y) ys h.0 (later_step (runner_key y) ys h.1)) where
  lower : (n m : ℕ) (xs : List Working) → n < m → Each (λ (w : Working). m < runner_key w) xs → Each (λ (w : Working). n < runner_key w) xs
  lower n m [] lt all = tt
  lower n m (x ∷ xs) lt all = (omega (arith, lt, all.0), lower n m xs lt all.1)

found_step : (y : Working) (ys xs : List Working) → Each (λ (w : Working). runner_key y < runner_key w) xs → Each (λ (w : Working). find (is_on w.run.runner) ys ≡ Some w) xs → Each (λ (w : Working). find (is_on w.run.runner) (y ∷ ys) ≡ Some w) xs
found_step y ys [] above all = tt
found_step y ys (x ∷ xs) above all =
    (rw (apart y.run.runner x.run.runner (let up : runner_key y < runner_key x = above.0 in omega (arith, up))) all.0, found_step y ys xs above.1 all.1)

each_found : (low : ℕ) (ws : List Working) → RisesFrom runner_key low ws → Each (λ (w : Working). find (is_on w.run.runner) ws ≡ Some w) ws
each_found low [] h = tt
each_found low (y ∷ ys) h = (rw (same_number y.run.runner) refl, found_step y ys ys (later_step (runner_key y) ys h.1) (each_found (runner_key y) ys h.1))

each_shown : (es : List (ℕ × LaneView)) (ws xs : List Working) → ((job : ℕ) → own job ws ≡ (lane_of job es).on_runners) → Each (λ (w : Working). find (is_on w.run.runner) ws ≡ Some w) xs → by_runner es (map serving_of xs) ≡ xs
each_shown es ws [] are all = refl
each_shown es ws (x ∷ xs) are all =
    let here : served_run es (serving_of x) ≡ Some x.run = ap (find (λ (run : RunnerRun). x.run.runner == run.runner)) (sym (are x.job)) ∙ own_found x.run.runner x ws all.0 in
    ap (λ o. put_served (working_as (serving_of x) o) (by_runner es (map serving_of xs))) here ∙ ap (λ zs. x ∷ zs) (each_shown es ws xs are all.1)

pub shown : (es : List (ℕ × LaneView)) (ss : List Serving) (ws : List Working) → Serve es ss ws → by_runner es ss ≡ ws
shown es ss ws h = ap (by_runner es) h.serving_are ∙ each_shown es ws ws h.lanes_are (each_found 0 ws h.rise)

pub as_shown : (es : List (ℕ × LaneView)) (ss : List Serving) (ws : List Working) → Serve es ss ws → Serve es ss (by_runner es ss)
as_shown es ss ws h = let P : List Working → Type 0 = λ ys. Serve es ss ys in subst P (sym (shown es ss ws h)) h

pub serving_rise : (es : List (ℕ × LaneView)) (ss : List Serving) (ws : List Working) → Serve es ss ws → RisesFrom (λ (s : Serving). s.runner + 1) 0 ss
serving_rise es ss ws h = rw h.serving_are (said 0 ws h.rise) where
  said : (low : ℕ) (xs : List Working) → RisesFrom runner_key low xs → RisesFrom (λ (s : Serving). s.runner + 1) low (map serving_of xs)
  said low [] k = tt
  said low (x ∷ xs) k = (k.0, said (runner_key x) xs k.1)

find_step : (r : ℕ) (y : Working) (ys : List Working) (b : Bool) → (r == y.run.runner) ≡ b → find (λ (s : Serving). r == s.runner) (map serving_of ys) ≡ option_map serving_of (find (is_on r) ys) → find (λ (s : Serving). r == s.runner) (map serving_of (y ∷ ys)) ≡ option_map serving_of (find (is_on r) (y ∷ ys))
find_step r y ys true e h = rw e refl
find_step r y ys false e h = rw e h

-- what a runner serves is told by its run
pub find_served : (r : ℕ) (ws : List Working) → find (λ (s : Serving). r == s.runner) (map serving_of ws) ≡ option_map serving_of (find (is_on r) ws)
find_served r [] = refl
find_served r (y ∷ ys) = find_step r y ys (r == y.run.runner) refl (find_served r ys)

-- ---- lanes that keep their runs
pub kept : (es es' : List (ℕ × LaneView)) (ss : List Serving) (ws : List Working) → Serve es ss ws → ((j : ℕ) → (lane_of j es').on_runners ≡ (lane_of j es).on_runners) → Serve es' ss ws
kept es es' ss ws h are = record { rise = h.rise; lanes_are = λ j. h.lanes_are j ∙ sym (are j); serving_are = h.serving_are }

-- ---- a run given to a free runner
map-put : {X Y : Type 0} (f : X → Y) (p : Y → Bool) (x : X) (xs : List X) → put_before p (f x) (map f xs) ≡ map f (put_before (λ y. p (f y)) x xs)
map-put f p x [] = refl
map-put f p x (y ∷ ys) = by_test (p (f y)) refl (map-put f p x ys) where
  by_test : (b : Bool) → p (f y) ≡ b → put_before p (f x) (map f ys) ≡ map f (put_before (λ y. p (f y)) x ys) → put_before p (f x) (map f (y ∷ ys)) ≡ map f (put_before (λ y. p (f y)) x (y ∷ ys))
  by_test true e h = rw e refl
  by_test false e h = rw e (ap (λ zs. f y ∷ zs) h)

head_put : (w : RunnerRun) (zs : List Working) → RisesFrom runner_key (w.runner + 1) zs → put_before (λ (run : RunnerRun). nat_lt w.runner run.runner) w (map run_of zs) ≡ w ∷ map run_of zs
head_put w [] h = refl
head_put w (z ∷ zs) h = rw (less w.runner z.run.runner (let up : w.runner + 1 < z.run.runner + 1 = h.0 in omega (arith, up))) refl

abbrev put_own : ℕ → Working → List RunnerRun → List RunnerRun
put_own j w rs = if w.job == j then put_before (λ (run : RunnerRun). nat_lt w.run.runner run.runner) w.run rs else rs

put_step : (j : ℕ) (w y : Working) (ys : List Working) (b c d : Bool) → nat_lt w.run.runner y.run.runner ≡ b → (w.job == j) ≡ c → (j == y.job) ≡ d → RisesFrom runner_key (runner_key y) ys
    → own j (put_before (λ (x : Working). nat_lt w.run.runner x.run.runner) w ys) ≡ put_own j w (own j ys)
    → own j (put_before (λ (x : Working). nat_lt w.run.runner x.run.runner) w (y ∷ ys)) ≡ put_own j w (own j (y ∷ ys))
put_step j w y ys true true d lt e f h rest =
    let up : w.run.runner < y.run.runner = grind (arith, nat_tests) in
    let rises : RisesFrom runner_key (w.run.runner + 1) (y ∷ ys) = (omega (arith, up), h) in
    rw (lt, turn w.job j true e, e) (sym (head_put w.run (filter (is_working_of j) (y ∷ ys)) (rises-filter runner_key (is_working_of j) (w.run.runner + 1) (y ∷ ys) rises)))
put_step j w y ys true false d lt e f h rest = rw (lt, turn w.job j false e, e) refl
put_step j w y ys false true true lt e f h rest = let k = rw e at rest in rw (lt, f, e, lt) (ap (λ zs. y.run ∷ zs) k)
put_step j w y ys false true false lt e f h rest = let k = rw e at rest in rw (lt, f, e) k
put_step j w y ys false false true lt e f h rest = let k = rw e at rest in rw (lt, f, e) (ap (λ zs. y.run ∷ zs) k)
put_step j w y ys false false false lt e f h rest = let k = rw e at rest in rw (lt, f, e) k

own_put : (low j : ℕ) (w : Working) (ws : List Working) → RisesFrom runner_key low ws → own j (put_before (λ (x : Working). nat_lt w.run.runner x.run.runner) w ws) ≡ put_own j w (own j ws)
own_put low j w [] h = by_test (w.job == j) refl where
  by_test : (b : Bool) → (w.job == j) ≡ b → own j (w ∷ []) ≡ put_own j w []
  by_test true e = rw (e, turn w.job j true e) refl
  by_test false e = rw (e, turn w.job j false e) refl
own_put low j w (y ∷ ys) h = put_step j w y ys (nat_lt w.run.runner y.run.runner) (w.job == j) (j == y.job) refl refl refl h.1 (own_put (runner_key y) j w ys h.1)

rise_step : (low : ℕ) (w y : Working) (ys : List Working) (b c : Bool) → nat_lt w.run.runner y.run.runner ≡ b → (w.run.runner == y.run.runner) ≡ c → low < runner_key w → RisesFrom runner_key low (y ∷ ys) → find (is_on w.run.runner) (y ∷ ys) ≡ None
    → (runner_key y < runner_key w → find (is_on w.run.runner) ys ≡ None → RisesFrom runner_key (runner_key y) (put_before (λ (x : Working). nat_lt w.run.runner x.run.runner) w ys))
    → RisesFrom runner_key low (put_before (λ (x : Working). nat_lt w.run.runner x.run.runner) w (y ∷ ys))
rise_step low w y ys true c lt e up h none rest =
    let above : w.run.runner < y.run.runner = grind (arith, nat_tests) in
    rw lt (up, (omega (arith, above), h.1))
rise_step low w y ys false true lt e up h none rest = let k = rw e at none in absurd cc
rise_step low w y ys false false lt e up h none rest =
    let k = rw e at none in
    let below : y.run.runner < w.run.runner = grind (arith, nat_tests) in
    rw lt (h.0, rest (omega (arith, below)) k)

rise_put : (low : ℕ) (w : Working) (ws : List Working) → low < runner_key w → RisesFrom runner_key low ws → find (is_on w.run.runner) ws ≡ None → RisesFrom runner_key low (put_before (λ (x : Working). nat_lt w.run.runner x.run.runner) w ws)
rise_put low w [] up h none = (up, tt)
rise_put low w (y ∷ ys) up h none =
    rise_step low w y ys (nat_lt w.run.runner y.run.runner) (w.run.runner == y.run.runner) refl refl up h none (λ above left. rise_put (runner_key y) w ys above h.1 left)

pub given : (es es' : List (ℕ × LaneView)) (ss ss' : List Serving) (ws : List Working) (w : Working) → Serve es ss ws → find (is_on w.run.runner) ws ≡ None
    → ((j : ℕ) → (lane_of j es').on_runners ≡ (if w.job == j then put_before (λ (run : RunnerRun). nat_lt w.run.runner run.runner) w.run (lane_of w.job es).on_runners else (lane_of j es).on_runners))
    → ss' ≡ put_before (λ (s : Serving). nat_lt w.run.runner s.runner) (serving_of w) ss
    → Serve es' ss' (put_before (λ (x : Working). nat_lt w.run.runner x.run.runner) w ws)
given es es' ss ss' ws w h none new serving =
    let k = rw h.serving_are at serving in
    record {
      rise = rise_put 0 w ws (omega arith) h.rise none;
      lanes_are = λ j. own_put 0 j w ws h.rise ∙ by_job j (w.job == j) refl ∙ sym (new j);
      serving_are = k ∙ map-put serving_of (λ (s : Serving). nat_lt w.run.runner s.runner) w ws;
    } where
      by_job : (j : ℕ) (b : Bool) → (w.job == j) ≡ b → put_own j w (own j ws) ≡ (if w.job == j then put_before (λ (run : RunnerRun). nat_lt w.run.runner run.runner) w.run (lane_of w.job es).on_runners else (lane_of j es).on_runners)
      by_job j true e =
          let one : w.job ≡ j = equal_of w.job j e in
          let P : ℕ → Type 0 = λ i. put_before (λ (run : RunnerRun). nat_lt w.run.runner run.runner) w.run (own i ws) ≡ put_before (λ (run : RunnerRun). nat_lt w.run.runner run.runner) w.run (lane_of w.job es).on_runners in
          rw e (subst P one (ap (put_before (λ (run : RunnerRun). nat_lt w.run.runner run.runner) w.run) (h.lanes_are w.job)))
      by_job j false e = rw e (h.lanes_are j)

-- ---- a runner that is left
abbrev left_own : ℕ → ℕ → Working → List RunnerRun → List RunnerRun
left_own r j w rs = if w.job == j then without_first (λ (run : RunnerRun). r == run.runner) rs else rs

left_step : (r j : ℕ) (w y : Working) (ys : List Working) (b c d : Bool) → is_on r y ≡ b → (w.job == j) ≡ c → (j == y.job) ≡ d → find (is_on r) (y ∷ ys) ≡ Some w
    → (find (is_on r) ys ≡ Some w → own j (without_first (is_on r) ys) ≡ left_own r j w (own j ys))
    → own j (without_first (is_on r) (y ∷ ys)) ≡ left_own r j w (own j (y ∷ ys))
left_step r j w y ys true c d on e f is rest = by_same (let k = rw on at is in cc) c d e f where
  by_same : y ≡ w → (c d : Bool) → (w.job == j) ≡ c → (j == y.job) ≡ d → own j (without_first (is_on r) (y ∷ ys)) ≡ left_own r j w (own j (y ∷ ys))
  by_same same true true e f = rw (on, e, f, on) refl
  by_same same true false e f =
      let job : w.job ≡ j = equal_of w.job j e in
      let here : y.job ≡ w.job = ap (λ (x : Working). x.job) same in
      absurd (grind (arith, nat_tests))
  by_same same false true e f =
      let job : j ≡ y.job = equal_of j y.job f in
      let here : y.job ≡ w.job = ap (λ (x : Working). x.job) same in
      absurd (grind (arith, nat_tests))
  by_same same false false e f = rw (on, e, f) refl
left_step r j w y ys false true true on e f is rest = let k = rw e at (rest (rw on at is)) in rw (on, f, e, on) (ap (λ zs. y.run ∷ zs) k)
left_step r j w y ys false true false on e f is rest = let k = rw e at (rest (rw on at is)) in rw (on, f, e) k
left_step r j w y ys false false true on e f is rest = let k = rw e at (rest (rw on at is)) in rw (on, f, e) (ap (λ zs. y.run ∷ zs) k)
left_step r j w y ys false false false on e f is rest = let k = rw e at (rest (rw on at is)) in rw (on, f, e) k

own_left : (r j : ℕ) (w : Working) (ws : List Working) → find (is_on r) ws ≡ Some w → own j (without_first (is_on r) ws) ≡ left_own r j w (own j ws)
own_left r j w [] is = absurd cc
own_left r j w (y ∷ ys) is = left_step r j w y ys (is_on r y) (w.job == j) (j == y.job) refl refl refl is (own_left r j w ys)

keep_all : (r : ℕ) (ws : List Working) → RisesFrom runner_key (r + 1) ws → filter (λ (s : Serving). not (r == s.runner)) (map serving_of ws) ≡ map serving_of ws
keep_all r [] h = refl
keep_all r (y ∷ ys) h =
    let up : r < y.run.runner = (let k : r + 1 < y.run.runner + 1 = h.0 in omega (arith, k)) in
    rw (over r y.run.runner up) (ap (λ zs. serving_of y ∷ zs) (keep_all r ys (rises-lower runner_key (runner_key y) (r + 1) ys h.1 (omega (arith, up)))))

serving_step : (r : ℕ) (y : Working) (ys : List Working) (b : Bool) → (r == y.run.runner) ≡ b → RisesFrom runner_key (runner_key y) ys
    → filter (λ (s : Serving). not (r == s.runner)) (map serving_of ys) ≡ map serving_of (without_first (is_on r) ys)
    → filter (λ (s : Serving). not (r == s.runner)) (map serving_of (y ∷ ys)) ≡ map serving_of (without_first (is_on r) (y ∷ ys))
serving_step r y ys true e h rest =
    let same : r ≡ y.run.runner = equal_of r y.run.runner e in
    rw e (keep_all r ys (rises-lower runner_key (runner_key y) (r + 1) ys h (omega (arith, same))))
serving_step r y ys false e h rest = rw e (ap (λ zs. serving_of y ∷ zs) rest)

serving_left : (low r : ℕ) (ws : List Working) → RisesFrom runner_key low ws → filter (λ (s : Serving). not (r == s.runner)) (map serving_of ws) ≡ map serving_of (without_first (is_on r) ws)
serving_left low r [] h = refl
serving_left low r (y ∷ ys) h = serving_step r y ys (r == y.run.runner) refl h.1 (serving_left (runner_key y) r ys h.1)

without_rises : (p : Working → Bool) (low : ℕ) (ws : List Working) → RisesFrom runner_key low ws → RisesFrom runner_key low (without_first p ws)
without_rises p low [] h = tt
without_rises p low (y ∷ ys) h = by_test (p y) refl (without_rises p (runner_key y) ys h.1) where
  by_test : (b : Bool) → p y ≡ b → RisesFrom runner_key (runner_key y) (without_first p ys) → RisesFrom runner_key low (without_first p (y ∷ ys))
  by_test true e rest = rw e (rises-lower runner_key (runner_key y) low ys h.1 (omega (arith, h.0)))
  by_test false e rest = rw e (h.0, rest)

pub left : (es es' : List (ℕ × LaneView)) (ss ss' : List Serving) (ws : List Working) (r : ℕ) (w : Working) → Serve es ss ws → find (is_on r) ws ≡ Some w
    → ((j : ℕ) → (lane_of j es').on_runners ≡ (if w.job == j then without_first (λ (run : RunnerRun). r == run.runner) (lane_of w.job es).on_runners else (lane_of j es).on_runners))
    → ss' ≡ filter (λ (s : Serving). not (r == s.runner)) ss
    → Serve es' ss' (without_first (is_on r) ws)
left es es' ss ss' ws r w h is new serving =
    let k = rw h.serving_are at serving in
    record {
      rise = without_rises (is_on r) 0 ws h.rise;
      lanes_are = λ j. own_left r j w ws is ∙ by_job j (w.job == j) refl ∙ sym (new j);
      serving_are = k ∙ serving_left 0 r ws h.rise;
    } where
      by_job : (j : ℕ) (b : Bool) → (w.job == j) ≡ b → left_own r j w (own j ws) ≡ (if w.job == j then without_first (λ (run : RunnerRun). r == run.runner) (lane_of w.job es).on_runners else (lane_of j es).on_runners)
      by_job j true e =
          let one : w.job ≡ j = equal_of w.job j e in
          let P : ℕ → Type 0 = λ i. without_first (λ (run : RunnerRun). r == run.runner) (own i ws) ≡ without_first (λ (run : RunnerRun). r == run.runner) (lane_of w.job es).on_runners in
          rw e (subst P one (ap (without_first (λ (run : RunnerRun). r == run.runner)) (h.lanes_are w.job)))
      by_job j false e = rw e (h.lanes_are j)

absent_step : (r : ℕ) (y : Working) (ys : List Working) (b : Bool) → is_on r y ≡ b → find (is_on r) (y ∷ ys) ≡ None → (find (is_on r) ys ≡ None → without_first (is_on r) ys ≡ ys) → without_first (is_on r) (y ∷ ys) ≡ y ∷ ys
absent_step r y ys true e is rest = let k = rw e at is in absurd cc
absent_step r y ys false e is rest = rw e (ap (λ zs. y ∷ zs) (rest (rw e at is)))

-- a runner without a run leaves all as it was
pub not_left : (r : ℕ) (ws : List Working) → find (is_on r) ws ≡ None → without_first (is_on r) ws ≡ ws
not_left r [] is = refl
not_left r (y ∷ ys) is = absent_step r y ys (is_on r y) refl is (not_left r ys)

-- ---- runs that change on their runners
rises_same : (f : Working → Working) → ((w : Working) → serving_of (f w) ≡ serving_of w) → (low : ℕ) (ws : List Working) → RisesFrom runner_key low ws → RisesFrom runner_key low (map f ws)
rises_same f same low [] h = tt
rises_same f same low (y ∷ ys) h =
    let key : runner_key (f y) ≡ runner_key y = ap (λ (s : Serving). s.runner + 1) (same y) in
    rw key (h.0, rises_same f same (runner_key y) ys h.1)

serving_same : (f : Working → Working) → ((w : Working) → serving_of (f w) ≡ serving_of w) → (ws : List Working) → map serving_of (map f ws) ≡ map serving_of ws
serving_same f same [] = refl
serving_same f same (y ∷ ys) = rw same (ap (λ zs. serving_of y ∷ zs) (serving_same f same ys))

own_same : (j : ℕ) (f : Working → Working) (g : RunnerRun → RunnerRun) → ((w : Working) → serving_of (f w) ≡ serving_of w) → ((w : Working) → (j == w.job) ≡ true → (f w).run ≡ g w.run) → (ws : List Working) → own j (map f ws) ≡ map g (own j ws)
own_same j f g same is [] = refl
own_same j f g same is (y ∷ ys) = by_test (j == y.job) refl (own_same j f g same is ys) where
  by_test : (b : Bool) → (j == y.job) ≡ b → own j (map f ys) ≡ map g (own j ys) → own j (map f (y ∷ ys)) ≡ map g (own j (y ∷ ys))
  by_test true e h =
      let job : (j == (f y).job) ≡ true = ap (λ (s : Serving). j == s.job) (same y) ∙ e in
      rw (e, job, is y e, h) refl
  by_test false e h =
      let job : (j == (f y).job) ≡ false = ap (λ (s : Serving). j == s.job) (same y) ∙ e in
      rw (e, job) h

pub changed : (es es' : List (ℕ × LaneView)) (ss : List Serving) (ws : List Working) (f : Working → Working) → Serve es ss ws → ((w : Working) → serving_of (f w) ≡ serving_of w)
    → ((j : ℕ) → own j (map f ws) ≡ (lane_of j es').on_runners) → Serve es' ss (map f ws)
changed es es' ss ws f h same new =
    record { rise = rises_same f same 0 ws h.rise; lanes_are = new; serving_are = h.serving_are ∙ sym (serving_same f same ws) }

ended_case : (job : ℕ) (w : Working) (b c : Bool) → (job == w.job) ≡ b → is_running w.run ≡ c → serving_of (ended_of job w) ≡ serving_of w
ended_case job w true true e f = rw (e, f) refl
ended_case job w true false e f = rw (e, f) refl
ended_case job w false c e f = rw e refl

map_same : {X : Type 0} (xs : List X) → map (λ x. x) xs ≡ xs
map_same [] = refl
map_same (x ∷ xs) = ap (λ ys. x ∷ ys) (map_same xs)

pub ended : (job : ℕ) (es es' : List (ℕ × LaneView)) (ss : List Serving) (ws : List Working) → Serve es ss ws
    → ((j : ℕ) → (lane_of j es').on_runners ≡ (if job == j then map ended_run (lane_of job es).on_runners else (lane_of j es).on_runners)) → Serve es' ss (map (ended_of job) ws)
ended job es es' ss ws h new = changed es es' ss ws (ended_of job) h same (λ j. by_job j (job == j) refl ∙ sym (new j)) where
  same : (w : Working) → serving_of (ended_of job w) ≡ serving_of w
  same w = ended_case job w (job == w.job) (is_running w.run) refl refl

  by_job : (j : ℕ) (b : Bool) → (job == j) ≡ b → own j (map (ended_of job) ws) ≡ (if job == j then map ended_run (lane_of job es).on_runners else (lane_of j es).on_runners)
  by_job j true e =
      let one : job ≡ j = equal_of job j e in
      let P : ℕ → Type 0 = λ i. own i (map (ended_of job) ws) ≡ map ended_run (lane_of job es).on_runners in
      rw e (subst P one (own_same job (ended_of job) ended_run same (λ w k. rw k refl) ws ∙ ap (map ended_run) (h.lanes_are job)))
  by_job j false e =
      rw e (own_same j (ended_of job) (λ run. run) same (λ w k. other w k) ws ∙ (map_same (own j ws) ∙ h.lanes_are j)) where
        other : (w : Working) → (j == w.job) ≡ true → (ended_of job w).run ≡ w.run
        other w k = let here : j ≡ w.job = equal_of j w.job k in let no : (job == w.job) ≡ false = rw (← here) e in rw no refl

expired_case : (at : ℕ) (w : Working) (b : Bool) → is_overdue at w.run ≡ b → serving_of (expired_of at w) ≡ serving_of w
expired_case at w true e = rw e refl
expired_case at w false e = rw e refl

pub expired : (at : ℕ) (es es' : List (ℕ × LaneView)) (ss : List Serving) (ws : List Working) → Serve es ss ws
    → ((j : ℕ) → (lane_of j es').on_runners ≡ map (expired_run at) (lane_of j es).on_runners) → Serve es' ss (map (expired_of at) ws)
expired at es es' ss ws h new =
    changed es es' ss ws (expired_of at) h (λ w. expired_case at w (is_overdue at w.run) refl)
    (λ j. own_same j (expired_of at) (expired_run at) (λ w. expired_case at w (is_overdue at w.run) refl) (λ w k. refl) ws ∙ (ap (map (expired_run at)) (h.lanes_are j) ∙ sym (new j)))

-- ---- what is asked of the runs
runs_step : (job : ℕ) (y : Working) (ys : List Working) (b : Bool) → (job == y.job) ≡ b → job_runs job ys ≡ runs (own job ys) → job_runs job (y ∷ ys) ≡ runs (own job (y ∷ ys))
runs_step job y ys true e h = rw e (ap (λ (b : Bool). is_running y.run || b) h)
runs_step job y ys false e h = rw e h

own_runs : (job : ℕ) (ws : List Working) → job_runs job ws ≡ runs (own job ws)
own_runs job [] = refl
own_runs job (y ∷ ys) = runs_step job y ys (job == y.job) refl (own_runs job ys)

-- a job runs where a run in its lane does
pub lane_runs : (es : List (ℕ × LaneView)) (ss : List Serving) (ws : List Working) (job : ℕ) → Serve es ss ws → runs (lane_of job es).on_runners ≡ job_runs job ws
lane_runs es ss ws job h = sym (own_runs job ws ∙ ap runs (h.lanes_are job))

-- ---- the runs that expire, job by job
twice_case : (at : ℕ) (run : RunnerRun) (b : Bool) → is_overdue at run ≡ b → expired_run at (expired_run at run) ≡ expired_run at run
twice_case at run true e = rw e refl
twice_case at run false e = rw e (rw e refl)

twice : (at : ℕ) (rs : List RunnerRun) → map (expired_run at) (map (expired_run at) rs) ≡ map (expired_run at) rs
twice at [] = refl
twice at (r ∷ rs) = rw (twice_case at r (is_overdue at r) refl, twice at rs) refl

some_served : (es : List (ℕ × LaneView)) (ws : List Working) (job : ℕ) → list_any (λ (s : Serving). s.job == job) (map serving_of ws) ≡ false → own job ws ≡ []
some_served es [] job none = refl
some_served es (y ∷ ys) job none = by_test (y.job == job) refl none (some_served es ys job) where
  by_test : (b : Bool) → (y.job == job) ≡ b → list_any (λ (s : Serving). s.job == job) (map serving_of (y ∷ ys)) ≡ false → (list_any (λ (s : Serving). s.job == job) (map serving_of ys) ≡ false → own job ys ≡ []) → own job (y ∷ ys) ≡ []
  by_test true e h rest = let k = rw e at h in absurd cc
  by_test false e h rest = let k = rw e at h in rw (turn y.job job false e) (rest k)

-- one more job
pub more_expired : (at job j : ℕ) (some : Bool) (rs before after : List RunnerRun) → before ≡ (if some then map (expired_run at) rs else rs) → after ≡ (if job == j then map (expired_run at) before else before) → after ≡ (if some || job == j then map (expired_run at) rs else rs)
more_expired at job j some rs before after is new = by_test some (job == j) refl refl where
  by_test : (b c : Bool) → some ≡ b → (job == j) ≡ c → after ≡ (if some || job == j then map (expired_run at) rs else rs)
  by_test true true e f = let k = rw e at is in let l = rw f at new in rw e (l ∙ (ap (map (expired_run at)) k ∙ twice at rs))
  by_test true false e f = let k = rw e at is in let l = rw f at new in rw e (l ∙ k)
  by_test false true e f = let k = rw e at is in let l = rw f at new in rw (e, f) (l ∙ ap (map (expired_run at)) k)
  by_test false false e f = let k = rw e at is in let l = rw f at new in rw (e, f) (l ∙ k)

-- all jobs that are served
pub all_expired : (at : ℕ) (es es' : List (ℕ × LaneView)) (ss : List Serving) (ws : List Working) → Serve es ss ws
    → ((j : ℕ) → (lane_of j es').on_runners ≡ (if list_any (λ (s : Serving). s.job == j) ss then map (expired_run at) (lane_of j es).on_runners else (lane_of j es).on_runners)) → Serve es' ss (map (expired_of at) ws)
all_expired at es es' ss ws h new = expired at es es' ss ws h (λ j. by_job j (list_any (λ (s : Serving). s.job == j) ss) refl) where
  by_job : (j : ℕ) (b : Bool) → list_any (λ (s : Serving). s.job == j) ss ≡ b → (lane_of j es').on_runners ≡ map (expired_run at) (lane_of j es).on_runners
  by_job j true e = let k = rw e at (new j) in k
  by_job j false e =
      let k = rw e at (new j) in
      let none : list_any (λ (s : Serving). s.job == j) (map serving_of ws) ≡ false = rw (← h.serving_are) e in
      let empty : (lane_of j es).on_runners ≡ [] = sym (h.lanes_are j) ∙ some_served es ws j none in
      k ∙ (empty ∙ ap (map (expired_run at)) (sym empty))

-- a test of the runs on runners
pub any_served : (p : Working → Bool) (q : Serving → Bool) (es : List (ℕ × LaneView)) → ((s : Serving) (o : Option RunnerRun) → served_run es s ≡ o → q s ≡ list_any p (put_served (working_as s o) [])) → (ss : List Serving) → list_any q ss ≡ list_any p (by_runner es ss)
any_served p q es same [] = refl
any_served p q es same (s ∷ ss) = by_run (served_run es s) refl (any_served p q es same ss) where
  by_run : (o : Option RunnerRun) → served_run es s ≡ o → list_any q ss ≡ list_any p (by_runner es ss) → list_any q (s ∷ ss) ≡ list_any p (by_runner es (s ∷ ss))
  by_run None e h = rw (e, same s None e) h
  by_run (Some run) e h = rw (e, same s (Some run) e) (or_false (p (record { job = s.job; number = s.number; run = run })) h) where
    or_false : (b : Bool) → list_any q ss ≡ list_any p (by_runner es ss) → ((b || false) || list_any q ss) ≡ (b || list_any p (by_runner es ss))
    or_false true h = refl
    or_false false h = h

-- ---- the run that a runner has
pub record FoundOn (r : ℕ) (s : Serving) (ws : List Working) : Type 0 where
  pub run : Working
  pub found : find (is_on r) ws ≡ Some run
  pub same : serving_of run ≡ s

passes : (r : ℕ) (w : Working) (ws : List Working) → find (is_on r) ws ≡ Some w → r ≡ w.run.runner
passes r w [] is = absurd cc
passes r w (y ∷ ys) is = by_test (r == y.run.runner) refl is (passes r w ys) where
  by_test : (b : Bool) → (r == y.run.runner) ≡ b → find (is_on r) (y ∷ ys) ≡ Some w → (find (is_on r) ys ≡ Some w → r ≡ w.run.runner) → r ≡ w.run.runner
  by_test true e k rest =
      let here = rw e at k in
      let same : y ≡ w = cc in
      equal_of r y.run.runner e ∙ ap (λ (x : Working). x.run.runner) same
  by_test false e k rest = rest (rw e at k)

on_case : (es : List (ℕ × LaneView)) (ws : List Working) (r : ℕ) (s : Serving) (o : Option Working) → ((job : ℕ) → own job ws ≡ (lane_of job es).on_runners) → find (is_on r) ws ≡ o → option_map serving_of o ≡ Some s → working_as s (served_run es s) ≡ o
on_case es ws r s None are is e = absurd cc
on_case es ws r s (Some w) are is e =
    let same : serving_of w ≡ s = cc in
    let P : ℕ → Type 0 = λ n. find (λ (run : RunnerRun). n == run.runner) (lane_of w.job es).on_runners ≡ Some w.run in
    let here : served_run es (serving_of w) ≡ Some w.run = subst P (passes r w ws is) (ap (find (λ (run : RunnerRun). r == run.runner)) (sym (are w.job)) ∙ own_found r w ws is) in
    let Q : Serving → Type 0 = λ t. working_as t (served_run es t) ≡ Some w in
    subst Q same (ap (working_as (serving_of w)) here)

none_by : (o : Option Working) → option_map serving_of o ≡ None → o ≡ None
none_by None e = refl
none_by (Some w) e = absurd cc

served_is : (es : List (ℕ × LaneView)) (ss : List Serving) (ws : List Working) (r : ℕ) → Serve es ss ws → option_map serving_of (find (is_on r) ws) ≡ find (λ (s : Serving). r == s.runner) ss
served_is es ss ws r h = sym (ap (find (λ (s : Serving). r == s.runner)) h.serving_are ∙ find_served r ws)

-- what the runner serves is the job of its run
pub on_some : (es : List (ℕ × LaneView)) (ss : List Serving) (ws : List Working) (r : ℕ) (s : Serving) → Serve es ss ws → find (λ (s : Serving). r == s.runner) ss ≡ Some s → working_as s (served_run es s) ≡ find (is_on r) ws
on_some es ss ws r s h is = on_case es ws r s (find (is_on r) ws) h.lanes_are refl (served_is es ss ws r h ∙ is)

pub on_none : (es : List (ℕ × LaneView)) (ss : List Serving) (ws : List Working) (r : ℕ) → Serve es ss ws → find (λ (s : Serving). r == s.runner) ss ≡ None → find (is_on r) ws ≡ None
on_none es ss ws r h is = none_by (find (is_on r) ws) (served_is es ss ws r h ∙ is)

-- a runner without a run serves no job
pub not_served : (es : List (ℕ × LaneView)) (ss : List Serving) (ws : List Working) (r : ℕ) → Serve es ss ws → find (is_on r) ws ≡ None → find (λ (s : Serving). r == s.runner) ss ≡ None
not_served es ss ws r h is = sym (served_is es ss ws r h) ∙ ap (option_map serving_of) is

found_case : (r : ℕ) (s : Serving) (ws : List Working) (o : Option Working) → find (is_on r) ws ≡ o → option_map serving_of o ≡ Some s → FoundOn r s ws
found_case r s ws None is e = absurd cc
found_case r s ws (Some w) is e = record { run = w; found = is; same = cc }

-- a runner that serves a job has a run of it
pub found_on : (es : List (ℕ × LaneView)) (ss : List Serving) (ws : List Working) (r : ℕ) (s : Serving) → Serve es ss ws → find (λ (s : Serving). r == s.runner) ss ≡ Some s → FoundOn r s ws
found_on es ss ws r s h is = found_case r s ws (find (is_on r) ws) refl (served_is es ss ws r h ∙ is)

-- the run of the runner that is left
pub left_served : (es es' : List (ℕ × LaneView)) (ss ss' : List Serving) (ws : List Working) (r : ℕ) (s : Serving) → Serve es ss ws → find (λ (s : Serving). r == s.runner) ss ≡ Some s
    → ((j : ℕ) → (lane_of j es').on_runners ≡ (if s.job == j then without_first (λ (run : RunnerRun). r == run.runner) (lane_of s.job es).on_runners else (lane_of j es).on_runners))
    → ss' ≡ filter (λ (s : Serving). not (r == s.runner)) ss
    → Serve es' ss' (without_first (is_on r) ws)
left_served es es' ss ss' ws r s h is =
    let x = found_on es ss ws r s h is in
    let P : Serving → Type 0 = λ t. ((j : ℕ) → (lane_of j es').on_runners ≡ (if t.job == j then without_first (λ (run : RunnerRun). r == run.runner) (lane_of t.job es).on_runners else (lane_of j es).on_runners)) → ss' ≡ filter (λ (s : Serving). not (r == s.runner)) ss → Serve es' ss' (without_first (is_on r) ws) in
    subst P x.same (left es es' ss ss' ws r x.run h x.found)

or_assoc : (a b c : Bool) → (a || (b || c)) ≡ ((a || b) || c)
or_assoc true b c = refl
or_assoc false b c = refl

or_none : (b : Bool) → (b || false) ≡ b
or_none true = refl
or_none false = refl

-- a test of one more of them
pub any_more : (p : Serving → Bool) (ss : List Serving) (i : ℕ) (d : Serving) → i < length ss → list_any p (take (suc i) ss) ≡ (list_any p (take i ss) || p (get_or ss i d))
any_more p [] i d lt = absurd (omega arith)
any_more p (s ∷ ss) zero d lt = or_none (p s)
any_more p (s ∷ ss) (suc i) d lt = ap (λ (b : Bool). p s || b) (any_more p ss i d (omega arith)) ∙ or_assoc (p s) (list_any p (take i ss)) (p (get_or ss i d))

-- one more of them expires
pub more_served : (at j : ℕ) (ss : List Serving) (i : ℕ) (s : Serving) → i < length ss → s ≡ get_or ss i s → (rs before after : List RunnerRun)
    → before ≡ (if list_any (λ (s : Serving). s.job == j) (take i ss) then map (expired_run at) rs else rs) → after ≡ (if s.job == j then map (expired_run at) before else before)
    → after ≡ (if list_any (λ (s : Serving). s.job == j) (take (i + 1) ss) then map (expired_run at) rs else rs)
more_served at j ss i s lt is rs before after so_far new =
    let some = any_more (λ (s : Serving). s.job == j) ss i s lt ∙ ap (λ (t : Serving). list_any (λ (s : Serving). s.job == j) (take i ss) || (t.job == j)) (sym is) in
    rw (add-one, some) (more_expired at s.job j (list_any (λ (s : Serving). s.job == j) (take i ss)) rs before after so_far new)

-- the lane of a job, where it is the one that is asked for
pub own_job : (f : List RunnerRun → List RunnerRun) (es : List (ℕ × LaneView)) (job j : ℕ) → (if job == j then f (lane_of job es).on_runners else (lane_of j es).on_runners) ≡ (if job == j then f (lane_of j es).on_runners else (lane_of j es).on_runners)
own_job f es job j = by_test (job == j) refl where
  by_test : (b : Bool) → (job == j) ≡ b → (if job == j then f (lane_of job es).on_runners else (lane_of j es).on_runners) ≡ (if job == j then f (lane_of j es).on_runners else (lane_of j es).on_runners)
  by_test true e = rw e (ap (λ (n : ℕ). f (lane_of n es).on_runners) (equal_of job j e))
  by_test false e = rw e refl
