-- What is known of the admins that do not run.
use Rattle.std.proofs.Common.{◌≡◌, ℕ, ◌<◌, List, [], ◌∷◌, ◌++◌, Bool, true, false, cond, eqb, not, Option, Some, None, Ordering, Less, Equal, Greater, nat_cmp, refl, sym, ap, ◌∙◌, arith}
use Rattle.std.specs.Ordering.{match_ordering}
use Rattle.std.specs.List.{filter, AllByRecursion}
use Rattle.std.proofs.lemmas.Bool.{false≢true, true≢false}
use Rattle.std.proofs.lemmas.Bool.Decides.{nat_tests}
use Rattle.job_values.specs.declared.limits.TheConstants.{ADMINS}
use Rattle.job_values.specs.declared.words.PoolKind.{PoolKind}
use Rattle.job_events.specs.declared.cluster.ClusterEvent.TheVariants.{NodeStart, NodeStop, TriggerJob, ScanStep, Turn, Take, Sent, Callback, Monitor, Reopen}
use Rattle.cluster_history.specs.History.{History, Begin, After}
use Rattle.cluster_history.specs.Nodes.{runs}
use Rattle.cluster_history.specs.Looks.{Looked}
use Rattle.cluster_history.specs.Jobs.{look_of}
use Rattle.cluster_history.specs.Tickets.{Waiting, waiting, is_at, is_taken, second_of, put_behind, put_due}
use Rattle.cluster_history.specs.Firings.{shots_stepped, shots_turned, shots_asked}
use Rattle.cluster_history.specs.Openings.{added_to}
use Rattle.cluster_history.specs.Logs.{without_first, queue_of, placed_at, shots_called, shots_watched}
use Rattle.job_records.specs.declared.log.Log.{Log}
use Rattle.job_records.specs.Changes.{put_row}
use Rattle.cluster_history.specs.declared.taken.TakenLog.{TakenLog}
use Rattle.cluster_history.specs.Orders.{front_of, choice_of, taken_by, taken_with, taken_of}
use Rattle.cluster_history.specs.Runs.{AreWithin, IsAnswered}
use Rattle.cluster_history.proofs.Answered.{running_since}

before-start : (b c : Bool) → cond b true c ≡ false → c ≡ false
before-start true c e = absurd (true≢false e)
before-start false c e = e

after-stop : (b c : Bool) (ids : List ℕ) → cond b false c ≡ false → (c ≡ false → ids ≡ []) → cond b [] ids ≡ []
after-stop true c ids e before = refl
after-stop false c ids e before = before e

-- an admin that runs is another one than this
of-other : (f : ℕ → Bool) (a admin : ℕ) (b : Bool) (more ids : List ℕ) → eqb a admin ≡ b → f a ≡ false → f admin ≡ true → ids ≡ [] → cond b more ids ≡ []
of-other f a admin true more ids test stopped running before =
    let same : a ≡ admin = grind (arith, nat_tests) in
    absurd (false≢true (sym stopped ∙ ap f same ∙ running))
of-other f a admin false more ids test stopped running before = before

-- the pools of an admin that does not run are empty
pub queue_stopped : (h : History) → IsAnswered h → (a : ℕ) (pool : PoolKind) → runs h a ≡ false → queue_of h a pool ≡ []
queue_stopped (Begin o) answered a pool stopped = refl
queue_stopped (After h (NodeStart admin) r) answered a pool stopped = queue_stopped h answered.0 a pool (before-start (eqb a admin) (runs h a) stopped)
queue_stopped (After h (NodeStop admin) r) answered a pool stopped = after-stop (eqb a admin) (runs h a) (queue_of h a pool) stopped (queue_stopped h answered.0 a pool)
queue_stopped (After h Reopen r) answered a pool stopped = refl
queue_stopped (After h (ScanStep admin) r) answered a pool stopped =
    of-other (runs h) a admin (eqb a admin) (queue_of h a pool ++ added_to pool (placed_at h a (shots_stepped h))) (queue_of h a pool) refl stopped (running_since (runs h admin) admin _ r answered.1 answered.2) (queue_stopped h answered.0 a pool stopped)
queue_stopped (After h (Turn admin at) r) answered a pool stopped =
    of-other (runs h) a admin (eqb a admin) (queue_of h a pool ++ added_to pool (placed_at h a (shots_turned h admin at))) (queue_of h a pool) refl stopped (running_since (runs h admin) admin _ r answered.1 answered.2) (queue_stopped h answered.0 a pool stopped)
queue_stopped (After h (TriggerJob admin at job param) r) answered a pool stopped =
    of-other (runs h) a admin (eqb a admin) (queue_of h a pool ++ added_to pool (placed_at h a (shots_asked h at job param))) (queue_of h a pool) refl stopped (running_since (runs h admin) admin _ r answered.1 answered.2) (queue_stopped h answered.0 a pool stopped)
queue_stopped (After h (Take admin from at word) r) answered a pool stopped =
    of-other (runs h) a admin (eqb a admin) (without_first from pool (queue_of h a pool)) (queue_of h a pool) refl stopped (running_since (runs h admin) admin _ r answered.1 answered.2) (queue_stopped h answered.0 a pool stopped)
queue_stopped (After h (Callback admin at item) r) answered a pool stopped =
    of-other (runs h) a admin (eqb a admin) (queue_of h a pool ++ added_to pool (placed_at h a (shots_called h at item.code item.log))) (queue_of h a pool) refl stopped (running_since (runs h admin) admin _ r answered.1 answered.2) (queue_stopped h answered.0 a pool stopped)
queue_stopped (After h (Monitor admin at) r) answered a pool stopped =
    of-other (runs h) a admin (eqb a admin) (queue_of h a pool ++ added_to pool (placed_at h a (shots_watched h at))) (queue_of h a pool) refl stopped (running_since (runs h admin) admin _ r answered.1 answered.2) (queue_stopped h answered.0 a pool stopped)
queue_stopped (After h _ r) answered a pool stopped = queue_stopped h answered.0 a pool stopped

-- an admin that runs is one of those that there are
low-started : (h : History) (admin a : ℕ) (b : Bool) → eqb a admin ≡ b → admin < ADMINS → (runs h a ≡ true → a < ADMINS) → cond b true (runs h a) ≡ true → a < ADMINS
low-started h admin a true test here earlier is = let same : a ≡ admin = grind (arith, nat_tests) in omega arith
low-started h admin a false test here earlier is = earlier is

low-stopped : (b c : Bool) (a : ℕ) → (c ≡ true → a < ADMINS) → cond b false c ≡ true → a < ADMINS
low-stopped true c a earlier is = absurd (false≢true is)
low-stopped false c a earlier is = earlier is

pub runs_low : (h : History) → AreWithin h → (a : ℕ) → runs h a ≡ true → a < ADMINS
runs_low (Begin o) within a is = absurd (false≢true is)
runs_low (After h (NodeStart admin) r) within a is = low-started h admin a (eqb a admin) refl within.1 (runs_low h within.0 a) is
runs_low (After h (NodeStop admin) r) within a is = low-stopped (eqb a admin) (runs h a) a (runs_low h within.0 a) is
runs_low (After h Reopen r) within a is = absurd (false≢true is)
runs_low (After h _ r) within a is = runs_low h within.0 a is

-- each of these is an admin's that runs
abbrev Runs : {R : Type 0} → (R → ℕ) → (ℕ → Bool) → List R → Type 0
Runs admin_of f rows = AllByRecursion (λ row. f (admin_of row) ≡ true) rows

runs-started : {R : Type 0} (admin_of : R → ℕ) (f : ℕ → Bool) (admin : ℕ) (rows : List R) → Runs admin_of f rows → Runs admin_of (λ a. cond (eqb a admin) true (f a)) rows
runs-started admin_of f admin [] run = tt
runs-started admin_of f admin (row ∷ rows) run = (by (eqb (admin_of row) admin) run.0, runs-started admin_of f admin rows run.1)
  where
    by : (b : Bool) → f (admin_of row) ≡ true → cond b true (f (admin_of row)) ≡ true
    by true is = refl
    by false is = is

runs-stopped : {R : Type 0} (admin_of : R → ℕ) (f : ℕ → Bool) (admin : ℕ) (rows : List R) → Runs admin_of f rows → Runs admin_of (λ a. cond (eqb a admin) false (f a)) (filter (λ row. not (eqb (admin_of row) admin)) rows)
runs-stopped admin_of f admin [] run = tt
runs-stopped admin_of f admin (row ∷ rows) run = by (eqb (admin_of row) admin) refl (runs-stopped admin_of f admin rows run.1)
  where
    by : (b : Bool) → eqb (admin_of row) admin ≡ b → Runs admin_of (λ a. cond (eqb a admin) false (f a)) (filter (λ r. not (eqb (admin_of r) admin)) rows)
        → Runs admin_of (λ a. cond (eqb a admin) false (f a)) (cond (not b) (row ∷ filter (λ r. not (eqb (admin_of r) admin)) rows) (filter (λ r. not (eqb (admin_of r) admin)) rows))
    by true test more = more
    by false test more = (ap (λ b. cond b false (f (admin_of row))) test ∙ run.0, more)

runs-kept : {R : Type 0} (admin_of : R → ℕ) (f : ℕ → Bool) (test : R → Bool) (rows : List R) → Runs admin_of f rows → Runs admin_of f (filter test rows)
runs-kept admin_of f test [] run = tt
runs-kept admin_of f test (row ∷ rows) run = by (test row) (runs-kept admin_of f test rows run.1)
  where
    by : (b : Bool) → Runs admin_of f (filter test rows) → Runs admin_of f (cond b (row ∷ filter test rows) (filter test rows))
    by true more = (run.0, more)
    by false more = more

runs-push : {R : Type 0} (admin_of : R → ℕ) (f : ℕ → Bool) (row : R) (rows : List R) → Runs admin_of f rows → f (admin_of row) ≡ true → Runs admin_of f (rows ++ row ∷ [])
runs-push admin_of f row [] run is = (is, tt)
runs-push admin_of f row (first ∷ rows) run is = (run.0, runs-push admin_of f row rows run.1 is)

runs-row : {R : Type 0} (admin_of key_of : R → ℕ) (f : ℕ → Bool) (row : R) (rows : List R) → Runs admin_of f rows → f (admin_of row) ≡ true → Runs admin_of f (put_row key_of row rows)
runs-row admin_of key_of f row [] run is = (is, tt)
runs-row admin_of key_of f row (first ∷ rows) run is = by (nat_cmp (key_of first) (key_of row)) (runs-row admin_of key_of f row rows run.1 is)
  where
    by : (o : Ordering) → Runs admin_of f (put_row key_of row rows) → Runs admin_of f (match_ordering o (first ∷ put_row key_of row rows) (row ∷ rows) (row ∷ first ∷ rows))
    by Less more = (run.0, more)
    by Equal more = (is, run.1)
    by Greater more = (is, run)

-- each ticket is in the ring of an admin that runs
runs-put : (f : ℕ → Bool) (admin job edition : ℕ) (put : Option ℕ) (tickets : List Waiting) → Runs (λ one. one.admin) f tickets → f admin ≡ true → Runs (λ one. one.admin) f (put_due admin job edition put tickets)
runs-put f admin job edition None tickets run is = run
runs-put f admin job edition (Some due) tickets run is = runs-push (λ (one : Waiting). one.admin) f (record { admin = admin; ticket = record { job = job; edition = edition; due = due } }) tickets run is

runs-behind : (f : ℕ → Bool) (admin : ℕ) (look : Option Looked) (tickets : List Waiting) → Runs (λ one. one.admin) f tickets → f admin ≡ true → Runs (λ one. one.admin) f (put_behind admin look tickets)
runs-behind f admin None tickets run is = run
runs-behind f admin (Some look) tickets run is = runs-put f admin look.row.id look.row.edition look.decision.put tickets run is

-- the admin of each waiting ticket runs
pub tickets_run : (h : History) → IsAnswered h → AllByRecursion (λ ticket. runs h ticket.admin ≡ true) (waiting h)
tickets_run (Begin o) answered = tt
tickets_run (After h (NodeStart admin) r) answered = runs-started (λ (one : Waiting). one.admin) (runs h) admin (waiting h) (tickets_run h answered.0)
tickets_run (After h (NodeStop admin) r) answered = runs-stopped (λ (one : Waiting). one.admin) (runs h) admin (waiting h) (tickets_run h answered.0)
tickets_run (After h Reopen r) answered = tt
tickets_run (After h (ScanStep admin) r) answered = runs-behind (runs h) admin (look_of h) (waiting h) (tickets_run h answered.0) (running_since (runs h admin) admin _ r answered.1 answered.2)
tickets_run (After h (Turn admin at) r) answered = runs-kept (λ (one : Waiting). one.admin) (runs h) (λ ticket. not (is_taken admin (second_of at) ticket)) (waiting h) (tickets_run h answered.0)
tickets_run (After h _ r) answered = tickets_run h answered.0

runs-taken : (f : ℕ → Bool) (h : History) (admin word : ℕ) (front : Option Log) (taken : List TakenLog) → Runs (λ t. t.admin) f taken → f admin ≡ true → Runs (λ t. t.admin) f (taken_with h admin word front taken)
runs-taken f h admin word None taken run is = run
runs-taken f h admin word (Some log) taken run is = runs-row (λ (t : TakenLog). t.admin) (λ (t : TakenLog). t.log) f (taken_by admin (choice_of h admin word log) log) taken run is

-- the admin of each taken log runs
pub takers_run : (h : History) → IsAnswered h → AllByRecursion (λ t. runs h t.admin ≡ true) (taken_of h)
takers_run (Begin o) answered = tt
takers_run (After h (NodeStart admin) r) answered = runs-started (λ (t : TakenLog). t.admin) (runs h) admin (taken_of h) (takers_run h answered.0)
takers_run (After h (NodeStop admin) r) answered = runs-stopped (λ (t : TakenLog). t.admin) (runs h) admin (taken_of h) (takers_run h answered.0)
takers_run (After h Reopen r) answered = tt
takers_run (After h (Take admin pool at word) r) answered = runs-taken (runs h) h admin word (front_of h admin pool) (taken_of h) (takers_run h answered.0) (running_since (runs h admin) admin _ r answered.1 answered.2)
takers_run (After h (Sent log address code start end) r) answered = runs-kept (λ (t : TakenLog). t.admin) (runs h) (λ t. not (eqb t.log log)) (taken_of h) (takers_run h answered.0)
takers_run (After h _ r) answered = takers_run h answered.0
