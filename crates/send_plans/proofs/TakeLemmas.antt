-- A log is taken from a pool.
use Rattle.std.proofs.Common.{◌≡◌, ℕ, ◌^◌, ◌<◌, List, [], Bool, true, false, cond, Option, Some, None, refl, sym, ap, ◌∙◌, subst}
use Rattle.std.specs.Prelude.{slice_get, Result, Ok, Err, IfOk}
use Rattle.job_values.specs.declared.limits.TheConstants.{ADMINS}
use Rattle.job_values.specs.declared.words.PoolKind.{PoolKind}
use Rattle.job_values.specs.declared.words.PoolKind.TheVariants.{Fast as FastPool, Slow as SlowPool}
use Rattle.job_values.specs.declared.choice.Choice.{Choice}
use Rattle.job_values.specs.declared.choice.Choice.TheVariants.{To, Beat, Idle, NoAddress}
use Rattle.job_events.specs.declared.cluster.ClusterEvent.{ClusterEvent}
use Rattle.job_events.specs.declared.cluster.ClusterEvent.TheVariants.{Take}
use Rattle.job_events.specs.declared.cluster.ClusterReply.TheVariants.{Refused, Took}
use Rattle.job_events.specs.declared.cluster.ClusterRefusal.TheVariants.{Empty}
use Rattle.job_records.specs.declared.log.Log.{Log}
use Rattle.job_records.specs.Tables.{Tables}
use Rattle.trigger_pool.specs.Pool.{Queues, queue_of as pool_of, without_first as pools_left}
use Rattle.route_strategies.specs.Picks.{PickCounts}
use Rattle.route_strategies.specs.State.{counts_of as picks_in, ArePicksOf}
use Rattle.cluster_history.specs.History.{History, After, accepted}
use Rattle.cluster_history.specs.Nodes.{runs}
use Rattle.cluster_history.specs.Settling.{log_with}
use Rattle.cluster_history.specs.Logs.{logs_of, queue_of, without_first}
use Rattle.cluster_history.specs.Orders.{log_at, front_of, looks_back, choice_by, choice_of, picks_of, order_by, taken_by, put_taken, taken_with, taken_of}
use Rattle.cluster_history.specs.Replies.{take_reply}
use Rattle.cluster_plan.specs.declared.prepared.NodeChange.TheVariants as node
use Rattle.cluster_plan.specs.Prepared.{PreparedEvent}
use Rattle.cluster_plan.specs.Nodes.{NodeKept, node_at, routes_with, after_take}
use Rattle.cluster_plan.specs.Kept.{Kept, pools_at}
use Rattle.cluster_plan.specs.Commits.{with_node}
use Rattle.cluster_plan.specs.Plans.{IsPlanned}
use Rattle.cluster_plan.specs.Stands.{Stands, Keeps, counts_of, queues_of, ring_of, with_choice, picked_behind, routes_of, node_of}
use Rattle.cluster_plan.proofs.AdminLemmas.{same-admin, other-admin}
use Rattle.cluster_plan.proofs.PickLemmas.{picks-kept}
use Rattle.cluster_plan.proofs.PlanLemmas.{planned, planned-refused, answered-running}
use Rattle.cluster_plan.proofs.StandsLemmas.{pools-stand, routes-stand, nodes-changed}
use Rattle.send_plans.specs.Takes.{picked_for, pick_of, taking}

-- what is prepared, where it is prepared, is planned
pub planned-if : {E : Type 0} (r : Result PreparedEvent E) (kept : Kept) (e : ClusterEvent) (prepared : PreparedEvent) → IsPlanned kept e prepared → IfOk r (λ p. p ≡ prepared) → IfOk r (IsPlanned kept e)
planned-if (Ok p) kept e prepared is_planned is = subst (IsPlanned kept e) (sym is) is_planned
planned-if (Err why) kept e prepared is_planned is = tt

-- the queue of a pool
queue-of : (h : History) (admin : ℕ) (pool : PoolKind) → pool_of (queues_of h admin) pool ≡ queue_of h admin pool
queue-of h admin FastPool = refl
queue-of h admin SlowPool = refl

-- the log that a take gives, by what is kept
front-stands : (kept : Kept) (h : History) (admin : ℕ) (pool : PoolKind) (front : Option ℕ) (row : Option Log) → admin < ADMINS → slice_get (pool_of (pools_at kept admin) pool) 0 ≡ front → log_at kept.tables.logs front ≡ row → Stands kept h
    → front_of h admin pool ≡ row
front-stands kept h admin pool front row below first found s =
    let queue : pool_of (pools_at kept admin) pool ≡ queue_of h admin pool = ap (λ (q : Queues). pool_of q pool) (pools-stand kept h admin below s) ∙ queue-of h admin pool in
    ap (λ (q : List ℕ). log_at (logs_of h) (slice_get q 0)) (sym queue)
    ∙ ap (log_at (logs_of h)) first
    ∙ ap (λ (t : Tables). log_at t.logs front) (sym s.keeps.tables)
    ∙ found

-- the choice is the one that the history defines
choice-stands : (kept : Kept) (h : History) (admin word : ℕ) (row : Log) (choice : Choice) → admin < ADMINS → (picks_in (node_at kept.nodes admin).routes row.job).number < 2 ^ 64
    → ((picks : List (List ℕ)) → ArePicksOf (node_at kept.nodes admin).routes row.job picks → choice ≡ choice_by kept.tables.groups word picks row) → Stands kept h
    → choice ≡ choice_of h admin word row
choice-stands kept h admin word row choice below few chosen s =
    let routes : (node_at kept.nodes admin).routes ≡ routes_of h admin = routes-stand kept h admin below s in
    let told : (picks_in (routes_of h admin) row.job).number < 2 ^ 64 = subst (λ (r : List (ℕ × PickCounts)). (picks_in r row.job).number < 2 ^ 64) routes few in
    chosen (picks_of h admin row.job) (subst (λ (r : List (ℕ × PickCounts)). ArePicksOf r row.job (picks_of h admin row.job)) (sym routes) (picks-kept h admin row.job told))
    ∙ ap (λ (t : Tables). choice_by t.groups word (picks_of h admin row.job) row) s.keeps.tables

-- the picks after a take
routes-chosen : (routes : List (ℕ × PickCounts)) (job : ℕ) (choice : Choice) → routes_with routes (picked_for job choice) ≡ with_choice routes job choice
routes-chosen routes job (To address) = refl
routes-chosen routes job (Beat addresses) = refl
routes-chosen routes job (Idle addresses) = refl
routes-chosen routes job NoAddress = refl

routes-picked : (routes : List (ℕ × PickCounts)) (row : Log) (choice : Choice) → routes_with routes (pick_of row choice) ≡ cond (looks_back row.route) (with_choice routes row.job choice) routes
routes-picked routes row choice = by (looks_back row.route)
  where
    by : (b : Bool) → routes_with routes (cond b (picked_for row.job choice) None) ≡ cond b (with_choice routes row.job choice) routes
    by true = routes-chosen routes row.job choice
    by false = refl

-- the pools after a take
abbrev queues_taken : History → ℕ → PoolKind → Bool → Queues
queues_taken h a pool takes = record {
  fast = cond takes (without_first pool FastPool (queue_of h a FastPool)) (queue_of h a FastPool);
  slow = cond takes (without_first pool SlowPool (queue_of h a SlowPool)) (queue_of h a SlowPool);
  counts = counts_of h a;
}

pools-taken : (h : History) (a : ℕ) (pool : PoolKind) → pools_left (queues_of h a) pool ≡ queues_taken h a pool true
pools-taken h a FastPool = refl
pools-taken h a SlowPool = refl

-- what is kept of an admin, by whether it takes
abbrev node_taken : History → ℕ → ℕ → PoolKind → Option Log → Bool → NodeKept
node_taken h a word pool front takes = record {
  running = runs h a;
  ring = ring_of h a;
  pools = queues_taken h a pool takes;
  routes = cond takes (picked_behind h a word front (routes_of h a)) (routes_of h a);
}

-- what stands after a take
stands-taken : (kept : Kept) (h : History) (admin at word : ℕ) (pool : PoolKind) (row : Log) (choice : Choice) → admin < ADMINS → front_of h admin pool ≡ Some row → choice ≡ choice_of h admin word row → Stands kept h
    → Keeps (with_node admin (after_take pool (pick_of row choice)) (record kept { taken = put_taken (taken_by admin choice row) kept.taken })) (After h (Take admin pool at word) (Took (order_by row choice)))
stands-taken kept h admin at word pool row choice below front chosen s =
    let after : History = After h (Take admin pool at word) (Took (order_by row choice)) in
    let routes : routes_with (routes_of h admin) (pick_of row choice) ≡ picked_behind h admin word (front_of h admin pool) (routes_of h admin) =
    routes-picked (routes_of h admin) row choice
    ∙ ap (λ c. cond (looks_back row.route) (with_choice (routes_of h admin) row.job c) (routes_of h admin)) chosen
    ∙ ap (λ o. picked_behind h admin word o (routes_of h admin)) (sym front) in
    record {
      settings = s.keeps.settings;
      tables = s.keeps.tables;
      scan = s.keeps.scan;
      taken = ap (put_taken (taken_by admin choice row)) s.keeps.taken
          ∙ ap (λ c. put_taken (taken_by admin c row) (taken_of h)) chosen
          ∙ ap (λ o. taken_with h admin word o (taken_of h)) (sym front);
      nodes = nodes-changed kept h after admin (after_take pool (pick_of row choice)) below s
          (ap (λ (q : Queues). record (node_of h admin) { pools = q; routes = routes_with (routes_of h admin) (pick_of row choice) }) (pools-taken h admin pool)
          ∙ ap (λ rs. record (node_of h admin) { pools = queues_taken h admin pool true; routes = rs }) routes
          ∙ ap (node_taken h admin word pool (front_of h admin pool)) (sym (same-admin admin)))
          (λ a other. ap (node_taken h a word pool (front_of h a pool)) (sym (other-admin a admin other)));
    }

-- the take of a log that is there
pub planned-take : (kept : Kept) (admin at word id : ℕ) (pool : PoolKind) (row : Log) (choice : Choice) → admin < ADMINS → ((h : History) → Stands kept (accepted h) → runs (accepted h) admin ≡ true)
    → slice_get (pool_of (pools_at kept admin) pool) 0 ≡ Some id → log_with id kept.tables.logs ≡ Some row → (picks_in (node_at kept.nodes admin).routes row.job).number < 2 ^ 64
    → ((picks : List (List ℕ)) → ArePicksOf (node_at kept.nodes admin).routes row.job picks → choice ≡ choice_by kept.tables.groups word picks row)
    → IsPlanned kept (Take admin pool at word) (taking admin pool row choice)
planned-take kept admin at word id pool row choice below running first found few chosen =
    let front : (h : History) → Stands kept h → front_of h admin pool ≡ Some row = λ h s. front-stands kept h admin pool (Some id) (Some row) below first found s in
    let same : (h : History) → Stands kept h → choice ≡ choice_of h admin word row = λ h s. choice-stands kept h admin word row choice below few chosen s in
    planned kept (Take admin pool at word) (taking admin pool row choice) tt refl tt refl
    (λ h s.
    answered-running (runs (accepted h) admin) admin (take_reply (accepted h) admin word (front_of (accepted h) admin pool)) (running h s)
    ∙ ap (take_reply (accepted h) admin word) (front (accepted h) s)
    ∙ ap (λ c. Took (order_by row c)) (sym (same (accepted h) s)))
    (λ h s. stands-taken kept h admin at word pool row choice below (front h s) (same h s) s)

-- a pool that gives no log
pub planned-empty : (kept : Kept) (admin at word : ℕ) (pool : PoolKind) (front : Option ℕ) → admin < ADMINS → ((h : History) → Stands kept (accepted h) → runs (accepted h) admin ≡ true)
    → slice_get (pool_of (pools_at kept admin) pool) 0 ≡ front → log_at kept.tables.logs front ≡ None
    → IsPlanned kept (Take admin pool at word) (record { reply = Refused Empty; changes = []; node = node.Nothing })
planned-empty kept admin at word pool front below running first none =
    planned-refused kept (Take admin pool at word) Empty (λ h s.
    answered-running (runs (accepted h) admin) admin (take_reply (accepted h) admin word (front_of (accepted h) admin pool)) (running h s)
    ∙ ap (take_reply (accepted h) admin word) (front-stands kept (accepted h) admin pool front None below first none s))
