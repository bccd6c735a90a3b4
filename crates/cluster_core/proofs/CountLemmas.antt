-- What is counted over the admins.
use Rattle.std.proofs.Common.{◌≡◌, ℕ, suc, ◌*◌, ◌≤◌, List, [], ◌∷◌, map, length, length-append, sym, ap, ◌∙◌, arith}
use Rattle.std.specs.Prelude.{sum, sum_by, count_by}
use Rattle.std.proofs.lemmas.List.Sums.{sum_by-cons, sum-map}
use Rattle.job_events.specs.declared.report.Report.{Report}
use Rattle.time_ring.specs.Ring.{ticket_count}
use Rattle.cluster_history.specs.History.{History}
use Rattle.cluster_history.specs.Jobs.{jobs_of}
use Rattle.cluster_history.specs.Nodes.{admins}
use Rattle.cluster_history.specs.Replies.{counted_to}
use Rattle.cluster_history.specs.Tickets.{waiting, waiting_at}
use Rattle.cluster_history.specs.Logs.{logs_of}
use Rattle.cluster_history.specs.Settling.{is_settled, is_failed}
use Rattle.cluster_history.specs.Runs.{waiting_in, queued_in, counted}
use Rattle.cluster_plan.specs.declared.node.Node.{Node}
use Rattle.cluster_plan.specs.Nodes.{NodeKept, node_in, node_at}
use Rattle.cluster_plan.specs.Kept.{logs_in, IsWithinLimits}
use Rattle.cluster_plan.specs.Stands.{ring_of, node_of}
use Rattle.cluster_plan.proofs.AdminLemmas.{map-same, map-mapped}
use Rattle.cluster_plan.proofs.RingLemmas.{ring-count}

-- a sum over rows is the sum of what is said of each
sum-mapped : {X Y : Type 0} (f : Y → ℕ) (g : X → Y) (xs : List X) → sum_by (λ (x : X). f (g x)) xs ≡ sum (map f (map g xs))
sum-mapped {X} {Y} f g xs = sym (sum-map (λ (x : X). f (g x)) xs) ∙ sym (ap sum (map-mapped f g xs))

-- the tickets in all rings
pub waiting-counted : (nodes : List Node) (h : History) → map node_in nodes ≡ map (node_of h) admins → sum_by (λ (one : Node). ticket_count one.ring.slots) nodes ≡ waiting_in h
waiting-counted nodes h stands =
    let count : NodeKept → ℕ = λ one. ticket_count one.ring in
    sum-mapped count node_in nodes ∙ ap (λ kept. sum (map count kept)) stands
    ∙ ap sum (map-mapped count (node_of h) admins ∙ map-same (λ a. ticket_count (ring_of h a)) (waiting_at h) (λ a. ring-count (waiting h) a) admins)

-- the logs in all pools
pub queued-counted : (nodes : List Node) (h : History) → map node_in nodes ≡ map (node_of h) admins → sum_by (λ (one : Node). length (logs_in one.pools.kept)) nodes ≡ queued_in h
queued-counted nodes h stands =
    let count : NodeKept → ℕ = λ one. length (logs_in one.pools) in
    sum-mapped count node_in nodes ∙ ap (λ kept. sum (map count kept)) stands ∙ ap sum (map-mapped count (node_of h) admins)

-- no pool has more logs than it takes, so that all have few
pub queued-few : (nodes : List Node) → ((a : ℕ) → IsWithinLimits (node_at (map node_in nodes) a).pools) → sum_by (λ (one : Node). length (logs_in one.pools.kept)) nodes ≤ 3000 * length nodes
queued-few [] limits = omega arith
queued-few (one ∷ nodes) limits =
    let rest : sum_by (λ (n : Node). length (logs_in n.pools.kept)) nodes ≤ 3000 * length nodes = queued-few nodes (λ a. limits (suc a)) in
    let fast : length one.pools.kept.fast ≤ 1000 = (limits 0).fast in
    let slow : length one.pools.kept.slow ≤ 2000 = (limits 0).slow in
    let first : length (logs_in one.pools.kept) ≤ 3000 = omega (arith, length-append one.pools.kept.fast one.pools.kept.slow) in
    omega (arith, sum_by-cons (λ (n : Node). length (logs_in n.pools.kept)) one nodes)

-- what is counted, by its parts
pub counted-by : (h : History) (jobs logs settled failed waiting queued : ℕ) → jobs ≡ length (jobs_of h) → logs ≡ length (logs_of h) → settled ≡ count_by is_settled (logs_of h) → failed ≡ count_by is_failed (logs_of h) → waiting ≡ counted_to (waiting_in h) → queued ≡ queued_in h
    → ◌≡◌ {A = Report} (record { entries = 0; jobs = jobs; logs = logs; settled = settled; failed = failed; waiting = waiting; queued = queued; held = 0 }) (counted h)
counted-by h jobs logs settled failed waiting queued a b d e f g =
    by jobs logs settled failed waiting queued (length (jobs_of h)) (length (logs_of h)) (count_by is_settled (logs_of h)) (count_by is_failed (logs_of h)) (counted_to (waiting_in h)) (queued_in h) a b d e f g
  where
    by : (a b d e f g i j k l m n : ℕ) → a ≡ i → b ≡ j → d ≡ k → e ≡ l → f ≡ m → g ≡ n
        → ◌≡◌ {A = Report} (record { entries = 0; jobs = a; logs = b; settled = d; failed = e; waiting = f; queued = g; held = 0 }) (record { entries = 0; jobs = i; logs = j; settled = k; failed = l; waiting = m; queued = n; held = 0 })
    by a b d e f g i j k l m n p q r s t u = (cc)
