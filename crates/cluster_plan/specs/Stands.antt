-- When what is kept stands for a history, and when it answers an event.
use Rattle.std.specs.Prelude.{◌≡◌, ℕ, ◌==◌, List, [], map, filter, Bool, true, Option, Some, None, if◌then◌else◌}
use Rattle.std.specs.List.{range_with_len}
use Rattle.job_values.specs.declared.limits.TheConstants.{SLOTS}
use Rattle.job_values.specs.declared.words.PoolKind.TheVariants.{Fast as FastPool, Slow as SlowPool}
use Rattle.job_values.specs.declared.choice.Choice.{Choice}
use Rattle.job_values.specs.declared.choice.Choice.TheVariants.{To}
use Rattle.job_records.specs.declared.log.Log.{Log}
use Rattle.job_events.specs.declared.cluster.ClusterEvent.{ClusterEvent}
use Rattle.job_events.specs.declared.cluster.ClusterEvent.TheVariants.{NodeStop, Take, Sent, Reopen}
use Rattle.job_events.specs.declared.cluster.ClusterReply.{ClusterReply}
use Rattle.time_ring.specs.declared.ticket.Ticket.{Ticket}
use Rattle.trigger_pool.specs.Pool.{Queues}
use Rattle.trigger_pool.specs.Reports.{SlowCounts, no_counts, counts_with}
use Rattle.route_strategies.specs.Picks.{PickCounts}
use Rattle.route_strategies.specs.State.{with_pick}
use Rattle.cluster_history.specs.History.{History, Begin, After, accepted, settings_of, opening_of}
use Rattle.cluster_history.specs.Nodes.{runs, admins}
use Rattle.cluster_history.specs.Jobs.{scan_of}
use Rattle.cluster_history.specs.Tickets.{Waiting, waiting, is_in_slot}
use Rattle.cluster_history.specs.Settling.{log_with}
use Rattle.cluster_history.specs.Logs.{logs_of, opener_of, is_own, queue_of}
use Rattle.cluster_history.specs.Orders.{front_of, choice_of, looks_back, taken_of}
use Rattle.cluster_history.specs.Records.{records_of}
use Rattle.cluster_history.specs.Replies.{reply_of}
use Rattle.cluster_history.specs.Runs.{OpensWell, AreWithin, IsAnswered}
use Rattle.cluster_plan.specs.Nodes.{NodeKept}
use Rattle.cluster_plan.specs.Kept.{Kept}

-- a ticket as a ring keeps it
abbrev pub in_ring : Waiting → Ticket
in_ring one = one.ticket

-- the tickets that wait in a slot of an admin
abbrev pub slot_at : List Waiting → ℕ → ℕ → List Ticket
slot_at tickets admin slot = map in_ring (filter (is_in_slot admin slot) tickets)

-- the sixty lists of an admin's ring
abbrev pub ring_of : History → ℕ → List (List Ticket)
ring_of h admin = map (λ slot. slot_at (waiting h) admin slot) (range_with_len 0 SLOTS)

-- one more sending is counted, of a log that is the admin's own
abbrev pub counted_behind : Bool → Option Log → ℕ → ℕ → SlowCounts → SlowCounts
counted_behind true (Some log) start end before = counts_with before (record { job = log.job; start = start; end = end })
counted_behind _ _ start end before = before

-- the counts of an admin's sendings since its start
abbrev pub counts_of : History → ℕ → SlowCounts
counts_of (Begin o) a = no_counts
counts_of (After h (NodeStop admin) r) a = if a == admin then no_counts else counts_of h a
counts_of (After h Reopen r) a = no_counts
counts_of (After h (Sent log address code start end) r) a =
    counted_behind (is_own (opener_of h log) a) (log_with log (logs_of h)) start end (counts_of h a)
counts_of (After h _ r) a = counts_of h a

-- the queues of an admin's pools, with these counts
abbrev pub queues_of : History → ℕ → Queues
queues_of h admin = record { fast = queue_of h admin FastPool; slow = queue_of h admin SlowPool; counts = counts_of h admin }

-- a choice of one address is a pick of it
abbrev pub with_choice : List (ℕ × PickCounts) → ℕ → Choice → List (ℕ × PickCounts)
with_choice routes job (To address) = with_pick routes job address
with_choice routes job _ = routes

-- one more pick, where a take gives a log whose route looks at the picks
abbrev pub picked_behind : History → ℕ → ℕ → Option Log → List (ℕ × PickCounts) → List (ℕ × PickCounts)
picked_behind h admin word None before = before
picked_behind h admin word (Some log) before = if looks_back log.route then with_choice before log.job (choice_of h admin word log) else before

-- the counts of an admin's picks since its start, of each job
abbrev pub routes_of : History → ℕ → List (ℕ × PickCounts)
routes_of (Begin o) a = []
routes_of (After h (NodeStop admin) r) a = if a == admin then [] else routes_of h a
routes_of (After h Reopen r) a = []
routes_of (After h (Take admin pool at word) r) a =
    if a == admin then picked_behind h a word (front_of h a pool) (routes_of h a) else routes_of h a
routes_of (After h _ r) a = routes_of h a

-- what is kept of an admin
abbrev pub node_of : History → ℕ → NodeKept
node_of h admin = record { running = runs h admin; ring = ring_of h admin; pools = queues_of h admin; routes = routes_of h admin }

-- each kept part is what the accepted entries give
pub record Keeps (kept : Kept) (h : History) : Type 0 where
  pub settings : kept.settings ≡ settings_of h
  pub tables : kept.tables ≡ records_of h
  pub scan : kept.scan ≡ scan_of h
  pub taken : kept.taken ≡ taken_of h
  pub nodes : kept.nodes ≡ map (node_of h) admins

-- it is so, and the entries are those of a legal history
pub record Stands (kept : Kept) (h : History) : Type 0 where
  pub opens : OpensWell (opening_of h)
  pub within : AreWithin h
  pub answered : IsAnswered h
  pub keeps : Keeps kept h

-- the reply is the one that the history defines, and what is kept then stands for the history with this entry
pub record Answered (h : History) (e : ClusterEvent) (r : ClusterReply) (kept : Kept) : Type 0 where
  pub reply : r ≡ reply_of h e
  pub stands : Stands kept (accepted (After h e r))

-- the same for every history that was stood for
abbrev pub KeptAnswers : Kept → ClusterEvent → ClusterReply → Kept → Type 0
KeptAnswers old e r new = (h : History) → Stands old (accepted h) → Answered h e r new
