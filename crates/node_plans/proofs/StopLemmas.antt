-- The stop of an admin, and of all.
use Rattle.std.proofs.Common.{◌≡◌, ℕ, ◌-◌, ◌^◌, ◌<◌, List, [], Bool, true, false, cond, length, map, min, None, refl, sym, ap, ◌∙◌}
use Rattle.std.specs.Prelude.{◌==◌, filter, not}
use Rattle.std.specs.Prelude.{sum, sum_by}
use Rattle.std.proofs.lemmas.List.Sums.{sum-map}
use Rattle.job_values.specs.declared.limits.TheConstants.{ADMINS}
use Rattle.job_values.specs.declared.words.PoolKind.TheVariants.{Fast as FastPool, Slow as SlowPool}
use Rattle.job_events.specs.declared.cluster.ClusterEvent.TheVariants.{NodeStop, Reopen}
use Rattle.job_events.specs.declared.cluster.ClusterReply.TheVariants.{Stopped, Reopened}
use Rattle.job_records.specs.Rules.{KeepsRules}
use Rattle.job_records.specs.Tables.{Tables}
use Rattle.time_ring.specs.Ring.{ticket_count}
use Rattle.time_ring.specs.declared.ticket.Ticket.{Ticket}
use Rattle.trigger_pool.specs.Pool.{Queues}
use Rattle.trigger_pool.specs.Reports.{no_counts}
use Rattle.cluster_history.specs.History.{History, After, accepted}
use Rattle.cluster_history.specs.Nodes.{runs, admins}
use Rattle.cluster_history.specs.Pages.{unless_owner}
use Rattle.cluster_history.specs.Tickets.{waiting, waiting_at}
use Rattle.cluster_history.specs.Logs.{queue_of, open_at, logs_of}
use Rattle.cluster_history.specs.Replies.{counted_to, over_running}
use Rattle.cluster_history.specs.declared.taken.TakenLog.{TakenLog}
use Rattle.cluster_history.specs.Orders.{held_by}
use Rattle.cluster_history.proofs.Stops.{open_count, ended_at}
use Rattle.cluster_history.proofs.Reopened.{held_all, reopened_count, reopened_rows}
use Rattle.cluster_plan.specs.declared.prepared.NodeChange.TheVariants as node
use Rattle.cluster_plan.specs.Nodes.{NodeKept, idle, stopped}
use Rattle.cluster_plan.specs.Kept.{Kept, ring_at}
use Rattle.cluster_plan.specs.Commits.{with_node}
use Rattle.node_plans.specs.Endings.{endings, ended_in, held_in, all_held, lost_in, lost_of}
use Rattle.cluster_plan.specs.Plans.{IsPlanned}
use Rattle.cluster_plan.specs.Stands.{Stands, Keeps, counts_of, ring_of, routes_of, node_of}
use Rattle.cluster_plan.proofs.AdminLemmas.{same-admin, other-admin, map-same, map-mapped}
use Rattle.node_plans.proofs.EndingLemmas.{ends-logs, endings-give_none}
use Rattle.node_plans.proofs.HeldLemmas.{held-stands, all_held-stand}
use Rattle.cluster_plan.proofs.PlanLemmas.{planned, answered-running, no-ids-first}
use Rattle.cluster_plan.proofs.RingLemmas.{ring-one_stop, ring-others_stop, ring-none, ring-count}
use Rattle.cluster_plan.proofs.StandsLemmas.{ring-stands, node-by, nodes-changed, nodes-stopped}

-- the logs of an admin that did not end are those that it has
ended-rows : (kept : Kept) (h : History) (admin : ℕ) → admin < ADMINS → Stands kept h → ended_in (held_in kept admin) kept.tables.logs ≡ logs_of (After h (NodeStop admin) (Stopped 0 0))
ended-rows kept h admin below s =
    ap (λ ids. ended_in ids kept.tables.logs) (held-stands kept h admin below s)
    ∙ ap (λ (t : Tables). ended_in (held_by h admin) t.logs) s.keeps.tables
    ∙ sym (ended_at h s.opens s.answered admin)

-- the queues of an admin, by whether they are emptied
abbrev queues_left : History → ℕ → Bool → Queues
queues_left h a emptied = record {
  fast = cond emptied [] (queue_of h a FastPool);
  slow = cond emptied [] (queue_of h a SlowPool);
  counts = cond emptied no_counts (counts_of h a);
}

-- what is kept of an admin with these slots, by whether it stops
abbrev left_by : History → ℕ → List (List Ticket) → Bool → NodeKept
left_by h a slots stops = record { running = cond stops false (runs h a); ring = slots; pools = queues_left h a stops; routes = cond stops [] (routes_of h a) }

-- what stands after the stop of an admin
stands-stopped : (kept : Kept) (h : History) (admin lost ended : ℕ) (tables : Tables) → admin < ADMINS → tables ≡ record kept.tables { logs = ended_in (held_in kept admin) kept.tables.logs } → Stands kept h
    → Keeps (with_node admin stopped (record kept { scan = unless_owner admin kept.scan; taken = filter (λ t. not (t.admin == admin)) kept.taken; tables = tables })) (After h (NodeStop admin) (Stopped lost ended))
stands-stopped kept h admin lost ended tables below made s = record {
  settings = s.keeps.settings;
  tables = made ∙ ap (λ ls. record kept.tables { logs = ls }) (ended-rows kept h admin below s) ∙ ap (λ (t : Tables). record t { logs = logs_of (After h (NodeStop admin) (Stopped 0 0)) }) s.keeps.tables;
  scan = ap (unless_owner admin) s.keeps.scan;
  taken = ap (filter (λ (t : TakenLog). not (t.admin == admin))) s.keeps.taken;
  nodes = nodes-changed kept h (After h (NodeStop admin) (Stopped lost ended)) admin stopped below s
      (ap (λ slots. left_by h admin slots true) (sym (ring-one_stop (waiting h) admin))
      ∙ ap (left_by h admin (ring_of (After h (NodeStop admin) (Stopped lost ended)) admin)) (sym (same-admin admin)))
      (λ a other.
      ap (λ slots. left_by h a slots false) (ring-others_stop (waiting h) admin a other)
      ∙ ap (left_by h a (ring_of (After h (NodeStop admin) (Stopped lost ended)) a)) (sym (other-admin a admin other)));
}

-- the stop of an admin that runs
pub planned-stop : (kept : Kept) (admin lost ended : ℕ) → admin < ADMINS → KeepsRules kept.tables → ((h : History) → Stands kept (accepted h) → runs (accepted h) admin ≡ true)
    → lost ≡ min (ticket_count (ring_at kept admin)) (2 ^ 64 - 1) → ended ≡ length (held_in kept admin)
    → IsPlanned kept (NodeStop admin) (record { reply = Stopped lost ended; changes = endings kept.tables.logs (held_in kept admin); node = node.Stops admin })
planned-stop kept admin lost ended below rules running lost_is ended_is =
    let ids : List ℕ = held_in kept admin in
    let ends = ends-logs kept.tables (held_in kept admin) rules in
    planned kept (NodeStop admin) (record { reply = Stopped lost ended; changes = endings kept.tables.logs ids; node = node.Stops admin }) ends.allowed (no-ids-first (endings kept.tables.logs (held_in kept admin)) (endings-give_none kept.tables.logs ids)) tt refl
    (λ h s.
    let now : History = accepted h in
    let waits : min (ticket_count (ring_at kept admin)) (2 ^ 64 - 1) ≡ counted_to (waiting_at now admin) = ap (λ slots. counted_to (ticket_count slots)) (ring-stands kept now admin below s) ∙ ap counted_to (ring-count (waiting now) admin) in
    let opens : length (held_in kept admin) ≡ open_at now admin = ap length (held-stands kept now admin below s) ∙ sym (open_count now s.opens s.answered admin) in
    answered-running (runs now admin) admin (Stopped (counted_to (waiting_at now admin)) (open_at now admin)) (running h s)
    ∙ ap (λ n. Stopped n (open_at now admin)) (sym (lost_is ∙ waits)) ∙ ap (λ n. Stopped lost n) (sym (ended_is ∙ opens)))
    (λ h s. stands-stopped kept h admin lost ended _ below ends.gives s)

-- what is counted over the admins that run
over-admins : (kept : Kept) (h : History) (counted : NodeKept → ℕ) (at : ℕ → ℕ) → Stands kept h → ((a : ℕ) → counted (node_of h a) ≡ cond (runs h a) (at a) 0) → sum_by counted kept.nodes ≡ over_running h at
over-admins kept h counted at s same =
    ap (sum_by counted) s.keeps.nodes ∙ sym (sum-map counted (map (node_of h) admins))
    ∙ ap sum (map-mapped counted (node_of h) admins ∙ map-same (λ a. counted (node_of h a)) (λ a. cond (runs h a) (at a) 0) same admins)

-- what stands after the stop of all
stands-reopened : (kept : Kept) (h : History) (lost ended : ℕ) (tables : Tables) → tables ≡ record kept.tables { logs = ended_in (all_held kept) kept.tables.logs } → Stands kept h
    → Keeps (record kept { scan = None; taken = []; nodes = map stopped kept.nodes; tables = tables }) (After h Reopen (Reopened lost ended))
stands-reopened kept h lost ended tables made s = record {
  settings = s.keeps.settings;
  tables = made
      ∙ ap (λ ls. record kept.tables { logs = ls }) (ap (λ ids. ended_in ids kept.tables.logs) (all_held-stand kept h s) ∙ ap (λ (t : Tables). ended_in (held_all h) t.logs) s.keeps.tables ∙ sym (reopened_rows h s.opens s.answered s.within))
      ∙ ap (λ (t : Tables). record t { logs = logs_of (After h Reopen (Reopened lost ended)) }) s.keeps.tables;
  scan = refl;
  taken = refl;
  nodes = nodes-stopped kept h (After h Reopen (Reopened lost ended)) s (λ a. node-by _ _ _ _ _ _ refl (ring-none a) refl);
}

-- the stop of all
pub planned-reopen : (kept : Kept) (lost ended : ℕ) → KeepsRules kept.tables → lost ≡ min (lost_of kept.nodes) (2 ^ 64 - 1) → ended ≡ length (all_held kept)
    → IsPlanned kept Reopen (record { reply = Reopened lost ended; changes = endings kept.tables.logs (all_held kept); node = node.StopsAll })
planned-reopen kept lost ended rules lost_is ended_is =
    let ids : List ℕ = all_held kept in
    let ends = ends-logs kept.tables ids rules in
    planned kept Reopen (record { reply = Reopened lost ended; changes = endings kept.tables.logs ids; node = node.StopsAll }) ends.allowed (no-ids-first (endings kept.tables.logs (all_held kept)) (endings-give_none kept.tables.logs ids)) tt refl
    (λ h s.
    let now : History = accepted h in
    let waits : lost_of kept.nodes ≡ over_running now (waiting_at now) =
    over-admins kept now lost_in (waiting_at now) s (λ a. ap (λ n. cond (runs now a) n 0) (ring-count (waiting now) a)) in
    let opens : length (all_held kept) ≡ over_running now (open_at now) =
    ap length (all_held-stand kept now s) ∙ sym (reopened_count now s.opens s.answered s.within) in
    ap (λ n. Reopened n (over_running now (open_at now))) (sym (lost_is ∙ ap counted_to waits)) ∙ ap (λ n. Reopened lost n) (sym (ended_is ∙ opens)))
    (λ h s. stands-reopened kept h lost ended _ ends.gives s)
