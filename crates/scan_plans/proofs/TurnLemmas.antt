-- The turns of the rings.
use Rattle.std.proofs.Common.{◌≡◌, ℕ, ◌+◌, ◌<◌, List, [], ◌∷◌, ◌++◌, true, length, map, refl, sym, ap, ◌∙◌, subst}
use Rattle.job_values.specs.declared.limits.TheConstants.{ADMINS}
use Rattle.job_events.specs.declared.opened.FiredTicket.{FiredTicket}
use Rattle.job_events.specs.declared.cluster.ClusterEvent.TheVariants.{Turn}
use Rattle.job_events.specs.declared.cluster.ClusterRefusal.TheVariants.{IdsSpent}
use Rattle.job_events.specs.declared.cluster.ClusterReply.TheVariants as reply
use Rattle.job_records.specs.declared.change.Change.{Change}
use Rattle.job_records.specs.Changes.{applied_all, AreAllowed}
use Rattle.job_records.specs.Rules.{KeepsRules}
use Rattle.job_records.specs.Tables.{Tables}
use Rattle.time_ring.specs.declared.ticket.Ticket.{Ticket}
use Rattle.time_ring.specs.Ring.{slot_of_second, slot_before, tickets_in}
use Rattle.cluster_history.specs.Tickets.{Waiting, waiting, taken, second_of}
use Rattle.cluster_history.specs.History.{History, After, accepted}
use Rattle.cluster_history.specs.Nodes.{runs}
use Rattle.cluster_history.specs.Groups.{groups_of}
use Rattle.cluster_history.specs.Jobs.{jobs_of}
use Rattle.cluster_history.specs.Firings.{shots_taken, shots_for, shots_turned}
use Rattle.cluster_history.specs.Openings.{rows_of, Pools, pools_after}
use Rattle.cluster_history.specs.Logs.{last_log, pools_of, placed_at}
use Rattle.cluster_history.specs.Replies.{reply_after, if_ids, fired_by, fired_from, refused}
use Rattle.cluster_plan.specs.declared.prepared.Entering.{Entering}
use Rattle.cluster_plan.specs.declared.prepared.NodeChange.TheVariants as node
use Rattle.cluster_plan.specs.Kept.{Kept, ring_at, pools_at, pools_in}
use Rattle.cluster_plan.specs.Nodes.{entered, after_ring}
use Rattle.cluster_plan.specs.Commits.{with_node}
use Rattle.cluster_plan.specs.Plans.{IsPlanned, HasIdsFirst}
use Rattle.cluster_plan.specs.Stands.{Stands, Keeps, in_ring, queues_of}
use Rattle.cluster_history.specs.Records.{records_of}
use Rattle.log_opening.specs.Series.{shots_all, told_all, FiresSeries}
use Rattle.scan_plans.specs.Turning.{tickets_at}
use Rattle.log_opening.proofs.FireLemmas.{ids-spent, ids-left}
use Rattle.log_opening.proofs.FiringLemmas.{fired-allowed, fired-ids, fired-tables, pools-fired_by, pools-left, pools-seen, queues_opened, with_logs}
use Rattle.cluster_plan.proofs.PlanLemmas.{planned, answered-running}
use Rattle.cluster_plan.proofs.RingLemmas.{ring-taken, ring-one_turn, ring-others_turn}
use Rattle.cluster_plan.proofs.StandsLemmas.{ring-stands, node-by, nodes-changed}

-- tickets of a ring open what the history's tickets do
shots-in_ring : (t : Tables) (at : ℕ) (tickets : List Waiting) → shots_all (tickets_at at) t (map in_ring tickets) ≡ shots_for t.groups t.jobs at tickets
shots-in_ring t at [] = refl
shots-in_ring t at (ticket ∷ tickets) = ap (λ ss. shots_taken t.groups t.jobs at ticket ++ ss) (shots-in_ring t at tickets)

-- and the same is told of them
told-in_ring : (t : Tables) (at last : ℕ) (pools : Pools) (tickets : List Waiting) → told_all (tickets_at at) t last pools (map in_ring tickets) ≡ fired_from t.groups t.jobs at last pools tickets
told-in_ring t at last pools [] = refl
told-in_ring t at last pools (ticket ∷ tickets) =
    ap (λ fs. fired_by ticket.ticket last pools (shots_taken t.groups t.jobs at ticket) ∷ fs)
    (told-in_ring t at (last + length (shots_taken t.groups t.jobs at ticket)) (pools_after pools (shots_taken t.groups t.jobs at ticket)) tickets)

-- the tickets of a turn: those in two slots of the ring that is kept
abbrev pub turn_tickets : Kept → ℕ → ℕ → List Ticket
turn_tickets kept admin at =
    tickets_in (ring_at kept admin) (slot_of_second (second_of at)) ++ tickets_in (ring_at kept admin) (slot_before (second_of at))

tickets-kept : (kept : Kept) (h : History) (admin at : ℕ) → admin < ADMINS → Stands kept h → turn_tickets kept admin at ≡ map in_ring (taken admin (second_of at) (waiting h))
tickets-kept kept h admin at below s =
    ap (λ ring. tickets_in ring (slot_of_second (second_of at)) ++ tickets_in ring (slot_before (second_of at))) (ring-stands kept h admin below s) ∙ sym (ring-taken (waiting h) admin (second_of at))

-- what the tickets of a turn open
shots-kept : (kept : Kept) (h : History) (admin at : ℕ) → admin < ADMINS → Stands kept h → shots_all (tickets_at at) kept.tables (turn_tickets kept admin at) ≡ shots_turned h admin at
shots-kept kept h admin at below s =
    ap (λ (t : Tables). shots_all (tickets_at at) t (turn_tickets kept admin at)) s.keeps.tables
    ∙ ap (λ ts. shots_all (tickets_at at) (records_of h) ts) (tickets-kept kept h admin at below s)
    ∙ shots-in_ring (records_of h) at (taken admin (second_of at) (waiting h))

-- what is told of the tickets of a turn
told-kept : (kept : Kept) (h : History) (admin at : ℕ) (pools : Pools) → admin < ADMINS → pools ≡ pools_in (pools_at kept admin) → Stands kept h
    → told_all (tickets_at at) kept.tables kept.tables.last.log pools (turn_tickets kept admin at) ≡ fired_from (groups_of h) (jobs_of h) at (last_log h) (pools_of h admin) (taken admin (second_of at) (waiting h))
told-kept kept h admin at pools below here s =
    ap (λ (t : Tables). told_all (tickets_at at) t t.last.log pools (turn_tickets kept admin at)) s.keeps.tables
    ∙ ap (λ n. told_all (tickets_at at) (records_of h) (last_log h) n (turn_tickets kept admin at)) (here ∙ pools-seen kept h admin below s)
    ∙ ap (λ ts. told_all (tickets_at at) (records_of h) (last_log h) (pools_of h admin) ts) (tickets-kept kept h admin at below s)
    ∙ told-in_ring (records_of h) at (last_log h) (pools_of h admin) (taken admin (second_of at) (waiting h))

-- the reply to a turn, by what is kept
turn-reply : (kept : Kept) (h : History) (admin at : ℕ) (pools : Pools) → admin < ADMINS → pools ≡ pools_in (pools_at kept admin) → runs h admin ≡ true → Stands kept h
    → reply_after h (Turn admin at)
    ≡ if_ids kept.tables.last.log (length (shots_all (tickets_at at) kept.tables (turn_tickets kept admin at))) (reply.Fired (told_all (tickets_at at) kept.tables kept.tables.last.log pools (turn_tickets kept admin at)))
turn-reply kept h admin at pools below here running s =
    answered-running (runs h admin) admin _ running
    ∙ ap (λ ss. if_ids (last_log h) (length ss) (reply.Fired (fired_from (groups_of h) (jobs_of h) at (last_log h) (pools_of h admin) (taken admin (second_of at) (waiting h))))) (sym (shots-kept kept h admin at below s))
    ∙ ap (λ fs. if_ids (last_log h) (length (shots_all (tickets_at at) kept.tables (turn_tickets kept admin at))) (reply.Fired fs)) (sym (told-kept kept h admin at pools below here s))
    ∙ ap (λ (t : Tables). if_ids t.last.log (length (shots_all (tickets_at at) kept.tables (turn_tickets kept admin at))) (reply.Fired (told_all (tickets_at at) kept.tables kept.tables.last.log pools (turn_tickets kept admin at)))) (sym s.keeps.tables)

-- a turn whose ids are spent
pub spent-turn : (kept : Kept) (h : History) (admin at : ℕ) (pools : Pools) → admin < ADMINS → pools ≡ pools_in (pools_at kept admin) → runs h admin ≡ true
    → 9223372036854775807 < kept.tables.last.log + length (shots_all (tickets_at at) kept.tables (turn_tickets kept admin at)) → Stands kept h → reply_after h (Turn admin at) ≡ refused IdsSpent
spent-turn kept h admin at pools below here running over s =
    turn-reply kept h admin at pools below here running s ∙ ids-spent kept.tables.last.log (length (shots_all (tickets_at at) kept.tables (turn_tickets kept admin at))) _ over

-- the cluster after a turn stands for the history with it
turned-stands : (kept : Kept) (h : History) (admin at : ℕ) (pools : Pools) (changes : List Change) (entering : List Entering) (fired : List FiredTicket) → admin < ADMINS → pools ≡ pools_in (pools_at kept admin) → KeepsRules kept.tables
    → FiresSeries (tickets_at at) kept.tables pools (turn_tickets kept admin at) changes entering fired → Stands kept h
    → Keeps (with_node admin (after_ring (second_of at) entering) (record kept { tables = applied_all kept.tables changes })) (After h (Turn admin at) (reply.Fired fired))
turned-stands kept h admin at pools changes entering fired below here rules turns s =
    let shots = shots-kept kept h admin at below s in
    record {
      settings = s.keeps.settings;
      scan = s.keeps.scan;
      taken = s.keeps.taken;
      tables = ap (applied_all kept.tables) turns.rows
          ∙ fired-tables kept h admin pools (shots_all (tickets_at at) kept.tables (turn_tickets kept admin at)) below here rules turns.ids s
          ∙ ap (λ ss. with_logs (records_of h) (last_log h + length ss) (rows_of (placed_at h admin ss))) shots;
      nodes = nodes-changed kept h (After h (Turn admin at) (reply.Fired fired)) admin (after_ring (second_of at) entering) below s
          (node-by _ _ _ _ _ _ refl (ring-one_turn (waiting h) admin (second_of at))
          (ap (entered (queues_of h admin)) turns.enters
          ∙ pools-fired_by kept h admin pools (shots_all (tickets_at at) kept.tables (turn_tickets kept admin at)) below here s
          ∙ ap (λ ss. queues_opened h admin ss admin) shots))
          (λ a other. node-by _ _ _ _ _ _ refl (ring-others_turn (waiting h) admin (second_of at) a other) (pools-left h admin a (shots_turned h admin at) other));
    }

-- a turn that fires all its tickets
pub planned-turn : (kept : Kept) (admin at : ℕ) (pools : Pools) (changes : List Change) (entering : List Entering) (fired : List FiredTicket) → admin < ADMINS → pools ≡ pools_in (pools_at kept admin) → KeepsRules kept.tables
    → FiresSeries (tickets_at at) kept.tables pools (turn_tickets kept admin at) changes entering fired → ((h : History) → Stands kept (accepted h) → runs (accepted h) admin ≡ true)
    → IsPlanned kept (Turn admin at) (record { reply = reply.Fired fired; changes = changes; node = node.Turns admin (second_of at) entering })
planned-turn kept admin at pools changes entering fired below here rules turns running =
    planned kept (Turn admin at) (record { reply = reply.Fired fired; changes = changes; node = node.Turns admin (second_of at) entering })
    (subst (λ cs. AreAllowed kept.tables cs) (sym turns.rows) (fired-allowed kept.tables pools (shots_all (tickets_at at) kept.tables (turn_tickets kept admin at)) rules turns.ids))
    (subst HasIdsFirst (sym turns.rows) (fired-ids kept.tables pools (shots_all (tickets_at at) kept.tables (turn_tickets kept admin at)))) tt refl
    (λ h s. turn-reply kept (accepted h) admin at pools below here (running h s) s
    ∙ ids-left kept.tables.last.log (length (shots_all (tickets_at at) kept.tables (turn_tickets kept admin at))) _ turns.ids
    ∙ ap reply.Fired (sym turns.tells))
    (λ h s. turned-stands kept h admin at pools changes entering fired below here rules turns s)

-- two slots that were read are those of the turn
pub slots-turn : (kept : Kept) (admin at moment : ℕ) (present past : List Ticket) → moment ≡ at → present ≡ tickets_in (ring_at kept admin) (slot_of_second (second_of moment)) → past ≡ tickets_in (ring_at kept admin) (slot_before (second_of moment))
    → present ++ past ≡ turn_tickets kept admin at
slots-turn kept admin at moment present past same now before =
    ap (λ xs. xs ++ past) now ∙ ap (λ ys. tickets_in (ring_at kept admin) (slot_of_second (second_of moment)) ++ ys) before ∙ ap (λ n. turn_tickets kept admin n) same
