-- What is kept of an admin, where a history is stood for, and after an entry.
use Rattle.std.proofs.Common.{◌≡◌, ℕ, ◌<◌, List, Bool, map, ap, ◌∙◌}
use Rattle.std.specs.Prelude.{slice_set}
use Rattle.job_values.specs.declared.limits.TheConstants.{ADMINS}
use Rattle.time_ring.specs.declared.ticket.Ticket.{Ticket}
use Rattle.trigger_pool.specs.Pool.{Queues}
use Rattle.route_strategies.specs.Picks.{PickCounts}
use Rattle.cluster_history.specs.History.{History}
use Rattle.cluster_history.specs.Nodes.{admins}
use Rattle.cluster_plan.specs.Nodes.{NodeKept, idle, stopped, node_at, nodes_with}
use Rattle.cluster_plan.specs.Kept.{Kept, ring_at, pools_at}
use Rattle.cluster_plan.specs.Stands.{Stands, ring_of, queues_of, routes_of, node_of}
use Rattle.cluster_plan.proofs.AdminLemmas.{at-admin, map-same, map-mapped, set-range_as}

-- what is kept of an admin
pub node-stands : (kept : Kept) (h : History) (admin : ℕ) → admin < ADMINS → Stands kept h → node_at kept.nodes admin ≡ node_of h admin
node-stands kept h admin below s = ap (λ nodes. node_at nodes admin) s.keeps.nodes ∙ at-admin (node_of h) admin idle below

-- its ring
pub ring-stands : (kept : Kept) (h : History) (admin : ℕ) → admin < ADMINS → Stands kept h → ring_at kept admin ≡ ring_of h admin
ring-stands kept h admin below s = ap (λ (one : NodeKept). one.ring) (node-stands kept h admin below s)

-- its pools
pub pools-stand : (kept : Kept) (h : History) (admin : ℕ) → admin < ADMINS → Stands kept h → pools_at kept admin ≡ queues_of h admin
pools-stand kept h admin below s = ap (λ (one : NodeKept). one.pools) (node-stands kept h admin below s)

-- its picks
pub routes-stand : (kept : Kept) (h : History) (admin : ℕ) → admin < ADMINS → Stands kept h → (node_at kept.nodes admin).routes ≡ routes_of h admin
routes-stand kept h admin below s = ap (λ (one : NodeKept). one.routes) (node-stands kept h admin below s)

-- what is kept of an admin, by its parts
pub node-by : {routes : List (ℕ × PickCounts)} (running more : Bool) (ring slots : List (List Ticket)) (pools queues : Queues) → running ≡ more → ring ≡ slots → pools ≡ queues
    → ◌≡◌ {A = NodeKept} (record { running = running; ring = ring; pools = pools; routes = routes }) (record { running = more; ring = slots; pools = queues; routes = routes })
node-by running more ring slots pools queues a b d = (cc)

-- what is kept of the admins after an entry that changes one of them
pub nodes-changed : (kept : Kept) (h after : History) (admin : ℕ) (change : NodeKept → NodeKept) → admin < ADMINS → Stands kept h → change (node_of h admin) ≡ node_of after admin → ((a : ℕ) → (a ≡ admin → ⊥) → node_of h a ≡ node_of after a)
    → nodes_with admin change kept.nodes ≡ map (node_of after) admins
nodes-changed kept h after admin change below s here others =
    ap (λ nodes. slice_set nodes admin (change (node_at kept.nodes admin))) s.keeps.nodes
    ∙ set-range_as (node_of h) (node_of after) ADMINS admin (change (node_at kept.nodes admin)) below (ap change (node-stands kept h admin below s) ∙ here) others

-- what is kept of the admins after an entry that stops all of them
pub nodes-stopped : (kept : Kept) (h after : History) → Stands kept h → ((a : ℕ) → idle ≡ node_of after a) → map stopped kept.nodes ≡ map (node_of after) admins
nodes-stopped kept h after s each =
    ap (map stopped) s.keeps.nodes ∙ map-mapped stopped (node_of h) admins ∙ map-same (λ a. idle) (node_of after) each admins
