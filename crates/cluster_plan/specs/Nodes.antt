-- What is kept of an admin, and what an event makes of it.
use Rattle.std.specs.Prelude.{ℕ, List, [], ◌∷◌, slice_index_or, slice_set, Bool, true, false, Option, Some, None}
use Rattle.time_ring.specs.declared.ticket.Ticket.{Ticket}
use Rattle.time_ring.specs.Ring.{with_ticket, after_turn, no_tickets}
use Rattle.job_values.specs.declared.words.PoolKind.{PoolKind}
use Rattle.trigger_pool.specs.Pool.{Queues, no_logs, with_log, answer_at, without_first, with_sending}
use Rattle.trigger_pool.specs.Reports.{Sending, late_count}
use Rattle.route_strategies.specs.Picks.{PickCounts}
use Rattle.route_strategies.specs.State.{with_pick}
use Rattle.cluster_plan.specs.declared.node.Node.{Node}
use Rattle.cluster_plan.specs.declared.prepared.Entering.{Entering}
use Rattle.cluster_plan.specs.declared.prepared.Pick.{Pick}

-- what is kept of an admin: whether it runs, the sixty lists of its ring, the two queues of its pools with the counts of its sendings, and of each job the counts of its picks
pub record NodeKept : Type 0 where
  pub running : Bool
  pub ring : List (List Ticket)
  pub pools : Queues
  pub routes : List (ℕ × PickCounts)

-- the same of a node, without its room
abbrev pub node_in : Node → NodeKept
node_in one = record { running = one.running; ring = one.ring.slots; pools = one.pools.kept; routes = one.routes.kept }

-- an admin that does not run: no ticket waits, and no log, and nothing was sent or picked
abbrev pub idle : NodeKept
idle = record { running = false; ring = no_tickets; pools = no_logs; routes = [] }

-- what is kept of an admin, of what is kept of each
abbrev pub node_at : List NodeKept → ℕ → NodeKept
node_at nodes admin = slice_index_or nodes admin idle

-- the same for each admin, with one changed
abbrev pub nodes_with : ℕ → (NodeKept → NodeKept) → List NodeKept → List NodeKept
nodes_with admin change nodes = slice_set nodes admin (change (node_at nodes admin))

-- pools with a log more
abbrev pub pools_with : Queues → Entering → Queues
pools_with pools entering =
    with_log pools entering.log (answer_at (late_count pools.counts entering.job) pools.fast pools.slow)

-- pools after these logs
abbrev pub entered : Queues → List Entering → Queues
entered pools [] = pools
entered pools (entering ∷ others) = entered (pools_with pools entering) others

-- a ring with a ticket more, if there is a ticket
abbrev pub ring_with : List (List Ticket) → Option Ticket → List (List Ticket)
ring_with ring None = ring
ring_with ring (Some ticket) = with_ticket ring ticket

-- an admin that starts
abbrev pub started : NodeKept → NodeKept
started one = record one { running = true }

-- an admin that stops keeps nothing
abbrev pub stopped : NodeKept → NodeKept
stopped one = idle

-- an admin that made a step: its ticket is in the ring, if there is one, and its logs in the pools
abbrev pub after_step : Option Ticket → List Entering → NodeKept → NodeKept
after_step put logs one = record one { ring = ring_with one.ring put; pools = entered one.pools logs }

-- an admin whose ring turned at a second: its logs are in the pools
abbrev pub after_ring : ℕ → List Entering → NodeKept → NodeKept
after_ring second logs one = record one { ring = after_turn one.ring second; pools = entered one.pools logs }

-- an admin that fired by hand: its logs are in the pools
abbrev pub after_firing : List Entering → NodeKept → NodeKept
after_firing logs one = record one { pools = entered one.pools logs }

-- picks with one more, if there is one
abbrev pub routes_with : List (ℕ × PickCounts) → Option Pick → List (ℕ × PickCounts)
routes_with routes None = routes
routes_with routes (Some pick) = with_pick routes pick.job pick.address

-- an admin that took the first log of a pool: it picked an address, if it did
abbrev pub after_take : PoolKind → Option Pick → NodeKept → NodeKept
after_take pool pick one = record one { pools = without_first one.pools pool; routes = routes_with one.routes pick }

-- an admin that sent a log
abbrev pub after_sending : Sending → NodeKept → NodeKept
after_sending sending one = record one { pools = with_sending one.pools sending }
