-- Whether there is room for a prepared event.
use Rattle.std.specs.Prelude.{ℕ, ◌-◌, ◌^◌, ◌<◌, ◌≤◌, List, [], map, length, slice_index_or, Option, Some, None}
use Rattle.job_records.specs.Changes.{AreAllowed}
use Rattle.job_records.specs.Room.{HasRoom}
use Rattle.time_ring.specs.declared.ticket.Ticket.{Ticket}
use Rattle.time_ring.specs.Ring.{slot_of, room_in}
use Rattle.route_strategies.specs.State.{RoutesState, counts_of, HasRoom as HasRoomToAdd}
use Rattle.cluster_plan.specs.declared.node.Node.{Node}
use Rattle.cluster_plan.specs.declared.prepared.Pick.{Pick}
use Rattle.cluster_plan.specs.declared.prepared.NodeChange.{NodeChange}
use Rattle.cluster_plan.specs.declared.prepared.NodeChange.TheVariants as node
use Rattle.cluster_plan.specs.Prepared.{PreparedEvent}
use Rattle.cluster_core.specs.Kept.{ClusterState}

-- the room in the ring of an admin
abbrev pub ring_room : List Node → ℕ → List ℕ
ring_room nodes admin = slice_index_or (map (λ one. one.ring.room) nodes) admin []

-- for how many more logs the pools of an admin have room
abbrev pub pool_room : List Node → ℕ → ℕ
pool_room nodes admin = slice_index_or (map (λ one. one.pools.room.logs) nodes) admin 0

-- there is room for a ticket, if there is one
abbrev pub HasRoomToPut : List ℕ → Option Ticket → Type 0
HasRoomToPut room None = Unit {0}
HasRoomToPut room (Some ticket) = 0 < room_in room (slot_of ticket.due)

-- for the slow counts of how many more jobs the pools of an admin have room
abbrev pub count_room : List Node → ℕ → ℕ
count_room nodes admin = slice_index_or (map (λ one. one.pools.room.jobs) nodes) admin 0

-- the picks of an admin, with their room
abbrev pub routes_at : List Node → ℕ → RoutesState
routes_at nodes admin = slice_index_or (map (λ one. one.routes) nodes) admin (record { kept = []; room = record { addresses = []; jobs = 0; fresh = 0 } })

-- there is room for a pick, if there is one, and the picks of its job can be counted on
abbrev pub HasRoomToPick : RoutesState → Option Pick → Type 0
HasRoomToPick routes None = Unit {0}
HasRoomToPick routes (Some pick) = HasRoomToAdd routes.room pick.job × ((counts_of routes.kept pick.job).number < 2 ^ 64 - 1)

-- there is room for what an event changes beside the rows
abbrev pub HasRoomFor : ClusterState → NodeChange → Type 0
HasRoomFor state (node.Steps admin put logs) = HasRoomToPut (ring_room state.nodes admin) put × (length logs ≤ pool_room state.nodes admin)
HasRoomFor state (node.Turns admin second logs) = length logs ≤ pool_room state.nodes admin
HasRoomFor state (node.Fires admin logs) = length logs ≤ pool_room state.nodes admin
HasRoomFor state (node.Takes admin pool taken pick) = (0 < state.taken_room) × HasRoomToPick (routes_at state.nodes admin) pick
HasRoomFor state (node.Sends admin log job start end) = 0 < count_room state.nodes admin
HasRoomFor state _ = Unit {0}

-- a prepared event can be committed: each change of the rows is allowed after those before it, and there is room for everything
pub record CanCommit (state : ClusterState) (prepared : PreparedEvent) : Type 0 where
  pub allowed : AreAllowed state.records.kept prepared.changes
  pub rows : HasRoom state.records.room prepared.changes
  pub node : HasRoomFor state prepared.node
