-- What is seen of a cluster.
use Rattle.std.specs.Prelude.{ℕ, List, map, Option}
use Rattle.job_records.specs.Room.{RecordsState}
use Rattle.cluster_history.specs.declared.settings.Settings.{Settings}
use Rattle.cluster_history.specs.declared.scan.Scan.{Scan}
use Rattle.cluster_history.specs.declared.taken.TakenLog.{TakenLog}
use Rattle.cluster_plan.specs.declared.node.Node.{Node}
use Rattle.cluster_plan.specs.Nodes.{node_in}
use Rattle.cluster_plan.specs.Kept.{Kept}

-- what is seen of a cluster: the settings, the records, the open scan, the logs that were taken and not sent, for how many more of these there is room, and a node for each admin; records and nodes have their own room
pub record ClusterState : Type 0 where
  pub settings : Settings
  pub records : RecordsState
  pub scan : Option Scan
  pub taken : List TakenLog
  pub taken_room : ℕ
  pub nodes : List Node

-- the same without the room
abbrev pub kept_of : ClusterState → Kept
kept_of state = record { settings = state.settings; tables = state.records.kept; scan = state.scan; taken = state.taken; nodes = map node_in state.nodes }
