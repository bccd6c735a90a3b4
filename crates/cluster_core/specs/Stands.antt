-- When a cluster stands for a history, and when it answers an event.
use Rattle.std.specs.Prelude.{◌≡◌, ℕ, List, Option, Some, None}
use Rattle.job_events.specs.declared.cluster.ClusterEvent.{ClusterEvent}
use Rattle.job_events.specs.declared.cluster.ClusterReply.{ClusterReply}
use Rattle.cluster_history.specs.declared.scan.Scan.{Scan}
use Rattle.cluster_history.specs.History.{History, accepted}
use Rattle.cluster_history.specs.Jobs.{scan_of}
use Rattle.cluster_history.specs.Runs.{run}
use Rattle.cluster_core.specs.Kept.{ClusterState, kept_of}
use Rattle.cluster_plan.specs.Stands.{Stands, KeptAnswers}

-- a cluster stands for a history with its refused entries
abbrev pub StandsFor : ClusterState → History → Type 0
StandsFor state h = Stands (kept_of state) (accepted h)

-- for every history that the cluster stood for, the reply is the defined one, and it stands for the history with this entry
abbrev pub Answers : ClusterState → ClusterEvent → ClusterReply → ClusterState → Type 0
Answers old e r new = KeptAnswers (kept_of old) e r (kept_of new)

-- the rest of a run from a history, as a cluster has it before it: some history that it stands for, from which the rest gives what the whole run gives
pub record RunsOn (state : ClusterState) (rest : List ClusterEvent) (end : History) : Type 0 where
  pub so_far : History
  pub stands : StandsFor state so_far
  pub ends : run so_far rest ≡ end

-- who owns the lock of an open scan
abbrev pub owner_in : Option Scan → Option ℕ
owner_in None = None
owner_in (Some scan) = Some scan.owner

-- who owns it after a history
abbrev pub owner_after : History → Option ℕ
owner_after h = owner_in (scan_of (accepted h))
