-- An event that is decided and not yet done.
use Rattle.std.specs.Prelude.{List}
use Rattle.job_events.specs.declared.cluster.ClusterReply.{ClusterReply}
use Rattle.job_records.specs.declared.change.Change.{Change}
use Rattle.cluster_plan.specs.declared.prepared.NodeChange.{NodeChange}

-- its reply, the changes of the rows in order, and what else changes
pub record PreparedEvent : Type 0 where
  pub reply : ClusterReply
  pub changes : List Change
  pub node : NodeChange
