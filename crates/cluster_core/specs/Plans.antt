-- When an event is prepared.
use Rattle.std.specs.Prelude.{◌≡◌, [], true}
use Rattle.job_events.specs.declared.cluster.ClusterEvent.{ClusterEvent}
use Rattle.cluster_history.specs.History.{is_refusal}
use Rattle.cluster_plan.specs.Prepared.{PreparedEvent}
use Rattle.cluster_plan.specs.Plans.{HasIdsFirst}
use Rattle.cluster_core.specs.Kept.{ClusterState, kept_of}
use Rattle.cluster_plan.specs.Commits.{committed}
use Rattle.cluster_core.specs.Room.{CanCommit}
use Rattle.cluster_plan.specs.Stands.{KeptAnswers}

-- it is planned for this cluster, the last ids stand first, a refusal changes no row, and there is room for it
pub record IsPrepared (state : ClusterState) (e : ClusterEvent) (prepared : PreparedEvent) : Type 0 where
  pub can : CanCommit state prepared
  pub ids : HasIdsFirst prepared.changes
  pub refused : is_refusal prepared.reply ≡ true → prepared.changes ≡ []
  pub answers : KeptAnswers (kept_of state) e prepared.reply (committed (kept_of state) prepared)
