-- What is prepared for a take.
use Rattle.std.specs.Prelude.{ℕ, [], Option, Some, None, if◌then◌else◌}
use Rattle.job_values.specs.declared.words.PoolKind.{PoolKind}
use Rattle.job_values.specs.declared.choice.Choice.{Choice}
use Rattle.job_values.specs.declared.choice.Choice.TheVariants.{To}
use Rattle.job_events.specs.declared.cluster.ClusterReply.TheVariants.{Took}
use Rattle.job_records.specs.declared.log.Log.{Log}
use Rattle.cluster_history.specs.Orders.{looks_back, order_by, taken_by}
use Rattle.cluster_plan.specs.declared.prepared.NodeChange.TheVariants as node
use Rattle.cluster_plan.specs.declared.prepared.Pick.{Pick}
use Rattle.cluster_plan.specs.Prepared.{PreparedEvent}

-- the choice of one address is a pick of it for the job
abbrev pub picked_for : ℕ → Choice → Option Pick
picked_for job (To address) = Some (record { job = job; address = address })
picked_for job _ = None

-- the pick of a log that is taken, where its route looks at the picks
abbrev pub pick_of : Log → Choice → Option Pick
pick_of log choice = if looks_back log.route then picked_for log.job choice else None

-- the log is taken by an admin from a pool, with this choice
abbrev pub taking : ℕ → PoolKind → Log → Choice → PreparedEvent
taking admin pool log choice = record {
  reply = Took (order_by log choice);
  changes = [];
  node = node.Takes admin pool (taken_by admin choice log) (pick_of log choice);
}
