-- The children that results start.
use Rattle.std.specs.Prelude.{◌≡◌, ℕ, ◌+◌, ◌<◌, ◌≤◌, ◌==◌, ℤ, List, [], map, All, true, false, Option, Some, None, if◌then◌else◌}
use Rattle.std.specs.List.{list_any, flat_map}
use Rattle.std.specs.Ordering.{int_eq}
use Rattle.job_values.specs.declared.limits.TheConstants.{SUCCESS}
use Rattle.job_values.specs.declared.words.TriggerKind.TheVariants.{Parent}
use Rattle.job_events.specs.declared.cluster.ClusterEvent.{ClusterEvent}
use Rattle.job_events.specs.declared.cluster.ClusterEvent.TheVariants.{Callback}
use Rattle.job_events.specs.declared.cluster.ClusterReply.{ClusterReply}
use Rattle.job_events.specs.declared.cluster.ClusterReply.TheVariants.{Settled}
use Rattle.job_records.specs.declared.job.Job.{Job}
use Rattle.job_records.specs.declared.log.Log.{Log}
use Rattle.cluster_history.specs.History.{History, Begin, After, accepted, is_refusal}
use Rattle.cluster_history.specs.Groups.{groups_of}
use Rattle.cluster_history.specs.Looks.{job_with}
use Rattle.cluster_history.specs.Jobs.{jobs_of}
use Rattle.cluster_history.specs.Settling.{log_with, children_in}
use Rattle.cluster_history.specs.Firings.{Shot, shots_if}
use Rattle.cluster_history.specs.Logs.{logs_of, last_log, shots_called}
use Rattle.cluster_history.specs.Runs.{IsLegal}
use Rattle.cluster_laws.specs.Settles.{one_if}

-- the children of the job of a log; a job that is gone has none
abbrev pub children_by : List Job → Option Log → List ℕ
children_by jobs None = []
children_by jobs (Some log) = children_in (job_with log.job jobs)

-- the children of the job of the log with this id
abbrev pub children_at : History → ℕ → List ℕ
children_at h log = children_by (jobs_of h) (log_with log (logs_of h))

-- a result of success starts a job as a child: one of those of the job of its log
pub record IsChildOf (h : History) (log : ℕ) (code : ℤ) (job : ℕ) : Type 0 where
  pub success : code ≡ SUCCESS
  pub child : list_any (λ id. id == job) (children_at h log) ≡ true

-- an entry starts a job as a child: it is a callback whose result does
abbrev pub StartsChild : History → ClusterEvent → ℕ → Type 0
StartsChild h (Callback admin at item) job = IsChildOf h item.log item.code job
StartsChild h _ job = ⊥

-- a log that an entry opened as that of a child is so of this entry alone
abbrev pub IsOfParent : History → ClusterEvent → Log → Type 0
IsOfParent h e log = last_log h < log.id → log.kind ≡ Parent → StartsChild h e log.job

-- the children whose jobs the reply to a callback tells
abbrev pub told_children : ClusterEvent → ClusterReply → List ℕ
told_children (Callback admin at item) (Settled code children) = map (λ child. child.job) children
told_children _ r = []

-- the children that an entry starts, in order: of a callback with the code of success those of the job of its log
abbrev pub children_started : History → ClusterEvent → List ℕ
children_started h (Callback admin at item) = if int_eq item.code SUCCESS then children_at h item.log else []
children_started h _ = []

-- the log whose children an entry starts
abbrev pub started_of : ClusterEvent → Option ℕ
started_of (Callback admin at item) = if int_eq item.code SUCCESS then Some item.log else None
started_of _ = None

-- how often the children of a log were started
abbrev pub times_started : History → ℕ → ℕ
times_started (Begin o) id = 0
times_started (After h e r) id = times_started h id + one_if id (started_of e)

-- the logs that a child opens: one for each shard of its job's row, and none where the job is gone
abbrev pub shots_child : History → ℕ → ℕ → List Shot
shots_child h time job = shots_if (groups_of h) Parent time (job_with job (jobs_of h))

-- what a callback is to open is what the children that it starts open, one child after another
abbrev pub OpensChildren : History → ClusterEvent → Type 0
OpensChildren h (Callback admin at item) =
    shots_called h at item.code item.log ≡ flat_map (shots_child h at) (children_started h (Callback admin at item))
OpensChildren h _ = Unit {0}

-- what an entry opens as children is of a result of success, and of the children of its log's job, each once, which the reply tells in order
pub record ChildrenOfEntry (h : History) (e : ClusterEvent) (r : ClusterReply) : Type 0 where
  pub opened : All (IsOfParent h e) (logs_of (After h e r))
  pub opens : OpensChildren h e
  pub told : told_children e r ≡ children_started h e

-- so for every accepted entry of a legal history, and each log starts its children at most once
pub record ChildrenOnce : Type 0 where
  pub entry : (h : History) (e : ClusterEvent) (r : ClusterReply) → IsLegal (After h e r) → is_refusal r ≡ false → ChildrenOfEntry (accepted h) e r
  pub once : (h : History) → IsLegal h → (log : ℕ) → times_started (accepted h) log ≤ 1
