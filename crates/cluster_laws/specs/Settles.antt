-- How often a log gets its result, and how often it is marked.
use Rattle.std.specs.Prelude.{ℕ, ◌+◌, ◌≤◌, ◌==◌, Bool, Option, Some, None, if◌then◌else◌}
use Rattle.job_events.specs.declared.cluster.ClusterEvent.{ClusterEvent}
use Rattle.job_events.specs.declared.cluster.ClusterEvent.TheVariants.{Callback, Monitor, Lost}
use Rattle.job_events.specs.declared.cluster.ClusterReply.{ClusterReply}
use Rattle.job_events.specs.declared.cluster.ClusterReply.TheVariants.{Marked, Lost as LostReply}
use Rattle.job_records.specs.declared.log.Log.{Log}
use Rattle.cluster_history.specs.History.{History, Begin, After, accepted}
use Rattle.cluster_history.specs.Settling.{log_with, is_settled}
use Rattle.cluster_history.specs.Runs.{IsLegal}

-- the log that an entry gives a result: that of a callback, or the lost one that the reply tells
abbrev pub settled_by : ClusterEvent → ClusterReply → Option ℕ
settled_by (Callback admin at item) r = Some item.log
settled_by (Lost at) (LostReply log) = Some log
settled_by _ r = None

-- the log that an entry marks: the one that the reply to a monitor tells
abbrev pub marked_by : ClusterEvent → ClusterReply → Option ℕ
marked_by (Monitor admin at) (Marked log opened) = Some log
marked_by _ r = None

-- one where it is this log
abbrev pub one_if : ℕ → Option ℕ → ℕ
one_if id None = 0
one_if id (Some log) = if log == id then 1 else 0

-- one where there is a row, and it passes
abbrev pub one_where : (Log → Bool) → Option Log → ℕ
one_where passes None = 0
one_where passes (Some log) = if passes log then 1 else 0

-- how often a log got a result: the one that the opening has of it, and those that the entries give
abbrev pub times_settled : History → ℕ → ℕ
times_settled (Begin o) id = one_where is_settled (log_with id o.tables.logs)
times_settled (After h e r) id = times_settled h id + one_if id (settled_by e r)

-- how often it was marked
abbrev pub times_marked : History → ℕ → ℕ
times_marked (Begin o) id = one_where (λ log. log.marked) (log_with id o.tables.logs)
times_marked (After h e r) id = times_marked h id + one_if id (marked_by e r)

-- each at most once; so a log of the opening with a result gets none, and a marked one no mark
pub record SettledOnce (h : History) (id : ℕ) : Type 0 where
  pub settled : times_settled h id ≤ 1
  pub marked : times_marked h id ≤ 1

-- so in every legal history
abbrev pub EachSettledOnce : Type 0
EachSettledOnce = (h : History) → IsLegal h → (id : ℕ) → SettledOnce (accepted h) id
