-- The logs that were opened, who opened them, and the pools.
use Rattle.std.specs.Prelude.{ℕ, ◌+◌, ◌==◌, ℤ, List, [], ◌∷◌, ◌++◌, map, filter, drop, count_by, length, Bool, true, false, ◌&&◌, nat_lt, nat_le, is_some, Option, Some, None, if◌then◌else◌}
use Rattle.job_values.specs.declared.words.PoolKind.{PoolKind}
use Rattle.job_values.specs.declared.words.PoolKind.TheVariants.{Fast as FastPool, Slow as SlowPool}
use Rattle.job_events.specs.declared.cluster.ClusterEvent.TheVariants.{NodeStop, ScanStep, Turn, TriggerJob, Take, Sent, Callback, Monitor, Lost, Clean, Reopen}
use Rattle.job_records.specs.declared.log.Log.{Log}
use Rattle.trigger_pool.specs.Reports.{Sending}
use Rattle.cluster_history.specs.History.{History, Begin, After}
use Rattle.cluster_history.specs.Groups.{groups_of}
use Rattle.cluster_history.specs.Jobs.{jobs_of}
use Rattle.cluster_history.specs.Registrations.{registry_of}
use Rattle.cluster_history.specs.Firings.{Shot, shots_stepped, shots_turned, shots_asked, shots_settled, shots_marked}
use Rattle.cluster_history.specs.Openings.{Pools, pools_by, Placed, placed_from, rows_of, added_to}
use Rattle.cluster_history.specs.Settling.{log_with, log_changed, is_unsent, sent_log, ended_where, settled_log, first_failed, logs_marked, first_lost, logs_lost, logs_left}

-- logs that an admin opens, by the last id, the logs that wait in its pools, and its sendings
abbrev pub placed_by : ℕ → (PoolKind → List ℕ) → List Sending → List Shot → List Placed
placed_by last queue sendings shots = placed_from last (pools_by queue sendings) shots

-- whether an id is one of so many behind a last one
abbrev pub is_behind : ℕ → ℕ → ℕ → Bool
is_behind last count id = nat_lt last id && nat_le id (last + count)

-- the admin that opened a log after the others, or before
abbrev pub opener_after : ℕ → ℕ → ℕ → ℕ → Option ℕ → Option ℕ
opener_after last count admin id before = if is_behind last count id then Some admin else before

-- whether a log's opener is this admin
abbrev pub is_own : Option ℕ → ℕ → Bool
is_own None admin = false
is_own (Some opener) admin = opener == admin

-- whether a log is an admin's and has no trigger code yet
abbrev pub is_open_at : Option ℕ → ℕ → Log → Bool
is_open_at opener admin log = is_own opener admin && is_unsent log

-- whether it is so of any admin: it was opened in this history, and has no trigger code yet
abbrev pub is_open_at_any : Option ℕ → Log → Bool
is_open_at_any opener log = is_some opener && is_unsent log

-- the logs of a pool, without the first where that is taken from this pool
abbrev pub without_first : PoolKind → PoolKind → List ℕ → List ℕ
without_first FastPool FastPool ids = drop 1 ids
without_first SlowPool SlowPool ids = drop 1 ids
without_first _ _ ids = ids

-- one sending more, of a log that is the admin's own
abbrev pub sending_behind : Bool → Option Log → ℕ → ℕ → List Sending → List Sending
sending_behind true (Some log) start end before = before ++ record { job = log.job; start = start; end = end } ∷ []
sending_behind _ _ start end before = before

-- the logs, the last id that was given, who opened a log, what waits in a pool of an admin, and what the admin sent since its start
abbrev mutual
  pub logs_of : History → List Log
  logs_of (Begin o) = o.tables.logs
  logs_of (After h (ScanStep admin) r) =
      logs_of h ++ rows_of (placed_by (last_log h) (queue_of h admin) (sendings_of h admin) (shots_stepped h))
  logs_of (After h (Turn admin at) r) =
      logs_of h ++ rows_of (placed_by (last_log h) (queue_of h admin) (sendings_of h admin) (shots_turned h admin at))
  logs_of (After h (TriggerJob admin at job param) r) =
      logs_of h ++ rows_of (placed_by (last_log h) (queue_of h admin) (sendings_of h admin) (shots_asked h at job param))
  logs_of (After h (Callback admin at item) r) =
      log_changed item.log (settled_log at item.code item.msg) (logs_of h)
      ++ rows_of (placed_by (last_log h) (queue_of h admin) (sendings_of h admin) (shots_settled (groups_of h) (jobs_of h) at item.code (log_with item.log (logs_of h))))
  logs_of (After h (Monitor admin at) r) =
      logs_marked (first_failed (logs_of h)) (logs_of h)
      ++ rows_of (placed_by (last_log h) (queue_of h admin) (sendings_of h admin) (shots_marked (jobs_of h) at (first_failed (logs_of h))))
  logs_of (After h (Sent log address code start end) r) = log_changed log (sent_log address code) (logs_of h)
  logs_of (After h (Lost at) r) = logs_lost at (first_lost at (registry_of h) (logs_of h)) (logs_of h)
  logs_of (After h (Clean at) r) = logs_left at (logs_of h)
  logs_of (After h (NodeStop admin) r) = ended_where (λ log. is_open_at (opener_of h log.id) admin log) (logs_of h)
  logs_of (After h Reopen r) = ended_where (λ log. is_open_at_any (opener_of h log.id) log) (logs_of h)
  logs_of (After h _ r) = logs_of h

  pub last_log : History → ℕ
  last_log (Begin o) = o.tables.last.log
  last_log (After h (ScanStep admin) r) = last_log h + length (shots_stepped h)
  last_log (After h (Turn admin at) r) = last_log h + length (shots_turned h admin at)
  last_log (After h (TriggerJob admin at job param) r) = last_log h + length (shots_asked h at job param)
  last_log (After h (Callback admin at item) r) = last_log h + length (shots_settled (groups_of h) (jobs_of h) at item.code (log_with item.log (logs_of h)))
  last_log (After h (Monitor admin at) r) = last_log h + length (shots_marked (jobs_of h) at (first_failed (logs_of h)))
  last_log (After h _ r) = last_log h

  pub opener_of : History → ℕ → Option ℕ
  opener_of (Begin o) id = None
  opener_of (After h (ScanStep admin) r) id = opener_after (last_log h) (length (shots_stepped h)) admin id (opener_of h id)
  opener_of (After h (Turn admin at) r) id = opener_after (last_log h) (length (shots_turned h admin at)) admin id (opener_of h id)
  opener_of (After h (TriggerJob admin at job param) r) id =
      opener_after (last_log h) (length (shots_asked h at job param)) admin id (opener_of h id)
  opener_of (After h (Callback admin at item) r) id =
      opener_after (last_log h) (length (shots_settled (groups_of h) (jobs_of h) at item.code (log_with item.log (logs_of h)))) admin id (opener_of h id)
  opener_of (After h (Monitor admin at) r) id =
      opener_after (last_log h) (length (shots_marked (jobs_of h) at (first_failed (logs_of h)))) admin id (opener_of h id)
  opener_of (After h _ r) id = opener_of h id

  pub queue_of : History → ℕ → PoolKind → List ℕ
  queue_of (Begin o) a pool = []
  queue_of (After h (NodeStop admin) r) a pool = if a == admin then [] else queue_of h a pool
  queue_of (After h Reopen r) a pool = []
  queue_of (After h (Take admin from at word) r) a pool =
      if a == admin then without_first from pool (queue_of h a pool) else queue_of h a pool
  queue_of (After h (ScanStep admin) r) a pool =
      if a == admin
      then queue_of h a pool ++ added_to pool (placed_by (last_log h) (queue_of h a) (sendings_of h a) (shots_stepped h))
      else queue_of h a pool
  queue_of (After h (Turn admin at) r) a pool =
      if a == admin
      then queue_of h a pool ++ added_to pool (placed_by (last_log h) (queue_of h a) (sendings_of h a) (shots_turned h admin at))
      else queue_of h a pool
  queue_of (After h (TriggerJob admin at job param) r) a pool =
      if a == admin
      then queue_of h a pool ++ added_to pool (placed_by (last_log h) (queue_of h a) (sendings_of h a) (shots_asked h at job param))
      else queue_of h a pool
  queue_of (After h (Callback admin at item) r) a pool =
      if a == admin
      then queue_of h a pool ++ added_to pool (placed_by (last_log h) (queue_of h a) (sendings_of h a) (shots_settled (groups_of h) (jobs_of h) at item.code (log_with item.log (logs_of h))))
      else queue_of h a pool
  queue_of (After h (Monitor admin at) r) a pool =
      if a == admin
      then queue_of h a pool ++ added_to pool (placed_by (last_log h) (queue_of h a) (sendings_of h a) (shots_marked (jobs_of h) at (first_failed (logs_of h))))
      else queue_of h a pool
  queue_of (After h _ r) a pool = queue_of h a pool

  pub sendings_of : History → ℕ → List Sending
  sendings_of (Begin o) a = []
  sendings_of (After h (NodeStop admin) r) a = if a == admin then [] else sendings_of h a
  sendings_of (After h Reopen r) a = []
  sendings_of (After h (Sent log address code start end) r) a =
      sending_behind (is_own (opener_of h log) a) (log_with log (logs_of h)) start end (sendings_of h a)
  sendings_of (After h _ r) a = sendings_of h a

-- the logs that the result of a log is to open, in order
abbrev pub shots_called : History → ℕ → ℤ → ℕ → List Shot
shots_called h at code log = shots_settled (groups_of h) (jobs_of h) at code (log_with log (logs_of h))

-- the log that a monitor is to open, if it opens one
abbrev pub shots_watched : History → ℕ → List Shot
shots_watched h at = shots_marked (jobs_of h) at (first_failed (logs_of h))

-- the pools of an admin after a history
abbrev pub pools_of : History → ℕ → Pools
pools_of h admin = pools_by (queue_of h admin) (sendings_of h admin)

-- the logs of these shots, opened by an admin after a history
abbrev pub placed_at : History → ℕ → List Shot → List Placed
placed_at h admin shots = placed_from (last_log h) (pools_of h admin) shots

-- the logs in both pools of an admin
abbrev pub queued_at : History → ℕ → List ℕ
queued_at h admin = queue_of h admin FastPool ++ queue_of h admin SlowPool

-- whether a log is an admin's and has no trigger code yet
abbrev pub is_open_of : History → ℕ → Log → Bool
is_open_of h admin log = is_open_at (opener_of h log.id) admin log

-- whether it is so of any admin
abbrev pub is_open_of_any : History → Log → Bool
is_open_of_any h log = is_open_at_any (opener_of h log.id) log

-- the ids of the logs of an admin that are open
abbrev pub open_ids : History → ℕ → List ℕ
open_ids h admin = map (λ log. log.id) (filter (is_open_of h admin) (logs_of h))

-- how many logs of an admin are open
abbrev pub open_at : History → ℕ → ℕ
open_at h admin = count_by (is_open_of h admin) (logs_of h)
