-- The two pools as lists of log ids.
use Rattle.std.specs.Prelude.{ℕ, nat_lt, if◌then◌else◌, List, [], ◌∷◌, ◌++◌, length, drop}
use Rattle.job_values.specs.declared.words.PoolAnswer.{PoolAnswer}
use Rattle.job_values.specs.declared.words.PoolAnswer.TheVariants.{Fast, Slow, Full}
use Rattle.job_values.specs.declared.words.PoolKind.{PoolKind}
use Rattle.job_values.specs.declared.words.PoolKind.TheVariants.{Fast as FastPool, Slow as SlowPool}
use Rattle.trigger_pool.specs.Reports.{Sending, SlowCounts, no_counts, counts_with}
use Rattle.job_values.specs.declared.limits.TheConstants.{FAST_LIMIT, SLOW_LIMIT, SLOW_ABOVE}

-- the waiting logs of each pool, the next one first, and the slow counts
pub record Queues : Type 0 where
  pub fast : List ℕ
  pub slow : List ℕ
  pub counts : SlowCounts

-- for how many more logs each pool has room, and for how many more jobs the slow counts
pub record Room : Type 0 where
  pub logs : ℕ
  pub jobs : ℕ

-- the pools of an admin
pub record PoolState : Type 0 where
  pub kept : Queues
  pub room : Room

-- nothing waits, and nothing was sent
abbrev pub no_logs : Queues
no_logs = record { fast = []; slow = []; counts = no_counts }

-- the logs of a pool
abbrev pub queue_of : Queues → PoolKind → List ℕ
queue_of queues FastPool = queues.fast
queue_of queues SlowPool = queues.slow

-- where a log goes whose job has this slow count, where so many wait in the two pools
abbrev pub answer_at : ℕ → List ℕ → List ℕ → PoolAnswer
answer_at count fast slow =
    if nat_lt SLOW_ABOVE count
    then (if nat_lt (length slow) SLOW_LIMIT then Slow else Full)
    else (if nat_lt (length fast) FAST_LIMIT then Fast else Full)

-- the pools with a log behind those of the pool that the answer names
abbrev pub with_log : Queues → ℕ → PoolAnswer → Queues
with_log queues log Fast = record queues { fast = queues.fast ++ log ∷ [] }
with_log queues log Slow = record queues { slow = queues.slow ++ log ∷ [] }
with_log queues log Full = queues

-- the pools without the first log of one of them
abbrev pub without_first : Queues → PoolKind → Queues
without_first queues FastPool = record queues { fast = drop 1 queues.fast }
without_first queues SlowPool = record queues { slow = drop 1 queues.slow }

-- the pools after one more sending
abbrev pub with_sending : Queues → Sending → Queues
with_sending queues sending = record queues { counts = counts_with queues.counts sending }
