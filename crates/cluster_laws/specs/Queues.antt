-- The pools, by the entries: what was added, without what was taken.
use Rattle.std.specs.Prelude.{◌≡◌, ℕ, ◌+◌, ◌==◌, List, [], ◌++◌, drop, if◌then◌else◌}
use Rattle.job_values.specs.declared.words.PoolKind.{PoolKind}
use Rattle.job_values.specs.declared.words.PoolKind.TheVariants.{Fast, Slow}
use Rattle.job_events.specs.declared.cluster.ClusterEvent.TheVariants.{NodeStop, ScanStep, Turn, TriggerJob, Take, Callback, Monitor, Reopen}
use Rattle.cluster_history.specs.History.{History, Begin, After, accepted}
use Rattle.cluster_history.specs.Logs.{queue_of}
use Rattle.cluster_history.specs.Runs.{IsLegal}
use Rattle.cluster_laws.specs.Opened.{told_opened, told_in}

-- the logs that the replies to an admin tell as put in a pool, since the admin's last stop
abbrev pub added_of : History → ℕ → PoolKind → List ℕ
added_of (Begin o) a pool = []
added_of (After h (NodeStop admin) r) a pool = if a == admin then [] else added_of h a pool
added_of (After h Reopen r) a pool = []
added_of (After h (ScanStep admin) r) a pool = if a == admin then added_of h a pool ++ told_in pool (told_opened r) else added_of h a pool
added_of (After h (Turn admin at) r) a pool = if a == admin then added_of h a pool ++ told_in pool (told_opened r) else added_of h a pool
added_of (After h (TriggerJob admin at job param) r) a pool = if a == admin then added_of h a pool ++ told_in pool (told_opened r) else added_of h a pool
added_of (After h (Callback admin at item) r) a pool = if a == admin then added_of h a pool ++ told_in pool (told_opened r) else added_of h a pool
added_of (After h (Monitor admin at) r) a pool = if a == admin then added_of h a pool ++ told_in pool (told_opened r) else added_of h a pool
added_of (After h _ r) a pool = added_of h a pool

-- one take more, if it is from this pool
abbrev pub one_take : PoolKind → PoolKind → ℕ → ℕ
one_take Fast Fast takes = takes + 1
one_take Slow Slow takes = takes + 1
one_take _ _ takes = takes

-- how many takes from it there were since
abbrev pub takes_of : History → ℕ → PoolKind → ℕ
takes_of (Begin o) a pool = 0
takes_of (After h (NodeStop admin) r) a pool = if a == admin then 0 else takes_of h a pool
takes_of (After h Reopen r) a pool = 0
takes_of (After h (Take admin from at word) r) a pool = if a == admin then one_take from pool (takes_of h a pool) else takes_of h a pool
takes_of (After h _ r) a pool = takes_of h a pool

-- what waits in a pool is what was added, without its first, as many as were taken
abbrev pub QueuesAreLeft : Type 0
QueuesAreLeft = (h : History) → IsLegal h → (a : ℕ) (pool : PoolKind) → queue_of (accepted h) a pool ≡ drop (takes_of (accepted h) a pool) (added_of (accepted h) a pool)
