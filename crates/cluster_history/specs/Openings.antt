-- Logs that are opened, one after another, and the pools that they are put in.
use Rattle.std.specs.Prelude.{ℕ, ◌+◌, ℤ, pos, List, [], ◌∷◌, map, filter, length, Bool, true, false, nat_lt, None, if◌then◌else◌}
use Rattle.job_values.specs.declared.limits.TheConstants.{FAST_LIMIT, SLOW_LIMIT, SLOW_ABOVE, FAILURE}
use Rattle.job_values.specs.declared.words.PoolAnswer.{PoolAnswer}
use Rattle.job_values.specs.declared.words.PoolAnswer.TheVariants.{Fast, Slow, Full}
use Rattle.job_values.specs.declared.words.PoolKind.{PoolKind}
use Rattle.job_values.specs.declared.words.PoolKind.TheVariants.{Fast as FastPool, Slow as SlowPool}
use Rattle.job_events.specs.declared.opened.Opened.{Opened}
use Rattle.job_records.specs.declared.log.Log.{Log}
use Rattle.trigger_pool.specs.Reports.{Sending, slow_count}
use Rattle.cluster_history.specs.Firings.{Shot}

-- the pools of an admin as an event finds them: how many logs wait in each, and which jobs are slow
pub record Pools : Type 0 where
  pub fast : ℕ
  pub slow : ℕ
  pub is_slow : ℕ → Bool

-- the same by the logs that wait, and the sendings since its start
abbrev pub pools_by : (PoolKind → List ℕ) → List Sending → Pools
pools_by queue sendings = record {
  fast = length (queue FastPool);
  slow = length (queue SlowPool);
  is_slow = λ job. nat_lt SLOW_ABOVE (slow_count sendings job);
}

-- a log of a slow job goes to the slow pool, any other to the fast one, and to none where that is full
abbrev pub pool_for : Bool → Pools → PoolAnswer
pool_for slow pools =
    if slow
    then (if nat_lt pools.slow SLOW_LIMIT then Slow else Full)
    else (if nat_lt pools.fast FAST_LIMIT then Fast else Full)

-- how many logs wait then
abbrev pub one_more : PoolAnswer → Pools → Pools
one_more Fast pools = record { fast = pools.fast + 1; slow = pools.slow; is_slow = pools.is_slow }
one_more Slow pools = record { fast = pools.fast; slow = pools.slow + 1; is_slow = pools.is_slow }
one_more Full pools = pools

-- a log that is opened: its id, and the pool that it is put in
pub record Placed : Type 0 where
  pub shot : Shot
  pub log : ℕ
  pub pool : PoolAnswer

-- the pool that the log of a shot goes to
abbrev pub pool_of : Pools → Shot → PoolAnswer
pool_of pools shot = pool_for (pools.is_slow shot.row.id) pools

-- logs are opened one after another, each with the next id
abbrev pub placed_from : ℕ → Pools → List Shot → List Placed
placed_from last pools [] = []
placed_from last pools (shot ∷ shots) =
    record { shot = shot; log = last + 1; pool = pool_of pools shot } ∷ placed_from (last + 1) (one_more (pool_of pools shot) pools) shots

-- the pools after these logs were opened
abbrev pub pools_after : Pools → List Shot → Pools
pools_after pools [] = pools
pools_after pools (shot ∷ shots) = pools_after (one_more (pool_of pools shot) pools) shots

-- what a reply tells of an opened log
abbrev pub opened_of : Placed → Opened
opened_of placed = record { log = placed.log; pool = placed.pool }

-- the trigger code of a new log: that of failure where the pool was full
abbrev pub opened_code : PoolAnswer → ℤ
opened_code Full = FAILURE
opened_code _ = pos 0

-- a new log copies what its job's row says
abbrev pub log_of : Placed → Log
log_of placed = record {
  id = placed.log;
  job = placed.shot.row.id;
  group = placed.shot.row.spec.group;
  address = None;
  handler = placed.shot.row.spec.handler;
  param = placed.shot.param;
  block = placed.shot.row.spec.block;
  route = placed.shot.row.spec.route;
  timeout = placed.shot.row.spec.timeout;
  index = placed.shot.index;
  total = placed.shot.total;
  retries = placed.shot.retries;
  kind = placed.shot.kind;
  time = placed.shot.time;
  trigger_code = opened_code placed.pool;
  result_time = None;
  result_code = pos 0;
  result_text = [];
  marked = false;
}

-- the rows of logs that are opened
abbrev pub rows_of : List Placed → List Log
rows_of placed = map log_of placed

-- whether a log was put in a pool
abbrev pub is_in : PoolKind → PoolAnswer → Bool
is_in FastPool Fast = true
is_in SlowPool Slow = true
is_in _ _ = false

-- the ids of the logs that were put in a pool
abbrev pub added_to : PoolKind → List Placed → List ℕ
added_to pool placed = map (λ p. p.log) (filter (λ p. is_in pool p.pool) placed)
