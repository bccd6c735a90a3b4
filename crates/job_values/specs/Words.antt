-- The texts of the words.
use Rattle.std.specs.Prelude.{ℕ, List, codes}
use Rattle.job_values.specs.declared.words.ScheduleKind.{ScheduleKind}
use Rattle.job_values.specs.declared.words.ScheduleKind.TheVariants as schedule_kind
use Rattle.job_values.specs.declared.words.Misfire.{Misfire}
use Rattle.job_values.specs.declared.words.Misfire.TheVariants as misfire
use Rattle.job_values.specs.declared.words.Route.{Route}
use Rattle.job_values.specs.declared.words.Route.TheVariants as route
use Rattle.job_values.specs.declared.words.Block.{Block}
use Rattle.job_values.specs.declared.words.Block.TheVariants as block
use Rattle.job_values.specs.declared.words.TriggerKind.{TriggerKind}
use Rattle.job_values.specs.declared.words.TriggerKind.TheVariants as trigger_kind
use Rattle.job_values.specs.declared.words.PoolKind.{PoolKind}
use Rattle.job_values.specs.declared.words.PoolKind.TheVariants as pool_kind
use Rattle.job_values.specs.declared.words.GroupKind.{GroupKind}
use Rattle.job_values.specs.declared.words.GroupKind.TheVariants as group_kind
use Rattle.job_values.specs.declared.words.Case.{Case}
use Rattle.job_values.specs.declared.words.Case.TheVariants as case
use Rattle.job_values.specs.declared.words.PoolAnswer.{PoolAnswer}
use Rattle.job_values.specs.declared.words.PoolAnswer.TheVariants as pool_answer

-- the text of a schedule kind
abbrev pub schedule_kind_text : ScheduleKind → List ℕ
schedule_kind_text schedule_kind.Never = codes "NONE"
schedule_kind_text schedule_kind.Cron = codes "CRON"
schedule_kind_text schedule_kind.FixRate = codes "FIX_RATE"

-- the text of a misfire rule
abbrev pub misfire_text : Misfire → List ℕ
misfire_text misfire.DoNothing = codes "DO_NOTHING"
misfire_text misfire.FireOnceNow = codes "FIRE_ONCE_NOW"

-- the text of a route
abbrev pub route_text : Route → List ℕ
route_text route.First = codes "FIRST"
route_text route.Last = codes "LAST"
route_text route.Round = codes "ROUND"
route_text route.Random = codes "RANDOM"
route_text route.ConsistentHash = codes "CONSISTENT_HASH"
route_text route.LeastFrequentlyUsed = codes "LEAST_FREQUENTLY_USED"
route_text route.LeastRecentlyUsed = codes "LEAST_RECENTLY_USED"
route_text route.Failover = codes "FAILOVER"
route_text route.Busyover = codes "BUSYOVER"
route_text route.ShardingBroadcast = codes "SHARDING_BROADCAST"

-- the text of a block rule
abbrev pub block_text : Block → List ℕ
block_text block.SerialExecution = codes "SERIAL_EXECUTION"
block_text block.DiscardLater = codes "DISCARD_LATER"
block_text block.CoverEarly = codes "COVER_EARLY"

-- the text of a trigger kind
abbrev pub trigger_kind_text : TriggerKind → List ℕ
trigger_kind_text trigger_kind.Cron = codes "CRON"
trigger_kind_text trigger_kind.Misfire = codes "MISFIRE"
trigger_kind_text trigger_kind.Manual = codes "MANUAL"
trigger_kind_text trigger_kind.Retry = codes "RETRY"
trigger_kind_text trigger_kind.Parent = codes "PARENT"

-- the text of a pool
abbrev pub pool_kind_text : PoolKind → List ℕ
pool_kind_text pool_kind.Fast = codes "fast"
pool_kind_text pool_kind.Slow = codes "slow"

-- the text of a group kind
abbrev pub group_kind_text : GroupKind → List ℕ
group_kind_text group_kind.Auto = codes "auto"
group_kind_text group_kind.Manual = codes "manual"

-- the text of a case
abbrev pub case_text : Case → List ℕ
case_text case.Misfire = codes "misfire"
case_text case.Late = codes "late"
case_text case.Early = codes "early"

-- the text of a pool answer
abbrev pub pool_answer_text : PoolAnswer → List ℕ
pool_answer_text pool_answer.Fast = codes "fast"
pool_answer_text pool_answer.Slow = codes "slow"
pool_answer_text pool_answer.Full = codes "full"
