-- Which jobs an entry fires, and for which shards.
use Rattle.std.specs.Prelude.{ℕ, ◌-◌, ℤ, List, [], ◌∷◌, ◌++◌, map, length, max, nat_lt, Option, Some, None, unwrap_or, if◌then◌else◌}
use Rattle.std.specs.List.{range_with_len}
use Rattle.job_values.specs.declared.words.Route.{Route}
use Rattle.job_values.specs.declared.words.Route.TheVariants.{ShardingBroadcast}
use Rattle.job_values.specs.declared.words.TriggerKind.{TriggerKind}
use Rattle.job_values.specs.declared.words.TriggerKind.TheVariants as kind
use Rattle.job_values.specs.declared.words.Case.{Case}
use Rattle.job_values.specs.declared.words.Case.TheVariants as case
use Rattle.job_records.specs.declared.job.Job.{Job}
use Rattle.job_records.specs.declared.group.Group.{Group}
use Rattle.job_records.specs.declared.log.Log.{Log}
use Rattle.cluster_history.specs.declared.scan.Scan.{Scan}
use Rattle.cluster_history.specs.History.{History}
use Rattle.cluster_history.specs.Groups.{groups_of, group_with, addresses_in}
use Rattle.cluster_history.specs.Looks.{Looked, job_with}
use Rattle.cluster_history.specs.Jobs.{jobs_of, scan_of, look_of}
use Rattle.cluster_history.specs.Tickets.{Waiting, waiting, taken, second_of}
use Rattle.cluster_history.specs.Settling.{children_of}

-- one log that a firing of a job is to open: the job's row, the parameter, why and when it fires, the shard, and how often it may be tried again
pub record Shot : Type 0 where
  pub row : Job
  pub param : List ℕ
  pub kind : TriggerKind
  pub time : ℕ
  pub index : ℕ
  pub total : ℕ
  pub retries : ℕ

-- a broadcast has a shard for each address, and one where there is none; every other route has one
abbrev pub shards : Route → List (List ℕ) → ℕ
shards ShardingBroadcast addresses = max 1 (length addresses)
shards _ addresses = 1

-- the log of one shard
abbrev pub shot_for : Job → List ℕ → TriggerKind → ℕ → ℕ → ℕ → Shot
shot_for row param kind time total index = record { row = row; param = param; kind = kind; time = time; index = index; total = total; retries = row.spec.retries }

-- one for each shard, in order
abbrev pub shots_by : Job → List ℕ → TriggerKind → ℕ → ℕ → List Shot
shots_by row param kind time total = map (λ index. shot_for row param kind time total index) (range_with_len 0 total)

-- the logs that a firing of a job with a parameter is to open, in order of their shards
abbrev pub shots_with : List Group → List ℕ → TriggerKind → ℕ → Job → List Shot
shots_with groups param kind time row =
    shots_by row param kind time (shards row.spec.route (addresses_in (group_with row.spec.group groups)))

-- the same with the parameter of the job
abbrev pub shots_of : List Group → TriggerKind → ℕ → Job → List Shot
shots_of groups kind time row = shots_with groups row.spec.param kind time row

-- a firing by hand, with the given parameter or that of the job
abbrev pub shots_by_hand : List Group → Option (List ℕ) → ℕ → Option Job → List Shot
shots_by_hand groups param time None = []
shots_by_hand groups param time (Some row) = shots_with groups (unwrap_or param row.spec.param) kind.Manual time row

-- a job that is gone fires nothing
abbrev pub shots_if : List Group → TriggerKind → ℕ → Option Job → List Shot
shots_if groups kind time None = []
shots_if groups kind time (Some row) = shots_of groups kind time row

-- why a look that fires does so
abbrev pub kind_of : Case → TriggerKind
kind_of case.Misfire = kind.Misfire
kind_of case.Late = kind.Cron
kind_of case.Early = kind.Cron

-- a look that fires now, at the moment of its scan
abbrev pub shots_looked : List Group → ℕ → Option Looked → List Shot
shots_looked groups time None = []
shots_looked groups time (Some look) =
    if look.decision.fire_now then shots_of groups (kind_of look.decision.case) time look.row else []

-- the same at the moment of the open scan
abbrev pub shots_scanned : List Group → Option Scan → Option Looked → List Shot
shots_scanned groups None look = []
shots_scanned groups (Some scan) look = shots_looked groups scan.at look

-- a ticket that a turn took
abbrev pub shots_taken : List Group → List Job → ℕ → Waiting → List Shot
shots_taken groups jobs time one = shots_if groups kind.Cron time (job_with one.ticket.job jobs)

-- tickets that a turn took, in order
abbrev pub shots_for : List Group → List Job → ℕ → List Waiting → List Shot
shots_for groups jobs time [] = []
shots_for groups jobs time (one ∷ ones) = shots_taken groups jobs time one ++ shots_for groups jobs time ones

-- the logs that the next step of the open scan is to open, in order
abbrev pub shots_stepped : History → List Shot
shots_stepped h = shots_scanned (groups_of h) (scan_of h) (look_of h)

-- the logs that a turn of an admin at a moment is to open, in order
abbrev pub shots_turned : History → ℕ → ℕ → List Shot
shots_turned h admin at = shots_for (groups_of h) (jobs_of h) at (taken admin (second_of at) (waiting h))

-- the logs that a firing of a job by hand is to open, in order
abbrev pub shots_asked : History → ℕ → ℕ → Option (List ℕ) → List Shot
shots_asked h at job param = shots_by_hand (groups_of h) param at (job_with job (jobs_of h))

-- what these jobs fire, one after another
abbrev pub shots_each : List Group → List Job → TriggerKind → ℕ → List ℕ → List Shot
shots_each groups jobs kind time [] = []
shots_each groups jobs kind time (id ∷ ids) = shots_if groups kind time (job_with id jobs) ++ shots_each groups jobs kind time ids

-- the logs that the result of a log is to open, in order of the children
abbrev pub shots_settled : List Group → List Job → ℕ → ℤ → Option Log → List Shot
shots_settled groups jobs time code log = shots_each groups jobs kind.Parent time (children_of jobs code log)

-- the log that tries another one again: of the job as it is now, with the parameter and the shard of that log, and one try less
abbrev pub shot_again : ℕ → Log → Job → Shot
shot_again time log row = record {
  row = row;
  param = log.param;
  kind = kind.Retry;
  time = time;
  index = log.index;
  total = log.total;
  retries = log.retries - 1;
}

-- none where the job is gone
abbrev pub shots_again : ℕ → Log → Option Job → List Shot
shots_again time log None = []
shots_again time log (Some row) = shot_again time log row ∷ []

-- what a marked log is to open: one log, where it may be tried again
abbrev pub shots_marked : List Job → ℕ → Option Log → List Shot
shots_marked jobs time None = []
shots_marked jobs time (Some log) = if nat_lt 0 log.retries then shots_again time log (job_with log.job jobs) else []
