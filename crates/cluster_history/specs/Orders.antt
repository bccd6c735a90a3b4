-- What a take gives: the log, where it may be sent, and what is kept of it.
use Rattle.std.specs.Prelude.{ℕ, ◌==◌, List, [], ◌∷◌, ◌++◌, map, filter, Bool, true, false, not, ◌&&◌, slice_get, Option, Some, None, if◌then◌else◌}
use Rattle.job_values.specs.declared.words.PoolKind.{PoolKind}
use Rattle.job_values.specs.declared.words.Route.{Route}
use Rattle.job_values.specs.declared.words.Route.TheVariants.{Round, LeastFrequentlyUsed, LeastRecentlyUsed}
use Rattle.job_values.specs.declared.choice.Choice.{Choice}
use Rattle.job_values.specs.declared.choice.Choice.TheVariants.{To, Beat, Idle, NoAddress}
use Rattle.job_events.specs.declared.order.Order.{Order}
use Rattle.job_events.specs.declared.cluster.ClusterEvent.TheVariants.{NodeStop, Take, Sent, Reopen}
use Rattle.job_records.specs.declared.log.Log.{Log}
use Rattle.job_records.specs.declared.group.Group.{Group}
use Rattle.job_records.specs.Rows.{row_with}
use Rattle.job_records.specs.Changes.{put_row, without}
use Rattle.route_strategies.specs.Chosen.{chosen}
use Rattle.cluster_history.specs.declared.taken.TakenLog.{TakenLog}
use Rattle.cluster_history.specs.History.{History, Begin, After}
use Rattle.cluster_history.specs.Groups.{groups_of, group_with, addresses_in}
use Rattle.cluster_history.specs.Settling.{log_with}
use Rattle.cluster_history.specs.Logs.{logs_of, queue_of, queued_at}

-- the row of the log with this id, if there is an id
abbrev pub log_at : List Log → Option ℕ → Option Log
log_at logs None = None
log_at logs (Some id) = log_with id logs

-- the log that a take from a pool gives
abbrev pub front_of : History → ℕ → PoolKind → Option Log
front_of h admin pool = log_at (logs_of h) (slice_get (queue_of h admin pool) 0)

-- whether a route looks at the picks before
abbrev pub looks_back : Route → Bool
looks_back Round = true
looks_back LeastFrequentlyUsed = true
looks_back LeastRecentlyUsed = true
looks_back _ = false

-- where a log may be sent, after these picks of its job
abbrev pub choice_by : List Group → ℕ → List (List ℕ) → Log → Choice
choice_by groups word picks log = chosen log.route log.job (addresses_in (group_with log.group groups)) log.index word picks

-- the addresses that a choice gives
abbrev pub given_in : Choice → List (List ℕ)
given_in (To address) = address ∷ []
given_in (Beat addresses) = addresses
given_in (Idle addresses) = addresses
given_in NoAddress = []

-- a choice of one address is a pick
abbrev pub picked_in : Choice → List (List ℕ)
picked_in (To address) = address ∷ []
picked_in _ = []

-- the pick of a take, if it is one of this job
abbrev pub picked_by : Option Log → List Group → ℕ → ℕ → List (List ℕ) → List (List ℕ)
picked_by None groups word job before = before
picked_by (Some log) groups word job before =
    if job == log.job && looks_back log.route then before ++ picked_in (choice_by groups word before log) else before

-- the picks of a job at an admin since its start
abbrev pub picks_of : History → ℕ → ℕ → List (List ℕ)
picks_of (Begin o) a job = []
picks_of (After h (NodeStop admin) r) a job = if a == admin then [] else picks_of h a job
picks_of (After h Reopen r) a job = []
picks_of (After h (Take admin pool at word) r) a job =
    if a == admin then picked_by (front_of h admin pool) (groups_of h) word job (picks_of h a job) else picks_of h a job
picks_of (After h _ r) a job = picks_of h a job

-- where a take sends its log
abbrev pub choice_of : History → ℕ → ℕ → Log → Choice
choice_of h admin word log = choice_by (groups_of h) word (picks_of h admin log.job) log

-- what a log's run is ordered to do
abbrev pub order_by : Log → Choice → Order
order_by log choice = record {
  log = log.id;
  job = log.job;
  handler = log.handler;
  param = log.param;
  block = log.block;
  timeout = log.timeout;
  log_moment = log.time;
  index = log.index;
  total = log.total;
  choice = choice;
}

-- the log is taken
abbrev pub taken_by : ℕ → Choice → Log → TakenLog
taken_by admin choice log = record { log = log.id; admin = admin; addresses = given_in choice }

-- a log that was taken, among the others in order of their ids
abbrev pub put_taken : TakenLog → List TakenLog → List TakenLog
put_taken taken others = put_row (λ t. t.log) taken others

-- one more where a take gives a log
abbrev pub taken_with : History → ℕ → ℕ → Option Log → List TakenLog → List TakenLog
taken_with h admin word None before = before
taken_with h admin word (Some log) before = put_taken (taken_by admin (choice_of h admin word log) log) before

-- the logs that were taken and have no trigger code yet, in order of their ids
abbrev pub taken_of : History → List TakenLog
taken_of (Begin o) = []
taken_of (After h (NodeStop admin) r) = filter (λ t. not (t.admin == admin)) (taken_of h)
taken_of (After h Reopen r) = []
taken_of (After h (Take admin pool at word) r) = taken_with h admin word (front_of h admin pool) (taken_of h)
taken_of (After h (Sent log address code start end) r) = without (λ t. t.log) log (taken_of h)
taken_of (After h _ r) = taken_of h

-- the log that was taken with this id, if there is one
abbrev pub taken_log : ℕ → List TakenLog → Option TakenLog
taken_log id taken = row_with (λ t. t.log) id taken

-- the ids of the logs that an admin took and that have no trigger code yet
abbrev pub taken_at : History → ℕ → List ℕ
taken_at h a = map (λ t. t.log) (filter (λ t. t.admin == a) (taken_of h))

-- the ids of the logs that an admin has: in its pools, and taken
abbrev pub held_by : History → ℕ → List ℕ
held_by h a = queued_at h a ++ taken_at h a
