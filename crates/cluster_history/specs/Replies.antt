-- The reply of each event: the first refusal that applies, in order, else what was done.
use Rattle.std.specs.Prelude.{ℕ, ◌+◌, ◌-◌, ◌^◌, ℤ, min, sum, List, [], ◌∷◌, map, length, count_by, codes, bytes_eq, Bool, true, false, ◌&&◌, nat_lt, is_some, Option, Some, None, Result, Ok, Err, slice_get, ◌==◌, if◌then◌else◌}
use Rattle.job_values.specs.declared.limits.TheConstants.{LAST_JOB_ID, LAST_LOG_ID}
use Rattle.job_events.specs.declared.shown_log.ShownLog.{ShownLog}
use Rattle.job_events.specs.declared.opened.FiredTicket.{FiredTicket}
use Rattle.job_events.specs.declared.opened.FiredChild.{FiredChild}
use Rattle.job_values.specs.declared.words.TriggerKind.TheVariants.{Parent}
use Rattle.job_values.specs.declared.fault.ScheduleFault.{ScheduleFault}
use Rattle.job_events.specs.declared.cluster.ClusterEvent.{ClusterEvent}
use Rattle.job_events.specs.declared.cluster.ClusterEvent.TheVariants.{NodeStart, NodeStop, NodeAsk, AddGroup, SetGroup, AddJob, UpdateJob, StartJob, StopJob, RemoveJob, TriggerJob, ScanBegin, ScanStep, Turn, Take, Sent, Callback, Registry, RegistryRemove, Sweep, Monitor, Lost, Clean, ReadLog, Reopen}
use Rattle.job_events.specs.declared.cluster.ClusterRefusal.{ClusterRefusal}
use Rattle.job_events.specs.declared.cluster.ClusterRefusal.TheVariants.{NodeRunning, NodeStopped, Busy, NotScanning, Empty, BadCode, AlreadySent, NotTaken, WrongAddress, Repeat, BadRegistry, NothingDone, NoGroup, NoJob, NoLog, BadSchedule, BadZone, NoNext, TooMany, IdsSpent}
use Rattle.job_events.specs.declared.cluster.ClusterReply.{ClusterReply}
use Rattle.job_events.specs.declared.cluster.ClusterReply.TheVariants as reply
use Rattle.job_values.specs.declared.fault.ZoneFault.{ZoneFault}
use Rattle.zone_texts.specs.declared.zone.Zone.{Zone}
use Rattle.cron_schedule.specs.declared.plan.Plan.{Plan}
use Rattle.cron_schedule.specs.Parse.{parsed}
use Rattle.job_records.specs.declared.job.Job.{Job}
use Rattle.job_records.specs.declared.group.Group.{Group}
use Rattle.job_records.specs.declared.log.Log.{Log}
use Rattle.job_values.specs.declared.limits.TheConstants.{MOST_GROUPS, MOST_JOBS, LAST_EDITION}
use Rattle.cluster_history.specs.declared.scan.Scan.{Scan}
use Rattle.cluster_history.specs.declared.scan.PageEntry.{PageEntry}
use Rattle.cluster_history.specs.declared.settings.Settings.{Settings}
use Rattle.time_ring.specs.declared.ticket.Ticket.{Ticket}
use Rattle.cluster_history.specs.History.{History, accepted, settings_of}
use Rattle.cluster_history.specs.Zones.{zone_in, zone_of}
use Rattle.cluster_history.specs.Nodes.{runs, admins}
use Rattle.cluster_history.specs.Groups.{groups_of, last_group, group_with}
use Rattle.cluster_history.specs.Looks.{Looked, job_with}
use Rattle.cluster_history.specs.Jobs.{jobs_of, last_job, scan_of, look_of, page_of, first_time, updated_time}
use Rattle.cluster_history.specs.Tickets.{Waiting, waiting, waiting_at, taken, second_of}
use Rattle.cluster_history.specs.Registrations.{registry_of, is_dead, limit_passed}
use Rattle.cluster_history.specs.Firings.{Shot, shots_stepped, shots_turned, shots_taken, shots_if, shots_asked}
use Rattle.cluster_history.specs.Openings.{Pools, placed_from, pools_after, opened_of}
use Rattle.std.specs.Ordering.{int_eq}
use Rattle.std.specs.List.{list_any}
use Rattle.job_values.specs.declared.limits.TheConstants.{SUCCESS}
use Rattle.cluster_history.specs.declared.taken.TakenLog.{TakenLog}
use Rattle.cluster_history.specs.Orders.{front_of, choice_of, order_by, taken_of, taken_log}
use Rattle.cluster_history.specs.Settling.{log_with, is_unsent, is_positive, is_settled, children_of, first_failed, first_lost, is_old}
use Rattle.cluster_history.specs.Logs.{logs_of, last_log, pools_of, open_at, shots_called, shots_watched}

-- the reply that refuses
abbrev pub refused : ClusterRefusal → ClusterReply
refused why = reply.Refused why

-- an admin that does not run is refused before all else
abbrev pub if_running : Bool → ℕ → ClusterReply → ClusterReply
if_running true admin answer = answer
if_running false admin answer = refused (NodeStopped admin)

-- by whether the admin runs
abbrev pub start_reply : Bool → ℕ → ClusterReply
start_reply true admin = refused (NodeRunning admin)
start_reply false admin = reply.Done

-- by the number of groups, and the last id
abbrev pub group_reply : ℕ → ℕ → ClusterReply
group_reply count last =
    if nat_lt count MOST_GROUPS
    then (if nat_lt last LAST_JOB_ID then reply.Group (last + 1) else refused (TooMany LAST_JOB_ID))
    else refused (TooMany MOST_GROUPS)

-- by the number of jobs, and the last id
abbrev pub room_reply : ℕ → ℕ → ClusterReply
room_reply count last =
    if nat_lt count MOST_JOBS
    then (if nat_lt last LAST_JOB_ID then reply.Job (last + 1) else refused (TooMany LAST_JOB_ID))
    else refused (TooMany MOST_JOBS)

-- by what the zone's text says
abbrev pub zone_reply : Result Zone ZoneFault → ℕ → ℕ → ClusterReply
zone_reply (Err fault) count last = refused (BadZone fault)
zone_reply (Ok zone) count last = room_reply count last

-- by what the schedule's text says
abbrev pub schedule_reply : Result Plan ScheduleFault → Result Zone ZoneFault → ℕ → ℕ → ClusterReply
schedule_reply (Err fault) zone count last = refused (BadSchedule fault)
schedule_reply (Ok plan) zone count last = zone_reply zone count last

-- by whether the group that the job names is there
abbrev pub job_reply : Bool → Result Plan ScheduleFault → Result Zone ZoneFault → ℕ → ℕ → ClusterReply
job_reply false said zone count last = refused NoGroup
job_reply true said zone count last = schedule_reply said zone count last

-- by the first time after the start
abbrev pub edition_reply : ℕ → Option ℕ → ClusterReply
edition_reply edition None = refused NoNext
edition_reply edition (Some next) =
    if nat_lt edition LAST_EDITION then reply.Running (edition + 1) next else refused IdsSpent

-- by the row of the job
abbrev pub running_reply : Settings → ℕ → Option Job → ClusterReply
running_reply settings at None = refused NoJob
running_reply settings at (Some row) = edition_reply row.edition (first_time (zone_of settings row.spec) row.schedule at)

-- by the edition and the next time of a job that is updated
abbrev pub again_reply : ℕ → Bool → Option ℕ → ClusterReply
again_reply edition true None = refused NoNext
again_reply edition running next = if nat_lt edition LAST_EDITION then reply.Updated (edition + 1) next else refused IdsSpent

-- by what the zone's text says
abbrev pub clock_reply : ℕ → Job → Plan → Result Zone ZoneFault → ClusterReply
clock_reply at row plan (Err fault) = refused (BadZone fault)
clock_reply at row plan (Ok zone) = again_reply row.edition (is_some row.next) (updated_time zone plan at row.next)

-- by what the schedule's text says
abbrev pub plan_reply : Result Zone ZoneFault → ℕ → Job → Result Plan ScheduleFault → ClusterReply
plan_reply zone at row (Err fault) = refused (BadSchedule fault)
plan_reply zone at row (Ok plan) = clock_reply at row plan zone

-- by whether the group that the spec names is there
abbrev pub spec_reply : Bool → Result Zone ZoneFault → ℕ → Job → Result Plan ScheduleFault → ClusterReply
spec_reply false zone at row said = refused NoGroup
spec_reply true zone at row said = plan_reply zone at row said

-- by the row of the job
abbrev pub update_reply : Bool → Result Zone ZoneFault → ℕ → Result Plan ScheduleFault → Option Job → ClusterReply
update_reply grouped zone at said None = refused NoJob
update_reply grouped zone at said (Some row) = spec_reply grouped zone at row said

-- by the row of the job
abbrev pub halt_reply : Option Job → ClusterReply
halt_reply None = refused NoJob
halt_reply (Some row) = if nat_lt row.edition LAST_EDITION then reply.Halted (row.edition + 1) else refused IdsSpent

-- done where it is there
abbrev pub done_if : Bool → ClusterRefusal → ClusterReply
done_if true why = reply.Done
done_if false why = refused why

-- what is shown of a log
abbrev pub shown_of : Log → ShownLog
shown_of log = record {
  log = log.id;
  job = log.job;
  group = log.group;
  address = log.address;
  handler = log.handler;
  param = log.param;
  index = log.index;
  total = log.total;
  retries = log.retries;
  kind = log.kind;
  time = log.time;
  trigger_code = log.trigger_code;
  result_time = log.result_time;
  result_code = log.result_code;
  result_text = log.result_text;
  marked = log.marked;
}

-- by the row of the log
abbrev pub log_reply : Option Log → ClusterReply
log_reply None = refused NoLog
log_reply (Some log) = reply.Shown (shown_of log)

-- a count stays at the greatest value of its type
abbrev pub counted_to : ℕ → ℕ
counted_to count = min count (2 ^ 64 - 1)

-- how many tickets the stop of an admin loses
abbrev pub lost_by : History → ℕ → ℕ
lost_by h admin = counted_to (waiting_at h admin)

-- the sum over the admins that run
abbrev pub over_running : History → (ℕ → ℕ) → ℕ
over_running h count = sum (map (λ admin. if runs h admin then count admin else 0) admins)

-- by the open scan
abbrev pub begin_reply : Option Scan → List PageEntry → ClusterReply
begin_reply (Some scan) page = refused (Busy scan.owner)
begin_reply None page = reply.Begun (length page)

-- the last log id is not above its greatest value
abbrev pub if_ids : ℕ → ℕ → ClusterReply → ClusterReply
if_ids last count answer = if nat_lt LAST_LOG_ID (last + count) then refused IdsSpent else answer

-- a look with the logs that it opens, or a skip of the page entry's job
abbrev pub look_reply : ℕ → Pools → List Shot → ℕ → Option Looked → ClusterReply
look_reply last pools shots job None = reply.Skip job
look_reply last pools shots job (Some look) =
    if_ids last (length shots) (reply.Look job look.decision.case look.due look.decision.next look.decision.put
    (map opened_of (placed_from last pools shots)))

-- by the page entry that the step is at
abbrev pub entry_reply : ℕ → Pools → List Shot → Option Looked → Option PageEntry → ClusterReply
entry_reply last pools shots look None = refused NotScanning
entry_reply last pools shots look (Some entry) = look_reply last pools shots entry.job look

-- by the open scan, and by what its next step looks at
abbrev pub step_reply : ℕ → Pools → List Shot → Option Looked → ℕ → Option Scan → ClusterReply
step_reply last pools shots look admin None = refused NotScanning
step_reply last pools shots look admin (Some scan) =
    if scan.owner == admin
    then entry_reply last pools shots look (slice_get scan.page scan.steps)
    else refused NotScanning

-- what is told of a ticket that fired
abbrev pub fired_by : Ticket → ℕ → Pools → List Shot → FiredTicket
fired_by ticket last pools shots = record {
  job = ticket.job;
  edition = ticket.edition;
  due = ticket.due;
  opened = map opened_of (placed_from last pools shots);
}

-- the tickets that a turn took, each with the logs that it opened
abbrev pub fired_from : List Group → List Job → ℕ → ℕ → Pools → List Waiting → List FiredTicket
fired_from groups jobs at last pools [] = []
fired_from groups jobs at last pools (one ∷ ones) =
    fired_by one.ticket last pools (shots_taken groups jobs at one)
    ∷ fired_from groups jobs at (last + length (shots_taken groups jobs at one)) (pools_after pools (shots_taken groups jobs at one)) ones

-- by the row of the job: the logs that a firing opens
abbrev pub fire_reply : ℕ → Pools → List Shot → Option Job → ClusterReply
fire_reply last pools shots None = refused NoJob
fire_reply last pools shots (Some row) =
    if_ids last (length shots) (reply.Opened (map opened_of (placed_from last pools shots)))

-- a code that is not positive is refused
abbrev pub if_positive : ℤ → ClusterReply → ClusterReply
if_positive code answer = if is_positive code then answer else refused BadCode

-- by the first log of the pool
abbrev pub take_reply : History → ℕ → ℕ → Option Log → ClusterReply
take_reply h admin word None = refused Empty
take_reply h admin word (Some log) = reply.Took (order_by log (choice_of h admin word log))

-- by the addresses that a take gave; no address goes with no success
abbrev pub given_reply : Option (List ℕ) → ℤ → List (List ℕ) → ClusterReply
given_reply None code given = if int_eq code SUCCESS then refused WrongAddress else reply.Done
given_reply (Some address) code given = if list_any (λ one. bytes_eq one address) given then reply.Done else refused WrongAddress

-- by what was kept when the log was taken
abbrev pub taken_reply : Option (List ℕ) → ℤ → Option TakenLog → ClusterReply
taken_reply address code None = refused NotTaken
taken_reply address code (Some taken) = given_reply address code taken.addresses

-- by the row of the log
abbrev pub sent_reply : Option (List ℕ) → ℤ → Option TakenLog → Option Log → ClusterReply
sent_reply address code taken None = refused NoLog
sent_reply address code taken (Some log) = if is_unsent log then taken_reply address code taken else refused (AlreadySent log.trigger_code)

-- what is told of a child that fired
abbrev pub child_by : ℕ → ℕ → Pools → List Shot → FiredChild
child_by job last pools shots = record { job = job; opened = map opened_of (placed_from last pools shots) }

-- the children that fired, each with the logs that it opened
abbrev pub children_from : List Group → List Job → ℕ → ℕ → Pools → List ℕ → List FiredChild
children_from groups jobs at last pools [] = []
children_from groups jobs at last pools (id ∷ ids) =
    child_by id last pools (shots_if groups Parent at (job_with id jobs))
    ∷ children_from groups jobs at (last + length (shots_if groups Parent at (job_with id jobs))) (pools_after pools (shots_if groups Parent at (job_with id jobs))) ids

-- by the row of the log: it gets one result, and fires its children where that is a success
abbrev pub settle_reply : List Group → List Job → ℕ → Pools → List Shot → ℕ → ℤ → Option Log → ClusterReply
settle_reply groups jobs last pools shots at code None = refused NoLog
settle_reply groups jobs last pools shots at code (Some log) =
    if is_settled log
    then refused (Repeat log.result_code)
    else if_ids last (length shots) (reply.Settled code (children_from groups jobs at last pools (children_of jobs code (Some log))))

-- by the first failed log: the log that tries it again
abbrev pub mark_reply : ℕ → Pools → List Shot → Option Log → ClusterReply
mark_reply last pools shots None = refused NothingDone
mark_reply last pools shots (Some log) = if_ids last (length shots) (reply.Marked log.id (map opened_of (placed_from last pools shots)))

-- by the first lost log
abbrev pub lost_reply : Option Log → ClusterReply
lost_reply None = refused NothingDone
lost_reply (Some log) = reply.Lost log.id

-- whether a call is one of executors, and names an app and an address
abbrev pub is_named : List ℕ → List ℕ → List ℕ → Bool
is_named group key value = bytes_eq group (codes "EXECUTOR") && (nat_lt 0 (length key) && nat_lt 0 (length value))

-- a call that is not is refused before all else
abbrev pub if_named : List ℕ → List ℕ → List ℕ → ClusterReply → ClusterReply
if_named group key value answer = if is_named group key value then answer else refused BadRegistry

-- by the limit that a new registration would pass
abbrev pub place_reply : Option ℕ → ClusterReply
place_reply None = reply.Done
place_reply (Some limit) = refused (TooMany limit)

-- the reply that an event has after accepted entries
abbrev pub reply_after : History → ClusterEvent → ClusterReply
reply_after h (NodeStart admin) = start_reply (runs h admin) admin
reply_after h (NodeStop admin) = if_running (runs h admin) admin (reply.Stopped (lost_by h admin) (open_at h admin))
reply_after h (NodeAsk admin) = if_running (runs h admin) admin reply.Done
reply_after h (AddGroup app kind addresses) = group_reply (length (groups_of h)) (last_group h)
reply_after h (SetGroup id kind addresses) = done_if (is_some (group_with id (groups_of h))) NoGroup
reply_after h (AddJob spec) =
    job_reply (is_some (group_with spec.group (groups_of h))) (parsed spec.kind spec.schedule) (zone_in (settings_of h) spec) (length (jobs_of h)) (last_job h)
reply_after h (UpdateJob at job spec) =
    update_reply (is_some (group_with spec.group (groups_of h))) (zone_in (settings_of h) spec) at (parsed spec.kind spec.schedule) (job_with job (jobs_of h))
reply_after h (StartJob at job) = running_reply (settings_of h) at (job_with job (jobs_of h))
reply_after h (StopJob job) = halt_reply (job_with job (jobs_of h))
reply_after h (RemoveJob job) = done_if (is_some (job_with job (jobs_of h))) NoJob
reply_after h (TriggerJob admin at job param) =
    if_running (runs h admin) admin
    (fire_reply (last_log h) (pools_of h admin) (shots_asked h at job param) (job_with job (jobs_of h)))
reply_after h (ScanBegin admin at) = if_running (runs h admin) admin (begin_reply (scan_of h) (page_of h at))
reply_after h (ScanStep admin) =
    if_running (runs h admin) admin
    (step_reply (last_log h) (pools_of h admin) (shots_stepped h) (look_of h) admin (scan_of h))
reply_after h (Turn admin at) =
    if_running (runs h admin) admin
    (if_ids (last_log h) (length (shots_turned h admin at))
    (reply.Fired (fired_from (groups_of h) (jobs_of h) at (last_log h) (pools_of h admin) (taken admin (second_of at) (waiting h)))))
reply_after h (Take admin pool at word) = if_running (runs h admin) admin (take_reply h admin word (front_of h admin pool))
reply_after h (Sent log address code start end) =
    if_positive code (sent_reply address code (taken_log log (taken_of h)) (log_with log (logs_of h)))
reply_after h (Callback admin at item) =
    if_running (runs h admin) admin
    (if_positive item.code
    (settle_reply (groups_of h) (jobs_of h) (last_log h) (pools_of h admin) (shots_called h at item.code item.log) at item.code (log_with item.log (logs_of h))))
reply_after h (Registry at group key value) = if_named group key value (place_reply (limit_passed key value (registry_of h)))
reply_after h (RegistryRemove group key value) = if_named group key value reply.Done
reply_after h (Sweep at) = reply.Swept (count_by (is_dead at) (registry_of h))
reply_after h (Monitor admin at) =
    if_running (runs h admin) admin (mark_reply (last_log h) (pools_of h admin) (shots_watched h at) (first_failed (logs_of h)))
reply_after h (Lost at) = lost_reply (first_lost at (registry_of h) (logs_of h))
reply_after h (Clean at) = reply.Cleaned (count_by (is_old at) (logs_of h))
reply_after h (ReadLog log) = log_reply (log_with log (logs_of h))
reply_after h Reopen =
    reply.Reopened (counted_to (over_running h (waiting_at h))) (over_running h (open_at h))

-- the reply that an event has after a history
abbrev pub reply_of : History → ClusterEvent → ClusterReply
reply_of h e = reply_after (accepted h) e
