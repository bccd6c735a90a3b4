-- Worked rows: the replies of short lists of events.
use Rattle.std.proofs.Common.{◌≡◌, ℕ, List, [], ◌∷◌, false, Some, None, codes, pos, refl}
use Rattle.job_values.specs.declared.spec.JobSpec.{JobSpec}
use Rattle.job_events.specs.declared.opened.Opened.{Opened}
use Rattle.job_values.specs.declared.words.ScheduleKind.TheVariants.{FixRate}
use Rattle.job_values.specs.declared.words.Misfire.TheVariants.{DoNothing}
use Rattle.job_values.specs.declared.words.Route.TheVariants.{First}
use Rattle.job_values.specs.declared.words.Block.TheVariants.{SerialExecution}
use Rattle.job_values.specs.declared.words.Case.TheVariants.{Early}
use Rattle.job_values.specs.declared.words.GroupKind.TheVariants as group_kind
use Rattle.job_values.specs.declared.words.TriggerKind.TheVariants as trigger
use Rattle.job_values.specs.declared.words.PoolAnswer.TheVariants.{Fast}
use Rattle.job_events.specs.declared.cluster.ClusterEvent.{ClusterEvent}
use Rattle.job_events.specs.declared.cluster.ClusterEvent.TheVariants as event
use Rattle.job_events.specs.declared.cluster.ClusterReply.{ClusterReply}
use Rattle.job_events.specs.declared.cluster.ClusterReply.TheVariants as reply
use Rattle.job_events.specs.declared.cluster.ClusterRefusal.TheVariants as refusal
use Rattle.zone_texts.specs.Parsed.{zone_parsed}
use Rattle.cluster_history.specs.History.{History, Begin, empty_opening}
use Rattle.cluster_history.specs.Jobs.{plan_of}
use Rattle.cluster_history.specs.Runs.{replies}

-- a new cluster at offset 0 with 8 fast and 4 slow threads
abbrev opening : History
opening = Begin (empty_opening (record { offset = pos 0; fast = 8; slow = 4 }))

-- a job of a fixed rate
abbrev rate : List ℕ → JobSpec
rate text = record {
  group = 1;
  kind = FixRate;
  schedule = text;
  misfire = DoNothing;
  route = First;
  block = SerialExecution;
  handler = codes "demo";
  param = [];
  timeout = 0;
  retries = 0;
  children = [];
  zone = [];
}

abbrev demo_group : ClusterEvent
demo_group = event.AddGroup (codes "demo") group_kind.Manual (codes "http://e1:9999/" ∷ [])

-- the first log is opened, in the fast pool
abbrev first_log : List Opened
first_log = record { log = 1; pool = Fast } ∷ []

abbrev early : ℕ → ℕ → ℕ → ClusterReply
early job due next = reply.Look job Early due (Some next) (Some due) []

abbrev fired : ℕ → ℕ → ℕ → ClusterReply
fired job edition due = reply.Fired (record { job = job; edition = edition; due = due; opened = first_log } ∷ [])

-- a stop in the middle of a scan ends it and loses its ticket; another admin's scan takes the rest
stop_in_a_scan : replies opening (event.NodeStart 0 ∷ event.NodeStart 1 ∷ demo_group ∷ event.AddJob (rate (codes "10")) ∷ event.AddJob (rate (codes "10")) ∷ event.StartJob 100000 1 ∷ event.StartJob 100000 2
    ∷ event.ScanBegin 0 110000 ∷ event.ScanBegin 1 110000 ∷ event.ScanStep 0 ∷ event.NodeStop 0 ∷ event.ScanBegin 1 110000 ∷ event.ScanStep 1 ∷ event.ScanStep 1 ∷ event.NodeStart 1 ∷ [])
    ≡ reply.Done ∷ reply.Done ∷ reply.Group 1 ∷ reply.Job 1 ∷ reply.Job 2 ∷ reply.Running 1 115000 ∷ reply.Running 1 115000
    ∷ reply.Begun 2 ∷ reply.Refused (refusal.Busy 0) ∷ early 1 115000 125000 ∷ reply.Stopped 1 0 ∷ reply.Begun 1 ∷ early 2 115000 125000 ∷ reply.Refused refusal.NotScanning ∷ reply.Refused (refusal.NodeRunning 1) ∷ []
unfolding plan_of zone_parsed
stop_in_a_scan = refl

-- a zone that is none is refused at the place of its first fault, unless the schedule is none
zones : replies opening (demo_group ∷ event.AddJob (record (rate (codes "10")) { zone = codes "EST" }) ∷ event.AddJob (record (rate (codes "0")) { zone = codes "EST" }) ∷ event.AddJob (record (rate (codes "10")) { zone = codes "EST5" }) ∷ [])
    ≡ reply.Group 1 ∷ reply.Refused (refusal.BadZone (record { place = 4 })) ∷ reply.Refused (refusal.BadSchedule (record { field = 0; place = 1 })) ∷ reply.Job 1 ∷ []
unfolding plan_of zone_parsed
zones = refl

-- a job of rate 10 that was started at 100000 on admin 0
abbrev started : List ClusterEvent → List ClusterEvent
started events = event.NodeStart 0 ∷ demo_group ∷ event.AddJob (rate (codes "10")) ∷ event.StartJob 100000 1 ∷ events

abbrev started_replies : List ClusterReply → List ClusterReply
started_replies more = reply.Done ∷ reply.Group 1 ∷ reply.Job 1 ∷ reply.Running 1 115000 ∷ more

-- an update between a scan and its step: the step skips the job, and the next scan sees its new times
update_in_a_scan : replies opening (started (event.ScanBegin 0 110000 ∷ event.UpdateJob 111000 1 (rate (codes "20")) ∷ event.ScanStep 0 ∷ event.ScanBegin 0 131000 ∷ event.ScanStep 0 ∷ event.Turn 0 136000 ∷ []))
    ≡ started_replies (reply.Begun 1 ∷ reply.Updated 2 (Some 136000) ∷ reply.Skip 1 ∷ reply.Begun 1 ∷ early 1 136000 156000 ∷ fired 1 2 136000 ∷ [])
unfolding plan_of zone_parsed
update_in_a_scan = refl

-- a stop loses the ring and ends the logs of the pool, and a later start finds neither
stop_with_a_log : replies opening (started (event.TriggerJob 0 101000 1 (Some (codes "x")) ∷ event.ScanBegin 0 110000 ∷ event.ScanStep 0 ∷ event.NodeStop 0 ∷ event.Turn 0 115000 ∷ event.NodeStart 0 ∷ event.Turn 0 115000 ∷ event.ReadLog 1 ∷ []))
    ≡ started_replies (reply.Opened first_log ∷ reply.Begun 1 ∷ early 1 115000 125000 ∷ reply.Stopped 1 1 ∷ reply.Refused (refusal.NodeStopped 0) ∷ reply.Done ∷ reply.Fired []
    ∷ reply.Shown (record {
      log = 1;
      job = 1;
      group = 1;
      address = None;
      handler = codes "demo";
      param = codes "x";
      index = 0;
      total = 1;
      retries = 0;
      kind = trigger.Manual;
      time = 101000;
      trigger_code = pos 500;
      result_time = None;
      result_code = pos 0;
      result_text = [];
      marked = false;
    }) ∷ [])
unfolding plan_of zone_parsed
stop_with_a_log = refl

-- the stop of all counts over the admins that run, and ends the scan
stop_of_all : replies opening (started (event.NodeStart 1 ∷ event.TriggerJob 1 101000 1 None ∷ event.ScanBegin 0 110000 ∷ event.ScanStep 0 ∷ event.ScanBegin 0 120000 ∷ event.Reopen ∷ event.NodeAsk 1 ∷ event.NodeStart 1 ∷ event.ScanStep 1 ∷ []))
    ≡ started_replies (reply.Done ∷ reply.Opened first_log ∷ reply.Begun 1 ∷ early 1 115000 125000 ∷ reply.Begun 1 ∷ reply.Reopened 1 1 ∷ reply.Refused (refusal.NodeStopped 1) ∷ reply.Done ∷ reply.Refused refusal.NotScanning ∷ [])
unfolding plan_of zone_parsed
stop_of_all = refl

-- so does the last admin that there is
stop_of_the_last : replies opening (event.NodeStart 63 ∷ demo_group ∷ event.AddJob (rate (codes "10")) ∷ event.StartJob 100000 1 ∷ event.TriggerJob 63 101000 1 None ∷ event.ScanBegin 63 110000 ∷ event.ScanStep 63 ∷ event.Reopen ∷ event.NodeAsk 63 ∷ [])
    ≡ started_replies (reply.Opened first_log ∷ reply.Begun 1 ∷ early 1 115000 125000 ∷ reply.Reopened 1 1 ∷ reply.Refused (refusal.NodeStopped 63) ∷ [])
unfolding plan_of zone_parsed
stop_of_the_last = refl

-- a ticket of a removed job is taken and opens nothing; one of a stopped job fires
ticket_of_a_removed_job : replies opening (started (event.ScanBegin 0 110000 ∷ event.ScanStep 0 ∷ event.RemoveJob 1 ∷ event.StopJob 1 ∷ event.Turn 0 115000 ∷ []))
    ≡ started_replies (reply.Begun 1 ∷ early 1 115000 125000 ∷ reply.Done ∷ reply.Refused refusal.NoJob ∷ reply.Fired (record { job = 1; edition = 1; due = 115000; opened = [] } ∷ []) ∷ [])
unfolding plan_of zone_parsed
ticket_of_a_removed_job = refl

ticket_of_a_stopped_job : replies opening (started (event.ScanBegin 0 110000 ∷ event.ScanStep 0 ∷ event.StopJob 1 ∷ event.Turn 0 115000 ∷ event.ScanBegin 0 125000 ∷ []))
    ≡ started_replies (reply.Begun 1 ∷ early 1 115000 125000 ∷ reply.Halted 2 ∷ fired 1 1 115000 ∷ reply.Begun 0 ∷ [])
unfolding plan_of zone_parsed
ticket_of_a_stopped_job = refl

-- a ticket is taken by a turn of its second or the next one, or a minute later
turns_of_a_ticket : replies opening (started (event.ScanBegin 0 109999 ∷ event.ScanBegin 0 110000 ∷ event.ScanStep 0 ∷ event.Turn 0 114000 ∷ event.Turn 0 117000 ∷ event.Turn 0 175000 ∷ event.Turn 0 175000 ∷ []))
    ≡ started_replies (reply.Begun 0 ∷ reply.Begun 1 ∷ early 1 115000 125000 ∷ reply.Fired [] ∷ reply.Fired [] ∷ fired 1 1 115000 ∷ reply.Fired [] ∷ [])
unfolding plan_of zone_parsed
turns_of_a_ticket = refl
