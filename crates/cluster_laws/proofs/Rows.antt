-- Worked rows: the fates of tickets, codes and results of logs, scans, children and registrations of short lists of events.
use Rattle.std.proofs.Common.{◌≡◌, ℕ, List, [], ◌∷◌, Some, None, map, codes, pos, refl}
use Rattle.job_values.specs.declared.words.PoolKind.TheVariants.{Fast as FastPool}
use Rattle.job_values.specs.declared.spec.JobSpec.{JobSpec}
use Rattle.job_values.specs.declared.words.ScheduleKind.TheVariants.{FixRate}
use Rattle.job_values.specs.declared.words.Misfire.TheVariants.{DoNothing}
use Rattle.job_values.specs.declared.words.Route.TheVariants.{First}
use Rattle.job_values.specs.declared.words.Block.TheVariants.{SerialExecution}
use Rattle.job_values.specs.declared.words.GroupKind.TheVariants.{Auto, Manual}
use Rattle.job_events.specs.declared.cluster.ClusterEvent.{ClusterEvent}
use Rattle.job_events.specs.declared.cluster.ClusterEvent.TheVariants as event
use Rattle.zone_texts.specs.Parsed.{zone_parsed}
use Rattle.cluster_history.specs.History.{History, Begin, accepted, empty_opening}
use Rattle.cluster_history.specs.Jobs.{plan_of}
use Rattle.cluster_history.specs.Runs.{run}
use Rattle.cluster_laws.specs.Dues.{dues_of, times_fired}
use Rattle.cluster_laws.specs.Fates.{Fate, Undecided, Taken, Lost, Put, puts_of}
use Rattle.cluster_laws.specs.Told.{lost_at}
use Rattle.cluster_laws.specs.Codes.{code_told}
use Rattle.cluster_laws.specs.Queues.{added_of}
use Rattle.cluster_laws.specs.ScanPlaces.{last_begin, scan_by}
use Rattle.cluster_laws.specs.Settles.{times_settled, times_marked}
use Rattle.cluster_laws.specs.Results.{no_result, result_told}
use Rattle.cluster_laws.specs.Children.{children_started, times_started}
use Rattle.cluster_laws.specs.Registered.{standing}
use Rattle.cluster_laws.specs.Lists.{given_in, last_sweep}

-- a job that is due every so many seconds
abbrev every : List ℕ → JobSpec
every seconds = record {
  group = 1;
  kind = FixRate;
  schedule = seconds;
  misfire = DoNothing;
  route = First;
  block = SerialExecution;
  handler = codes "demo";
  param = [];
  timeout = 0;
  retries = 0;
  children = [];
  zone = [];
}

abbrev run_of : List ClusterEvent → History
run_of events =
    accepted (run (Begin (empty_opening (record { offset = pos 0; fast = 8; slow = 4 })))
    (event.NodeStart 0 ∷ event.NodeStart 1 ∷ event.AddGroup (codes "demo") Manual (codes "http://e1:9999/" ∷ []) ∷ events))

abbrev put : ℕ → ℕ → ℕ → ℕ → Fate → Put
put place admin job due fate = record { place = place; waiting = record { admin = admin; ticket = record { job = job; edition = 1; due = due } }; fate = fate }

-- both jobs are due at 115000; admin 0 stops in its scan, and admin 1 takes the rest; the refused begin has no place
abbrev one_lost_one_taken : History
one_lost_one_taken =
    run_of (event.AddJob (every (codes "10")) ∷ event.AddJob (every (codes "10")) ∷ event.StartJob 100000 1 ∷ event.StartJob 100000 2 ∷ event.ScanBegin 0 110000 ∷ event.ScanBegin 1 110000 ∷ event.ScanStep 0 ∷ event.NodeStop 0
    ∷ event.ScanBegin 1 110000 ∷ event.ScanStep 1 ∷ event.Turn 1 115000 ∷ event.ScanBegin 1 125000 ∷ event.ScanStep 1 ∷ [])

fates_of_three : puts_of one_lost_one_taken ≡ put 9 0 1 115000 (Lost 10) ∷ put 12 1 2 115000 (Taken 13) ∷ put 15 1 1 125000 Undecided ∷ []
unfolding plan_of zone_parsed
fates_of_three = refl

lost_by_the_stop : lost_at one_lost_one_taken 10 ≡ 1
unfolding plan_of zone_parsed
lost_by_the_stop = refl

-- a late look fires for its due time and puts the next one, an early look puts its own; an update begins an edition without times
abbrev late_then_early : History
late_then_early =
    run_of (event.AddJob (every (codes "3")) ∷ event.StartJob 117000 1 ∷ event.ScanBegin 0 127000 ∷ event.ScanStep 0 ∷ event.ScanBegin 0 128000 ∷ event.ScanStep 0 ∷ event.Turn 0 130000 ∷ event.UpdateJob 131000 1 (every (codes "3")) ∷ [])

times_of_an_edition : dues_of late_then_early 1 1 ≡ 133000 ∷ 130000 ∷ 125000 ∷ []
unfolding plan_of zone_parsed
times_of_an_edition = refl

times_of_the_next_edition : dues_of late_then_early 1 2 ≡ []
unfolding plan_of zone_parsed
times_of_the_next_edition = refl

fired_of_an_edition : map (times_fired late_then_early 1 1) (125000 ∷ 130000 ∷ 133000 ∷ []) ≡ 1 ∷ 1 ∷ 0 ∷ []
unfolding plan_of zone_parsed
fired_of_an_edition = refl

-- a stop of admin 0 ends its first log; that of admin 1 and the one that is opened after the next start have no code
abbrev three_logs : History
three_logs =
    run_of (event.AddJob (every (codes "10")) ∷ event.TriggerJob 0 101000 1 None ∷ event.TriggerJob 1 102000 1 None ∷ event.NodeStop 0 ∷ event.NodeStart 0 ∷ event.TriggerJob 0 103000 1 None ∷ [])

codes_of_three : map (code_told three_logs) (1 ∷ 2 ∷ 3 ∷ 4 ∷ []) ≡ Some (pos 500) ∷ Some (pos 0) ∷ Some (pos 0) ∷ None ∷ []
unfolding plan_of zone_parsed
codes_of_three = refl

added_since_the_start : added_of three_logs 0 FastPool ≡ 3 ∷ []
unfolding plan_of zone_parsed
added_since_the_start = refl

-- a scan of two jobs after its first step, and after both
abbrev scan_of_two : List ClusterEvent → History
scan_of_two events =
    run_of (event.AddJob (every (codes "10")) ∷ event.AddJob (every (codes "10")) ∷ event.StartJob 100000 1 ∷ event.StartJob 100000 2 ∷ event.ScanBegin 0 110000 ∷ event.ScanStep 0 ∷ events)

one_step_left : scan_by (scan_of_two []) (last_begin (scan_of_two [])) ≡ Some (record { owner = 0; at = 110000; page = record { job = 1; edition = 1 } ∷ record { job = 2; edition = 1 } ∷ []; steps = 1 })
unfolding plan_of zone_parsed
one_step_left = refl

none_left : scan_by (scan_of_two (event.ScanStep 0 ∷ [])) (last_begin (scan_of_two (event.ScanStep 0 ∷ []))) ≡ None
unfolding plan_of zone_parsed
none_left = refl

-- a result of a log, with this code
abbrev result_of : ℕ → ℕ → ClusterEvent
result_of log code = event.Callback 0 105000 (record { log = log; log_moment = 0; code = pos code; msg = [] })

-- job 1 has job 2 as a child; log 1 gets a failure and then, in vain, a success, and is marked once; log 2 gets a success
abbrev parent_and_child : History
parent_and_child =
    run_of (event.AddJob (record (every (codes "10")) { children = 2 ∷ [] }) ∷ event.AddJob (every (codes "10")) ∷ event.TriggerJob 0 101000 1 None ∷ event.TriggerJob 0 102000 1 None ∷ result_of 1 500 ∷ result_of 1 200 ∷ event.Monitor 0 106000 ∷ event.Monitor 0 107000 ∷ result_of 2 200
    ∷ [])

settled_of_three : map (times_settled parent_and_child) (1 ∷ 2 ∷ 3 ∷ []) ≡ 1 ∷ 1 ∷ 0 ∷ []
unfolding plan_of zone_parsed
settled_of_three = refl

marked_of_three : map (times_marked parent_and_child) (1 ∷ 2 ∷ 3 ∷ []) ≡ 1 ∷ 0 ∷ 0 ∷ []
unfolding plan_of zone_parsed
marked_of_three = refl

results_of_three : map (result_told parent_and_child) (1 ∷ 2 ∷ 3 ∷ []) ≡ record { time = Some 105000; code = pos 500; text = [] } ∷ record { time = Some 105000; code = pos 200; text = [] } ∷ no_result ∷ []
unfolding plan_of zone_parsed
results_of_three = refl

started_of_three : map (times_started parent_and_child) (1 ∷ 2 ∷ 3 ∷ []) ≡ 0 ∷ 1 ∷ 0 ∷ []
unfolding plan_of zone_parsed
started_of_three = refl

-- what a result of log 1 would start then, by its code
children_by_code : map (λ code. children_started parent_and_child (result_of 1 code)) (200 ∷ 500 ∷ []) ≡ (2 ∷ []) ∷ [] ∷ []
unfolding plan_of zone_parsed
children_by_code = refl

-- e1 beats at 1000, e2 at 1001 and e3 at 2000 and says that it is gone; the sweep ninety seconds behind the beat of e2 drops e1 alone, and another app is not swept away
abbrev three_executors : History
three_executors =
    run_of (event.AddGroup (codes "app") Auto [] ∷ event.Registry 1000 (codes "EXECUTOR") (codes "app") (codes "e1") ∷ event.Registry 1001 (codes "EXECUTOR") (codes "app") (codes "e2") ∷ event.Registry 2000 (codes "EXECUTOR") (codes "app") (codes "e3")
    ∷ event.Registry 2000 (codes "ADMIN") (codes "app") (codes "e4") ∷ event.RegistryRemove (codes "EXECUTOR") (codes "app") (codes "e3") ∷ event.Sweep 91001 ∷ [])

standing_of_four : map (standing three_executors (codes "app")) (codes "e1" ∷ codes "e2" ∷ codes "e3" ∷ codes "e4" ∷ []) ≡ None ∷ Some 1001 ∷ None ∷ None ∷ []
standing_of_four = refl

swept_at : last_sweep three_executors ≡ 9
swept_at = refl

given_at : map (given_in three_executors) (2 ∷ 3 ∷ []) ≡ Some (record { place = 4; app = codes "app"; kind = Auto; addresses = [] }) ∷ None ∷ []
given_at = refl
