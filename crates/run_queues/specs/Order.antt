-- The runs that wait, as one list in order of acceptance and as the queue of each job's lane.
use Rattle.std.specs.Prelude.{◌≡◌, ℕ, ◌<◌, ◌≤◌, Bool, true, false, not, ◌==◌, nat_eq, nat_lt, List, [], ◌∷◌, map, filter, Option, None, Some}
use Rattle.std.specs.List.{IsDistinct, list_any}
use Rattle.std.specs.Map.{lookup, keys_of}
use Rattle.job_lane.specs.declared.runs.QueuedRun.{QueuedRun}
use Rattle.job_lane.specs.Runs.{put_before}
use Rattle.job_lane.specs.Lanes.{LaneView}
use Rattle.executor_history.specs.declared.records.Queued.{Queued}
use Rattle.executor_history.specs.declared.records.Working.{Working}
use Rattle.executor_history.specs.Runs.{is_queued_of}
use Rattle.run_queues.specs.declared.front.Front.{Front}

-- the lane of a job; a job without one has an empty one
abbrev pub lane_in : Option LaneView → LaneView
lane_in None = record { job = 0; queue = []; on_runners = []; room = 0 }
lane_in (Some lane) = lane

abbrev pub lane_of : ℕ → List (ℕ × LaneView) → LaneView
lane_of job lanes = lane_in (lookup (nat_eq job) lanes)

-- a run that waits in the lane of a job
abbrev pub queued_in : ℕ → QueuedRun → Queued
queued_in job run = record { job = job; run = run }

-- the queue of a job
abbrev pub queue_of : ℕ → List (ℕ × LaneView) → List Queued
queue_of job lanes = map (queued_in job) (lane_of job lanes).queue

-- a run put before those that were accepted later
abbrev pub put_run : Queued → List Queued → List Queued
put_run q qs = put_before (λ (other : Queued). nat_lt q.run.number other.run.number) q qs

abbrev pub put_runs : List Queued → List Queued → List Queued
put_runs [] qs = qs
put_runs (x ∷ xs) qs = put_run x (put_runs xs qs)

-- the runs of all queues, in order of acceptance
abbrev pub in_order : List (ℕ × LaneView) → List Queued
in_order [] = []
in_order (e ∷ es) = put_runs (map (queued_in e.0) e.1.queue) (in_order es)

-- the numbers rise, above one bound and up to another
abbrev pub RisesWithin : ℕ → List Queued → ℕ → Type 0
RisesWithin low [] high = low ≤ high
RisesWithin low (q ∷ qs) high = (low < q.run.number) × RisesWithin q.run.number qs high

abbrev pub front_of : Queued → Front
front_of q = record { number = q.run.number; job = q.job }

-- the first run of each job, in order of acceptance
abbrev pub fronts_of : List Queued → List Front
fronts_of [] = []
fronts_of (q ∷ qs) = front_of q ∷ filter (λ (f : Front). not (q.job == f.job)) (fronts_of qs)

-- lanes and fronts that hold these runs: each job has its own in its queue, and the first of each job is a front
pub record Hold (lanes : List (ℕ × LaneView)) (fronts : List Front) (qs : List Queued) (last : ℕ) : Type 0 where
  pub once : IsDistinct nat_eq (keys_of lanes)
  pub rises : RisesWithin 0 qs last
  pub queues_are : (job : ℕ) → filter (is_queued_of job) qs ≡ queue_of job lanes
  pub fronts_are : fronts ≡ fronts_of qs

-- a front put before those of later runs
abbrev pub put_front : Front → List Front → List Front
put_front f fs = put_before (λ (g : Front). nat_lt f.number g.number) f fs

-- the front of a run that may be there, put among the others
abbrev pub put_found : Option Queued → List Front → List Front
put_found None fs = fs
put_found (Some q) fs = put_front (front_of q) fs

-- the first of a list
abbrev pub first_of : {X : Type 0} → List X → Option X
first_of [] = None
first_of (x ∷ xs) = Some x

-- whether a list has one
abbrev pub some_in : {X : Type 0} → List X → Bool
some_in [] = false
some_in (x ∷ xs) = true

-- a front that may be there, put among the others
abbrev pub put_next : Option Front → List Front → List Front
put_next None fs = fs
put_next (Some f) fs = put_front f fs

-- the fronts without one that may be there
abbrev pub without_front : Option Front → List Front → List Front
without_front None fs = fs
without_front (Some f) fs = filter (λ (g : Front). not (f.number == g.number)) fs

-- none of these fronts has the number of one that may be there
abbrev pub IsNew : Option Front → List Front → Type 0
IsNew None fs = Unit {0}
IsNew (Some f) fs = list_any (λ (g : Front). f.number == g.number) fs ≡ false

-- how many more runs go into the lane of a job without memory
abbrev pub room_in : Option ℕ → ℕ
room_in None = 0
room_in (Some room) = room

-- the runs of an executor: those that wait in order of acceptance, those on runners in order of the runners, the number of
-- the last run that was accepted, and how many more runs of each job, jobs that wait, runs on runners and logs that wait go
-- in without memory
pub record QueuesView : Type 0 where
  pub runs : List Queued
  pub on_runners : List Working
  pub last : ℕ
  pub rooms : List (ℕ × ℕ)
  pub fronts : ℕ
  pub runners : ℕ
  pub logs : ℕ

-- there is room for a run of this job
pub record HasRoom (job : ℕ) (view : QueuesView) : Type 0 where
  pub queue : 1 ≤ room_in (lookup (nat_eq job) view.rooms)
  pub front : 1 ≤ view.fronts
  pub log : 1 ≤ view.logs
