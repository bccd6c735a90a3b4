-- What a lane is seen as, and what its calls answer and leave.
use Rattle.std.specs.Prelude.{ℕ, Bool, if◌then◌else◌, List, Option, None, Some, drop, slice_get, nat_lt}
use Rattle.std.specs.List.{list_any}
use Rattle.job_lane.specs.declared.runs.QueuedRun.{QueuedRun}
use Rattle.job_lane.specs.declared.runs.RunnerRun.{RunnerRun}
use Rattle.job_lane.specs.Runs.{is_running, started_run, put_before}

-- a lane: its job, the runs that wait, those on runners, and how many more can be offered without memory
pub record LaneView : Type 0 where
  pub job : ℕ
  pub queue : List QueuedRun
  pub on_runners : List RunnerRun
  pub room : ℕ

-- some run of the lane runs
abbrev pub runs : List RunnerRun → Bool
runs on_runners = list_any is_running on_runners

-- the run that a poll gives: the front of the queue, where no run runs
abbrev pub front_of : List QueuedRun → List RunnerRun → Option QueuedRun
front_of queue on_runners = if runs on_runners then None else slice_get queue 0

-- the queue behind the run that a poll gives
abbrev pub queue_polled : List QueuedRun → List RunnerRun → List QueuedRun
queue_polled queue on_runners = if runs on_runners then queue else drop 1 queue

-- a run that is given stands among those on runners in order of the runners
abbrev pub put_started : ℕ → ℕ → Option QueuedRun → List RunnerRun → List RunnerRun
put_started runner now None on_runners = on_runners
put_started runner now (Some run) on_runners = put_before (λ (other : RunnerRun). nat_lt runner other.runner) (started_run runner now run) on_runners
