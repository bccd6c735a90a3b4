-- The runs on runners, as one list in order of the runners and as those of each job's lane.
use Rattle.std.specs.Prelude.{◌≡◌, ℕ, ◌+◌, ◌==◌, Bool, false, List, [], ◌∷◌, map, filter, find, Option, None, Some}
use Rattle.job_lane.specs.declared.runs.RunnerRun.{RunnerRun}
use Rattle.job_lane.specs.Lanes.{LaneView}
use Rattle.executor_history.specs.declared.records.Working.{Working}
use Rattle.rising_rows.specs.Rising.{RisesFrom}
use Rattle.run_queues.specs.declared.serving.Serving.{Serving}
use Rattle.run_queues.specs.Order.{lane_of}

-- the run of a runner in the lane of the job that it serves
abbrev pub served_run : List (ℕ × LaneView) → Serving → Option RunnerRun
served_run lanes s = find (λ (run : RunnerRun). s.runner == run.runner) (lane_of s.job lanes).on_runners

-- that run, with its job and its place in order of acceptance
abbrev pub working_as : Serving → Option RunnerRun → Option Working
working_as s None = None
working_as s (Some run) = Some (record { job = s.job; number = s.number; run = run })

abbrev pub put_served : Option Working → List Working → List Working
put_served None ws = ws
put_served (Some w) ws = w ∷ ws

-- the run is one of this log
abbrev pub is_of_log : ℕ → Option RunnerRun → Bool
is_of_log log None = false
is_of_log log (Some run) = log == run.log

-- the runs on runners, by what each runner serves
abbrev pub by_runner : List (ℕ × LaneView) → List Serving → List Working
by_runner lanes [] = []
by_runner lanes (s ∷ ss) = put_served (working_as s (served_run lanes s)) (by_runner lanes ss)

-- what the runner of a run serves
abbrev pub serving_of : Working → Serving
serving_of w = record { runner = w.run.runner; job = w.job; number = w.number }

-- the runs of a job
abbrev pub is_working_of : ℕ → Working → Bool
is_working_of job w = job == w.job

-- the key of a run: runners are counted from 0, and keys from 1
abbrev pub runner_key : Working → ℕ
runner_key w = w.run.runner + 1

-- lanes that hold these runs on runners: each job has its own, and each runner serves the job of its run
pub record Serve (lanes : List (ℕ × LaneView)) (serving : List Serving) (ws : List Working) : Type 0 where
  pub rise : RisesFrom runner_key 0 ws
  pub lanes_are : (job : ℕ) → map (λ (w : Working). w.run) (filter (is_working_of job) ws) ≡ (lane_of job lanes).on_runners
  pub serving_are : serving ≡ map serving_of ws
