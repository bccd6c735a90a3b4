-- What is said of one run, and of a list of them.
use Rattle.std.specs.Prelude.{ℕ, ◌+◌, ◌*◌, Bool, true, false, not, ◌&&◌, ◌||◌, ◌==◌, nat_lt, nat_le, if◌then◌else◌, List, [], ◌∷◌}
use Rattle.job_values.specs.declared.limits.TheConstants.{SECOND}
use Rattle.job_lane.specs.declared.runs.QueuedRun.{QueuedRun}
use Rattle.job_lane.specs.declared.runs.RunnerRun.{RunnerRun}

-- a run on a runner runs until it is ended or has its result
abbrev pub is_running : RunnerRun → Bool
is_running run = not (run.ended || run.given)

-- a run without result is overdue where its timeout, in seconds, has passed since its start
abbrev pub is_overdue : ℕ → RunnerRun → Bool
is_overdue now run = not run.given && (nat_lt 0 run.timeout && nat_le (run.start + run.timeout * SECOND) now)

-- a kill or a cover ends a run that runs
abbrev pub ended_run : RunnerRun → RunnerRun
ended_run run = if is_running run then record run { ended = true } else run

-- an overdue run gets its result
abbrev pub expired_run : ℕ → RunnerRun → RunnerRun
expired_run now run = if is_overdue now run then record run { given = true } else run

-- the run on a runner, as it starts
abbrev pub started_run : ℕ → ℕ → QueuedRun → RunnerRun
started_run runner now run = record {
  runner = runner;
  log = run.log;
  log_moment = run.log_moment;
  start = now;
  timeout = run.timeout;
  ended = false;
  given = false;
}

-- a list without the first element that passes
abbrev pub without_first : {X : Type 0} → (X → Bool) → List X → List X
without_first p [] = []
without_first p (x ∷ xs) = if p x then xs else x ∷ without_first p xs

-- an element put before the first one that passes, else at the end
abbrev pub put_before : {X : Type 0} → (X → Bool) → X → List X → List X
put_before p x [] = x ∷ []
put_before p x (y ∷ ys) = if p y then x ∷ y ∷ ys else y ∷ put_before p x ys

-- the runs without the first one that is on this runner
abbrev pub without_runner : ℕ → List RunnerRun → List RunnerRun
without_runner runner runs = without_first (λ run. runner == run.runner) runs
