-- What is said of the runs of an executor, queued and on runners.
use Rattle.std.specs.Prelude.{ℕ, Bool, not, ◌&&◌, ◌||◌, ◌==◌, codes, if◌then◌else◌, List, Option, None, Some, find, nat_lt}
use Rattle.std.specs.List.{list_any}
use Rattle.std.specs.Str.{bytes_eq}
use Rattle.job_values.specs.declared.run.Run.{Run}
use Rattle.job_lane.specs.declared.runs.QueuedRun.{QueuedRun}
use Rattle.job_lane.specs.Runs.{is_running, is_overdue, ended_run, expired_run, started_run, put_before}
use Rattle.executor_history.specs.declared.records.Queued.{Queued}
use Rattle.executor_history.specs.declared.records.Working.{Working}

-- a run that is asked to cover the earlier ones of its job
abbrev pub is_cover : Run → Bool
is_cover run = bytes_eq run.block (codes "COVER_EARLY")

-- a run that gives way to the earlier ones of its job
abbrev pub is_discard : Run → Bool
is_discard run = bytes_eq run.block (codes "DISCARD_LATER")

-- the run as it waits
abbrev pub queued_run : ℕ → Run → QueuedRun
queued_run number run = record {
  number = number;
  log = run.log;
  log_moment = run.log_moment;
  handler = run.handler;
  param = run.param;
  index = run.index;
  total = run.total;
  timeout = run.timeout;
}

-- the queued runs of a job
abbrev pub is_queued_of : ℕ → Queued → Bool
is_queued_of job queued = job == queued.job

-- the runs of a job that run
abbrev pub is_running_of : ℕ → Working → Bool
is_running_of job working = job == working.job && is_running working.run

-- a job runs where one of its runs on runners does
abbrev pub job_runs : ℕ → List Working → Bool
job_runs job on_runners = list_any (is_running_of job) on_runners

-- a lane is busy where its job runs or has a queue
abbrev pub is_busy : ℕ → List Queued → List Working → Bool
is_busy job queued on_runners = list_any (is_queued_of job) queued || job_runs job on_runners

-- a queued run is at a ready lane where its job does not run
abbrev pub is_ready : List Working → Queued → Bool
is_ready on_runners queued = not (job_runs queued.job on_runners)

-- the ready front that was accepted first: the first queued run whose job does not run
abbrev pub ready_front : List Queued → List Working → Option Queued
ready_front queued on_runners = find (is_ready on_runners) queued

abbrev pub is_on : ℕ → Working → Bool
is_on runner working = runner == working.run.runner

-- the run that a runner has
abbrev pub run_on : ℕ → List Working → Option Working
run_on runner on_runners = find (is_on runner) on_runners

-- a kill or a cover ends the run of its job that runs
abbrev pub ended_of : ℕ → Working → Working
ended_of job working = if job == working.job then record working { run = ended_run working.run } else working

-- an expiry gives the overdue runs their results
abbrev pub expired_of : ℕ → Working → Working
expired_of at working = record working { run = expired_run at working.run }

abbrev pub is_late : ℕ → Working → Bool
is_late at working = is_overdue at working.run

-- a run goes on a runner
abbrev pub working_run : ℕ → ℕ → Queued → Working
working_run runner at queued = record { job = queued.job; number = queued.run.number; run = started_run runner at queued.run }

-- the runs that are on runners stand in order of the runners
abbrev pub put_working : ℕ → ℕ → Option Queued → List Working → List Working
put_working runner at None on_runners = on_runners
put_working runner at (Some queued) on_runners = put_before (λ w. nat_lt runner w.run.runner) (working_run runner at queued) on_runners
