-- The queue and the running runs of an executor, by the entries of a history.
use Rattle.std.specs.Prelude.{◌≡◌, ℕ, ◌<◌, Bool, not, ◌&&◌, List, [], ◌∷◌, Some, is_some, is_none}
use Rattle.std.specs.List.{AllByRecursion as Each}
use Rattle.job_values.specs.declared.run.Run.{Run}
use Rattle.executor_history.specs.declared.records.Queued.{Queued}
use Rattle.executor_history.specs.History.{History}
use Rattle.executor_history.specs.Runs.{queued_run}
use Rattle.executor_laws.specs.Results.{run_at, started_of, is_ended, result_of}

-- a run waits that was accepted and has neither Poll nor result
abbrev pub waits : History → ℕ → Bool
waits h number = is_some (run_at h number) && (is_none (started_of h number) && is_none (result_of h number))

-- a run runs that has its Poll, was not ended and has no result
abbrev pub runs : History → ℕ → Bool
runs h number = is_some (started_of h number) && (not (is_ended h number) && is_none (result_of h number))

-- it is the run that was accepted by its number
abbrev pub IsAccepted : History → Queued → Type 0
IsAccepted h q = (run : Run) × (run_at h q.run.number ≡ Some run) × (q ≡ record { job = run.job; run = queued_run q.run.number run })

-- in order of acceptance
abbrev pub InOrder : List Queued → Type 0
InOrder [] = Unit {0}
InOrder (q ∷ qs) = Each (λ (later : Queued). q.run.number < later.run.number) qs × InOrder qs
