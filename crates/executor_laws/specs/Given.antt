-- The items that runs are given, each with the number of its run.
use Rattle.std.specs.Prelude.{ℕ, ◌+◌, Bool, if◌then◌else◌, List, [], ◌∷◌, ◌++◌, Option, None, Some, map, filter}
use Rattle.job_values.specs.declared.run.Run.{Run}
use Rattle.job_values.specs.declared.run.CallbackItem.{CallbackItem}
use Rattle.job_events.specs.declared.executor.FinishCode.{FinishCode}
use Rattle.job_events.specs.declared.executor.ExecutorEvent.{ExecutorEvent}
use Rattle.job_events.specs.declared.executor.ExecutorEvent.TheVariants as event
use Rattle.executor_history.specs.declared.records.Queued.{Queued}
use Rattle.executor_history.specs.declared.records.Working.{Working}
use Rattle.executor_history.specs.History.{History, Opening, After}
use Rattle.executor_history.specs.Runs.{is_cover, is_queued_of, is_late, run_on}
use Rattle.executor_history.specs.Items.{killed_item, expired_item, finished_item, by_number}
use Rattle.executor_history.specs.Past.{queued, on_runners, waiting, batch, spooled}

-- how many elements pass
abbrev pub times : {X : Type 0} → (X → Bool) → List X → ℕ
times p [] = 0
times p (x ∷ xs) = (if p x then 1 else 0) + times p xs

-- an item, and the number of the run that it is given
pub record RunItem : Type 0 where
  pub number : ℕ
  pub item : CallbackItem

abbrev pub killed_run : Queued → RunItem
killed_run q = record { number = q.run.number; item = killed_item q }

abbrev pub expired_working : Working → RunItem
expired_working w = record { number = w.number; item = expired_item w }

abbrev pub finished_run : FinishCode → List ℕ → Working → RunItem
finished_run code text w = record { number = w.number; item = finished_item code text w }

-- the queued runs of a job are ended
abbrev pub killed_runs : ℕ → List Queued → List RunItem
killed_runs job qs = map killed_run (filter (is_queued_of job) qs)

-- the queued runs that a new run covers are ended
abbrev pub covered_runs : Run → List Queued → List RunItem
covered_runs run qs = if is_cover run then killed_runs run.job qs else []

-- the overdue runs, in order of acceptance
abbrev pub expired_runs : ℕ → List Working → List RunItem
expired_runs at ws = map expired_working (by_number (filter (is_late at) ws))

-- a run with a result is given no second item
abbrev pub finished_runs : FinishCode → List ℕ → Option Working → List RunItem
finished_runs code text None = []
finished_runs code text (Some w) = if w.run.given then [] else finished_run code text w ∷ []

-- the runs that an event gives an item, by their numbers, each with its item, in order
abbrev pub gives : History → ExecutorEvent → List RunItem
gives h (event.Run run at) = covered_runs run (queued h)
gives h (event.Kill job) = killed_runs job (queued h)
gives h (event.Finish runner at code text) = finished_runs code text (run_on runner (on_runners h))
gives h (event.Expire at) = expired_runs at (on_runners h)
gives h _ = []

-- all that were given
abbrev pub given : History → List RunItem
given (Opening names kept) = []
given (After h e r) = given h ++ gives h e

-- the items alone
abbrev pub items_of : List RunItem → List CallbackItem
items_of given = map (λ (x : RunItem). x.item) given

-- the items that an executor keeps, in the order in which it tells them
abbrev pub kept_items : History → List CallbackItem
kept_items h = batch h ++ spooled h ++ waiting h

-- the items that an event takes from it: those of the batch that is acknowledged
abbrev pub acknowledged : History → ExecutorEvent → List CallbackItem
acknowledged h event.BatchAck = batch h
acknowledged h _ = []
