-- The result of a run, by the entries of a history.
use Rattle.std.specs.Prelude.{◌≡◌, ℕ, ◌+◌, ◌*◌, ℤ, Bool, true, false, ◌&&◌, ◌==◌, nat_lt, nat_le, codes, if◌then◌else◌, List, [], Option, None, Some}
use Rattle.std.specs.List.{Contains}
use Rattle.job_values.specs.declared.limits.TheConstants.{FAILURE, EXPIRED, SECOND}
use Rattle.job_values.specs.declared.run.Run.{Run}
use Rattle.job_values.specs.declared.run.CallbackItem.{CallbackItem}
use Rattle.job_events.specs.declared.executor.FinishCode.{FinishCode}
use Rattle.job_events.specs.declared.executor.ExecutorEvent.{ExecutorEvent}
use Rattle.job_events.specs.declared.executor.ExecutorEvent.TheVariants as event
use Rattle.job_events.specs.declared.executor.ExecutorReply.{ExecutorReply}
use Rattle.job_events.specs.declared.executor.ExecutorReply.TheVariants as reply
use Rattle.executor_history.specs.declared.records.Queued.{Queued}
use Rattle.executor_history.specs.History.{History, Opening, After}
use Rattle.executor_history.specs.Runs.{is_cover, ready_front}
use Rattle.executor_history.specs.Items.{code_of}
use Rattle.executor_history.specs.Past.{run_count, queued, on_runners}
use Rattle.executor_laws.specs.Given.{RunItem, given}

-- the earlier one where there is one
abbrev pub first_of : {X : Type 0} → Option X → Option X → Option X
first_of None later = later
first_of (Some x) later = Some x

-- the run that was accepted as the n-th
abbrev pub run_at : History → ℕ → Option Run
run_at (Opening names kept) number = None
run_at (After h (event.Run run at) r) number = if number == run_count h + 1 then Some run else run_at h number
run_at (After h _ r) number = run_at h number

-- the Poll of a run: its runner, and its moment
pub record Start : Type 0 where
  pub runner : ℕ
  pub at : ℕ

abbrev pub started_by : ℕ → ℕ → Option Queued → ℕ → Option Start
started_by runner at None number = None
started_by runner at (Some front) number = if front.run.number == number then Some (record { runner = runner; at = at }) else None

-- a Poll starts the ready front that was accepted first
abbrev pub started_of : History → ℕ → Option Start
started_of (Opening names kept) number = None
started_of (After h (event.Poll runner at) r) number = first_of (started_of h number) (started_by runner at (ready_front (queued h) (on_runners h)) number)
started_of (After h _ r) number = started_of h number

-- the run is there, and of this job
abbrev pub is_of : ℕ → Option Run → Bool
is_of job None = false
is_of job (Some run) = job == run.job

-- a Kill ends the runs of its job, and a Run that covers the earlier ones of its job
abbrev pub ends : ExecutorEvent → Option Run → Bool
ends (event.Kill job) run = is_of job run
ends (event.Run later at) run = is_cover later && is_of later.job run
ends _ run = false

abbrev pub is_ended : History → ℕ → Bool
is_ended (Opening names kept) number = false
is_ended (After h e r) number = if ends e (run_at h number) then true else is_ended h number

-- a result: its code and its text
pub record Result : Type 0 where
  pub code : ℤ
  pub text : List ℕ

-- the timeout of the run, in seconds, has passed since its start
abbrev pub is_past : ℕ → ℕ → Option Run → Bool
is_past at start None = false
is_past at start (Some run) = nat_lt 0 run.timeout && nat_le (start + run.timeout * SECOND) at

-- its Finish: a run that was ended on its runner is a failure, else it is as its handler says
abbrev pub finished_result : FinishCode → List ℕ → Bool → Result
finished_result code text true = record { code = FAILURE; text = codes "job running, killed." }
finished_result code text false = record { code = code_of code; text = text }

-- a run that was ended before its Poll
abbrev pub queue_result : Bool → Option Result
queue_result true = Some (record { code = FAILURE; text = codes "job killed in queue." })
queue_result false = None

-- an Expire past the timeout of a run on its runner, and its Finish
abbrev pub runner_result : ExecutorEvent → Option Run → Start → Bool → Option Result
runner_result (event.Expire at) run start ended = if is_past at start.at run then Some (record { code = EXPIRED; text = codes "job execute timeout." }) else None
runner_result (event.Finish runner at code text) run start ended = if runner == start.runner then Some (finished_result code text ended) else None
runner_result _ run start ended = None

-- the result that an event gives a run, by its Poll and whether it was ended
abbrev pub result_by : ExecutorEvent → Option Run → Option Start → Bool → Option Result
result_by e run None ended = queue_result (ends e run)
result_by e run (Some start) ended = runner_result e run start ended

-- the result of a run is the first that an entry gives it
abbrev pub result_of : History → ℕ → Option Result
result_of (Opening names kept) number = None
result_of (After h e r) number = first_of (result_of h number) (result_by e (run_at h number) (started_of h number) (is_ended h number))

-- the result that an item tells
abbrev pub result_in : CallbackItem → Result
result_in item = record { code = item.code; text = item.msg }

-- the result that the item of a run tells, if it was given one
abbrev pub result_told : Option RunItem → Option Result
result_told None = None
result_told (Some given) = Some (result_in given.item)

-- an item is one that an accepted run of its log was given
pub record IsOfRun (h : History) (item : CallbackItem) : Type 0 where
  pub number : ℕ
  pub run : Run
  pub is_run : run_at h number ≡ Some run
  pub of_log : run.log ≡ item.log
  pub is_given : Contains (given h) (record { number = number; item = item })

-- an executor that began without kept items
abbrev pub BeganEmpty : History → Type 0
BeganEmpty (Opening names kept) = kept ≡ []
BeganEmpty (After h e r) = BeganEmpty h

-- the items of a batch that a reply tells
abbrev pub batch_told : ExecutorReply → List CallbackItem
batch_told (reply.Batch items) = items
batch_told _ = []
