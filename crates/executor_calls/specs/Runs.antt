-- What a runner does: one run, its lines and its result.
use Rattle.std.specs.Prelude.{◌≡◌, ℕ, ℤ, Bool, true, false, List, [], ◌∷◌, ◌++◌, codes, map, take, Result, Ok, Err, IsErr}
use Rattle.job_values.specs.declared.limits.TheConstants.{SUCCESS, FAILURE, LONGEST_RESULT, LONGEST_LOG_LINE}
use Rattle.job_values.specs.declared.no_memory.NoMemory.{NoMemory}
use Rattle.job_events.specs.declared.executor.FinishCode.{FinishCode}
use Rattle.job_events.specs.declared.executor.FinishCode.TheVariants.{Success, Failure}
use Rattle.job_events.specs.declared.executor.PolledRun.{PolledRun}
use Rattle.job_events.specs.declared.executor.ExecutorEvent.TheVariants as event
use Rattle.job_events.specs.declared.executor.ExecutorReply.{ExecutorReply}
use Rattle.job_events.specs.declared.executor.ExecutorReply.TheVariants as reply
use Rattle.job_events.specs.declared.executor.ExecutorRefusal.{ExecutorRefusal}
use Rattle.job_events.specs.declared.executor.ExecutorRefusal.TheVariants as refusal
use Rattle.api_messages.specs.Reading.{cut}
use Rattle.executor_node.specs.Standing.{Entry}
use Rattle.executor_calls.specs.declared.handler.RunInput.{RunInput}
use Rattle.executor_calls.specs.declared.handler.HandlerResult.{HandlerResult}
use Rattle.executor_calls.specs.declared.run.RunDone.{RunDone}
use Rattle.executor_calls.specs.declared.run.RunDone.TheVariants.{Idle, Ran}
use Rattle.executor_calls.specs.declared.run.Polled.{Polled}
use Rattle.executor_calls.specs.declared.run.Polled.TheVariants.{Given, Busy, Nothing}

-- what a handler is told of a run
abbrev pub input_of : PolledRun → RunInput
input_of p = record { job = p.job; log = p.log; param = p.param; index = p.index; total = p.total }

-- the code of a handler's result, and its number
abbrev pub finish_code : Bool → FinishCode
finish_code true = Success
finish_code false = Failure

abbrev pub code_number : FinishCode → ℤ
code_number Success = SUCCESS
code_number Failure = FAILURE

-- ---- lines

-- a line of a handler, cut to the longest front of whole characters that a log keeps
abbrev pub cut_line : List ℕ → List ℕ
cut_line line = cut LONGEST_LOG_LINE line

-- an entry for each of these lines, in their order
abbrev pub AreLines : ℕ → List (List ℕ) → List Entry → Type 0
AreLines runner [] [] = Unit {0}
AreLines runner [] (e ∷ es) = ⊥
AreLines runner (line ∷ lines) [] = ⊥
AreLines runner (line ∷ lines) (e ∷ es) = (e.0 ≡ event.LogLine runner (cut_line line)) × AreLines runner lines es

-- one line, or none for want of memory
abbrev pub LineGave : ℕ → List ℕ → List Entry → Result (Unit {0}) NoMemory → Type 0
LineGave runner line es (Ok x) = AreLines runner (line ∷ []) es
LineGave runner line es (Err e) = es ≡ []

-- all lines, or some of the first where memory ran out
abbrev pub LinesGave : ℕ → List (List ℕ) → List Entry → Result (Unit {0}) NoMemory → Type 0
LinesGave runner lines es (Ok x) = AreLines runner lines es
LinesGave runner lines es (Err e) = (n : ℕ) × AreLines runner (take n lines) es

-- ---- the result

-- one Finish with this code and text, at a second reading of the clock, or none for want of memory
abbrev pub FinishGave : ℕ → ℕ → FinishCode → List ℕ → List ℕ → List Entry → Result RunDone NoMemory → Type 0
FinishGave runner log code text times [] result = IsErr result
FinishGave runner log code text [] (e ∷ es) result = ⊥
FinishGave runner log code text (t ∷ []) (e ∷ []) result = (e.0 ≡ event.Finish runner t code text) × (result ≡ Ok (Ran log (code_number code)))
FinishGave runner log code text (t ∷ []) (e ∷ f ∷ es) result = ⊥
FinishGave runner log code text (t ∷ u ∷ ts) (e ∷ es) result = ⊥

abbrev pub AfterLines : Result (Unit {0}) NoMemory → ℕ → ℕ → HandlerResult → List ℕ → List Entry → Result RunDone NoMemory → Type 0
AfterLines (Err e) runner log h times es result = (times ≡ []) × (es ≡ []) × IsErr result
AfterLines (Ok x) runner log h times es result = FinishGave runner log (finish_code h.ok) (cut LONGEST_RESULT h.msg) times es result

-- the lines and the result of a run were stored: an entry for each line, and the Finish
pub record StoredGave (runner log : ℕ) (lines : List (List ℕ)) (given : HandlerResult) (times : List ℕ) (es : List Entry) (result : Result RunDone NoMemory) : Type 0 where
  pub stored : List Entry
  pub rest : List Entry
  pub entries : es ≡ stored ++ rest
  pub told : Result (Unit {0}) NoMemory
  pub store : LinesGave runner lines stored told
  pub finish : AfterLines told runner log given times rest result

-- a run was given to its handler: lines and a result that the handler may give were stored
abbrev pub HandlerGave : (List ℕ → RunInput → List (List ℕ) → HandlerResult → Type 0) → ℕ → PolledRun → List ℕ → List Entry → Result RunDone NoMemory → Type 0
HandlerGave gives runner p times es result =
    (lines : List (List ℕ)) × (given : HandlerResult) × gives p.handler (input_of p) lines given × StoredGave runner p.log lines given times es result

-- ---- the Poll

-- what a Poll was answered: a run, the log of one that an earlier call left on the runner, or neither
abbrev pub busy_with : ExecutorRefusal → Polled
busy_with (refusal.RunnerBusy log) = Busy log
busy_with _ = Nothing

abbrev pub polled_of : ExecutorReply → Polled
polled_of (reply.Runs p) = Given p
polled_of (reply.Refused why) = busy_with why
polled_of _ = Nothing

-- a run goes to its handler, and one that was left is lost
abbrev pub AfterPoll : (List ℕ → RunInput → List (List ℕ) → HandlerResult → Type 0) → ℕ → Polled → List ℕ → List Entry → Result RunDone NoMemory → Type 0
AfterPoll gives runner (Given p) times es result = HandlerGave gives runner p times es result
AfterPoll gives runner (Busy log) times es result = FinishGave runner log Failure (codes "result lost.") times es result
AfterPoll gives runner Nothing times es result = (times ≡ []) × (es ≡ []) × (result ≡ Ok Idle)

-- one Poll at the first reading of the clock, and what follows its reply
abbrev pub RunGave : (List ℕ → RunInput → List (List ℕ) → HandlerResult → Type 0) → ℕ → List ℕ → List Entry → Result RunDone NoMemory → Type 0
RunGave gives runner [] es result = ⊥
RunGave gives runner (t ∷ times) [] result = (times ≡ []) × IsErr result
RunGave gives runner (t ∷ times) (e ∷ es) result = (e.0 ≡ event.Poll runner t) × AfterPoll gives runner (polled_of e.1) times es result
