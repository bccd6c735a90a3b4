-- The calls of an executor: their checks, and their events.
use Rattle.std.specs.Prelude.{◌≡◌, ◌≢◌, ◌⊎◌, ℕ, ℤ, pos, List, [], ◌∷◌, codes, if◌then◌else◌, Option, None, Some, Result, Ok, Err}
use Rattle.std.specs.Str.{bytes_eq}
use Rattle.job_values.specs.declared.run.Run.{Run}
use Rattle.job_events.specs.declared.executor.ExecutorEvent.{ExecutorEvent}
use Rattle.job_events.specs.declared.executor.ExecutorEvent.TheVariants as event
use Rattle.http_reading.specs.declared.request.Request.{Request}
use Rattle.api_messages.specs.Tables.{run_rows, job_rows, log_rows}
use Rattle.api_messages.specs.Seen.{run_cells, idle_beat_cells, kill_cells, log_cells}
use Rattle.api_messages.specs.Reading.{message_at, Fails}
use Rattle.api_messages.specs.declared.fault.MessageFault.{MessageFault}
use Rattle.api_messages.specs.declared.idle_beat.IdleBeatMessage.{IdleBeatMessage}
use Rattle.api_messages.specs.declared.kill.KillMessage.{KillMessage}
use Rattle.api_messages.specs.declared.log.LogMessage.{LogMessage}
use Rattle.api_messages.specs.declared.run.RunMessage.{RunMessage}
use Rattle.node_calls.specs.declared.body.Fixed.{Fixed}
use Rattle.node_calls.specs.declared.body.Fixed.TheVariants as fixed
use Rattle.executor_node.specs.declared.call.Call.{Call}
use Rattle.executor_node.specs.declared.call.Call.TheVariants as call

-- the call of a path
abbrev pub call_at : List ℕ → Option Call
call_at path =
    if bytes_eq path (codes "/beat") then Some call.Beat else
    (if bytes_eq path (codes "/idleBeat") then Some call.IdleBeat else
    (if bytes_eq path (codes "/run") then Some call.Run else
    (if bytes_eq path (codes "/kill") then Some call.Kill else
    (if bytes_eq path (codes "/log") then Some call.Log else None))))

-- no token is configured, or the given one is it
abbrev pub IsTaken : List ℕ → Option (List ℕ) → Type 0
IsTaken configured given = (configured ≡ []) ⊎ (given ≡ Some configured)

-- the checks of method, path and token, in this order: the call, or the first that a request does not pass
abbrev pub Checks : List ℕ → Request → Result Call Fixed → Type 0
Checks token r (Ok c) = (r.method ≡ codes "POST") × (call_at r.path ≡ Some c) × IsTaken token r.token
Checks token r (Err fixed.NotPost) = r.method ≢ codes "POST"
Checks token r (Err fixed.UnknownPath) = (r.method ≡ codes "POST") × (call_at r.path ≡ None)
Checks token r (Err fixed.WrongToken) =
    (r.method ≡ codes "POST") × ((c : Call) × (call_at r.path ≡ Some c)) × ¬ (IsTaken token r.token)
Checks token r (Err _) = ⊥

-- the run that a message asks for
pub record RunOf (m : RunMessage) (run : Run) : Type 0 where
  pub job : run.job ≡ m.job_id
  pub log : run.log ≡ m.log_id
  pub handler : run.handler ≡ m.executor_handler
  pub param : run.param ≡ m.executor_params
  pub block : run.block ≡ m.executor_block_strategy
  pub glue : run.glue ≡ m.glue_type
  pub timeout : m.executor_timeout ≡ pos run.timeout
  pub log_moment : m.log_date_time ≡ pos run.log_moment
  pub index : run.index ≡ m.broadcast_index
  pub total : run.total ≡ m.broadcast_total

-- the number of the first line that a message asks for
abbrev pub LineOf : LogMessage → ℕ → Type 0
LineOf m line = m.from_line_num ≡ pos line

-- the event of a call with this body at a moment
abbrev pub EventAt : Call → List ℕ → ℕ → ExecutorEvent → Type 0
EventAt call.Beat body at e = e ≡ event.Beat
EventAt call.IdleBeat body at e = (m : IdleBeatMessage) × (message_at job_rows body ≡ Ok (idle_beat_cells m)) × (e ≡ event.IdleBeat m.job_id)
EventAt call.Run body at e = (m : RunMessage) × (message_at run_rows body ≡ Ok (run_cells m)) × ((run : Run) × RunOf m run × (e ≡ event.Run run at))
EventAt call.Kill body at e = (m : KillMessage) × (message_at job_rows body ≡ Ok (kill_cells m)) × (e ≡ event.Kill m.job_id)
EventAt call.Log body at e = (m : LogMessage) × (message_at log_rows body ≡ Ok (log_cells m)) × ((line : ℕ) × LineOf m line × (e ≡ event.ReadLines m.log_id line))

-- the fault of the message of a call, or want of memory
abbrev pub FaultAt : Call → List ℕ → MessageFault → Type 0
FaultAt call.Beat body f = ⊥
FaultAt call.IdleBeat body f = Fails f (message_at job_rows body)
FaultAt call.Run body f = Fails f (message_at run_rows body)
FaultAt call.Kill body f = Fails f (message_at job_rows body)
FaultAt call.Log body f = Fails f (message_at log_rows body)
