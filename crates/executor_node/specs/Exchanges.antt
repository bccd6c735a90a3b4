-- The exchanges of an executor: a request, the entry that it made, and its answer.
use Rattle.std.specs.Prelude.{◌≡◌, ◌⊎◌, ℕ, false, List, [], ◌∷◌, codes, Result, Ok, Err}
use Rattle.job_events.specs.declared.executor.ExecutorEvent.{ExecutorEvent}
use Rattle.job_events.specs.declared.executor.ExecutorReply.{ExecutorReply}
use Rattle.job_values.specs.declared.no_memory.NoMemory.{NoMemory}
use Rattle.http_reading.specs.declared.request.Request.{Request}
use Rattle.turn_lock.specs.Seats.{SeatView}
use Rattle.turn_lock.specs.Gains.{Gains}
use Rattle.api_messages.specs.declared.fault.MessageFault.{MessageFault}
use Rattle.node_calls.specs.Exchanges.{Exchange}
use Rattle.node_calls.specs.Bodies.{fixed_body, refused_body}
use Rattle.node_calls.specs.declared.body.Fixed.{Fixed}
use Rattle.node_calls.specs.declared.serving.Served.{Served}
use Rattle.node_calls.specs.declared.serving.End.{End}
use Rattle.node_calls.specs.declared.serving.End.TheVariants as end
use Rattle.executor_node.specs.declared.call.Call.{Call}
use Rattle.executor_node.specs.declared.machine.ExecutorOpening.{ExecutorOpening}
use Rattle.executor_node.specs.declared.serve.ExecutorEnd.{ExecutorEnd}
use Rattle.executor_node.specs.declared.serve.ExecutorEnd.TheVariants.{Closed, Http}
use Rattle.executor_node.specs.declared.serve.ExecutorServed.{ExecutorServed}
use Rattle.executor_node.specs.Standing.{Entry, IsLegalList, CanReply}
use Rattle.executor_node.specs.Calls.{Checks, EventAt, FaultAt}
use Rattle.executor_node.specs.Answers.{reply_text, fault_text, Says}

-- a call with this body at a moment made these entries and is answered with this text: its message has a fault; its event is an entry; or its event was refused for memory
abbrev pub CallAnswered : Call → List ℕ → ℕ → List Entry → List ℕ → Type 0
CallAnswered call body at entries text =
    ((f : MessageFault) × FaultAt call body f × (entries ≡ []) × Says (fault_text f) text)
    ⊎ (((e : ExecutorEvent) × (r : ExecutorReply) × EventAt call body at e × CanReply e r × (entries ≡ (e, r) ∷ []) × Says (reply_text r) text)
    ⊎ ((e : ExecutorEvent) × EventAt call body at e × (entries ≡ []) × (text ≡ refused_body (codes "no memory"))))

abbrev pub AnsweredBy : Result Call Fixed → Exchange ExecutorEvent ExecutorReply → Type 0
AnsweredBy (Err why) x = (x.entries ≡ []) × (x.body ≡ fixed_body why)
AnsweredBy (Ok call) x = CallAnswered call x.request.body x.at x.entries x.body

-- an exchange of an executor with this token
pub record IsAnswered (token : List ℕ) (x : Exchange ExecutorEvent ExecutorReply) : Type 0 where
  pub checked : Result Call Fixed
  pub checks : Checks token x.request checked
  pub answer : AnsweredBy checked x
  pub goes_on : x.last ≡ false

abbrev pub Viewed : Type 0
Viewed = SeatView ExecutorOpening ExecutorEvent ExecutorReply NoMemory

-- what acting an event did, and the text that is answered
abbrev pub EventGave : ExecutorEvent → Viewed → Viewed → List ℕ → Type 0
EventGave e old new text =
    ((r : ExecutorReply) × Gains IsLegalList old ((e, r) ∷ []) new × CanReply e r × Says (reply_text r) text)
    ⊎ (Gains IsLegalList old [] new × (text ≡ refused_body (codes "no memory")))

-- what a call did, and the text that is answered
abbrev pub CallGave : Call → List ℕ → ℕ → Viewed → Viewed → List ℕ → Type 0
CallGave call body at old new text = (entries : List Entry) × Gains IsLegalList old entries new × CallAnswered call body at entries text

abbrev pub CheckedGave : Result Call Fixed → List ℕ → ℕ → Viewed → Viewed → List ℕ → Type 0
CheckedGave (Err why) body at old new text = Gains IsLegalList old [] new × (text ≡ fixed_body why)
CheckedGave (Ok call) body at old new text = CallGave call body at old new text

-- what a request did, and the text that is answered
abbrev pub RequestGave : List ℕ → Request → ℕ → Viewed → Viewed → List ℕ → Type 0
RequestGave token r at old new text = (checked : Result Call Fixed) × Checks token r checked × CheckedGave checked r.body at old new text

-- what became of a connection, as one of any node
abbrev pub end_of : ExecutorEnd → End
end_of Closed = end.Closed
end_of (Http f) = end.Http f

abbrev pub served_of : ExecutorServed → Served
served_of s = record { requests = s.requests; end = end_of s.end }
