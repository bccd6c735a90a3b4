-- From an act to the exchange of a request.
use Rattle.std.proofs.Common.{◌≡◌, ◌⊎◌, ℕ, Bool, true, false, List, [], ◌∷◌, Option, Some, None, Result, Ok, Err, refl, sym, ap, ◌∙◌, subst, inl, inr, ⊎_elim, codes}
use Rattle.std.specs.Prelude.{if◌then◌else◌}
use Rattle.std.proofs.lemmas.Bool.{false≢true}
use Rattle.std.specs.Io.KnownBytes.{Appends}
use Rattle.job_events.specs.declared.executor.ExecutorEvent.{ExecutorEvent}
use Rattle.job_events.specs.declared.executor.ExecutorReply.{ExecutorReply}
use Rattle.turn_lock.specs.Gains.{Gains}
use Rattle.turn_lock.proofs.Gains.{gains_none}
use Rattle.http_reading.specs.declared.request.Request.{Request}
use Rattle.api_messages.specs.declared.fault.MessageFault.{MessageFault}
use Rattle.node_calls.specs.Exchanges.{Scene, Gave, Finishes, Exchange}
use Rattle.node_calls.specs.Bodies.{body_bytes, refused_body}
use Rattle.node_calls.specs.declared.body.Body.{Body}
use Rattle.node_calls.specs.declared.body.Fixed.{Fixed}
use Rattle.node_calls.specs.declared.body.Answer.{Answer}
use Rattle.node_calls.specs.declared.serving.End.{End}
use Rattle.node_calls.specs.declared.serving.End.TheVariants.{Stopped}
use Rattle.executor_node.specs.declared.call.Call.{Call}
use Rattle.executor_node.specs.declared.machine.ExecutorOpening.{ExecutorOpening}
use Rattle.job_values.specs.declared.no_memory.NoMemory.{NoMemory}
use Rattle.executor_node.specs.Standing.{Entry, IsLegalList, CanReply}
use Rattle.executor_node.specs.Calls.{Checks, EventAt, FaultAt}
use Rattle.executor_node.specs.Answers.{Says, reply_text, fault_text}
use Rattle.executor_node.specs.Exchanges.{Viewed, EventGave, CallGave, CallAnswered, CheckedGave, RequestGave, IsAnswered, AnsweredBy}

pub call_event : (call : Call) (body : List ℕ) (at : ℕ) (e : ExecutorEvent) (old new : Viewed) (said : List ℕ) → EventAt call body at e → EventGave e old new said → CallGave call body at old new said
call_event call body at e old new said is gave = ⊎_elim
    (λ (t : (r : ExecutorReply) × Gains IsLegalList old ((e, r) ∷ []) new × CanReply e r × Says (reply_text r) said). ((e, t.0) ∷ [], t.1, inr (inl (e, t.0, is, t.2, refl, t.3))))
    (λ (t : Gains IsLegalList old [] new × (said ≡ refused_body (codes "no memory"))). ([], t.0, inr (inr (e, is, refl, t.1))))
    gave

pub call_fault : (call : Call) (body : List ℕ) (at : ℕ) (f : MessageFault) (old : Viewed) (said : List ℕ) → FaultAt call body f → Says (fault_text f) said → CallGave call body at old old said
call_fault call body at f old said is says = ([], gains_none IsLegalList old, inl (f, is, refl, says))

-- a request that was answered
pub gave_of : (token : List ℕ) (r : Request) (at : ℕ) (readings readings' : Option (List ℕ)) (old new : Viewed) (body : Body) → Appends readings readings' (at ∷ []) → RequestGave token r at old new (body_bytes body)
    → Gave IsLegalList (IsAnswered token) readings readings' old new r (record { body = body; last = false })
gave_of token r at readings readings' old new body read (Err why, checks, gave) = record {
  entries = [];
  at = at;
  is = record { checked = Err why; checks = checks; answer = (refl, gave.1); goes_on = refl };
  gained = gave.0;
  read = read;
}
gave_of token r at readings readings' old new body read (Ok call, checks, gave) = record {
  entries = gave.0;
  at = at;
  is = record { checked = Ok call; checks = checks; answer = gave.2; goes_on = refl };
  gained = gave.1;
  read = read;
}

-- an executor is never stopped
pub never_stopped : {X : Type 0} (token : List ℕ) (old new : Scene ExecutorOpening ExecutorEvent ExecutorReply X) (left : Option (List ℕ)) (last : Option (Exchange ExecutorEvent ExecutorReply)) → Finishes IsLegalList (IsAnswered token) old new left last Stopped → ⊥
never_stopped token old new left None f = f.ends
never_stopped token old new left (Some x) f = false≢true (sym f.2.is.goes_on ∙ f.3.0)

-- the number that a bounded type took
pub new_is : (o : Option ℕ) (n m : ℕ) (b : Bool) → o ≡ (if b then Some n else None) → o ≡ Some m → m ≡ n
new_is o n m true e is = cc
new_is o n m false e is = cc
