-- Histories of an executor, the newest entry outermost.
use Rattle.std.specs.Prelude.{ℕ, Bool, true, false, List}
use Rattle.job_values.specs.declared.run.CallbackItem.{CallbackItem}
use Rattle.job_events.specs.declared.executor.ExecutorEvent.{ExecutorEvent}
use Rattle.job_events.specs.declared.executor.ExecutorReply.{ExecutorReply}
use Rattle.job_events.specs.declared.executor.ExecutorReply.TheVariants as reply

-- a history: the handler names and the kept items that the executor began with, and its entries, each an event with its reply
pub data History : Type 0 where
  Opening : List (List ℕ) → List CallbackItem → History
  After : History → ExecutorEvent → ExecutorReply → History

-- a refused event changed nothing
abbrev pub is_refusal : ExecutorReply → Bool
is_refusal (reply.Refused why) = true
is_refusal _ = false

abbrev pub with_accepted : Bool → History → ExecutorEvent → ExecutorReply → History
with_accepted true h e r = h
with_accepted false h e r = After h e r

-- the accepted entries alone
abbrev pub accepted : History → History
accepted (Opening handlers kept) = Opening handlers kept
accepted (After h e r) = with_accepted (is_refusal r) (accepted h) e r

-- the handler names
abbrev pub handlers : History → List (List ℕ)
handlers (Opening names kept) = names
handlers (After h e r) = handlers h
