-- Lists of an executor's entries, and for which of them an executor stands.
use Rattle.std.specs.Prelude.{◌≡◌, List, [], ◌∷◌}
use Rattle.job_events.specs.declared.executor.ExecutorEvent.{ExecutorEvent}
use Rattle.job_events.specs.declared.executor.ExecutorReply.{ExecutorReply}
use Rattle.executor_history.specs.History.{History, Opening, After}
use Rattle.executor_history.specs.Past.{Parts}
use Rattle.executor_history.specs.Legal.{IsLegal}
use Rattle.executor_history.specs.Replies.{reply_of}
use Rattle.executor_core.specs.Parts.{StandsFor}
use Rattle.executor_node.specs.declared.machine.ExecutorOpening.{ExecutorOpening}

-- an event with its reply
abbrev pub Entry : Type 0
Entry = ExecutorEvent × ExecutorReply

-- a history with these entries more
abbrev pub after : History → List Entry → History
after h [] = h
after h (e ∷ es) = after (After h e.0 e.1) es

-- the history of an opening and its entries
abbrev pub history_of : ExecutorOpening → List Entry → History
history_of o log = after (Opening o.handlers o.kept) log

-- each reply is the defined one
abbrev pub IsLegalList : ExecutorOpening → List Entry → Type 0
IsLegalList o log = IsLegal (history_of o log)

-- an executor stands for a legal list of entries
abbrev pub Stands : ExecutorOpening → List Entry → Parts → Type 0
Stands o log parts = StandsFor parts (history_of o log) × IsLegal (history_of o log)

-- the opening of an executor that has no entry yet
abbrev pub opening_of : Parts → ExecutorOpening
opening_of parts = record { handlers = parts.handlers; kept = parts.waiting }

-- the reply is that of the event after some history
abbrev pub CanReply : ExecutorEvent → ExecutorReply → Type 0
CanReply e r = (h : History) × (r ≡ reply_of h e)
