-- Histories whose replies are the defined ones.
use Rattle.std.specs.Prelude.{◌≡◌, List, [], ◌∷◌}
use Rattle.job_events.specs.declared.executor.ExecutorEvent.{ExecutorEvent}
use Rattle.job_events.specs.declared.executor.ExecutorReply.{ExecutorReply}
use Rattle.callback_spool.specs.Different.{HaveDifferentLogs}
use Rattle.executor_history.specs.History.{History, Opening, After}
use Rattle.executor_history.specs.Replies.{reply_of}

-- the kept items are of different logs, and each reply is the one that its event has after the entries before it
abbrev pub IsLegal : History → Type 0
IsLegal (Opening names kept) = HaveDifferentLogs kept
IsLegal (After h e r) = IsLegal h × (r ≡ reply_of h e)

-- the replies of these events, one after another
abbrev pub replies : History → List ExecutorEvent → List ExecutorReply
replies h [] = []
replies h (e ∷ es) = reply_of h e ∷ replies (After h e (reply_of h e)) es
