-- The trigger code of a log, by the entries.
use Rattle.std.specs.Prelude.{◌≡◌, ℕ, ◌==◌, ℤ, pos, Bool, true, false, All, Option, Some, None, if◌then◌else◌}
use Rattle.job_values.specs.declared.limits.TheConstants.{FAILURE}
use Rattle.job_values.specs.declared.words.PoolAnswer.{PoolAnswer}
use Rattle.job_values.specs.declared.words.PoolAnswer.TheVariants.{Full}
use Rattle.job_events.specs.declared.cluster.ClusterEvent.TheVariants.{Sent}
use Rattle.job_records.specs.declared.log.Log.{Log}
use Rattle.cluster_history.specs.History.{History, Begin, After, accepted, opening_of}
use Rattle.cluster_history.specs.Settling.{log_with}
use Rattle.cluster_history.specs.Logs.{logs_of}
use Rattle.cluster_history.specs.Runs.{IsLegal}
use Rattle.cluster_laws.specs.Opened.{OpenedAt, opened_in}
use Rattle.cluster_laws.specs.Ends.{stopped_since}

-- whether no pool had room
abbrev pub is_full : PoolAnswer → Bool
is_full Full = true
is_full _ = false

-- the code that the sending of a log told, if it was sent
abbrev pub sent_code : History → ℕ → Option ℤ
sent_code (Begin o) id = None
sent_code (After h (Sent log address code start end) r) id = if log == id then Some code else sent_code h id
sent_code (After h _ r) id = sent_code h id

-- the code of a log that had room: that of its sending; without one, that of failure where it was stopped, and else none
abbrev pub code_from : Option ℤ → Bool → ℤ
code_from (Some code) stopped = code
code_from None stopped = if stopped then FAILURE else pos 0

-- the code of failure where no pool had room; else by its sending, and by whether a stop of its admin or of all stands behind its opening
abbrev pub code_since : History → ℕ → OpenedAt → ℤ
code_since h id opened = if is_full opened.pool then FAILURE else code_from (sent_code h id) (stopped_since h opened.place opened.admin)

-- the code in a row, if there is one
abbrev pub code_in : Option Log → Option ℤ
code_in None = None
code_in (Some log) = Some log.trigger_code

-- by the entry that opened the log; a log of the opening keeps its code
abbrev pub code_by : History → ℕ → Option OpenedAt → Option ℤ
code_by h id None = code_in (log_with id (opening_of h).tables.logs)
code_by h id (Some opened) = Some (code_since h id opened)

-- the trigger code of a log, by the entries
abbrev pub code_told : History → ℕ → Option ℤ
code_told h id = code_by h id (opened_in h id)

-- the logs of every legal history have the codes that its entries tell
abbrev pub CodesByEntries : Type 0
CodesByEntries = (h : History) → IsLegal h → All (λ log. code_told (accepted h) log.id ≡ Some log.trigger_code) (logs_of (accepted h))
