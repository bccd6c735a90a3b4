-- What calls are answered.
use Rattle.std.specs.Prelude.{◌≡◌, ◌⊎◌, ℕ, pos, List, [], ◌∷◌, ◌++◌, codes, decimal}
use Rattle.serde_json.specs.Data.{Data}
use Rattle.serde_json.specs.Written.{compact_text}
use Rattle.job_events.specs.declared.executor.ReadLines.{ReadLines}
use Rattle.job_events.specs.declared.executor.ExecutorReply.{ExecutorReply}
use Rattle.job_events.specs.declared.executor.ExecutorReply.TheVariants as reply
use Rattle.job_events.specs.declared.executor.ExecutorRefusal.{ExecutorRefusal}
use Rattle.job_events.specs.declared.executor.ExecutorRefusal.TheVariants as refusal
use Rattle.api_messages.specs.Members.{none, int, text, bool, value}
use Rattle.api_messages.specs.Tables.{log_answer_rows, return_rows}
use Rattle.api_messages.specs.Writing.{object_of}
use Rattle.api_messages.specs.declared.fault.MessageFault.{MessageFault}
use Rattle.api_messages.specs.declared.fault.MessageFault.TheVariants as faults
use Rattle.node_calls.specs.Bodies.{done_body, refused_body, fixed_body}
use Rattle.node_calls.specs.declared.body.Fixed.TheVariants as fixed

-- lines, each followed by LF
abbrev pub content_of : List (List ℕ) → List ℕ
content_of [] = []
content_of (line ∷ lines) = line ++ 10 ∷ content_of lines

abbrev pub lines_data : ReadLines → Data
lines_data l = object_of log_answer_rows (int (pos l.from) ∷ bool l.is_end ∷ text (content_of l.lines) ∷ int (pos l.to) ∷ [])

-- the answer to `log`
abbrev pub lines_text : ReadLines → List ℕ
lines_text l = compact_text (object_of return_rows (int (pos 200) ∷ value (lines_data l) ∷ none ∷ []))

-- the answer to a refused event; no call meets a refusal that is not named here
abbrev pub refusal_text : ExecutorRefusal → List ℕ
refusal_text (refusal.Held log) = refused_body (codes "repeate trigger job, logId:" ++ decimal log)
refusal_text refusal.NotBean = refused_body (codes "glueType is not valid.")
refusal_text refusal.NoHandler = refused_body (codes "job handler not found.")
refusal_text refusal.Discarded = refused_body (codes "block strategy effect: Discard Later")
refusal_text refusal.HeldFull = refused_body (codes "too many held logs.")
refusal_text refusal.Running = refused_body (codes "job thread is running or has trigger queue.")
refusal_text refusal.NoLines = refused_body (codes "log not found.")
refusal_text _ = done_body

-- the answer to an event with this reply
abbrev pub reply_text : ExecutorReply → List ℕ
reply_text (reply.Refused why) = refusal_text why
reply_text (reply.Lines lines) = lines_text lines
reply_text _ = done_body

-- the answer to a message with this fault
abbrev pub fault_text : MessageFault → List ℕ
fault_text faults.NotJson = refused_body (codes "bad message 1")
fault_text faults.WrongShape = refused_body (codes "bad message 2")
fault_text (faults.Member which) = refused_body (codes "bad message 3 " ++ which)
fault_text faults.TooLong = refused_body (codes "bad message 4")
fault_text faults.NoMemory = refused_body (codes "no memory")

-- this is said, or that memory ran out
abbrev pub Says : List ℕ → List ℕ → Type 0
Says said body = (body ≡ said) ⊎ (body ≡ refused_body (codes "no memory"))
