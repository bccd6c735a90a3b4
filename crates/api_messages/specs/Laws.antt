-- The laws of messages: reading gives exactly the message that a body means, or its first fault.
use Rattle.std.specs.Prelude.{◌≡◌, ◌↔◌, ℕ, ◌&&◌, List, [], ◌∷◌, Bool, true, option_map, Ok, Err, IsTrue}
use Rattle.std.specs.Ordering.{nat_cmp, is_lt}
use Rattle.std.specs.Cmp.Lexicographic.{slice_cmp}
use Rattle.serde_json.specs.View.{view}
use Rattle.job_values.specs.declared.limits.TheConstants.{LAST_JOB_ID, LAST_LOG_ID, LAST_SECONDS, LAST_SHARD, LAST_LINE, LAST_LOG_MOMENT, LONGEST_NAME, LONGEST_RUN_PARAM, LONGEST_RUN_WORD, LONGEST_RESULT, LONGEST_BODY, BATCH_ITEMS}
use Rattle.job_values.specs.declared.run.CallbackItem.{CallbackItem}
use Rattle.api_messages.specs.Members.{Cell, Row}
use Rattle.api_messages.specs.Tables.{run_rows, job_rows, log_rows, log_answer_rows, item_rows, result_rows, registry_rows, return_rows, manage_rows}
use Rattle.api_messages.specs.Meaning.{IsBodyOf, HasBodyFault, IsMessage, HasFault, MeansItem, IsItemFault, IsCallback, HasCallbackFault}
use Rattle.api_messages.specs.Reading.{message_at, one_item_at, callbacks_at}
use Rattle.api_messages.specs.Seen.{run_cells, idle_beat_cells, kill_cells, log_cells, log_answer_cells, item_cells, registry_cells, return_cells, manage_cells}
use Rattle.api_messages.specs.declared.fault.MessageFault.{MessageFault}
use Rattle.api_messages.specs.declared.idle_beat.IdleBeatMessage.{IdleBeatMessage}
use Rattle.api_messages.specs.declared.kill.KillMessage.{KillMessage}
use Rattle.api_messages.specs.declared.log.LogMessage.{LogMessage}
use Rattle.api_messages.specs.declared.log_answer.LogAnswer.{LogAnswer}
use Rattle.api_messages.specs.declared.manage.ManageMessage.{ManageMessage}
use Rattle.api_messages.specs.declared.registry.RegistryMessage.{RegistryMessage}
use Rattle.api_messages.specs.declared.returned.ReturnMessage.{ReturnMessage}
use Rattle.api_messages.specs.declared.run.RunMessage.{RunMessage}

-- a body is read as a message exactly where it means that message
abbrev pub MessageExact : Type 0
MessageExact = (rows : List Row) (bytes : List ℕ) (cells : List Cell) → (message_at rows bytes ≡ Ok cells) ↔ IsMessage rows bytes cells

-- a body is refused with a fault exactly where it has that fault
abbrev pub FaultExact : Type 0
FaultExact = (rows : List Row) (bytes : List ℕ) (e : MessageFault) → (message_at rows bytes ≡ Err e) ↔ HasFault rows bytes e

-- the same of a body that is one item
abbrev pub ItemExact : Type 0
ItemExact = (bytes : List ℕ) (cells : List Cell) → (one_item_at bytes ≡ Ok cells) ↔ IsBodyOf MeansItem bytes cells

abbrev pub ItemFaultExact : Type 0
ItemFaultExact = (bytes : List ℕ) (e : MessageFault) → (one_item_at bytes ≡ Err e) ↔ HasBodyFault IsItemFault bytes e

-- and of a callback
abbrev pub CallbackExact : Type 0
CallbackExact = (bytes : List ℕ) (items : List (List Cell)) → (callbacks_at bytes ≡ Ok items) ↔ IsCallback bytes items

abbrev pub CallbackFaultExact : Type 0
CallbackFaultExact = (bytes : List ℕ) (e : MessageFault) → (callbacks_at bytes ≡ Err e) ↔ HasCallbackFault bytes e

-- each name is below the next, byte by byte
abbrev pub in_order : List Row → Bool
in_order [] = true
in_order (a ∷ []) = true
in_order (a ∷ b ∷ rows) = is_lt (slice_cmp nat_cmp a.name b.name) && in_order (b ∷ rows)

abbrev pub TablesInOrder : Type 0
TablesInOrder =
    IsTrue (in_order run_rows && in_order job_rows && in_order log_rows && in_order log_answer_rows && in_order item_rows && in_order result_rows && in_order registry_rows && in_order return_rows && in_order manage_rows)

-- messages whose rows have the same values are the same, but for where a content lies in memory
pub record SameValues : Type 0 where
  pub run : (m n : RunMessage) → run_cells m ≡ run_cells n → m ≡ n
  pub idle_beat : (m n : IdleBeatMessage) → idle_beat_cells m ≡ idle_beat_cells n → m ≡ n
  pub kill : (m n : KillMessage) → kill_cells m ≡ kill_cells n → m ≡ n
  pub log : (m n : LogMessage) → log_cells m ≡ log_cells n → m ≡ n
  pub log_answer : (m n : LogAnswer) → log_answer_cells m ≡ log_answer_cells n → m ≡ n
  pub item : (m n : CallbackItem) → item_cells m ≡ item_cells n → m ≡ n
  pub registry : (m n : RegistryMessage) → registry_cells m ≡ registry_cells n → m ≡ n
  pub return_code : (m n : ReturnMessage) → return_cells m ≡ return_cells n → m.code ≡ n.code
  pub return_content : (m n : ReturnMessage) → return_cells m ≡ return_cells n → option_map view m.content ≡ option_map view n.content
  pub return_msg : (m n : ReturnMessage) → return_cells m ≡ return_cells n → m.msg ≡ n.msg
  pub manage : (m n : ManageMessage) → manage_cells m ≡ manage_cells n → m ≡ n

-- the bounds of messages and of their members, as numbers
pub record BoundsAre : Type 0 where
  pub job : LAST_JOB_ID ≡ 2147483647
  pub log : LAST_LOG_ID ≡ 9223372036854775807
  pub timeout : LAST_SECONDS ≡ 2147483647
  pub shard : LAST_SHARD ≡ 2147483647
  pub line : LAST_LINE ≡ 2147483647
  pub log_moment : LAST_LOG_MOMENT ≡ 9223372036854775807
  pub name : LONGEST_NAME ≡ 255
  pub run_param : LONGEST_RUN_PARAM ≡ 65536
  pub run_word : LONGEST_RUN_WORD ≡ 64
  pub result_text : LONGEST_RESULT ≡ 15000
  pub body : LONGEST_BODY ≡ 1048576
  pub items : BATCH_ITEMS ≡ 1000
