-- The values of a message tell it.
use Rattle.std.proofs.Common.{◌≡◌, ℕ, zero, suc, ℤ, pos, negsuc, List, [], ◌∷◌, Bool, false, Option, Some, None, refl}
use Rattle.serde_json.specs.Data.{Data}
use Rattle.job_values.specs.declared.run.CallbackItem.{CallbackItem}
use Rattle.api_messages.specs.Members.{Cell, none, int, text, bool, value, text_or_none, value_or_none}
use Rattle.api_messages.specs.declared.idle_beat.IdleBeatMessage.{IdleBeatMessage}
use Rattle.api_messages.specs.declared.kill.KillMessage.{KillMessage}
use Rattle.api_messages.specs.declared.log.LogMessage.{LogMessage}
use Rattle.api_messages.specs.declared.log_answer.LogAnswer.{LogAnswer}
use Rattle.api_messages.specs.declared.manage.ManageMessage.{ManageMessage}
use Rattle.api_messages.specs.declared.registry.RegistryMessage.{RegistryMessage}
use Rattle.api_messages.specs.declared.run.RunMessage.{RunMessage}

pub text_or_none_is : (a b : Option (List ℕ)) → text_or_none a ≡ text_or_none b → a ≡ b
text_or_none_is None None e = refl
text_or_none_is (Some s) (Some t) e = cc
text_or_none_is None (Some t) e = absurd cc
text_or_none_is (Some s) None e = absurd cc

pub value_or_none_is : (a b : Option Data) → value_or_none a ≡ value_or_none b → a ≡ b
value_or_none_is None None e = refl
value_or_none_is (Some s) (Some t) e = cc
value_or_none_is None (Some t) e = absurd cc
value_or_none_is (Some s) None e = absurd cc

-- ---- a message again from its values

abbrev pub place : ℕ → List Cell → Cell
place n [] = none
place zero (c ∷ cs) = c
place (suc n) (c ∷ cs) = place n cs

abbrev pub whole_of : Cell → ℤ
whole_of (int z) = z
whole_of none = pos 0
whole_of (text s) = pos 0
whole_of (bool b) = pos 0
whole_of (value d) = pos 0

abbrev pub natural : ℤ → ℕ
natural (pos n) = n
natural (negsuc n) = 0

abbrev pub text_of : Cell → List ℕ
text_of (text s) = s
text_of none = []
text_of (int z) = []
text_of (bool b) = []
text_of (value d) = []

abbrev pub truth_of : Cell → Bool
truth_of (bool b) = b
truth_of none = false
truth_of (int z) = false
truth_of (text s) = false
truth_of (value d) = false

abbrev pub run_of : List Cell → RunMessage
run_of cs = record {
  broadcast_index = natural (whole_of (place 0 cs));
  broadcast_total = natural (whole_of (place 1 cs));
  executor_block_strategy = text_of (place 2 cs);
  executor_handler = text_of (place 3 cs);
  executor_params = text_of (place 4 cs);
  executor_timeout = whole_of (place 5 cs);
  glue_source = text_of (place 6 cs);
  glue_type = text_of (place 7 cs);
  glue_updatetime = whole_of (place 8 cs);
  job_id = natural (whole_of (place 9 cs));
  log_date_time = whole_of (place 10 cs);
  log_id = natural (whole_of (place 11 cs));
}

abbrev pub idle_beat_of : List Cell → IdleBeatMessage
idle_beat_of cs = record { job_id = natural (whole_of (place 0 cs)) }

abbrev pub kill_of : List Cell → KillMessage
kill_of cs = record { job_id = natural (whole_of (place 0 cs)) }

abbrev pub log_of : List Cell → LogMessage
log_of cs = record { from_line_num = whole_of (place 0 cs); log_date_tim = whole_of (place 1 cs); log_id = natural (whole_of (place 2 cs)) }

abbrev pub log_answer_of : List Cell → LogAnswer
log_answer_of cs = record { from_line_num = whole_of (place 0 cs); is_end = truth_of (place 1 cs); log_content = text_of (place 2 cs); to_line_num = whole_of (place 3 cs) }

abbrev pub item_of : List Cell → CallbackItem
item_of cs = record { log = natural (whole_of (place 3 cs)); log_moment = natural (whole_of (place 2 cs)); code = whole_of (place 0 cs); msg = text_of (place 1 cs) }

abbrev pub registry_of : List Cell → RegistryMessage
registry_of cs = record { registry_group = text_of (place 0 cs); registry_key = text_of (place 1 cs); registry_value = text_of (place 2 cs) }

abbrev pub manage_of : List Cell → ManageMessage
manage_of cs = record { line = text_of (place 0 cs) }
