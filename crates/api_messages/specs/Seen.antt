-- The values of a message, in the order of its rows.
use Rattle.std.specs.Prelude.{pos, List, [], ◌∷◌, option_map}
use Rattle.serde_json.specs.View.{view}
use Rattle.job_values.specs.declared.run.CallbackItem.{CallbackItem}
use Rattle.api_messages.specs.Members.{Cell, int, text, bool, text_or_none, value_or_none}
use Rattle.api_messages.specs.declared.idle_beat.IdleBeatMessage.{IdleBeatMessage}
use Rattle.api_messages.specs.declared.item.Told.{Told}
use Rattle.api_messages.specs.declared.kill.KillMessage.{KillMessage}
use Rattle.api_messages.specs.declared.log.LogMessage.{LogMessage}
use Rattle.api_messages.specs.declared.log_answer.LogAnswer.{LogAnswer}
use Rattle.api_messages.specs.declared.manage.ManageMessage.{ManageMessage}
use Rattle.api_messages.specs.declared.registry.RegistryMessage.{RegistryMessage}
use Rattle.api_messages.specs.declared.returned.ReturnMessage.{ReturnMessage}
use Rattle.api_messages.specs.declared.run.RunMessage.{RunMessage}

abbrev pub run_cells : RunMessage → List Cell
run_cells m =
    int (pos m.broadcast_index)
    ∷ int (pos m.broadcast_total)
    ∷ text m.executor_block_strategy
    ∷ text m.executor_handler
    ∷ text m.executor_params
    ∷ int m.executor_timeout
    ∷ text m.glue_source
    ∷ text m.glue_type
    ∷ int m.glue_updatetime
    ∷ int (pos m.job_id)
    ∷ int m.log_date_time
    ∷ int (pos m.log_id)
    ∷ []

abbrev pub idle_beat_cells : IdleBeatMessage → List Cell
idle_beat_cells m = int (pos m.job_id) ∷ []

abbrev pub kill_cells : KillMessage → List Cell
kill_cells m = int (pos m.job_id) ∷ []

abbrev pub log_cells : LogMessage → List Cell
log_cells m = int m.from_line_num ∷ int m.log_date_tim ∷ int (pos m.log_id) ∷ []

abbrev pub log_answer_cells : LogAnswer → List Cell
log_answer_cells m = int m.from_line_num ∷ bool m.is_end ∷ text m.log_content ∷ int m.to_line_num ∷ []

abbrev pub told_cells : Told → List Cell
told_cells m = int m.code ∷ text m.msg ∷ []

abbrev pub item_cells : CallbackItem → List Cell
item_cells m = int m.code ∷ text m.msg ∷ int (pos m.log_moment) ∷ int (pos m.log) ∷ []

abbrev pub registry_cells : RegistryMessage → List Cell
registry_cells m = text m.registry_group ∷ text m.registry_key ∷ text m.registry_value ∷ []

abbrev pub return_cells : ReturnMessage → List Cell
return_cells m = int m.code ∷ value_or_none (option_map view m.content) ∷ text_or_none m.msg ∷ []

abbrev pub manage_cells : ManageMessage → List Cell
manage_cells m = text m.line ∷ []
