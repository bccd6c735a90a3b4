use Rattle.std.proofs.Common.{ap}
use Rattle.api_messages.proofs.Values.{text_or_none_is, value_or_none_is, run_of, idle_beat_of, kill_of, log_of, log_answer_of, item_of, registry_of, manage_of}
use Rattle.api_messages.proofs.laws.law_values.Goals as goal

pub returns : goal.returns
returns c = record {
  run = λ m n e. ap run_of e;
  idle_beat = λ m n e. ap idle_beat_of e;
  kill = λ m n e. ap kill_of e;
  log = λ m n e. ap log_of e;
  log_answer = λ m n e. ap log_answer_of e;
  item = λ m n e. ap item_of e;
  registry = λ m n e. ap registry_of e;
  return_code = λ m n e. cc;
  return_content = λ m n e. value_or_none_is _ _ cc;
  return_msg = λ m n e. text_or_none_is _ _ cc;
  manage = λ m n e. ap manage_of e;
}
