use Rattle.std.proofs.Common.{map, string_bytes}
use Rattle.clap.specs.Words.{rows_of, found_of}
use Rattle.option_words.specs.Programs.{executor_app}
use Rattle.option_command.specs.Said.{IsExecutor}
use Rattle.option_command.proofs.Texts.{gives_plain}
use Rattle.option_command.proofs.PlainTexts.{executor_says, executor_there}
use Rattle.option_command.proofs.executor.read_executor.Goals as goal

pub returns-in-Ok-clause-plain : goal.returns-in-Ok-clause-plain
returns-in-Ok-clause-plain c = λ uses plain.
    gives_plain executor_app IsExecutor (map string_bytes c.args.words.now) uses (rows_of (found_of c.in-Ok.matches)) c.executor_said.result c.in-Ok.ensures.reads.1
    (executor_says uses (map string_bytes c.args.words.now) plain) (executor_there uses (map string_bytes c.args.words.now) plain) c.executor_said.ensures
