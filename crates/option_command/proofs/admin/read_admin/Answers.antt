use Rattle.std.proofs.Common.{map, string_bytes}
use Rattle.clap.specs.Words.{rows_of, found_of}
use Rattle.option_words.specs.Programs.{admin_app}
use Rattle.option_command.specs.Said.{IsAdmin}
use Rattle.option_command.proofs.Texts.{gives_plain}
use Rattle.option_command.proofs.PlainTexts.{admin_says, admin_there}
use Rattle.option_command.proofs.admin.read_admin.Goals as goal

pub returns-in-Ok-clause-plain : goal.returns-in-Ok-clause-plain
returns-in-Ok-clause-plain c = λ uses plain.
    gives_plain admin_app IsAdmin (map string_bytes c.args.words.now) uses (rows_of (found_of c.in-Ok.matches)) c.admin_said.result c.in-Ok.ensures.reads.1
    (admin_says uses (map string_bytes c.args.words.now) plain) (admin_there uses (map string_bytes c.args.words.now) plain) c.admin_said.ensures
