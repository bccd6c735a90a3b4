use Rattle.script_text.proofs.ManageLaws.{words_only}
use Rattle.script_text.proofs.laws.law_management_lines.Goals as goal

pub returns : goal.returns
returns c = words_only
