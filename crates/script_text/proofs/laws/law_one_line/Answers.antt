use Rattle.script_text.proofs.SpellingLaws.{said, found}
use Rattle.script_text.proofs.laws.law_one_line.Goals as goal

pub returns : goal.returns
returns c = record { line = said; only = found }
