use Rattle.zone_texts.proofs.NameLaws.{names}
use Rattle.zone_texts.proofs.laws.law_names.Goals as goal

pub returns : goal.returns
returns c = names
