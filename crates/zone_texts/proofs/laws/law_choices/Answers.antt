use Rattle.zone_texts.proofs.GrammarParts.{choices}
use Rattle.zone_texts.proofs.laws.law_choices.Goals as goal

pub returns : goal.returns
returns g c = choices _
