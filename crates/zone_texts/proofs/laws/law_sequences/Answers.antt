use Rattle.zone_texts.proofs.GrammarParts.{sequences}
use Rattle.zone_texts.proofs.laws.law_sequences.Goals as goal

pub returns : goal.returns
returns g c = sequences _ _
