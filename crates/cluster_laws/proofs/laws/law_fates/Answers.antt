use Rattle.cluster_laws.proofs.FatesToldLemmas.{fates-told}
use Rattle.cluster_laws.proofs.laws.law_fates.Goals as goal

pub returns : goal.returns
returns c = fates-told c.law_after_rises.ensures
