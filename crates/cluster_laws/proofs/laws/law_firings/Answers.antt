use Rattle.cluster_laws.proofs.FiredLogLemmas.{firings-open}
use Rattle.cluster_laws.proofs.laws.law_firings.Goals as goal

pub returns : goal.returns
returns c = firings-open
