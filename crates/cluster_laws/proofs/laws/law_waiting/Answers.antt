use Rattle.cluster_laws.proofs.FateLemmas.{waiting-is}
use Rattle.cluster_laws.proofs.laws.law_waiting.Goals as goal

pub returns : goal.returns
returns c = waiting-is
