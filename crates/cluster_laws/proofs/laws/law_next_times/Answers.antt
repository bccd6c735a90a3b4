use Rattle.cluster_laws.proofs.MomentLemmas.{next-carried}
use Rattle.cluster_laws.proofs.laws.law_next_times.Goals as goal

pub returns : goal.returns
returns c = next-carried
