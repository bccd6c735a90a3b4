use Rattle.cluster_laws.proofs.OwnerLemmas.{one-scan}
use Rattle.cluster_laws.proofs.laws.law_scans.Goals as goal

pub returns : goal.returns
returns c = one-scan
