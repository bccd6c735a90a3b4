use Rattle.cluster_laws.proofs.OnceLemmas.{each-once}
use Rattle.cluster_laws.proofs.laws.law_dues.Goals as goal

pub returns : goal.returns
returns c = each-once c.law_after_rises.ensures
