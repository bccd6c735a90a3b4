use Rattle.cluster_history.proofs.Openings.{openings-kept}
use Rattle.cluster_history.proofs.laws.law_opening.Goals as goal

pub returns : goal.returns
returns c = openings-kept
