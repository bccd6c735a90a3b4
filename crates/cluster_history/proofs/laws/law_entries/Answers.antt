use Rattle.cluster_history.proofs.Places.{entries-in_order}
use Rattle.cluster_history.proofs.laws.law_entries.Goals as goal

pub returns : goal.returns
returns c = entries-in_order
