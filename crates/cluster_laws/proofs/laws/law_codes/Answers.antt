use Rattle.cluster_laws.proofs.CodeLemmas.{codes-by_entries}
use Rattle.cluster_laws.proofs.laws.law_codes.Goals as goal

pub returns : goal.returns
returns c = codes-by_entries
