use Rattle.cluster_laws.proofs.ResultLemmas.{results-by_entries}
use Rattle.cluster_laws.proofs.laws.law_results.Goals as goal

pub returns : goal.returns
returns c = results-by_entries
