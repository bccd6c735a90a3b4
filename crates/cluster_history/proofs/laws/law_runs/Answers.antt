use Rattle.cluster_history.proofs.LegalRuns.{runs-legal}
use Rattle.cluster_history.proofs.laws.law_runs.Goals as goal

pub returns : goal.returns
returns c = runs-legal
