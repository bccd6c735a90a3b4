use Rattle.cluster_laws.proofs.RegisteredLemmas.{registrations-stand}
use Rattle.cluster_laws.proofs.ListLemmas.{lists-by_entries}
use Rattle.cluster_laws.proofs.laws.law_registrations.Goals as goal

pub returns-clause-rows : goal.returns-clause-rows
returns-clause-rows c = registrations-stand

pub returns-clause-lists : goal.returns-clause-lists
returns-clause-lists c = lists-by_entries
