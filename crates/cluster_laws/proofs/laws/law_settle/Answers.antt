use Rattle.cluster_laws.proofs.SettleLemmas.{each_settled_once}
use Rattle.cluster_laws.proofs.ChildLemmas.{children-once}
use Rattle.cluster_laws.proofs.laws.law_settle.Goals as goal

pub returns-clause-once : goal.returns-clause-once
returns-clause-once c = each_settled_once

pub returns-clause-children : goal.returns-clause-children
returns-clause-children c = children-once
