use Rattle.cluster_core.proofs.EmptyLemmas.{stands-empty, sound-empty}
use Rattle.cluster_core.proofs.cluster.Cluster.new.Goals as goal

pub returns : goal.returns
returns c = stands-empty _ c.new.result _ _ c.new-2.ensures.items c.new.ensures c.in_ok-nodes.ensures

pub invariant_of-result : goal.invariant_of-result
invariant_of-result c = sound-empty _ c.new.result _ _ c.new-2.ensures.items c.new.ensures c.in_ok-nodes.ensures
