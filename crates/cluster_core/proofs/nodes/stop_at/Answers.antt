use Rattle.std.proofs.Common.{arith}
use Rattle.cluster_plan.specs.Nodes.{stopped}
use Rattle.cluster_core.proofs.KeptLemmas.{nodes-put}
use Rattle.cluster_core.proofs.nodes.stop_at.Goals as goal

pub returns : goal.returns
returns c = nodes-put _ c.args.admin c.get.result _ _ stopped c.get.ensures.value (omega arith) c.index_mut.ensures.value c.stop.ensures
