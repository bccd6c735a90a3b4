use Rattle.std.proofs.Common.{refl, arith}
use Rattle.cluster_plan.specs.Nodes.{started}
use Rattle.cluster_core.proofs.KeptLemmas.{nodes-put}
use Rattle.cluster_core.proofs.nodes.start_at.Goals as goal

pub returns : goal.returns
returns c = nodes-put _ c.args.admin c.get.result _ _ started c.get.ensures.value (omega arith) c.index_mut.ensures.value refl
