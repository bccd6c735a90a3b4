use Rattle.std.proofs.Common.{arith}
use Rattle.cluster_plan.specs.Nodes.{after_take}
use Rattle.cluster_core.proofs.KeptLemmas.{nodes-put}
use Rattle.cluster_core.proofs.sendings.take_at.Goals as goal

pub returns : goal.returns
returns c = nodes-put _ c.args.admin c.get.result _ _ (after_take c.args.pool c.args.pick) c.get.ensures.value (omega arith) c.index_mut.ensures.value c.take_from.ensures
