use Rattle.std.proofs.Common.{arith}
use Rattle.cluster_plan.specs.Nodes.{after_step}
use Rattle.cluster_core.proofs.KeptLemmas.{nodes-put}
use Rattle.cluster_core.proofs.nodes.step_at.Goals as goal

pub returns : goal.returns
returns c = nodes-put _ c.args.admin c.get.result _ _ (after_step c.args.put c.args.logs.now) c.get.ensures.value (omega arith) c.index_mut.ensures.value c.step.ensures
