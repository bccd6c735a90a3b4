use Rattle.std.proofs.Common.{arith}
use Rattle.cluster_plan.specs.Nodes.{after_ring}
use Rattle.cluster_core.proofs.KeptLemmas.{nodes-put}
use Rattle.cluster_core.proofs.nodes.turn_at.Goals as goal

pub returns : goal.returns
returns c = nodes-put _ c.args.admin c.get.result _ _ (after_ring c.args.second c.args.logs.now) c.get.ensures.value (omega arith) c.index_mut.ensures.value c.turn.ensures
