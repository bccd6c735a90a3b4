use Rattle.std.proofs.Common.{ap, arith}
use Rattle.trigger_pool.specs.Pool.{Queues}
use Rattle.cluster_plan.specs.Nodes.{node_in, after_sending}
use Rattle.cluster_core.proofs.KeptLemmas.{nodes-put}
use Rattle.cluster_core.proofs.sendings.send_at.Goals as goal

pub returns : goal.returns
returns c =
    nodes-put _ c.args.admin c.get.result _ _ (after_sending (record { job = c.args.job; start = c.args.start; end = c.args.end })) c.get.ensures.value (omega arith) c.index_mut.ensures.value
    (ap (λ (q : Queues). record (node_in c.index_mut.result.now) { pools = q }) c.report.ensures.kept)
