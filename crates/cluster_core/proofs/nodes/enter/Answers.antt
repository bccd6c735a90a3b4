use Rattle.std.proofs.Common.{ap, sym, ◌∙◌, arith}
use Rattle.trigger_pool.specs.Pool.{Queues, with_log}
use Rattle.cluster_plan.specs.Nodes.{pools_with}
use Rattle.cluster_core.proofs.EnteredLemmas.{entered-more}
use Rattle.cluster_core.proofs.nodes.enter.Goals as goal

pub loop-log-preserved : goal.loop-log-preserved
loop-log-preserved c = record {
  kept = c.add.ensures.queues ∙ ap (with_log c.loop-log.pools.kept c.log-item.result.log) c.add.ensures.answer
      ∙ ap (λ (pools : Queues). pools_with pools c.log-item.result) c.loop-log.invariant.kept
      ∙ sym (entered-more _ _ _ _ c.loop-log-test.true c.log-item.is);
  room = omega (arith, c.add.ensures.logs);
}
