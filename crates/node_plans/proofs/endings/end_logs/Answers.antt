use Rattle.std.proofs.Common.{List, ◌++◌, ap, sym, ◌∙◌}
use Rattle.job_records.specs.declared.change.Change.{Change}
use Rattle.cluster_history.specs.Settling.{log_with}
use Rattle.node_plans.specs.Endings.{ending_of}
use Rattle.node_plans.proofs.EndingLemmas.{endings-more}
use Rattle.node_plans.proofs.endings.end_logs.Goals as goal

pub loop-id-preserved : goal.loop-id-preserved
loop-id-preserved c =
    let logs = c.args.records.now.kept.logs in
    let one : List Change = ending_of (log_with c.id-item.result logs) in
    c.in_ok-end_log.ensures ∙ ap (λ (cs : List Change). cs ++ one) c.loop-id.invariant
    ∙ sym (endings-more logs c.deref-id-items.result.now c.loop-id.id-index c.id-item.result c.loop-id-test.true c.id-item.is)
