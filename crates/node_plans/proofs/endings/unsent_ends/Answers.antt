use Rattle.std.proofs.Common.{◌≡◌, List, [], ◌∷◌, ◌++◌, ◌+◌, true, false, cond, take, ap, sym, ◌∙◌, append-nil}
use Rattle.job_records.specs.declared.change.Change.{Change}
use Rattle.job_records.specs.declared.change.Change.TheVariants.{PutLog}
use Rattle.job_records.specs.declared.log.Log.{Log}
use Rattle.cluster_history.specs.Settling.{is_unsent, ended_log}
use Rattle.node_plans.specs.Endings.{unsent_endings}
use Rattle.node_plans.proofs.ReopenLemmas.{unsent-more}
use Rattle.node_plans.proofs.endings.unsent_ends.Goals as goal
use Rattle.node_plans.proofs.endings.unsent_ends.Goals.{then-is_unsent+in_ok-end_row, else-is_unsent}

pub loop-log-preserved : goal.loop-log-preserved
loop-log-preserved c =
    let logs : List Log = c.logs-log-items.result.now in
    let log : Log = c.log-item.result in
    let before : List Change = unsent_endings (take c.loop-log.log-index c.logs-log-items.result.now) in
    let more : unsent_endings (take (c.loop-log.log-index + 1) logs) ≡ unsent_endings (take c.loop-log.log-index logs) ++ cond (is_unsent log) (PutLog (ended_log log) ∷ []) [] =
    unsent-more logs c.loop-log.log-index log c.loop-log-test.true c.log-item.is in
    elim c.if-is_unsent.branch [
      | then-is_unsent+in_ok-end_row w ↦
          let test : is_unsent c.log-item.result ≡ true = sym c.is_unsent.ensures ∙ w.if-is_unsent.true in
          let here : cond (is_unsent c.log-item.result) (PutLog (ended_log c.log-item.result) ∷ []) [] ≡ PutLog (ended_log c.log-item.result) ∷ [] = ap (λ b. cond b (PutLog (ended_log c.log-item.result) ∷ []) []) test in
          cc (more, here, w.in_ok-end_row.ensures, w.changes-is, c.loop-log.invariant)
      | else-is_unsent w ↦
          let test : is_unsent c.log-item.result ≡ false = sym c.is_unsent.ensures ∙ w.if-is_unsent.false in
          let here : cond (is_unsent c.log-item.result) (PutLog (ended_log c.log-item.result) ∷ []) [] ≡ [] = ap (λ b. cond b (PutLog (ended_log c.log-item.result) ∷ []) []) test in
          cc (more, here, append-nil before, w.changes-is, c.loop-log.invariant)
    ]
