-- What is shown of a log.
use Rattle.std.proofs.Common.{◌≡◌, ℕ, [], Option, Some, None, refl, ap, sym, ◌∙◌}
use Rattle.job_events.specs.declared.cluster.ClusterEvent.TheVariants.{ReadLog}
use Rattle.job_events.specs.declared.cluster.ClusterRefusal.TheVariants.{NoLog}
use Rattle.job_events.specs.declared.cluster.ClusterReply.TheVariants.{Refused, Shown}
use Rattle.job_records.specs.declared.log.Log.{Log}
use Rattle.job_records.specs.Rows.{row_with}
use Rattle.job_records.specs.Tables.{Tables}
use Rattle.cluster_history.specs.History.{History, accepted}
use Rattle.cluster_history.specs.Logs.{logs_of}
use Rattle.cluster_history.specs.Settling.{log_with}
use Rattle.cluster_history.specs.Replies.{log_reply, shown_of}
use Rattle.cluster_plan.specs.declared.prepared.NodeChange.TheVariants as node
use Rattle.cluster_plan.specs.Kept.{Kept}
use Rattle.cluster_plan.specs.Plans.{IsPlanned}
use Rattle.cluster_plan.specs.Stands.{Stands}
use Rattle.cluster_plan.proofs.PlanLemmas.{planned-refused, planned-answered}

-- the log that is kept is the one that was opened
found-log : (kept : Kept) (h : History) (id : ℕ) (o : Option Log) → row_with (λ log. log.id) id kept.tables.logs ≡ o → Stands kept h → log_with id (logs_of h) ≡ o
found-log kept h id o is s = sym (ap (λ (t : Tables). log_with id t.logs) s.keeps.tables) ∙ is

-- a log that is not there
pub planned-no_log : (kept : Kept) (id : ℕ) → row_with (λ log. log.id) id kept.tables.logs ≡ None → IsPlanned kept (ReadLog id) (record { reply = Refused NoLog; changes = []; node = node.Nothing })
planned-no_log kept id is = planned-refused kept (ReadLog id) NoLog (λ h s. ap log_reply (found-log kept (accepted h) id None is s))

-- a log that is there
pub planned-shown : (kept : Kept) (id : ℕ) (log : Log) → row_with (λ log. log.id) id kept.tables.logs ≡ Some log → IsPlanned kept (ReadLog id) (record { reply = Shown (shown_of log); changes = []; node = node.Nothing })
planned-shown kept id log is =
    planned-answered kept (ReadLog id) (Shown (shown_of log)) tt refl (λ h s. ap log_reply (found-log kept (accepted h) id (Some log) is s))
    (λ h s. record { settings = s.keeps.settings; tables = s.keeps.tables; scan = s.keeps.scan; taken = s.keeps.taken; nodes = s.keeps.nodes })
