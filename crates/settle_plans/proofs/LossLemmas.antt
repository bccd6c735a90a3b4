-- Lost logs.
use Rattle.std.proofs.Common.{◌≡◌, ℕ, [], ◌∷◌, Option, Some, refl, sym, ap, ◌∙◌, subst}
use Rattle.job_values.specs.declared.limits.TheConstants.{FAILURE}
use Rattle.job_events.specs.declared.cluster.ClusterEvent.TheVariants as event
use Rattle.job_events.specs.declared.cluster.ClusterReply.TheVariants as reply
use Rattle.job_records.specs.declared.change.Change.TheVariants.{PutLog}
use Rattle.job_records.specs.declared.log.Log.{Log}
use Rattle.job_records.specs.Rules.{KeepsRules}
use Rattle.job_records.specs.Tables.{Tables}
use Rattle.job_records.proofs.RowLemmas.{rises-from_rising}
use Rattle.cluster_history.specs.History.{History, accepted}
use Rattle.cluster_history.specs.Logs.{logs_of, last_log}
use Rattle.cluster_history.specs.Records.{records_of}
use Rattle.cluster_history.specs.Registrations.{registry_of}
use Rattle.cluster_history.specs.Replies.{reply_of, lost_reply}
use Rattle.cluster_history.specs.Settling.{log_with, log_changed, settled_log, is_lost, first_lost, lost_text, logs_lost}
use Rattle.cluster_history.proofs.RowIds.{logs_rise}
use Rattle.cluster_plan.specs.declared.prepared.NodeChange.TheVariants as node
use Rattle.cluster_plan.specs.Kept.{Kept}
use Rattle.cluster_plan.specs.Plans.{IsPlanned}
use Rattle.cluster_plan.specs.Stands.{Stands}
use Rattle.cluster_plan.proofs.PutLemmas.{put-changed}
use Rattle.cluster_plan.proofs.RowPlans.{planned-rows}
use Rattle.settle_plans.proofs.RowLemmas.{chosen-found, put-allowed}

-- the reply to a look for lost logs, by what is kept
pub loss-reply : (kept : Kept) (h : History) (at : ℕ) (log : Option Log) → first_lost at kept.tables.registry kept.tables.logs ≡ log → Stands kept (accepted h) → reply_of h (event.Lost at) ≡ lost_reply log
loss-reply kept h at log chosen s = sym (ap (λ (t : Tables). lost_reply (first_lost at t.registry t.logs)) s.keeps.tables) ∙ ap lost_reply chosen

-- a lost log has its result
pub planned-lost : (kept : Kept) (at : ℕ) (log row : Log) → KeepsRules kept.tables → first_lost at kept.tables.registry kept.tables.logs ≡ Some log → row ≡ settled_log at FAILURE lost_text log
    → IsPlanned kept (event.Lost at) (record { reply = reply.Lost log.id; changes = PutLog row ∷ []; node = node.Nothing })
planned-lost kept at log row rules chosen made =
    let id : row.id ≡ log.id = ap (λ (l : Log). l.id) made in
    let found = (chosen-found (is_lost at kept.tables.registry) 0 kept.tables.last.log kept.tables.logs log rules.logs.rising chosen).1 in
    let there : log_with row.id kept.tables.logs ≡ Some log = subst (λ n. log_with n kept.tables.logs ≡ Some log) (sym id) found in
    planned-rows kept (event.Lost at) (reply.Lost log.id) (PutLog row ∷ [])
    (put-allowed kept.tables log row rules there (record { code = ap (λ (l : Log). l.trigger_code) made; address = ap (λ (l : Log). l.address) made })) refl tt refl
    (λ h. record { scan = refl; taken = refl; nodes = refl })
    (λ h s. loss-reply kept h at (Some log) chosen s)
    (λ h s.
    let there_h : log_with row.id (logs_of h) ≡ Some log = subst (λ (t : Tables). log_with row.id t.logs ≡ Some log) s.keeps.tables there in
    let chosen_h : first_lost at (registry_of h) (logs_of h) ≡ Some log = subst (λ (t : Tables). first_lost at t.registry t.logs ≡ Some log) s.keeps.tables chosen in
    let rises = rises-from_rising (λ (l : Log). l.id) 0 (last_log h) (logs_of h) (logs_rise h s.opens) in
    ap (λ ls. record (records_of h) { logs = ls })
    (put-changed (λ (l : Log). l.id) (settled_log at FAILURE lost_text) 0 log row (logs_of h) rises there_h made
    ∙ ap (λ n. log_changed n (settled_log at FAILURE lost_text) (logs_of h)) id
    ∙ ap (λ o. logs_lost at o (logs_of h)) (sym chosen_h)))
