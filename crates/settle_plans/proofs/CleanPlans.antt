-- Old logs that are dropped.
use Rattle.std.proofs.Common.{◌≡◌, ℕ, List, [], ◌∷◌, false, map, length, refl, sym, ap, ◌∙◌, subst}
use Rattle.std.specs.List.{filter, count_by, list_any}
use Rattle.job_events.specs.declared.cluster.ClusterEvent.TheVariants.{Clean}
use Rattle.job_events.specs.declared.cluster.ClusterReply.TheVariants.{Cleaned}
use Rattle.job_records.specs.declared.change.Change.{Change}
use Rattle.job_records.specs.declared.log.Log.{Log}
use Rattle.job_records.specs.Changes.{applied_all}
use Rattle.job_records.specs.Tables.{Tables}
use Rattle.cluster_history.specs.Settling.{is_old, logs_left}
use Rattle.settle_log.specs.Results.{drop_of, Cleans}
use Rattle.cluster_plan.specs.declared.prepared.NodeChange.TheVariants as node
use Rattle.cluster_plan.specs.Kept.{Kept}
use Rattle.cluster_plan.specs.Plans.{IsPlanned, gives_ids}
use Rattle.cluster_plan.proofs.PlanLemmas.{no-ids-first}
use Rattle.cluster_plan.proofs.RowPlans.{planned-rows}

-- drops give no last ids
drops-give_none : (logs : List Log) → list_any gives_ids (map drop_of logs) ≡ false
drops-give_none [] = refl
drops-give_none (log ∷ logs) = drops-give_none logs

-- the old logs are dropped
pub planned-clean : (kept : Kept) (at : ℕ) (changes : List Change) (count : ℕ) → Cleans at kept.tables changes → count ≡ length changes
    → IsPlanned kept (Clean at) (record { reply = Cleaned count; changes = changes; node = node.Nothing })
planned-clean kept at changes count cleans many =
    planned-rows kept (Clean at) (Cleaned count) changes cleans.allowed
    (no-ids-first changes (ap (list_any gives_ids) cleans.drops ∙ drops-give_none (filter (is_old at) kept.tables.logs))) tt refl
    (λ h. record { scan = refl; taken = refl; nodes = refl })
    (λ h s. ap (λ (t : Tables). Cleaned (count_by (is_old at) t.logs)) (sym s.keeps.tables) ∙ ap Cleaned (sym (many ∙ cleans.count)))
    (λ h s. subst (λ (t : Tables). applied_all t changes ≡ record t { logs = logs_left at t.logs }) s.keeps.tables cleans.left)
