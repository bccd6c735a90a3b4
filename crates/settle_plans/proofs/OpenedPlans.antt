-- Plans of an admin that opens logs and changes the row of one.
use Rattle.std.proofs.Common.{◌≡◌, ℕ, ◌+◌, ◌<◌, ◌≤◌, List, [], ◌∷◌, ◌++◌, false, Some, length, map, refl, sym, ap, ◌∙◌, subst}
use Rattle.job_values.specs.declared.limits.TheConstants.{ADMINS}
use Rattle.job_events.specs.declared.cluster.ClusterEvent.{ClusterEvent}
use Rattle.job_events.specs.declared.cluster.ClusterReply.{ClusterReply}
use Rattle.job_records.specs.declared.change.Change.{Change}
use Rattle.job_records.specs.declared.change.Change.TheVariants.{PutLog}
use Rattle.job_records.specs.declared.log.Log.{Log}
use Rattle.job_records.specs.Changes.{applied_all, AreAllowed}
use Rattle.job_records.specs.Rules.{KeepsRules}
use Rattle.job_records.specs.Tables.{Tables}
use Rattle.job_records.proofs.Keeping.{applied_append, all_keep}
use Rattle.cluster_history.specs.History.{History, After, accepted, is_refusal}
use Rattle.cluster_history.specs.Nodes.{runs}
use Rattle.cluster_history.specs.Orders.{taken_of}
use Rattle.cluster_history.specs.Jobs.{scan_of}
use Rattle.cluster_history.specs.Firings.{Shot}
use Rattle.cluster_history.specs.Openings.{rows_of, Pools, placed_from}
use Rattle.cluster_history.specs.Logs.{logs_of, last_log, pools_of, placed_at}
use Rattle.cluster_history.specs.Records.{records_of}
use Rattle.cluster_history.specs.Replies.{reply_of}
use Rattle.cluster_history.specs.Runs.{IsWithin}
use Rattle.cluster_history.specs.Settling.{log_with, log_changed}
use Rattle.cluster_history.proofs.RowIds.{placed-rise}
use Rattle.cluster_plan.specs.declared.prepared.Entering.{Entering}
use Rattle.cluster_plan.specs.declared.prepared.NodeChange.TheVariants as node
use Rattle.cluster_plan.specs.Kept.{Kept, pools_at, pools_in}
use Rattle.cluster_plan.specs.Nodes.{NodeKept, entered, after_firing}
use Rattle.cluster_plan.specs.Plans.{IsPlanned, HasIdsFirst}
use Rattle.cluster_plan.specs.Stands.{Stands, node_of, ring_of, queues_of, routes_of}
use Rattle.cluster_plan.proofs.PlanLemmas.{planned}
use Rattle.cluster_plan.proofs.StandsLemmas.{node-by, nodes-changed}
use Rattle.log_opening.specs.Openings.{entering_of}
use Rattle.log_opening.proofs.FiringLemmas.{fired-allowed, fired-ids_behind, fired-tables, pools-fired_by, pools-left, fired_changes, queues_opened, with_logs}
use Rattle.settle_plans.proofs.RowLemmas.{put-log, opened-allowed, KeepsSending}

-- an admin that opened these logs
abbrev pub opener_node : History → ℕ → List Shot → ℕ → NodeKept
opener_node h admin shots a = record { running = runs h a; ring = ring_of h a; pools = queues_opened h admin shots a; routes = routes_of h a }

-- the rows once an admin opened these logs and the log with this id was changed
abbrev pub opened_rows : History → ℕ → ℕ → (Log → Log) → List Shot → Tables
opened_rows h admin id change shots =
    with_logs (record (records_of h) { logs = log_changed id change (logs_of h) }) (last_log h + length shots) (rows_of (placed_at h admin shots))

-- an entry by which an admin opens these logs and changes the log with this id, and nothing else
pub record OpensLogs (h : History) (e : ClusterEvent) (r : ClusterReply) (admin id : ℕ) (change : Log → Log) (shots : List Shot) : Type 0 where
  pub scan : scan_of h ≡ scan_of (After h e r)
  pub taken : taken_of h ≡ taken_of (After h e r)
  pub tables : opened_rows h admin id change shots ≡ records_of (After h e r)
  pub nodes : (a : ℕ) → opener_node h admin shots a ≡ node_of (After h e r) a

-- the logs that enter the pools of an admin
abbrev pub entered_by : Kept → Pools → List Shot → List Entering
entered_by kept pools shots = map entering_of (placed_from kept.tables.last.log pools shots)

-- what is changed for it: the logs that are opened, and then the row of the log that is changed
pub record OpensAndPuts (kept : Kept) (pools : Pools) (shots : List Shot) (change : Log → Log) (log row : Log) (changes : List Change) (entering : List Entering) : Type 0 where
  pub ids : kept.tables.last.log + length shots ≤ 9223372036854775807
  pub found : log_with row.id kept.tables.logs ≡ Some log
  pub made : row ≡ change log
  pub sending : KeepsSending log row
  pub rows : changes ≡ fired_changes kept pools shots ++ PutLog row ∷ []
  pub enters : entering ≡ entered_by kept pools shots

-- the rows then
opened-tables : (kept : Kept) (h : History) (admin : ℕ) (pools : Pools) (shots : List Shot) (change : Log → Log) (log row : Log) (changes : List Change) (entering : List Entering) → admin < ADMINS → pools ≡ pools_in (pools_at kept admin) → KeepsRules kept.tables
    → OpensAndPuts kept pools shots change log row changes entering → Stands kept h → applied_all kept.tables changes ≡ opened_rows h admin row.id change shots
opened-tables kept h admin pools shots change log row changes entering below here rules opens s =
    let rules_h : KeepsRules (records_of h) = subst KeepsRules s.keeps.tables rules in
    let middle = fired-tables kept h admin pools shots below here rules opens.ids s in
    let after : KeepsRules (with_logs (records_of h) (last_log h + length shots) (rows_of (placed_at h admin shots))) =
    subst KeepsRules middle (all_keep kept.tables (fired_changes kept pools shots) rules (fired-allowed kept.tables pools shots rules opens.ids)) in
    let found : log_with row.id (logs_of h) ≡ Some log = subst (λ (t : Tables). log_with row.id t.logs ≡ Some log) s.keeps.tables opens.found in
    ap (applied_all kept.tables) opens.rows
    ∙ applied_append kept.tables (fired_changes kept pools shots) (PutLog row ∷ [])
    ∙ ap (λ (t : Tables). applied_all t (PutLog row ∷ [])) middle
    ∙ put-log (records_of h) (last_log h + length shots) change log row (rows_of (placed_at h admin shots)) rules_h after (placed-rise (last_log h) (pools_of h admin) shots) found opens.made

-- what is planned for it answers it
pub planned-opened : (kept : Kept) (e : ClusterEvent) (r : ClusterReply) (admin : ℕ) (pools : Pools) (shots : List Shot) (change : Log → Log) (log row : Log) (changes : List Change) (entering : List Entering)
    → admin < ADMINS → pools ≡ pools_in (pools_at kept admin) → KeepsRules kept.tables → OpensAndPuts kept pools shots change log row changes entering → IsWithin e → is_refusal r ≡ false
    → ((h : History) → Stands kept (accepted h) → reply_of h e ≡ r)
    → ((h : History) → Stands kept h → OpensLogs h e r admin row.id change shots)
    → IsPlanned kept e (record { reply = r; changes = changes; node = node.Fires admin entering })
planned-opened kept e r admin pools shots change log row changes entering below here rules opens within accepts replies after =
    planned kept e (record { reply = r; changes = changes; node = node.Fires admin entering })
    (subst (λ cs. AreAllowed kept.tables cs) (sym opens.rows) (opened-allowed kept.tables pools shots log row rules opens.ids opens.found opens.sending))
    (subst HasIdsFirst (sym opens.rows) (fired-ids_behind kept.tables pools shots (PutLog row) refl)) within accepts replies
    (λ h s.
    let then_ : OpensLogs h e r admin row.id change shots = after h s in
    record {
      settings = s.keeps.settings;
      scan = s.keeps.scan ∙ then_.scan;
      taken = s.keeps.taken ∙ then_.taken;
      tables = opened-tables kept h admin pools shots change log row changes entering below here rules opens s ∙ then_.tables;
      nodes = nodes-changed kept h (After h e r) admin (after_firing entering) below s
          (node-by _ _ _ _ _ _ refl refl (ap (entered (queues_of h admin)) opens.enters ∙ pools-fired_by kept h admin pools shots below here s) ∙ then_.nodes admin)
          (λ a other. node-by _ _ _ _ _ _ refl refl (pools-left h admin a shots other) ∙ then_.nodes a);
    })
