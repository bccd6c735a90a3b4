-- Firings by hand.
use Rattle.std.proofs.Common.{◌≡◌, ℕ, ◌+◌, ◌<◌, List, true, length, map, Option, Some, None, refl, sym, ap, ◌∙◌, subst}
use Rattle.std.specs.Prelude.{unwrap_or}
use Rattle.job_values.specs.declared.limits.TheConstants.{ADMINS}
use Rattle.job_records.specs.declared.job.Job.{Job}
use Rattle.job_values.specs.declared.words.TriggerKind.TheVariants.{Manual}
use Rattle.job_events.specs.declared.cluster.ClusterEvent.TheVariants.{TriggerJob}
use Rattle.job_events.specs.declared.cluster.ClusterReply.TheVariants as reply
use Rattle.job_events.specs.declared.cluster.ClusterRefusal.TheVariants.{IdsSpent, NoJob}
use Rattle.job_records.specs.Changes.{AreAllowed, applied_all}
use Rattle.job_records.specs.Rows.{row_with}
use Rattle.job_records.specs.Rules.{KeepsRules}
use Rattle.job_records.specs.Tables.{Tables}
use Rattle.cluster_history.specs.History.{History, After, accepted}
use Rattle.cluster_history.specs.Nodes.{runs}
use Rattle.cluster_history.specs.Looks.{job_with}
use Rattle.cluster_history.specs.Jobs.{jobs_of}
use Rattle.cluster_history.specs.Replies.{reply_after, fire_reply, refused}
use Rattle.cluster_history.specs.Firings.{shots_with, shots_asked, shots_by_hand}
use Rattle.cluster_history.specs.Groups.{groups_of}
use Rattle.cluster_history.specs.Openings.{rows_of, Pools, placed_from, opened_of}
use Rattle.cluster_history.specs.Logs.{last_log, pools_of, placed_at}
use Rattle.log_opening.specs.declared.firing.Fired.{Fired}
use Rattle.cluster_plan.specs.declared.prepared.NodeChange.TheVariants as node
use Rattle.log_opening.specs.Firing.{Fires}
use Rattle.cluster_plan.specs.Kept.{Kept, pools_at, pools_in}
use Rattle.cluster_plan.specs.Nodes.{entered, after_firing}
use Rattle.cluster_plan.specs.Plans.{IsPlanned, HasIdsFirst}
use Rattle.cluster_plan.specs.Stands.{Stands, queues_of}
use Rattle.cluster_history.specs.Records.{records_of}
use Rattle.cluster_plan.proofs.PlanLemmas.{planned, answered-running}
use Rattle.cluster_plan.proofs.StandsLemmas.{node-by, nodes-changed}
use Rattle.log_opening.proofs.FiringLemmas.{fired-allowed, fired-ids, fired-tables, pools-fired_by, pools-left, pools-seen, queues_opened, with_logs}
use Rattle.log_opening.proofs.FireLemmas.{ids-spent, ids-left}

-- the row of a job, as the history has it
pub job-found : (kept : Kept) (h : History) (job : ℕ) (found : Option Job) → row_with (λ (row : Job). row.id) job kept.tables.jobs ≡ found → Stands kept h → job_with job (jobs_of h) ≡ found
job-found kept h job found is s = ap (λ (t : Tables). row_with (λ (row : Job). row.id) job t.jobs) (sym s.keeps.tables) ∙ is

-- the shots of a firing by hand
pub shots-by_hand : (kept : Kept) (h : History) (at job : ℕ) (param : Option (List ℕ)) (row : Job) → row_with (λ (r : Job). r.id) job kept.tables.jobs ≡ Some row → Stands kept h
    → shots_asked h at job param ≡ shots_with kept.tables.groups (unwrap_or param row.spec.param) Manual at row
shots-by_hand kept h at job param row is s =
    ap (λ r. shots_by_hand (groups_of h) param at r) (job-found kept h job (Some row) is s)
    ∙ ap (λ (t : Tables). shots_with t.groups (unwrap_or param row.spec.param) Manual at row) (sym s.keeps.tables)

-- the reply to a firing by hand, by what is kept
fire-reply : (kept : Kept) (h : History) (admin at job : ℕ) (param : Option (List ℕ)) (row : Job) → admin < ADMINS → runs h admin ≡ true → row_with (λ (r : Job). r.id) job kept.tables.jobs ≡ Some row → Stands kept h
    → reply_after h (TriggerJob admin at job param)
    ≡ fire_reply kept.tables.last.log (pools_in (pools_at kept admin)) (shots_with kept.tables.groups (unwrap_or param row.spec.param) Manual at row) (Some row)
fire-reply kept h admin at job param row below running found s =
    answered-running (runs h admin) admin _ running
    ∙ ap (λ r. fire_reply (last_log h) (pools_of h admin) (shots_asked h at job param) r) (job-found kept h job (Some row) found s)
    ∙ ap (λ ss. fire_reply (last_log h) (pools_of h admin) ss (Some row)) (shots-by_hand kept h at job param row found s)
    ∙ ap (λ n. fire_reply (last_log h) n (shots_with kept.tables.groups (unwrap_or param row.spec.param) Manual at row) (Some row)) (sym (pools-seen kept h admin below s))
    ∙ ap (λ (t : Tables). fire_reply t.last.log (pools_in (pools_at kept admin)) (shots_with kept.tables.groups (unwrap_or param row.spec.param) Manual at row) (Some row)) (sym s.keeps.tables)

-- a firing by hand whose ids are spent
pub spent-fire : (kept : Kept) (h : History) (admin at job : ℕ) (param : Option (List ℕ)) (row : Job) → admin < ADMINS → runs h admin ≡ true → row_with (λ (r : Job). r.id) job kept.tables.jobs ≡ Some row
    → 9223372036854775807 < kept.tables.last.log + length (shots_with kept.tables.groups (unwrap_or param row.spec.param) Manual at row) → Stands kept h → reply_after h (TriggerJob admin at job param) ≡ refused IdsSpent
spent-fire kept h admin at job param row below running found over s =
    fire-reply kept h admin at job param row below running found s ∙ ids-spent kept.tables.last.log (length (shots_with kept.tables.groups (unwrap_or param row.spec.param) Manual at row)) _ over

-- a firing by hand
pub planned-fire : (kept : Kept) (admin at job : ℕ) (pools : Pools) (param : Option (List ℕ)) (row : Job) (fired : Fired) → admin < ADMINS → pools ≡ pools_in (pools_at kept admin) → KeepsRules kept.tables
    → row_with (λ (r : Job). r.id) job kept.tables.jobs ≡ Some row → Fires kept.tables.last pools (shots_with kept.tables.groups (unwrap_or param row.spec.param) Manual at row) fired
    → ((h : History) → Stands kept (accepted h) → runs (accepted h) admin ≡ true)
    → IsPlanned kept (TriggerJob admin at job param) (record { reply = reply.Opened fired.opened; changes = fired.changes.items; node = node.Fires admin fired.entering.items })
planned-fire kept admin at job pools param row fired below here rules found fires running =
    let shots = shots_with kept.tables.groups (unwrap_or param row.spec.param) Manual at row in
    planned kept (TriggerJob admin at job param) (record { reply = reply.Opened fired.opened; changes = fired.changes.items; node = node.Fires admin fired.entering.items })
    (subst (λ cs. AreAllowed kept.tables cs) (sym fires.changes) (fired-allowed kept.tables pools (shots_with kept.tables.groups (unwrap_or param row.spec.param) Manual at row) rules fires.ids))
    (subst HasIdsFirst (sym fires.changes) (fired-ids kept.tables pools (shots_with kept.tables.groups (unwrap_or param row.spec.param) Manual at row))) tt refl
    (λ h s. fire-reply kept (accepted h) admin at job param row below (running h s) found s
    ∙ ids-left kept.tables.last.log (length (shots_with kept.tables.groups (unwrap_or param row.spec.param) Manual at row)) _ fires.ids
    ∙ ap (λ n. reply.Opened (map opened_of (placed_from kept.tables.last.log n (shots_with kept.tables.groups (unwrap_or param row.spec.param) Manual at row)))) (sym here)
    ∙ ap reply.Opened (sym fires.opened))
    (λ h s.
    let asked : shots_with kept.tables.groups (unwrap_or param row.spec.param) Manual at row ≡ shots_asked h at job param = sym (shots-by_hand kept h at job param row found s) in
    record {
      settings = s.keeps.settings;
      scan = s.keeps.scan;
      taken = s.keeps.taken;
      tables = ap (applied_all kept.tables) fires.changes
          ∙ fired-tables kept h admin pools (shots_with kept.tables.groups (unwrap_or param row.spec.param) Manual at row) below here rules fires.ids s
          ∙ ap (λ ss. with_logs (records_of h) (last_log h + length ss) (rows_of (placed_at h admin ss))) asked;
      nodes = nodes-changed kept h (After h (TriggerJob admin at job param) (reply.Opened fired.opened)) admin (after_firing fired.entering.items) below s
          (node-by _ _ _ _ _ _ refl refl
          (ap (entered (queues_of h admin)) fires.entering
          ∙ pools-fired_by kept h admin pools (shots_with kept.tables.groups (unwrap_or param row.spec.param) Manual at row) below here s
          ∙ ap (λ ss. queues_opened h admin ss admin) asked))
          (λ a other. node-by _ _ _ _ _ _ refl refl (pools-left h admin a (shots_asked h at job param) other));
    })

-- a firing of a job that is gone
pub gone-fire : (kept : Kept) (h : History) (admin at job : ℕ) (param : Option (List ℕ)) → runs h admin ≡ true → row_with (λ (r : Job). r.id) job kept.tables.jobs ≡ None → Stands kept h → reply_after h (TriggerJob admin at job param) ≡ refused NoJob
gone-fire kept h admin at job param running found s =
    answered-running (runs h admin) admin _ running ∙ ap (λ r. fire_reply (last_log h) (pools_of h admin) (shots_asked h at job param) r) (job-found kept h job None found s)
