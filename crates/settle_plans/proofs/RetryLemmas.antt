-- Failed logs that are marked and tried again.
use Rattle.std.proofs.Common.{◌≡◌, ℕ, ◌+◌, ◌<◌, List, [], ◌∷◌, ◌++◌, Bool, true, false, ◌&&◌, cond, nat_lt, is_some, Option, Some, None, length, map, refl, sym, ap, ◌∙◌, subst}
use Rattle.job_values.specs.declared.limits.TheConstants.{ADMINS}
use Rattle.job_events.specs.declared.cluster.ClusterEvent.TheVariants.{Monitor}
use Rattle.job_events.specs.declared.cluster.ClusterRefusal.TheVariants.{IdsSpent}
use Rattle.job_events.specs.declared.cluster.ClusterReply.{ClusterReply}
use Rattle.job_events.specs.declared.cluster.ClusterReply.TheVariants.{Marked}
use Rattle.job_records.specs.declared.change.Change.{Change}
use Rattle.job_records.specs.declared.change.Change.TheVariants.{PutLog}
use Rattle.job_records.specs.declared.job.Job.{Job}
use Rattle.job_records.specs.declared.log.Log.{Log}
use Rattle.job_records.specs.Rules.{KeepsRules}
use Rattle.job_records.specs.Tables.{Tables}
use Rattle.cluster_history.specs.History.{History, accepted}
use Rattle.cluster_history.specs.Nodes.{runs}
use Rattle.cluster_history.specs.Looks.{job_with}
use Rattle.cluster_history.specs.Firings.{Shot, shots_again, shots_marked}
use Rattle.cluster_history.specs.Openings.{rows_of, Pools, placed_from, opened_of}
use Rattle.cluster_history.specs.Logs.{logs_of, last_log, placed_at, shots_watched}
use Rattle.cluster_history.specs.Records.{records_of}
use Rattle.cluster_history.specs.Replies.{reply_after, mark_reply, refused}
use Rattle.cluster_history.specs.Settling.{log_with, first_failed, is_unmarked, marked_log, logs_marked}
use Rattle.settle_log.specs.declared.retry.Firing.{Firing}
use Rattle.settle_log.specs.Results.{retry_of, firing_again}
use Rattle.cluster_plan.specs.declared.prepared.NodeChange.TheVariants as node
use Rattle.cluster_plan.specs.Kept.{Kept, pools_at, pools_in}
use Rattle.cluster_plan.specs.Plans.{IsPlanned}
use Rattle.cluster_plan.specs.Stands.{Stands}
use Rattle.cluster_plan.proofs.PlanLemmas.{answered-running}
use Rattle.log_opening.specs.declared.firing.Fired.{Fired}
use Rattle.log_opening.specs.Firing.{Fires}
use Rattle.log_opening.proofs.FireLemmas.{ids-spent, ids-left}
use Rattle.log_opening.proofs.FiringLemmas.{pools-seen, with_logs}
use Rattle.settle_plans.proofs.RowLemmas.{chosen-found}
use Rattle.settle_plans.proofs.OpenedPlans.{planned-opened, opened_rows, opener_node}

-- the log that a firing of a job's row opens
abbrev pub shot_fired : ℕ → Firing → Job → Shot
shot_fired at firing row = record { row = row; param = firing.param; kind = firing.kind; time = at; index = firing.index; total = firing.total; retries = firing.retries }

-- none where the job is gone
abbrev pub shots_fired : ℕ → Firing → Option Job → List Shot
shots_fired at firing None = []
shots_fired at firing (Some row) = shot_fired at firing row ∷ []

-- none where nothing fires
abbrev pub shots_tried : List Job → ℕ → Option Firing → List Shot
shots_tried jobs at None = []
shots_tried jobs at (Some firing) = shots_fired at firing (job_with firing.job jobs)

-- what tries a marked log again is what it is to open
pub marked-tried : (jobs : List Job) (at : ℕ) (log : Log) → shots_marked jobs at (Some log) ≡ shots_tried jobs at (retry_of jobs log)
marked-tried jobs at log = by (nat_lt 0 log.retries)
  where
    there : (row : Option Job) → job_with log.job jobs ≡ row → shots_again at log row ≡ shots_tried jobs at (cond (is_some row) (Some (firing_again log)) None)
    there None is = refl
    there (Some row) is = sym (ap (shots_fired at (firing_again log)) is)

    by : (b : Bool) → cond b (shots_again at log (job_with log.job jobs)) [] ≡ shots_tried jobs at (cond (b && is_some (job_with log.job jobs)) (Some (firing_again log)) None)
    by true = there (job_with log.job jobs) refl
    by false = refl

-- by what it finds
pub tried-none : (jobs : List Job) (at : ℕ) (log : Log) → retry_of jobs log ≡ None → shots_marked jobs at (Some log) ≡ []
tried-none jobs at log none = marked-tried jobs at log ∙ ap (shots_tried jobs at) none

pub tried-found : (jobs : List Job) (at : ℕ) (log : Log) (firing : Firing) (row : Option Job) → retry_of jobs log ≡ Some firing → job_with firing.job jobs ≡ row → shots_marked jobs at (Some log) ≡ shots_fired at firing row
tried-found jobs at log firing row some found = marked-tried jobs at log ∙ ap (shots_tried jobs at) some ∙ ap (shots_fired at firing) found

-- the answer to a monitor, by the rows, the pools and the log that it chooses
abbrev pub mark_by : Tables → Pools → ℕ → Option Log → ClusterReply
mark_by t pools at log = mark_reply t.last.log pools (shots_marked t.jobs at log) log

abbrev mark_in : Pools → ℕ → Tables → ClusterReply
mark_in pools at t = mark_by t pools at (first_failed t.logs)

-- the reply to a monitor, by what is kept
pub monitor-reply : (kept : Kept) (h : History) (admin at : ℕ) (log : Option Log) → admin < ADMINS → runs h admin ≡ true → first_failed kept.tables.logs ≡ log → Stands kept h
    → reply_after h (Monitor admin at) ≡ mark_by kept.tables (pools_in (pools_at kept admin)) at log
monitor-reply kept h admin at log below running chosen s =
    answered-running (runs h admin) admin _ running
    ∙ ap (λ ps. mark_in ps at (records_of h)) (sym (pools-seen kept h admin below s))
    ∙ ap (mark_in (pools_in (pools_at kept admin)) at) (sym s.keeps.tables)
    ∙ ap (mark_by kept.tables (pools_in (pools_at kept admin)) at) chosen

-- a monitor whose log would need an id above the greatest
pub spent-monitor : (t : Tables) (pools : Pools) (at : ℕ) (log : Log) → 9223372036854775807 < t.last.log + length (shots_marked t.jobs at (Some log)) → mark_by t pools at (Some log) ≡ refused IdsSpent
spent-monitor t pools at log over = ids-spent t.last.log (length (shots_marked t.jobs at (Some log))) _ over

-- what the chosen log is to open, in a history that is stood for
watched-stand : (kept : Kept) (h : History) (at : ℕ) (log : Log) → first_failed kept.tables.logs ≡ Some log → Stands kept h → shots_marked kept.tables.jobs at (Some log) ≡ shots_watched h at
watched-stand kept h at log chosen s =
    ap (shots_marked kept.tables.jobs at) (sym chosen) ∙ ap (λ (t : Tables). shots_marked t.jobs at (first_failed t.logs)) s.keeps.tables

-- the first failed log is marked, and tried again
pub planned-monitor : (kept : Kept) (admin at : ℕ) (pools : Pools) (log row : Log) (fired : Fired) (changes : List Change) → admin < ADMINS → pools ≡ pools_in (pools_at kept admin) → KeepsRules kept.tables
    → first_failed kept.tables.logs ≡ Some log → row ≡ marked_log log → Fires kept.tables.last pools (shots_marked kept.tables.jobs at (Some log)) fired → changes ≡ fired.changes.items ++ PutLog row ∷ []
    → ((h : History) → Stands kept (accepted h) → runs (accepted h) admin ≡ true)
    → IsPlanned kept (Monitor admin at) (record { reply = Marked log.id fired.opened; changes = changes; node = node.Fires admin fired.entering.items })
planned-monitor kept admin at pools log row fired changes below here rules chosen made fires all running =
    let id : row.id ≡ log.id = ap (λ (l : Log). l.id) made in
    let found = (chosen-found is_unmarked 0 kept.tables.last.log kept.tables.logs log rules.logs.rising chosen).1 in
    planned-opened kept (Monitor admin at) (Marked log.id fired.opened) admin pools (shots_marked kept.tables.jobs at (Some log)) marked_log log row changes fired.entering.items below here rules
    (record {
      ids = fires.ids;
      found = subst (λ n. log_with n kept.tables.logs ≡ Some log) (sym id) found;
      made = made;
      sending = record { code = ap (λ (l : Log). l.trigger_code) made; address = ap (λ (l : Log). l.address) made };
      rows = all ∙ ap (λ cs. cs ++ PutLog row ∷ []) fires.changes;
      enters = fires.entering;
    }) tt refl
    (λ h s. monitor-reply kept (accepted h) admin at (Some log) below (running h s) chosen s
    ∙ ids-left kept.tables.last.log (length (shots_marked kept.tables.jobs at (Some log))) _ fires.ids
    ∙ ap (λ ps. Marked log.id (map opened_of (placed_from kept.tables.last.log ps (shots_marked kept.tables.jobs at (Some log))))) (sym here)
    ∙ ap (Marked log.id) (sym fires.opened))
    (λ h s.
    let stands = watched-stand kept h at log chosen s in
    let chosen_h : first_failed (logs_of h) ≡ Some log = subst (λ (t : Tables). first_failed t.logs ≡ Some log) s.keeps.tables chosen in
    record {
      scan = refl;
      taken = refl;
      tables = ap (λ ss. opened_rows h admin row.id marked_log ss) stands ∙ ap (λ n. opened_rows h admin n marked_log (shots_watched h at)) id
          ∙ ap (λ o. with_logs (record (records_of h) { logs = logs_marked o (logs_of h) }) (last_log h + length (shots_watched h at)) (rows_of (placed_at h admin (shots_watched h at)))) (sym chosen_h);
      nodes = λ a. ap (λ ss. opener_node h admin ss a) stands;
    })
