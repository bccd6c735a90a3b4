-- Results of logs.
use Rattle.std.proofs.Common.{◌≡◌, ℕ, ℤ, ◌+◌, ◌<◌, ◌≤◌, List, [], ◌∷◌, ◌++◌, true, false, cond, Option, Some, length, refl, sym, ap, ◌∙◌, subst, arith}
use Rattle.job_values.specs.declared.limits.TheConstants.{ADMINS}
use Rattle.job_values.specs.declared.run.CallbackItem.{CallbackItem}
use Rattle.job_events.specs.declared.opened.FiredChild.{FiredChild}
use Rattle.job_events.specs.declared.cluster.ClusterEvent.TheVariants.{Callback}
use Rattle.job_events.specs.declared.cluster.ClusterRefusal.TheVariants.{BadCode, Repeat, IdsSpent}
use Rattle.job_events.specs.declared.cluster.ClusterReply.{ClusterReply}
use Rattle.job_events.specs.declared.cluster.ClusterReply.TheVariants.{Settled}
use Rattle.job_records.specs.declared.change.Change.{Change}
use Rattle.job_records.specs.declared.change.Change.TheVariants.{PutLog}
use Rattle.job_records.specs.declared.log.Log.{Log}
use Rattle.job_records.specs.Rules.{KeepsRules}
use Rattle.job_records.specs.Tables.{Tables}
use Rattle.cluster_history.specs.History.{History, accepted}
use Rattle.cluster_history.specs.Nodes.{runs}
use Rattle.cluster_history.specs.Firings.{Shot, shots_settled}
use Rattle.cluster_history.specs.Openings.{Pools}
use Rattle.cluster_history.specs.Logs.{pools_of, shots_called}
use Rattle.cluster_history.specs.Records.{records_of}
use Rattle.cluster_history.specs.Replies.{reply_after, settle_reply, children_from, if_ids, refused}
use Rattle.cluster_history.specs.Settling.{log_with, settled_log, is_settled, is_positive, children_of}
use Rattle.settle_log.specs.Results.{Settles}
use Rattle.cluster_plan.specs.declared.prepared.Entering.{Entering}
use Rattle.cluster_plan.specs.declared.prepared.NodeChange.TheVariants as node
use Rattle.cluster_plan.specs.Kept.{Kept, pools_at, pools_in}
use Rattle.cluster_plan.specs.Plans.{IsPlanned}
use Rattle.cluster_plan.specs.Stands.{Stands}
use Rattle.cluster_plan.proofs.PlanLemmas.{answered-running}
use Rattle.cluster_plan.proofs.PutLemmas.{found-id}
use Rattle.log_opening.specs.Series.{shots_all, FiresSeries}
use Rattle.log_opening.proofs.FireLemmas.{ids-spent, ids-left}
use Rattle.log_opening.proofs.FiringLemmas.{fired_changes, pools-seen}
use Rattle.settle_plans.specs.Children.{children_at}
use Rattle.settle_plans.proofs.ChildLemmas.{children-open, children-told}
use Rattle.settle_plans.proofs.OpenedPlans.{planned-opened, opened_rows, opener_node, entered_by}

-- what a result is to open, by the rows
abbrev pub shots_of_result : Tables → ℕ → ℤ → Option Log → List Shot
shots_of_result t at code log = shots_settled t.groups t.jobs at code log

-- the answer to a result with a positive code, by the rows, the pools and the row of its log
abbrev pub settle_by : Tables → Pools → ℕ → ℤ → Option Log → ClusterReply
settle_by t pools at code log = settle_reply t.groups t.jobs t.last.log pools (shots_of_result t at code log) at code log

-- by what the rows have
abbrev settle_in : Pools → ℕ → CallbackItem → Tables → ClusterReply
settle_in pools at item t = settle_by t pools at item.code (log_with item.log t.logs)

-- a code that is not positive
pub bad-callback : (h : History) (admin at : ℕ) (item : CallbackItem) → runs h admin ≡ true → is_positive item.code ≡ false → reply_after h (Callback admin at item) ≡ refused BadCode
bad-callback h admin at item running bad =
    answered-running (runs h admin) admin _ running ∙ ap (λ b. cond b (settle_in (pools_of h admin) at item (records_of h)) (refused BadCode)) bad

-- the reply to a result, by what is kept
pub callback-reply : (kept : Kept) (h : History) (admin at : ℕ) (item : CallbackItem) (log : Option Log) → admin < ADMINS → runs h admin ≡ true → is_positive item.code ≡ true → log_with item.log kept.tables.logs ≡ log → Stands kept h
    → reply_after h (Callback admin at item) ≡ settle_by kept.tables (pools_in (pools_at kept admin)) at item.code log
callback-reply kept h admin at item log below running positive found s =
    answered-running (runs h admin) admin _ running
    ∙ ap (λ b. cond b (settle_in (pools_of h admin) at item (records_of h)) (refused BadCode)) positive
    ∙ ap (λ ps. settle_in ps at item (records_of h)) (sym (pools-seen kept h admin below s))
    ∙ ap (settle_in (pools_in (pools_at kept admin)) at item) (sym s.keeps.tables)
    ∙ ap (settle_by kept.tables (pools_in (pools_at kept admin)) at item.code) found

-- a log that has a result
pub repeat-callback : (t : Tables) (pools : Pools) (at : ℕ) (code : ℤ) (log : Log) → is_settled log ≡ true → settle_by t pools at code (Some log) ≡ refused (Repeat log.result_code)
repeat-callback t pools at code log settled =
    ap (λ b. cond b (refused (Repeat log.result_code)) (if_ids t.last.log (length (shots_of_result t at code (Some log))) (Settled code (children_from t.groups t.jobs at t.last.log pools (children_of t.jobs code (Some log)))))) settled

-- one that has none
first-callback : (t : Tables) (pools : Pools) (at : ℕ) (code : ℤ) (log : Log) → is_settled log ≡ false
    → settle_by t pools at code (Some log) ≡ if_ids t.last.log (length (shots_of_result t at code (Some log))) (Settled code (children_from t.groups t.jobs at t.last.log pools (children_of t.jobs code (Some log))))
first-callback t pools at code log first =
    ap (λ b. cond b (refused (Repeat log.result_code)) (if_ids t.last.log (length (shots_of_result t at code (Some log))) (Settled code (children_from t.groups t.jobs at t.last.log pools (children_of t.jobs code (Some log)))))) first

-- a result whose children would need an id above the greatest
pub spent-callback : (t : Tables) (pools : Pools) (at : ℕ) (code : ℤ) (log : Log) → is_settled log ≡ false → 9223372036854775807 < t.last.log + length (shots_all (children_at at) t (children_of t.jobs code (Some log)))
    → settle_by t pools at code (Some log) ≡ refused IdsSpent
spent-callback t pools at code log first over =
    let many = ap length (children-open t at (children_of t.jobs code (Some log))) in
    first-callback t pools at code log first ∙ ids-spent t.last.log (length (shots_of_result t at code (Some log))) _ (omega (arith, over, many))

-- what the log's result opens, in a history that is stood for
shots-stand : (kept : Kept) (h : History) (at : ℕ) (item : CallbackItem) (log : Log) → log_with item.log kept.tables.logs ≡ Some log → Stands kept h → shots_of_result kept.tables at item.code (Some log) ≡ shots_called h at item.code item.log
shots-stand kept h at item log found s =
    ap (shots_of_result kept.tables at item.code) (sym found) ∙ ap (λ (t : Tables). shots_of_result t at item.code (log_with item.log t.logs)) s.keeps.tables

-- a log has its result, and its children fire
pub planned-callback : (kept : Kept) (admin at : ℕ) (item : CallbackItem) (pools : Pools) (log row : Log) (opened changes : List Change) (entering : List Entering) (children : List FiredChild) → admin < ADMINS → pools ≡ pools_in (pools_at kept admin) → KeepsRules kept.tables
    → log_with item.log kept.tables.logs ≡ Some log → Settles at item log row → FiresSeries (children_at at) kept.tables pools (children_of kept.tables.jobs item.code (Some log)) opened entering children → changes ≡ opened ++ PutLog row ∷ []
    → ((h : History) → Stands kept (accepted h) → runs (accepted h) admin ≡ true)
    → IsPlanned kept (Callback admin at item) (record { reply = Settled item.code children; changes = changes; node = node.Fires admin entering })
planned-callback kept admin at item pools log row opened changes entering children below here rules found settles fires all running =
    let ids = children_of kept.tables.jobs item.code (Some log) in
    let shots = shots_of_result kept.tables at item.code (Some log) in
    let same : shots_all (children_at at) kept.tables (children_of kept.tables.jobs item.code (Some log)) ≡ shots_of_result kept.tables at item.code (Some log) = children-open kept.tables at (children_of kept.tables.jobs item.code (Some log)) in
    let id : row.id ≡ item.log = ap (λ (l : Log). l.id) settles.given ∙ found-id (λ (l : Log). l.id) item.log kept.tables.logs log found in
    let there : log_with row.id kept.tables.logs ≡ Some log = subst (λ n. log_with n kept.tables.logs ≡ Some log) (sym id) found in
    let room : kept.tables.last.log + length (shots_of_result kept.tables at item.code (Some log)) ≤ 9223372036854775807 = subst (λ ss. kept.tables.last.log + length ss ≤ 9223372036854775807) same fires.ids in
    planned-opened kept (Callback admin at item) (Settled item.code children) admin pools (shots_of_result kept.tables at item.code (Some log)) (settled_log at item.code item.msg) log row changes entering below here rules
    (record {
      ids = room;
      found = there;
      made = settles.given;
      sending = record { code = ap (λ (l : Log). l.trigger_code) settles.given; address = ap (λ (l : Log). l.address) settles.given };
      rows = all ∙ ap (λ cs. cs ++ PutLog row ∷ []) (fires.rows ∙ ap (fired_changes kept pools) same);
      enters = fires.enters ∙ ap (λ ss. entered_by kept pools ss) same;
    }) tt refl
    (λ h s. callback-reply kept (accepted h) admin at item (Some log) below (running h s) settles.positive found s
    ∙ first-callback kept.tables (pools_in (pools_at kept admin)) at item.code log settles.first
    ∙ ids-left kept.tables.last.log (length (shots_of_result kept.tables at item.code (Some log))) _ room
    ∙ ap (λ ps. Settled item.code (children_from kept.tables.groups kept.tables.jobs at kept.tables.last.log ps (children_of kept.tables.jobs item.code (Some log)))) (sym here)
    ∙ ap (Settled item.code) (sym (fires.tells ∙ children-told kept.tables at kept.tables.last.log pools (children_of kept.tables.jobs item.code (Some log)))))
    (λ h s.
    let stands = shots-stand kept h at item log found s in
    record {
      scan = refl;
      taken = refl;
      tables = ap (λ ss. opened_rows h admin row.id (settled_log at item.code item.msg) ss) stands ∙ ap (λ n. opened_rows h admin n (settled_log at item.code item.msg) (shots_called h at item.code item.log)) id;
      nodes = λ a. ap (λ ss. opener_node h admin ss a) stands;
    })
