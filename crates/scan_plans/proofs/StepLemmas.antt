-- A step of a scan.
use Rattle.std.proofs.Common.{◌≡◌, ℕ, ◌+◌, ◌<◌, List, [], ◌∷◌, ◌++◌, Bool, true, cond, eqb, length, map, Option, Some, None, refl, sym, ap, ◌∙◌, subst, arith}
use Rattle.std.specs.List.{slice_get}
use Rattle.job_values.specs.declared.limits.TheConstants.{ADMINS}
use Rattle.job_events.specs.declared.cluster.ClusterEvent.TheVariants.{ScanStep}
use Rattle.job_events.specs.declared.cluster.ClusterRefusal.TheVariants.{IdsSpent, NotScanning}
use Rattle.job_events.specs.declared.cluster.ClusterReply.{ClusterReply}
use Rattle.job_events.specs.declared.cluster.ClusterReply.TheVariants.{Skip, Look as LookReply}
use Rattle.job_records.specs.declared.change.Change.{Change}
use Rattle.job_records.specs.declared.change.Change.TheVariants.{PutJob}
use Rattle.job_records.specs.declared.job.Job.{Job}
use Rattle.job_records.specs.Changes.{applied_all, AreAllowed, put_row}
use Rattle.job_records.specs.Rules.{KeepsRules}
use Rattle.job_records.specs.Tables.{Tables}
use Rattle.job_records.proofs.Keeping.{applied_append, allowed_append, all_keep}
use Rattle.job_records.proofs.RowLemmas.{rises-from_rising}
use Rattle.time_ring.specs.declared.ticket.Ticket.{Ticket}
use Rattle.cluster_history.specs.Tickets.{Waiting, put_behind, put_due, waiting}
use Rattle.cluster_history.specs.declared.settings.Settings.{Settings}
use Rattle.cluster_history.specs.History.{History, After, accepted}
use Rattle.cluster_history.specs.Nodes.{runs, admins}
use Rattle.cluster_history.specs.Groups.{groups_of}
use Rattle.cluster_history.specs.Pages.{stepped}
use Rattle.cluster_history.specs.Looks.{Looked, look_in, look_entry, look_row, job_with, next_looked}
use Rattle.cluster_history.specs.Jobs.{jobs_of, ids_of, row_of, row_by, spec_of, edition_of, next_of, scan_of, look_of}
use Rattle.cluster_history.specs.Firings.{Shot, shots_stepped, shots_scanned}
use Rattle.cluster_history.specs.Logs.{last_log, pools_of, placed_at}
use Rattle.cluster_history.specs.Openings.{rows_of, Pools, opened_of, placed_from}
use Rattle.cluster_history.specs.Replies.{step_reply, entry_reply, look_reply, reply_after, refused}
use Rattle.scan_plans.specs.declared.pages.Standing.{Standing}
use Rattle.scan_plans.specs.declared.looks.Look.{Look}
use Rattle.log_opening.specs.declared.firing.Fired.{Fired}
use Rattle.cluster_plan.specs.declared.prepared.Entering.{Entering}
use Rattle.cluster_plan.specs.declared.prepared.NodeChange.TheVariants as node
use Rattle.cluster_plan.specs.Nodes.{ring_with, nodes_with, after_step}
use Rattle.cluster_plan.specs.Commits.{with_node}
use Rattle.cluster_plan.specs.Edits.{turned_row}
use Rattle.log_opening.specs.Firing.{Fires}
use Rattle.cluster_plan.specs.Kept.{Kept, pools_at, pools_in}
use Rattle.log_opening.specs.Openings.{entering_of}
use Rattle.cluster_plan.specs.Plans.{IsPlanned, HasIdsFirst}
use Rattle.cluster_plan.specs.Stands.{Stands, Keeps, node_of}
use Rattle.cluster_history.specs.Records.{records_of}
use Rattle.scan_plans.specs.Steps.{StandsAt, IsNotScanning, ticket_put, shots_decided}
use Rattle.cluster_plan.proofs.JobRows.{row-found, jobs-put, turn-allowed, row-stands, same-id}
use Rattle.log_opening.proofs.FireLemmas.{ids-spent, ids-left}
use Rattle.log_opening.proofs.FiringLemmas.{fired-rows, fired-allowed, fired-ids_behind, fired-tables, pools-fired_by, pools-left, fired_changes, pools-seen, queues_opened, with_logs}
use Rattle.cluster_plan.proofs.PlanLemmas.{planned, answered-running}
use Rattle.cluster_plan.proofs.PutLemmas.{found-id}
use Rattle.cluster_plan.proofs.RingLemmas.{ring_over, ring-one_put, ring-others_put}
use Rattle.cluster_plan.proofs.StandsLemmas.{node-by, nodes-changed}

-- what the next step looks at, by what is kept
look-kept : (kept : Kept) (h : History) (admin : ℕ) (standing : Standing) → StandsAt kept.scan admin standing → Stands kept h → look_of h ≡ look_entry kept.settings standing.at kept.tables.jobs (Some standing.entry)
look-kept kept h admin standing stands s =
    ap (λ (x : Settings). look_in x (scan_of h) (jobs_of h)) (sym s.keeps.settings)
    ∙ ap (λ x. look_in kept.settings x (jobs_of h)) (sym s.keeps.scan ∙ stands.is)
    ∙ ap (λ (t : Tables). look_in kept.settings (Some stands.scan) t.jobs) (sym s.keeps.tables)
    ∙ ap (λ x. look_entry kept.settings stands.scan.at kept.tables.jobs x) stands.entry
    ∙ ap (λ n. look_entry kept.settings n kept.tables.jobs (Some standing.entry)) (sym stands.at)

-- the reply to a step, by the entry that it is at
reply-entry : (h : History) (kept : Kept) (admin : ℕ) (standing : Standing) (look : Option Looked) → runs h admin ≡ true → StandsAt kept.scan admin standing → look_of h ≡ look → Stands kept h
    → reply_after h (ScanStep admin) ≡ look_reply (last_log h) (pools_of h admin) (shots_stepped h) standing.entry.job look
reply-entry h kept admin standing look running stands looks s =
    answered-running (runs h admin) admin _ running
    ∙ ap (λ x. step_reply (last_log h) (pools_of h admin) (shots_stepped h) (look_of h) admin x) (sym s.keeps.scan ∙ stands.is)
    ∙ ap (λ b. cond b (entry_reply (last_log h) (pools_of h admin) (shots_stepped h) (look_of h) (slice_get stands.scan.page stands.scan.steps)) (refused NotScanning)) stands.owner
    ∙ ap (λ x. entry_reply (last_log h) (pools_of h admin) (shots_stepped h) (look_of h) x) stands.entry
    ∙ ap (λ x. look_reply (last_log h) (pools_of h admin) (shots_stepped h) standing.entry.job x) looks

-- the logs that a step opens, by what is kept and what it looks at
shots-kept : (kept : Kept) (h : History) (admin : ℕ) (standing : Standing) (stands : StandsAt kept.scan admin standing) (look : Option Looked) → look_of h ≡ look → Stands kept h → shots_stepped h ≡ shots_scanned kept.tables.groups (Some stands.scan) look
shots-kept kept h admin standing stands look looks s =
    ap (λ x. shots_scanned (groups_of h) x (look_of h)) (sym s.keeps.scan ∙ stands.is)
    ∙ ap (λ x. shots_scanned (groups_of h) (Some stands.scan) x) looks
    ∙ ap (λ (t : Tables). shots_scanned t.groups (Some stands.scan) look) (sym s.keeps.tables)

-- the ticket of a step, by what it looks at
abbrev ticket_looked : Option Looked → Option Ticket
ticket_looked None = None
ticket_looked (Some look) = ticket_put look.row look.decision.put

-- the ring of its admin
ring-put : (tickets : List Waiting) (admin : ℕ) (row : Job) (put : Option ℕ) → ring_with (ring_over tickets admin) (ticket_put row put) ≡ ring_over (put_due admin row.id row.edition put tickets) admin
ring-put tickets admin row None = refl
ring-put tickets admin row (Some due) = ring-one_put tickets (record { admin = admin; ticket = record { job = row.id; edition = row.edition; due = due } }) admin refl

ring-stepped : (tickets : List Waiting) (admin : ℕ) (look : Option Looked) → ring_with (ring_over tickets admin) (ticket_looked look) ≡ ring_over (put_behind admin look tickets) admin
ring-stepped tickets admin None = refl
ring-stepped tickets admin (Some look) = ring-put tickets admin look.row look.decision.put

-- and that of another
ring-left_put : (tickets : List Waiting) (admin a : ℕ) (row : Job) (put : Option ℕ) → (a ≡ admin → ⊥) → ring_over tickets a ≡ ring_over (put_due admin row.id row.edition put tickets) a
ring-left_put tickets admin a row None other = refl
ring-left_put tickets admin a row (Some due) other = ring-others_put tickets (record { admin = admin; ticket = record { job = row.id; edition = row.edition; due = due } }) a other

ring-left : (tickets : List Waiting) (admin a : ℕ) (look : Option Looked) → (a ≡ admin → ⊥) → ring_over tickets a ≡ ring_over (put_behind admin look tickets) a
ring-left tickets admin a None other = refl
ring-left tickets admin a (Some look) other = ring-left_put tickets admin a look.row look.decision.put other

-- what is kept of the admins after a step, by what it looks at and what it opens
nodes-stepped : (kept : Kept) (h : History) (admin : ℕ) (pools : Pools) (r : ClusterReply) (look : Option Looked) (shots : List Shot) → admin < ADMINS → pools ≡ pools_in (pools_at kept admin) → look_of h ≡ look → shots_stepped h ≡ shots → Stands kept h
    → nodes_with admin (after_step (ticket_looked look) (map entering_of (placed_from kept.tables.last.log pools shots))) kept.nodes ≡ map (node_of (After h (ScanStep admin) r)) admins
nodes-stepped kept h admin pools r look shots below here looks opens s =
    nodes-changed kept h (After h (ScanStep admin) r) admin (after_step (ticket_looked look) (map entering_of (placed_from kept.tables.last.log pools shots))) below s
    (node-by _ _ _ _ _ _ refl
    (ring-stepped (waiting h) admin look ∙ ap (λ x. ring_over (put_behind admin x (waiting h)) admin) (sym looks))
    (pools-fired_by kept h admin pools shots below here s ∙ ap (λ ss. queues_opened h admin ss admin) (sym opens)))
    (λ a other. node-by _ _ _ _ _ _ refl (ring-left (waiting h) admin a (look_of h) other) (pools-left h admin a (shots_stepped h) other))

-- what stands after a step, by what it looks at and what it opens
stands-stepped : (kept : Kept) (h : History) (admin : ℕ) (pools : Pools) (r : ClusterReply) (look : Option Looked) (shots : List Shot) (tables : Tables) → admin < ADMINS → pools ≡ pools_in (pools_at kept admin) → look_of h ≡ look → shots_stepped h ≡ shots → Stands kept h
    → tables ≡ records_of (After h (ScanStep admin) r)
    → Keeps (with_node admin (after_step (ticket_looked look) (map entering_of (placed_from kept.tables.last.log pools shots))) (record kept { tables = tables; scan = stepped kept.scan })) (After h (ScanStep admin) r)
stands-stepped kept h admin pools r look shots tables below here looks opens s rows = record {
  settings = s.keeps.settings;
  tables = rows;
  scan = ap stepped s.keeps.scan;
  taken = s.keeps.taken;
  nodes = nodes-stepped kept h admin pools r look shots below here looks opens s;
}

-- the rows of the jobs after a step, by what it looks at
abbrev rows_looked : History → Option Looked → List Job
rows_looked h look = map (row_by (spec_of h) (edition_of h) (λ j. next_looked look j (next_of h j))) (ids_of h)

abbrev row_looked : History → Option ℕ → Bool → ℕ → Job
row_looked h next b j = row_by (spec_of h) (edition_of h) (λ x. cond b next (next_of h x)) j

rows-set : (h : History) (job : ℕ) (row new : Job) (looked : Looked) → KeepsRules (records_of h) → job_with job (jobs_of h) ≡ Some row → looked.row ≡ row → new ≡ turned_row row.edition looked.decision.next row
    → put_row (λ x. x.id) new (jobs_of h) ≡ rows_looked h (Some looked)
rows-set h job row new looked rules found seen made =
    let id : row.id ≡ job = found-id (λ (x : Job). x.id) job (jobs_of h) row found in
    let here : looked.row.id ≡ job = ap (λ (x : Job). x.id) seen ∙ id in
    let is : row ≡ row_of h job = row-found h job row found in
    let test : eqb job looked.row.id ≡ true = ap (eqb job) here ∙ same-id job in
    jobs-put h (row_by (spec_of h) (edition_of h) (λ x. next_looked (Some looked) x (next_of h x))) job row new (rises-from_rising (λ (x : Job). x.id) 0 _ (jobs_of h) rules.jobs.rising) found (ap (λ (x : Job). x.id) made ∙ id)
    (made ∙ ap (λ (x : Job). turned_row x.edition looked.decision.next x) is ∙ sym (ap (λ b. row_looked h looked.decision.next b job) test))
    (λ j other. ap (λ b. row_looked h looked.decision.next b j) (ap (eqb j) here ∙ other))

no-shots : (kept : Kept) (h : History) (admin : ℕ) (standing : Standing) → StandsAt kept.scan admin standing → look_of h ≡ None → Stands kept h → shots_stepped h ≡ []
no-shots kept h admin standing stands looks s = shots-kept kept h admin standing stands None looks s

-- a step that skips its entry
pub planned-skip : (kept : Kept) (admin : ℕ) (standing : Standing) → admin < ADMINS → StandsAt kept.scan admin standing → KeepsRules kept.tables → look_entry kept.settings standing.at kept.tables.jobs (Some standing.entry) ≡ None
    → ((h : History) → Stands kept (accepted h) → runs (accepted h) admin ≡ true)
    → IsPlanned kept (ScanStep admin) (record { reply = Skip standing.entry.job; changes = []; node = node.Steps admin None [] })
planned-skip kept admin standing below stands rules none running =
    planned kept (ScanStep admin) (record { reply = Skip standing.entry.job; changes = []; node = node.Steps admin None [] }) tt refl tt refl
    (λ h s. reply-entry (accepted h) kept admin standing None (running h s) stands (look-kept kept (accepted h) admin standing stands s ∙ none) s)
    (λ h s.
    let looks : look_of h ≡ None = look-kept kept h admin standing stands s ∙ none in
    let rows : kept.tables ≡ records_of (After h (ScanStep admin) (Skip standing.entry.job)) =
    fired-tables kept h admin (pools_in (pools_at kept admin)) [] below refl rules (omega (arith, rules.logs.last_id)) s
    ∙ ap (λ ss. with_logs (records_of h) (last_log h + length ss) (rows_of (placed_at h admin ss))) (sym (no-shots kept h admin standing stands looks s))
    ∙ ap (λ x. record (with_logs (records_of h) (last_log h + length (shots_stepped h)) (rows_of (placed_at h admin (shots_stepped h)))) { jobs = rows_looked h x }) (sym looks) in
    stands-stepped kept h admin (pools_in (pools_at kept admin)) (Skip standing.entry.job) None [] kept.tables below refl looks (no-shots kept h admin standing stands looks s) s rows)

-- the look at the row of the next entry's job
abbrev pub look_for : Job → Look → Looked
look_for row look = record { row = row; due = look.due; decision = look.decision }

-- it is what the step looks at
looked-kept : (kept : Kept) (h : History) (admin : ℕ) (standing : Standing) (row : Job) (look : Look) → StandsAt kept.scan admin standing → job_with standing.entry.job kept.tables.jobs ≡ Some row
    → look_row kept.settings standing.at standing.entry.edition (Some row) ≡ Some (look_for row look) → Stands kept h → look_of h ≡ Some (look_for row look)
looked-kept kept h admin standing row look stands found seen s =
    look-kept kept h admin standing stands s ∙ ap (λ x. look_row kept.settings standing.at standing.entry.edition x) found ∙ seen

looked-shots : (kept : Kept) (h : History) (admin : ℕ) (standing : Standing) (row : Job) (look : Look) → StandsAt kept.scan admin standing → look_of h ≡ Some (look_for row look) → Stands kept h
    → shots_stepped h ≡ shots_decided kept.tables.groups standing.at look.decision row
looked-shots kept h admin standing row look stands looks s =
    shots-kept kept h admin standing stands (Some (look_for row look)) looks s ∙ ap (λ n. shots_decided kept.tables.groups n look.decision row) (sym stands.at)

-- the reply to a look, by what is kept
look-reply : (kept : Kept) (h : History) (admin : ℕ) (standing : Standing) (row : Job) (look : Look) → admin < ADMINS → runs h admin ≡ true → StandsAt kept.scan admin standing → look_of h ≡ Some (look_for row look) → Stands kept h
    → reply_after h (ScanStep admin) ≡ look_reply kept.tables.last.log (pools_in (pools_at kept admin)) (shots_decided kept.tables.groups standing.at look.decision row) standing.entry.job (Some (look_for row look))
look-reply kept h admin standing row look below running stands looks s =
    reply-entry h kept admin standing (Some (look_for row look)) running stands looks s
    ∙ ap (λ ss. look_reply (last_log h) (pools_of h admin) ss standing.entry.job (Some (look_for row look))) (looked-shots kept h admin standing row look stands looks s)
    ∙ ap (λ n. look_reply (last_log h) n (shots_decided kept.tables.groups standing.at look.decision row) standing.entry.job (Some (look_for row look))) (sym (pools-seen kept h admin below s))
    ∙ ap (λ (t : Tables). look_reply t.last.log (pools_in (pools_at kept admin)) (shots_decided kept.tables.groups standing.at look.decision row) standing.entry.job (Some (look_for row look))) (sym s.keeps.tables)

-- a step whose logs would need an id above the greatest
pub spent-look : (kept : Kept) (h : History) (admin : ℕ) (standing : Standing) (row : Job) (look : Look) → admin < ADMINS → runs h admin ≡ true → StandsAt kept.scan admin standing → job_with standing.entry.job kept.tables.jobs ≡ Some row
    → look_row kept.settings standing.at standing.entry.edition (Some row) ≡ Some (look_for row look) → 9223372036854775807 < kept.tables.last.log + length (shots_decided kept.tables.groups standing.at look.decision row) → Stands kept h
    → reply_after h (ScanStep admin) ≡ refused IdsSpent
spent-look kept h admin standing row look below running stands found seen over s =
    look-reply kept h admin standing row look below running stands (looked-kept kept h admin standing row look stands found seen s) s
    ∙ ids-spent kept.tables.last.log (length (shots_decided kept.tables.groups standing.at look.decision row)) _ over

-- a step that looks at a job
pub planned-look : (kept : Kept) (admin : ℕ) (pools : Pools) (standing : Standing) (row new : Job) (look : Look) (fired : Fired) (changes : List Change) → admin < ADMINS → pools ≡ pools_in (pools_at kept admin) → StandsAt kept.scan admin standing → KeepsRules kept.tables
    → job_with standing.entry.job kept.tables.jobs ≡ Some row → look_row kept.settings standing.at standing.entry.edition (Some row) ≡ Some (look_for row look)
    → Fires kept.tables.last pools (shots_decided kept.tables.groups standing.at look.decision row) fired → new ≡ turned_row row.edition look.decision.next row → changes ≡ fired.changes.items ++ PutJob new ∷ []
    → ((h : History) → Stands kept (accepted h) → runs (accepted h) admin ≡ true)
    → IsPlanned kept (ScanStep admin) (record { reply = LookReply standing.entry.job look.decision.case look.due look.decision.next look.decision.put fired.opened; changes = changes; node = node.Steps admin (ticket_put row look.decision.put) fired.entering.items })
planned-look kept admin pools standing row new look fired changes below here stands rules found seen fires made all running =
    let job = standing.entry.job in
    let reply = LookReply standing.entry.job look.decision.case look.due look.decision.next look.decision.put fired.opened in
    let shots = shots_decided kept.tables.groups standing.at look.decision row in
    let opened : AreAllowed kept.tables (fired_changes kept pools (shots_decided kept.tables.groups standing.at look.decision row)) = fired-allowed kept.tables pools (shots_decided kept.tables.groups standing.at look.decision row) rules fires.ids in
    let middle : applied_all kept.tables (fired_changes kept pools (shots_decided kept.tables.groups standing.at look.decision row)) ≡ with_logs kept.tables (kept.tables.last.log + length (shots_decided kept.tables.groups standing.at look.decision row)) _ = fired-rows kept.tables pools (shots_decided kept.tables.groups standing.at look.decision row) rules fires.ids in
    let kept_rules : KeepsRules (applied_all kept.tables (fired_changes kept pools (shots_decided kept.tables.groups standing.at look.decision row))) = all_keep kept.tables (fired_changes kept pools (shots_decided kept.tables.groups standing.at look.decision row)) rules opened in
    let there : job_with standing.entry.job (applied_all kept.tables (fired_changes kept pools (shots_decided kept.tables.groups standing.at look.decision row))).jobs ≡ Some row = ap (λ (t : Tables). job_with standing.entry.job t.jobs) middle ∙ found in
    let sum : changes ≡ fired_changes kept pools (shots_decided kept.tables.groups standing.at look.decision row) ++ PutJob new ∷ [] = all ∙ ap (λ cs. cs ++ PutJob new ∷ []) fires.changes in
    planned kept (ScanStep admin) (record { reply = LookReply standing.entry.job look.decision.case look.due look.decision.next look.decision.put fired.opened; changes = changes; node = node.Steps admin (ticket_put row look.decision.put) fired.entering.items })
    (subst (λ cs. AreAllowed kept.tables cs) (sym sum) (allowed_append kept.tables (fired_changes kept pools (shots_decided kept.tables.groups standing.at look.decision row)) (PutJob new ∷ []) opened (turn-allowed _ standing.entry.job row new row.edition look.decision.next kept_rules there made)))
    (subst HasIdsFirst (sym sum) (fired-ids_behind kept.tables pools (shots_decided kept.tables.groups standing.at look.decision row) (PutJob new) refl)) tt refl
    (λ h s. look-reply kept (accepted h) admin standing row look below (running h s) stands (looked-kept kept (accepted h) admin standing row look stands found seen s) s
    ∙ ids-left kept.tables.last.log (length (shots_decided kept.tables.groups standing.at look.decision row)) _ fires.ids
    ∙ ap (λ n. LookReply standing.entry.job look.decision.case look.due look.decision.next look.decision.put (map opened_of (placed_from kept.tables.last.log n (shots_decided kept.tables.groups standing.at look.decision row)))) (sym here)
    ∙ ap (λ x. LookReply standing.entry.job look.decision.case look.due look.decision.next look.decision.put x) (sym fires.opened))
    (λ h s.
    let looks : look_of h ≡ Some (look_for row look) = looked-kept kept h admin standing row look stands found seen s in
    let opens : shots_stepped h ≡ shots_decided kept.tables.groups standing.at look.decision row = looked-shots kept h admin standing row look stands looks s in
    let rules_h : KeepsRules (records_of h) = subst KeepsRules s.keeps.tables rules in
    let found_h : job_with standing.entry.job (jobs_of h) ≡ Some row = row-stands kept h standing.entry.job row found s in
    let rows : applied_all kept.tables changes ≡ records_of (After h (ScanStep admin) (LookReply standing.entry.job look.decision.case look.due look.decision.next look.decision.put fired.opened)) =
    ap (applied_all kept.tables) sum
    ∙ applied_append kept.tables (fired_changes kept pools (shots_decided kept.tables.groups standing.at look.decision row)) (PutJob new ∷ [])
    ∙ ap (λ (t : Tables). applied_all t (PutJob new ∷ [])) (fired-tables kept h admin pools (shots_decided kept.tables.groups standing.at look.decision row) below here rules fires.ids s)
    ∙ ap (λ ss. applied_all (with_logs (records_of h) (last_log h + length ss) (rows_of (placed_at h admin ss))) (PutJob new ∷ [])) (sym opens)
    ∙ ap (λ js. record (with_logs (records_of h) (last_log h + length (shots_stepped h)) (rows_of (placed_at h admin (shots_stepped h)))) { jobs = js }) (rows-set h standing.entry.job row new (look_for row look) rules_h found_h refl made ∙ ap (rows_looked h) (sym looks)) in
    let P : List Entering → Type 0 = λ es. Keeps (with_node admin (after_step (ticket_put row look.decision.put) es) (record kept { tables = applied_all kept.tables changes; scan = stepped kept.scan })) (After h (ScanStep admin) (LookReply standing.entry.job look.decision.case look.due look.decision.next look.decision.put fired.opened)) in
    subst P (sym fires.entering) (stands-stepped kept h admin pools (LookReply standing.entry.job look.decision.case look.due look.decision.next look.decision.put fired.opened) (Some (look_for row look)) (shots_decided kept.tables.groups standing.at look.decision row) (applied_all kept.tables changes) below here looks opens s rows))

-- a step of an admin that owns no scan
pub not-scanning : (kept : Kept) (h : History) (admin : ℕ) → runs h admin ≡ true → IsNotScanning kept.scan admin → Stands kept h → reply_after h (ScanStep admin) ≡ refused NotScanning
not-scanning kept h admin running none s =
    answered-running (runs h admin) admin _ running
    ∙ ap (λ x. step_reply (last_log h) (pools_of h admin) (shots_stepped h) (look_of h) admin x) (sym s.keeps.scan)
    ∙ none (last_log h) (pools_of h admin) (shots_stepped h) (look_of h)
