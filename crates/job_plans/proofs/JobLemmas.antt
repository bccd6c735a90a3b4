-- Plans that add and remove jobs.
use Rattle.std.proofs.Common.{◌≡◌, ℕ, ◌+◌, ◌<◌, ◌≤◌, List, [], ◌∷◌, ◌++◌, Bool, true, false, cond, eqb, not, nat_lt, None, Ok, Err, is_some, length, map, inr, refl, sym, ap, ◌∙◌, subst, arith}
use Rattle.std.specs.List.{filter}
use Rattle.std.proofs.lemmas.Bool.Decides.{nat_tests}
use Rattle.std.proofs.lemmas.List.{map-append}
use Rattle.job_values.specs.declared.limits.TheConstants.{LAST_JOB_ID}
use Rattle.job_values.specs.declared.fault.ScheduleFault.{ScheduleFault}
use Rattle.job_values.specs.declared.spec.JobSpec.{JobSpec}
use Rattle.job_events.specs.declared.cluster.ClusterEvent.TheVariants.{AddJob, RemoveJob}
use Rattle.job_events.specs.declared.cluster.ClusterRefusal.TheVariants.{NoJob, TooMany, BadSchedule, BadZone}
use Rattle.job_events.specs.declared.cluster.ClusterReply.{ClusterReply}
use Rattle.job_events.specs.declared.cluster.ClusterReply.TheVariants.{Done, Refused, Job as JobReply}
use Rattle.job_values.specs.declared.fault.ZoneFault.{ZoneFault}
use Rattle.zone_texts.specs.declared.zone.Zone.{Zone}
use Rattle.cron_schedule.specs.declared.plan.Plan.{Plan}
use Rattle.cron_schedule.specs.Parse.{parsed}
use Rattle.job_records.specs.declared.change.Change.{Change}
use Rattle.job_records.specs.declared.change.Change.TheVariants as change
use Rattle.job_records.specs.declared.job.Job.{Job}
use Rattle.job_records.specs.declared.last_ids.LastIds.{LastIds}
use Rattle.job_values.specs.declared.limits.TheConstants.{MOST_JOBS}
use Rattle.job_records.specs.Rows.{IsRising}
use Rattle.job_records.specs.Rules.{KeepsRules, SaysZone}
use Rattle.job_records.specs.Tables.{Tables}
use Rattle.job_records.specs.Changes.{without, applied, AreAllowed}
use Rattle.job_records.proofs.RowLemmas.{rising-ends}
use Rattle.job_records.proofs.PutLemmas.{put_behind}
use Rattle.job_records.proofs.Keeping.{keeps_last, keeps_job, keeps_drop_job}
use Rattle.job_records.proofs.ZoneLemmas.{zone-says}
use Rattle.cluster_history.specs.declared.settings.Settings.{Settings}
use Rattle.cluster_history.specs.History.{History, After, accepted}
use Rattle.cluster_history.specs.Groups.{groups_of, group_with}
use Rattle.cluster_history.specs.Looks.{job_with}
use Rattle.cluster_history.specs.Jobs.{jobs_of, ids_of, row_of, row_by, last_job, spec_of, edition_of, next_of, plan_of}
use Rattle.cluster_history.specs.Zones.{zone_in}
use Rattle.cluster_history.specs.Replies.{reply_of, job_reply, schedule_reply, zone_reply, room_reply, done_if, refused}
use Rattle.cluster_history.proofs.RowIds.{jobs_rise}
use Rattle.cluster_plan.specs.declared.prepared.NodeChange.TheVariants as node
use Rattle.cluster_plan.specs.Edits.{new_row}
use Rattle.cluster_plan.specs.Kept.{Kept}
use Rattle.cluster_plan.specs.Plans.{IsPlanned}
use Rattle.cluster_plan.specs.Stands.{Stands}
use Rattle.cluster_history.specs.Records.{records_of}
use Rattle.cluster_plan.proofs.PlanLemmas.{planned-refused}
use Rattle.cluster_plan.proofs.RowPlans.{planned-rows}
use Rattle.cluster_plan.proofs.JobRows.{plan-parsed, same-id}

-- the last ids with that of a new job
abbrev pub with_last_job : ℕ → LastIds → LastIds
with_last_job id last = record last { job = id }

-- the changes that add a job
abbrev pub adding_job : LastIds → Job → List Change
adding_job last new = change.LastIds last ∷ change.PutJob new ∷ []

-- the reply to the adding of a job, by what is kept
abbrev job_kept : Kept → JobSpec → ClusterReply
job_kept kept spec = job_reply (is_some (group_with spec.group kept.tables.groups)) (parsed spec.kind spec.schedule) (zone_in kept.settings spec) (length kept.tables.jobs) kept.tables.last.job

add-reply : (kept : Kept) (h : History) (spec : JobSpec) → Stands kept (accepted h) → reply_of h (AddJob spec) ≡ job_kept kept spec
add-reply kept h spec s =
    sym (ap (λ (t : Tables). job_reply (is_some (group_with spec.group t.groups)) (parsed spec.kind spec.schedule) (zone_in kept.settings spec) (length t.jobs) t.last.job) s.keeps.tables
    ∙ ap (λ (x : Settings). job_reply (is_some (group_with spec.group (groups_of (accepted h)))) (parsed spec.kind spec.schedule) (zone_in x spec) (length (jobs_of (accepted h))) (last_job (accepted h))) s.keeps.settings)

-- the reply where the group is there and the texts are a schedule and a zone
job-reply_found : (kept : Kept) (spec : JobSpec) (plan : Plan) (zone : Zone) → is_some (group_with spec.group kept.tables.groups) ≡ true → parsed spec.kind spec.schedule ≡ Ok plan → zone_in kept.settings spec ≡ Ok zone → job_kept kept spec ≡ room_reply (length kept.tables.jobs) kept.tables.last.job
job-reply_found kept spec plan zone group said clock =
    ap (λ b. job_reply b (parsed spec.kind spec.schedule) (zone_in kept.settings spec) (length kept.tables.jobs) kept.tables.last.job) group
    ∙ ap (λ x. schedule_reply x (zone_in kept.settings spec) (length kept.tables.jobs) kept.tables.last.job) said
    ∙ ap (λ z. zone_reply z (length kept.tables.jobs) kept.tables.last.job) clock

job-room : (count last : ℕ) → count < MOST_JOBS → last < LAST_JOB_ID → room_reply count last ≡ JobReply (last + 1)
job-room count last room ids =
    let test : nat_lt count 100000 ≡ true = let lt : count < 100000 = room in grind (arith, nat_tests) in
    let below : nat_lt last 2147483647 ≡ true = let lt : last < 2147483647 = ids in grind (arith, nat_tests) in
    ap (λ b. cond b (cond (nat_lt last 2147483647) (JobReply (last + 1)) (refused (TooMany 2147483647))) (refused (TooMany 100000))) test
    ∙ ap (λ b. cond b (JobReply (last + 1)) (refused (TooMany 2147483647))) below

job-full : (count last : ℕ) → MOST_JOBS ≤ count → room_reply count last ≡ refused (TooMany MOST_JOBS)
job-full count last full =
    let test : nat_lt count 100000 ≡ false = let le : 100000 ≤ count = full in grind (arith, nat_tests) in
    ap (λ b. cond b (cond (nat_lt last 2147483647) (JobReply (last + 1)) (refused (TooMany 2147483647))) (refused (TooMany 100000))) test

job-spent : (count last : ℕ) → count < MOST_JOBS → LAST_JOB_ID ≤ last → room_reply count last ≡ refused (TooMany LAST_JOB_ID)
job-spent count last room spent =
    let test : nat_lt count 100000 ≡ true = let lt : count < 100000 = room in grind (arith, nat_tests) in
    let above : nat_lt last 2147483647 ≡ false = let le : 2147483647 ≤ last = spent in grind (arith, nat_tests) in
    ap (λ b. cond b (cond (nat_lt last 2147483647) (JobReply (last + 1)) (refused (TooMany 2147483647))) (refused (TooMany 100000))) test
    ∙ ap (λ b. cond b (JobReply (last + 1)) (refused (TooMany 2147483647))) above

-- a job whose text is no schedule is refused
pub add-bad : (kept : Kept) (spec : JobSpec) (fault : ScheduleFault) → is_some (group_with spec.group kept.tables.groups) ≡ true → parsed spec.kind spec.schedule ≡ Err fault
    → IsPlanned kept (AddJob spec) (record { reply = Refused (BadSchedule fault); changes = []; node = node.Nothing })
add-bad kept spec fault group said =
    planned-refused kept (AddJob spec) (BadSchedule fault) (λ h s. add-reply kept h spec s
    ∙ ap (λ b. job_reply b (parsed spec.kind spec.schedule) (zone_in kept.settings spec) (length kept.tables.jobs) kept.tables.last.job) group
    ∙ ap (λ x. job_reply true x (zone_in kept.settings spec) (length kept.tables.jobs) kept.tables.last.job) said)

-- so is one whose text is no zone
pub add-zone : (kept : Kept) (spec : JobSpec) (plan : Plan) (fault : ZoneFault) → is_some (group_with spec.group kept.tables.groups) ≡ true → parsed spec.kind spec.schedule ≡ Ok plan → zone_in kept.settings spec ≡ Err fault
    → IsPlanned kept (AddJob spec) (record { reply = Refused (BadZone fault); changes = []; node = node.Nothing })
add-zone kept spec plan fault group said clock =
    planned-refused kept (AddJob spec) (BadZone fault) (λ h s. add-reply kept h spec s
    ∙ ap (λ b. job_reply b (parsed spec.kind spec.schedule) (zone_in kept.settings spec) (length kept.tables.jobs) kept.tables.last.job) group
    ∙ ap (λ x. schedule_reply x (zone_in kept.settings spec) (length kept.tables.jobs) kept.tables.last.job) said
    ∙ ap (λ z. zone_reply z (length kept.tables.jobs) kept.tables.last.job) clock)

-- so is one more than there may be
pub add-full : (kept : Kept) (spec : JobSpec) (plan : Plan) (zone : Zone) → is_some (group_with spec.group kept.tables.groups) ≡ true → parsed spec.kind spec.schedule ≡ Ok plan → zone_in kept.settings spec ≡ Ok zone → MOST_JOBS ≤ length kept.tables.jobs
    → IsPlanned kept (AddJob spec) (record { reply = Refused (TooMany MOST_JOBS); changes = []; node = node.Nothing })
add-full kept spec plan zone group said clock full =
    planned-refused kept (AddJob spec) (TooMany MOST_JOBS) (λ h s. add-reply kept h spec s ∙ job-reply_found kept spec plan zone group said clock ∙ job-full (length kept.tables.jobs) kept.tables.last.job full)

-- and one behind the greatest id
pub add-spent : (kept : Kept) (spec : JobSpec) (plan : Plan) (zone : Zone) → is_some (group_with spec.group kept.tables.groups) ≡ true → parsed spec.kind spec.schedule ≡ Ok plan → zone_in kept.settings spec ≡ Ok zone → length kept.tables.jobs < MOST_JOBS → LAST_JOB_ID ≤ kept.tables.last.job
    → IsPlanned kept (AddJob spec) (record { reply = Refused (TooMany LAST_JOB_ID); changes = []; node = node.Nothing })
add-spent kept spec plan zone group said clock room spent =
    planned-refused kept (AddJob spec) (TooMany LAST_JOB_ID) (λ h s. add-reply kept h spec s ∙ job-reply_found kept spec plan zone group said clock ∙ job-spent (length kept.tables.jobs) kept.tables.last.job room spent)

add-allowed : (t : Tables) (spec : JobSpec) (plan : Plan) (id : ℕ) (last : LastIds) → KeepsRules t → is_some (group_with spec.group t.groups) ≡ true → parsed spec.kind spec.schedule ≡ Ok plan → SaysZone spec.zone → length t.jobs < MOST_JOBS → t.last.job < LAST_JOB_ID → id ≡ t.last.job + 1 → last ≡ with_last_job id t.last
    → AreAllowed t (adding_job last (new_row id spec plan))
add-allowed t spec plan id last rules group said zone room ids here is =
    let groups : last.group ≡ t.last.group = ap (λ (x : LastIds). x.group) is in
    let job : last.job ≡ id = ap (λ (x : LastIds). x.job) is in
    let log : last.log ≡ t.last.log = ap (λ (x : LastIds). x.log) is in
    let most : t.last.job < 2147483647 = ids in
    let raised = keeps_last t last rules (omega arith) (omega arith) (omega arith) (omega (arith, rules.groups.last_id)) (omega arith) (omega (arith, rules.logs.last_id)) in
    (raised, (keeps_job (applied t (change.LastIds last)) (new_row id spec plan) raised (omega arith) (omega arith) refl said zone group (inr room), tt))

-- a job's row, by whether it is the one that is added
abbrev row_added : History → JobSpec → Bool → ℕ → Job
row_added h spec b j = row_by (λ x. cond b spec (spec_of h x)) (λ x. cond b 0 (edition_of h x)) (λ x. cond b None (next_of h x)) j

-- the rows of ids up to the last one are as before a job is added
rows-before : (h : History) (spec : JobSpec) (r : ClusterReply) (low : ℕ) (ids : List ℕ) → IsRising (λ job. job.id) low (map (row_of h) ids) (last_job h) → map (row_of (After h (AddJob spec) r)) ids ≡ map (row_of h) ids
rows-before h spec r low [] rising = refl
rows-before h spec r low (j ∷ ids) rising =
    let below : j ≤ last_job h = rising-ends (λ (job : Job). job.id) j (last_job h) (map (row_of h) ids) rising.1 in
    let other : eqb j (last_job h + 1) ≡ false = grind (arith, nat_tests) in
    ap (λ b. row_added h spec b j ∷ map (row_of (After h (AddJob spec) r)) ids) other
    ∙ ap (λ rows. row_of h j ∷ rows) (rows-before h spec r j ids rising.1)

-- the rows after a job is added
jobs-added : (h : History) (spec : JobSpec) (r : ClusterReply) → IsRising (λ job. job.id) 0 (jobs_of h) (last_job h) → jobs_of (After h (AddJob spec) r) ≡ jobs_of h ++ new_row (last_job h + 1) spec (plan_of spec) ∷ []
jobs-added h spec r rising =
    map-append (row_of (After h (AddJob spec) r)) (ids_of h) ((last_job h + 1) ∷ [])
    ∙ ap (λ b. map (row_of (After h (AddJob spec) r)) (ids_of h) ++ row_added h spec b (last_job h + 1) ∷ []) (same-id (last_job h + 1))
    ∙ ap (λ rows. rows ++ new_row (last_job h + 1) spec (plan_of spec) ∷ []) (rows-before h spec r 0 (ids_of h) rising)

-- the rows and the last ids with other jobs
abbrev with_jobs : History → List Job → LastIds → Tables
with_jobs h jobs last = record (records_of h) { jobs = jobs; last = last }

-- a job is added
pub add_job-planned : (kept : Kept) (spec copied : JobSpec) (plan : Plan) (zone : Zone) (id : ℕ) (last : LastIds) → KeepsRules kept.tables → is_some (group_with spec.group kept.tables.groups) ≡ true → parsed spec.kind spec.schedule ≡ Ok plan → zone_in kept.settings spec ≡ Ok zone → length kept.tables.jobs < MOST_JOBS → kept.tables.last.job < LAST_JOB_ID
    → id ≡ kept.tables.last.job + 1 → copied ≡ spec → last ≡ with_last_job id kept.tables.last
    → IsPlanned kept (AddJob spec) (record { reply = JobReply id; changes = adding_job last (new_row id copied plan); node = node.Nothing })
add_job-planned kept spec copied plan zone id last rules group said clock room ids here same is =
    planned-rows kept (AddJob spec) (JobReply id) (adding_job last (new_row id copied plan))
    (subst (λ (x : JobSpec). AreAllowed kept.tables (adding_job last (new_row id x plan))) (sym same) (add-allowed kept.tables spec plan id last rules group said (zone-says spec.zone kept.settings.offset zone clock) room ids here is)) refl tt refl
    (λ h. record { scan = refl; taken = refl; nodes = refl })
    (λ h s. add-reply kept h spec s ∙ job-reply_found kept spec plan zone group said clock ∙ job-room (length kept.tables.jobs) kept.tables.last.job room ids ∙ ap (λ n. JobReply n) (sym here))
    (λ h s.
    let number : id ≡ last_job h + 1 = here ∙ ap (λ (t : Tables). t.last.job + 1) s.keeps.tables in
    let lasts : last ≡ with_last_job (last_job h + 1) (records_of h).last = is ∙ ap (λ n. with_last_job n kept.tables.last) number ∙ ap (λ (t : Tables). with_last_job (last_job h + 1) t.last) s.keeps.tables in
    let rising = jobs_rise h s.opens in
    let row : new_row id copied plan ≡ new_row (last_job h + 1) spec (plan_of spec) =
    ap (λ n. new_row n copied plan) number ∙ ap (λ x. new_row (last_job h + 1) x plan) same ∙ ap (λ p. new_row (last_job h + 1) spec p) (sym (plan-parsed spec plan said)) in
    let behind = put_behind (λ (j : Job). j.id) 0 (last_job h) (new_row id copied plan) (jobs_of h) rising (omega arith) in
    ap (λ js. with_jobs h js last) (behind ∙ ap (λ x. jobs_of h ++ x ∷ []) row ∙ sym (jobs-added h spec (JobReply id) rising))
    ∙ ap (λ l. with_jobs h (jobs_of (After h (AddJob spec) (JobReply id))) l) lasts)

kept-cond : (h : History) (j : ℕ) (ids : List ℕ) (b : Bool) → cond b (row_of h j ∷ map (row_of h) ids) (map (row_of h) ids) ≡ map (row_of h) (cond b (j ∷ ids) ids)
kept-cond h j ids true = refl
kept-cond h j ids false = refl

-- the rows but for that of a job are the rows of the other ids
rows-without : (h : History) (job : ℕ) (ids : List ℕ) → without (λ x. x.id) job (map (row_of h) ids) ≡ map (row_of h) (filter (λ id. not (eqb id job)) ids)
rows-without h job [] = refl
rows-without h job (j ∷ ids) =
    ap (λ rows. cond (not (eqb j job)) (row_of h j ∷ rows) rows) (rows-without h job ids)
    ∙ kept-cond h j (filter (λ id. not (eqb id job)) ids) (not (eqb j job))

remove-reply : (kept : Kept) (h : History) (job : ℕ) → Stands kept (accepted h) → reply_of h (RemoveJob job) ≡ done_if (is_some (job_with job kept.tables.jobs)) NoJob
remove-reply kept h job s = sym (ap (λ (t : Tables). done_if (is_some (job_with job t.jobs)) NoJob) s.keeps.tables)

-- a job is removed
pub remove-planned : (kept : Kept) (job : ℕ) → KeepsRules kept.tables → is_some (job_with job kept.tables.jobs) ≡ true → IsPlanned kept (RemoveJob job) (record { reply = Done; changes = change.DropJob job ∷ []; node = node.Nothing })
remove-planned kept job rules present =
    planned-rows kept (RemoveJob job) Done (change.DropJob job ∷ []) (keeps_drop_job kept.tables job rules, tt) refl tt refl
    (λ h. record { scan = refl; taken = refl; nodes = refl })
    (λ h s. remove-reply kept h job s ∙ ap (λ b. done_if b NoJob) present)
    (λ h s. ap (λ js. with_jobs h js (records_of h).last) (rows-without h job (ids_of h)))
