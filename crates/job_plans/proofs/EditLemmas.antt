-- Starts, stops and updates of jobs: the row of a present job is replaced.
use Rattle.std.proofs.Common.{◌≡◌, ℕ, ◌+◌, ◌<◌, ◌≤◌, List, [], ◌∷◌, Bool, true, false, cond, nat_lt, Option, Some, None, Ok, Err, is_some, refl, sym, ap, ◌∙◌, arith}
use Rattle.std.specs.Prelude.{if◌then◌else◌}
use Rattle.std.proofs.lemmas.Bool.Decides.{nat_tests}
use Rattle.job_values.specs.declared.fault.ScheduleFault.{ScheduleFault}
use Rattle.job_values.specs.declared.fault.ZoneFault.{ZoneFault}
use Rattle.zone_texts.specs.declared.zone.Zone.{Zone}
use Rattle.job_values.specs.declared.spec.JobSpec.{JobSpec}
use Rattle.job_events.specs.declared.cluster.ClusterEvent.TheVariants.{UpdateJob, StartJob, StopJob}
use Rattle.job_events.specs.declared.cluster.ClusterRefusal.{ClusterRefusal}
use Rattle.job_events.specs.declared.cluster.ClusterRefusal.TheVariants.{IdsSpent, BadSchedule, BadZone}
use Rattle.job_values.specs.declared.limits.TheConstants.{LAST_EDITION}
use Rattle.job_events.specs.declared.cluster.ClusterReply.{ClusterReply}
use Rattle.job_events.specs.declared.cluster.ClusterReply.TheVariants.{Running, Updated, Halted, Refused}
use Rattle.cron_schedule.specs.declared.plan.Plan.{Plan}
use Rattle.cron_schedule.specs.Parse.{parsed}
use Rattle.job_records.specs.declared.change.Change.TheVariants as change
use Rattle.job_records.specs.declared.job.Job.{Job}
use Rattle.job_records.specs.Rows.{RisesFrom}
use Rattle.job_records.specs.Rules.{KeepsRules}
use Rattle.job_records.specs.Tables.{Tables}
use Rattle.job_records.specs.Changes.{put_row}
use Rattle.job_records.proofs.ZoneLemmas.{zone-says}
use Rattle.cluster_history.specs.declared.settings.Settings.{Settings}
use Rattle.cluster_history.specs.History.{History, After, accepted, settings_of}
use Rattle.cluster_history.specs.Groups.{groups_of, group_with}
use Rattle.cluster_history.specs.Looks.{job_with}
use Rattle.cluster_history.specs.Jobs.{jobs_of, row_of, row_by, spec_of, edition_of, next_of, plan_of, first_time, updated_time}
use Rattle.cluster_history.specs.Zones.{zone_in, zone_said, zone_of}
use Rattle.cluster_history.specs.Replies.{reply_of, running_reply, edition_reply, halt_reply, update_reply, spec_reply, plan_reply, clock_reply, again_reply, refused}
use Rattle.cluster_plan.specs.declared.prepared.NodeChange.TheVariants as node
use Rattle.cluster_plan.specs.Kept.{Kept}
use Rattle.cluster_plan.specs.Plans.{IsPlanned}
use Rattle.cluster_plan.specs.Stands.{Stands}
use Rattle.cluster_history.specs.Records.{records_of}
use Rattle.cluster_plan.specs.Edits.{updated_row, turned_row}
use Rattle.cluster_plan.proofs.PlanLemmas.{planned-refused}
use Rattle.cluster_plan.proofs.RowPlans.{planned-rows}
use Rattle.cluster_plan.proofs.JobRows.{same-id, plan-parsed, row-found, jobs-put, edit-allowed, turn-allowed, row-stands, rows-rise}

-- the rows and the last ids with other jobs
abbrev with_jobs : History → List Job → Tables
with_jobs h jobs = record (records_of h) { jobs = jobs }

-- a job's row, by whether it is the one that is started
abbrev row_started : History → ℕ → Bool → ℕ → Job
row_started h at b j =
    row_by (spec_of h) (λ x. cond b (edition_of h x + 1) (edition_of h x)) (λ x. cond b (first_time (zone_of (settings_of h) (spec_of h x)) (plan_of (spec_of h x)) at) (next_of h x)) j

-- or stopped
abbrev row_stopped : History → Bool → ℕ → Job
row_stopped h b j = row_by (spec_of h) (λ x. cond b (edition_of h x + 1) (edition_of h x)) (λ x. cond b None (next_of h x)) j

-- or updated
abbrev row_updated : History → ℕ → JobSpec → Bool → ℕ → Job
row_updated h at spec b j =
    row_by (λ x. cond b spec (spec_of h x)) (λ x. cond b (edition_of h x + 1) (edition_of h x)) (λ x. cond b (updated_time (zone_of (settings_of h) spec) (plan_of spec) at (next_of h x)) (next_of h x)) j

started-rows : (h : History) (at job : ℕ) (row new : Job) (r : ClusterReply) → RisesFrom (λ x. x.id) 0 (jobs_of h) → job_with job (jobs_of h) ≡ Some row → row ≡ row_of h job
    → new ≡ turned_row (row.edition + 1) (first_time (zone_of (settings_of h) row.spec) row.schedule at) row → put_row (λ x. x.id) new (jobs_of h) ≡ jobs_of (After h (StartJob at job) r)
started-rows h at job row new r rises found is made =
    let here : new ≡ row_started h at true job = made ∙ ap (λ (x : Job). turned_row (x.edition + 1) (first_time (zone_of (settings_of h) x.spec) x.schedule at) x) is in
    jobs-put h (row_of (After h (StartJob at job) r)) job row new rises found (ap (λ (x : Job). x.id) here) (here ∙ sym (ap (λ b. row_started h at b job) (same-id job))) (λ j other. ap (λ b. row_started h at b j) other)

stopped-rows : (h : History) (job : ℕ) (row new : Job) (r : ClusterReply) → RisesFrom (λ x. x.id) 0 (jobs_of h) → job_with job (jobs_of h) ≡ Some row → row ≡ row_of h job
    → new ≡ turned_row (row.edition + 1) None row → put_row (λ x. x.id) new (jobs_of h) ≡ jobs_of (After h (StopJob job) r)
stopped-rows h job row new r rises found is made =
    let here : new ≡ row_stopped h true job = made ∙ ap (λ (x : Job). turned_row (x.edition + 1) None x) is in
    jobs-put h (row_of (After h (StopJob job) r)) job row new rises found (ap (λ (x : Job). x.id) here) (here ∙ sym (ap (λ b. row_stopped h b job) (same-id job))) (λ j other. ap (λ b. row_stopped h b j) other)

updated-rows : (h : History) (at job : ℕ) (spec : JobSpec) (row new : Job) (r : ClusterReply) → RisesFrom (λ x. x.id) 0 (jobs_of h) → job_with job (jobs_of h) ≡ Some row → row ≡ row_of h job
    → new ≡ updated_row spec (plan_of spec) (row.edition + 1) (updated_time (zone_of (settings_of h) spec) (plan_of spec) at row.next) row → put_row (λ x. x.id) new (jobs_of h) ≡ jobs_of (After h (UpdateJob at job spec) r)
updated-rows h at job spec row new r rises found is made =
    let here : new ≡ row_updated h at spec true job = made ∙ ap (λ (x : Job). updated_row spec (plan_of spec) (x.edition + 1) (updated_time (zone_of (settings_of h) spec) (plan_of spec) at x.next) x) is in
    jobs-put h (row_of (After h (UpdateJob at job spec) r)) job row new rises found (ap (λ (x : Job). x.id) here) (here ∙ sym (ap (λ b. row_updated h at spec b job) (same-id job))) (λ j other. ap (λ b. row_updated h at spec b j) other)

-- an edition that can be raised
raised : (r : ClusterReply) (edition : ℕ) → edition < LAST_EDITION → (if nat_lt edition LAST_EDITION then r else refused IdsSpent) ≡ r
raised r edition below =
    let test : nat_lt edition LAST_EDITION ≡ true = let lt : edition < 18446744073709551615 = below in grind (arith, nat_tests) in
    ap (λ b. cond b r (refused IdsSpent)) test

start-reply : (kept : Kept) (h : History) (at job : ℕ) → Stands kept (accepted h) → reply_of h (StartJob at job) ≡ running_reply kept.settings at (job_with job kept.tables.jobs)
start-reply kept h at job s =
    sym (ap (λ (t : Tables). running_reply kept.settings at (job_with job t.jobs)) s.keeps.tables
    ∙ ap (λ (x : Settings). running_reply x at (job_with job (jobs_of (accepted h)))) s.keeps.settings)

-- the greatest edition can't be raised
not-raised : (r : ClusterReply) (edition : ℕ) → LAST_EDITION ≤ edition → (if nat_lt edition LAST_EDITION then r else refused IdsSpent) ≡ refused IdsSpent
not-raised r edition above =
    let test : nat_lt edition LAST_EDITION ≡ false = let le : 18446744073709551615 ≤ edition = above in grind (arith, nat_tests) in
    ap (λ b. cond b r (refused IdsSpent)) test

-- the start of a job in the greatest edition is refused
pub start-spent : (kept : Kept) (at job next : ℕ) (row : Job) → job_with job kept.tables.jobs ≡ Some row → first_time (zone_of kept.settings row.spec) row.schedule at ≡ Some next → LAST_EDITION ≤ row.edition
    → IsPlanned kept (StartJob at job) (record { reply = Refused IdsSpent; changes = []; node = node.Nothing })
start-spent kept at job next row found first above =
    planned-refused kept (StartJob at job) IdsSpent (λ h s. start-reply kept h at job s
    ∙ ap (running_reply kept.settings at) found ∙ ap (edition_reply row.edition) first ∙ not-raised (Running (row.edition + 1) next) row.edition above)

-- a job is started
pub start-planned : (kept : Kept) (at job edition next : ℕ) (row new : Job) → KeepsRules kept.tables → job_with job kept.tables.jobs ≡ Some row → first_time (zone_of kept.settings row.spec) row.schedule at ≡ Some next → row.edition < LAST_EDITION → edition ≡ row.edition + 1 → new ≡ turned_row edition (Some next) row
    → IsPlanned kept (StartJob at job) (record { reply = Running edition next; changes = change.PutJob new ∷ []; node = node.Nothing })
start-planned kept at job edition next row new rules found first below raises made =
    planned-rows kept (StartJob at job) (Running edition next) (change.PutJob new ∷ []) (turn-allowed kept.tables job row new edition (Some next) rules found made) refl tt refl
    (λ h. record { scan = refl; taken = refl; nodes = refl })
    (λ h s. start-reply kept h at job s
    ∙ ap (running_reply kept.settings at) found
    ∙ ap (edition_reply row.edition) first
    ∙ raised (Running (row.edition + 1) next) row.edition below
    ∙ ap (λ n. Running n next) (sym raises))
    (λ h s.
    let there = row-stands kept h job row found s in
    let at_once : Some next ≡ first_time (zone_of (settings_of h) row.spec) row.schedule at = sym first ∙ ap (λ (x : Settings). first_time (zone_of x row.spec) row.schedule at) s.keeps.settings in
    let is : new ≡ turned_row (row.edition + 1) (first_time (zone_of (settings_of h) row.spec) row.schedule at) row = made ∙ ap (λ n. turned_row n (Some next) row) raises ∙ ap (λ (o : Option ℕ). turned_row (row.edition + 1) o row) at_once in
    ap (with_jobs h) (started-rows h at job row new (Running edition next) (rows-rise kept h s) there (row-found h job row there) is))

stop-reply : (kept : Kept) (h : History) (job : ℕ) → Stands kept (accepted h) → reply_of h (StopJob job) ≡ halt_reply (job_with job kept.tables.jobs)
stop-reply kept h job s = sym (ap (λ (t : Tables). halt_reply (job_with job t.jobs)) s.keeps.tables)

-- a job is stopped
pub stop-planned : (kept : Kept) (job edition : ℕ) (row new : Job) → KeepsRules kept.tables → job_with job kept.tables.jobs ≡ Some row → row.edition < LAST_EDITION → edition ≡ row.edition + 1 → new ≡ turned_row edition None row
    → IsPlanned kept (StopJob job) (record { reply = Halted edition; changes = change.PutJob new ∷ []; node = node.Nothing })
stop-planned kept job edition row new rules found below raises made =
    planned-rows kept (StopJob job) (Halted edition) (change.PutJob new ∷ []) (turn-allowed kept.tables job row new edition None rules found made) refl tt refl
    (λ h. record { scan = refl; taken = refl; nodes = refl })
    (λ h s. stop-reply kept h job s ∙ ap halt_reply found ∙ raised (Halted (row.edition + 1)) row.edition below ∙ ap (λ n. Halted n) (sym raises))
    (λ h s.
    let there = row-stands kept h job row found s in
    ap (with_jobs h) (stopped-rows h job row new (Halted edition) (rows-rise kept h s) there (row-found h job row there) (made ∙ ap (λ n. turned_row n None row) raises)))

-- the reply to an update, by what is kept
abbrev update_kept : Kept → ℕ → ℕ → JobSpec → ClusterReply
update_kept kept at job spec =
    update_reply (is_some (group_with spec.group kept.tables.groups)) (zone_in kept.settings spec) at (parsed spec.kind spec.schedule) (job_with job kept.tables.jobs)

update-reply : (kept : Kept) (h : History) (at job : ℕ) (spec : JobSpec) → Stands kept (accepted h) → reply_of h (UpdateJob at job spec) ≡ update_kept kept at job spec
update-reply kept h at job spec s =
    sym (ap (λ (t : Tables). update_reply (is_some (group_with spec.group t.groups)) (zone_in kept.settings spec) at (parsed spec.kind spec.schedule) (job_with job t.jobs)) s.keeps.tables
    ∙ ap (λ (x : Settings). update_reply (is_some (group_with spec.group (groups_of (accepted h)))) (zone_in x spec) at (parsed spec.kind spec.schedule) (job_with job (jobs_of (accepted h)))) s.keeps.settings)

updated-is : (edition e : ℕ) (o n : Option ℕ) (b : Bool) → cond b (Updated (edition + 1) o) (refused IdsSpent) ≡ Updated e n → (e ≡ edition + 1) × (n ≡ o)
updated-is edition e o n true says = ((cc), (cc))
updated-is edition e o n false says = absurd (cc)

-- what an update that is not refused says
again-is : (edition e : ℕ) (running : Bool) (o n : Option ℕ) → again_reply edition running o ≡ Updated e n → (e ≡ edition + 1) × (n ≡ o)
again-is edition e true None n says = absurd (cc)
again-is edition e true (Some next) n says = updated-is edition e (Some next) n (nat_lt edition LAST_EDITION) says
again-is edition e false o n says = updated-is edition e o n (nat_lt edition LAST_EDITION) says

-- the reply to the update of a present job with a schedule and a group that is there
update-found : (kept : Kept) (at job : ℕ) (spec : JobSpec) (row : Job) (plan : Plan) (zone : Zone) → job_with job kept.tables.jobs ≡ Some row → is_some (group_with spec.group kept.tables.groups) ≡ true → parsed spec.kind spec.schedule ≡ Ok plan → zone_in kept.settings spec ≡ Ok zone
    → update_kept kept at job spec ≡ again_reply row.edition (is_some row.next) (updated_time zone plan at row.next)
update-found kept at job spec row plan zone found group said clock =
    ap (update_reply (is_some (group_with spec.group kept.tables.groups)) (zone_in kept.settings spec) at (parsed spec.kind spec.schedule)) found
    ∙ ap (λ b. spec_reply b (zone_in kept.settings spec) at row (parsed spec.kind spec.schedule)) group
    ∙ ap (plan_reply (zone_in kept.settings spec) at row) said
    ∙ ap (clock_reply at row plan) clock

-- an update with a text that is no zone is refused
pub update-zone : (kept : Kept) (at job : ℕ) (spec : JobSpec) (row : Job) (plan : Plan) (fault : ZoneFault) → job_with job kept.tables.jobs ≡ Some row → is_some (group_with spec.group kept.tables.groups) ≡ true → parsed spec.kind spec.schedule ≡ Ok plan
    → zone_in kept.settings spec ≡ Err fault → IsPlanned kept (UpdateJob at job spec) (record { reply = Refused (BadZone fault); changes = []; node = node.Nothing })
update-zone kept at job spec row plan fault found group said clock =
    planned-refused kept (UpdateJob at job spec) (BadZone fault) (λ h s. update-reply kept h at job spec s
    ∙ ap (update_reply (is_some (group_with spec.group kept.tables.groups)) (zone_in kept.settings spec) at (parsed spec.kind spec.schedule)) found
    ∙ ap (λ b. spec_reply b (zone_in kept.settings spec) at row (parsed spec.kind spec.schedule)) group
    ∙ ap (plan_reply (zone_in kept.settings spec) at row) said
    ∙ ap (clock_reply at row plan) clock)

-- an update with a text that is no schedule is refused
pub update-bad : (kept : Kept) (at job : ℕ) (spec : JobSpec) (row : Job) (fault : ScheduleFault) → job_with job kept.tables.jobs ≡ Some row → is_some (group_with spec.group kept.tables.groups) ≡ true → parsed spec.kind spec.schedule ≡ Err fault
    → IsPlanned kept (UpdateJob at job spec) (record { reply = Refused (BadSchedule fault); changes = []; node = node.Nothing })
update-bad kept at job spec row fault found group said =
    planned-refused kept (UpdateJob at job spec) (BadSchedule fault) (λ h s. update-reply kept h at job spec s
    ∙ ap (update_reply (is_some (group_with spec.group kept.tables.groups)) (zone_in kept.settings spec) at (parsed spec.kind spec.schedule)) found
    ∙ ap (λ b. spec_reply b (zone_in kept.settings spec) at row (parsed spec.kind spec.schedule)) group
    ∙ ap (plan_reply (zone_in kept.settings spec) at row) said)

-- an update without a next time, or in the greatest edition, is refused
pub update-spent : (kept : Kept) (at job : ℕ) (spec : JobSpec) (row : Job) (plan : Plan) (zone : Zone) (why : ClusterRefusal) → job_with job kept.tables.jobs ≡ Some row → is_some (group_with spec.group kept.tables.groups) ≡ true → parsed spec.kind spec.schedule ≡ Ok plan → zone_in kept.settings spec ≡ Ok zone
    → again_reply row.edition (is_some row.next) (updated_time zone plan at row.next) ≡ refused why → IsPlanned kept (UpdateJob at job spec) (record { reply = Refused why; changes = []; node = node.Nothing })
update-spent kept at job spec row plan zone why found group said clock says = planned-refused kept (UpdateJob at job spec) why (λ h s. update-reply kept h at job spec s ∙ update-found kept at job spec row plan zone found group said clock ∙ says)

-- a job is updated
pub update-planned : (kept : Kept) (at job edition : ℕ) (spec copied : JobSpec) (plan : Plan) (zone : Zone) (next : Option ℕ) (row new : Job) → KeepsRules kept.tables → job_with job kept.tables.jobs ≡ Some row → is_some (group_with spec.group kept.tables.groups) ≡ true → parsed spec.kind spec.schedule ≡ Ok plan → zone_in kept.settings spec ≡ Ok zone
    → again_reply row.edition (is_some row.next) (updated_time zone plan at row.next) ≡ Updated edition next → copied ≡ spec → new ≡ updated_row copied plan edition next row
    → IsPlanned kept (UpdateJob at job spec) (record { reply = Updated edition next; changes = change.PutJob new ∷ []; node = node.Nothing })
update-planned kept at job edition spec copied plan zone next row new rules found group said clock says same made =
    let is : new ≡ updated_row spec plan edition next row = made ∙ ap (λ x. updated_row x plan edition next row) same in
    let raises = again-is row.edition edition (is_some row.next) (updated_time zone plan at row.next) next says in
    planned-rows kept (UpdateJob at job spec) (Updated edition next) (change.PutJob new ∷ []) (edit-allowed kept.tables job row new spec plan edition next rules found is said (zone-says spec.zone kept.settings.offset zone clock) group) refl tt refl
    (λ h. record { scan = refl; taken = refl; nodes = refl })
    (λ h s. update-reply kept h at job spec s ∙ update-found kept at job spec row plan zone found group said clock ∙ says)
    (λ h s.
    let there = row-stands kept h job row found s in
    let this : new ≡ updated_row spec (plan_of spec) (row.edition + 1) (updated_time (zone_of (settings_of h) spec) (plan_of spec) at row.next) row =
    is
    ∙ ap (λ n. updated_row spec plan n next row) raises.0
    ∙ ap (λ n. updated_row spec plan (row.edition + 1) n row) raises.1
    ∙ ap (λ z. updated_row spec plan (row.edition + 1) (updated_time z plan at row.next) row) (sym (ap (zone_said kept.settings.offset) clock))
    ∙ ap (λ (x : Settings). updated_row spec plan (row.edition + 1) (updated_time (zone_of x spec) plan at row.next) row) s.keeps.settings
    ∙ ap (λ p. updated_row spec p (row.edition + 1) (updated_time (zone_of (settings_of h) spec) p at row.next) row) (sym (plan-parsed spec plan said)) in
    ap (with_jobs h) (updated-rows h at job spec row new (Updated edition next) (rows-rise kept h s) there (row-found h job row there) this))
