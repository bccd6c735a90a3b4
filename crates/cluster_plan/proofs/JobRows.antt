-- The row of a present job, and another in its place.
use Rattle.std.proofs.Common.{◌≡◌, ℕ, List, [], ◌∷◌, Bool, true, false, cond, eqb, Option, Some, Ok, is_some, map, inl, refl, sym, ap, ◌∙◌, subst, arith}
use Rattle.std.proofs.lemmas.Bool.Decides.{nat_tests}
use Rattle.job_values.specs.declared.spec.JobSpec.{JobSpec}
use Rattle.cron_schedule.specs.declared.plan.Plan.{Plan}
use Rattle.cron_schedule.specs.Parse.{parsed}
use Rattle.job_records.specs.declared.change.Change.TheVariants as change
use Rattle.job_records.specs.declared.job.Job.{Job}
use Rattle.job_records.specs.Rows.{changed, RisesFrom}
use Rattle.job_records.specs.Rules.{KeepsRules, RunsByNext, HasItsSchedule, SaysZone, HasItsZone, HasGroup}
use Rattle.job_records.specs.Tables.{Tables}
use Rattle.job_records.specs.Changes.{put_row, AreAllowed}
use Rattle.job_records.proofs.RowLemmas.{rises-from_rising}
use Rattle.job_records.proofs.Keeping.{keeps_job, job_has_rules}
use Rattle.cluster_history.specs.History.{History}
use Rattle.cluster_history.specs.Groups.{group_with}
use Rattle.cluster_history.specs.Looks.{job_with}
use Rattle.cluster_history.specs.Jobs.{jobs_of, ids_of, row_of, last_job, plan_of, plan_said}
use Rattle.cluster_history.proofs.RowIds.{jobs_rise}
use Rattle.cluster_plan.specs.Kept.{Kept}
use Rattle.cluster_plan.specs.Stands.{Stands}
use Rattle.cluster_plan.specs.Edits.{updated_row, turned_row}
use Rattle.cluster_plan.proofs.PutLemmas.{put-changed, found-id, found-within}

pub same-id : (id : ℕ) → eqb id id ≡ true
same-id id = grind (arith, nat_tests)

-- the plan of a spec whose text is a schedule
pub plan-parsed : (spec : JobSpec) (plan : Plan) → parsed spec.kind spec.schedule ≡ Ok plan → plan_of spec ≡ plan
unfolding plan_of
plan-parsed spec plan e = ap plan_said e

-- the row that is found by an id is the row of this id
row-found_by : (h : History) (job j : ℕ) (rest : Option Job) (row : Job) (b : Bool) → eqb j job ≡ b → (rest ≡ Some row → row ≡ row_of h job) → cond b (Some (row_of h j)) rest ≡ Some row → row ≡ row_of h job
row-found_by h job j rest row true test later e =
    let same : j ≡ job = grind (arith, nat_tests) in
    let here : row_of h j ≡ row = (cc) in
    sym here ∙ ap (row_of h) same
row-found_by h job j rest row false test later e = later e

row-found_in : (h : History) (job : ℕ) (ids : List ℕ) (row : Job) → job_with job (map (row_of h) ids) ≡ Some row → row ≡ row_of h job
row-found_in h job [] row e = (cc)
row-found_in h job (j ∷ ids) row e = row-found_by h job j (job_with job (map (row_of h) ids)) row (eqb j job) refl (row-found_in h job ids row) e

pub row-found : (h : History) (job : ℕ) (row : Job) → job_with job (jobs_of h) ≡ Some row → row ≡ row_of h job
row-found h job row e = row-found_in h job (ids_of h) row e

-- rows that differ at one id
row-put : (old new : ℕ → Job) (job : ℕ) (row : Job) (j : ℕ) (b : Bool) → eqb j job ≡ b → row ≡ new job → (eqb j job ≡ false → new j ≡ old j) → cond b row (old j) ≡ new j
row-put old new job row j true test here other =
    let same : j ≡ job = grind (arith, nat_tests) in
    here ∙ ap new (sym same)
row-put old new job row j false test here other = sym (other test)

rows-put : (old new : ℕ → Job) (job : ℕ) (row : Job) → ((j : ℕ) → (old j).id ≡ j) → row ≡ new job → ((j : ℕ) → eqb j job ≡ false → new j ≡ old j) → (ids : List ℕ) → changed (λ x. x.id) job (λ _. row) (map old ids) ≡ map new ids
rows-put old new job row keeps here other [] = refl
rows-put old new job row keeps here other (j ∷ ids) =
    ap (λ n. cond (eqb n job) row (old j) ∷ changed (λ (x : Job). x.id) job (λ _. row) (map old ids)) (keeps j)
    ∙ ap (λ x. x ∷ changed (λ (x : Job). x.id) job (λ _. row) (map old ids)) (row-put old new job row j (eqb j job) refl here (other j))
    ∙ ap (λ xs. new j ∷ xs) (rows-put old new job row keeps here other ids)

-- a row that is put in place of that of a present job: the other jobs are as they were
pub jobs-put : (h : History) (new_of : ℕ → Job) (job : ℕ) (row new : Job) → RisesFrom (λ x. x.id) 0 (jobs_of h) → job_with job (jobs_of h) ≡ Some row → new.id ≡ job → new ≡ new_of job → ((j : ℕ) → eqb j job ≡ false → new_of j ≡ row_of h j)
    → put_row (λ x. x.id) new (jobs_of h) ≡ map new_of (ids_of h)
jobs-put h new_of job row new rises found id here other =
    put-changed (λ (x : Job). x.id) (λ _. new) 0 row new (jobs_of h) rises (subst (λ n. job_with n (jobs_of h) ≡ Some row) (sym id) found) refl
    ∙ ap (λ n. changed (λ (x : Job). x.id) n (λ _. new) (jobs_of h)) id
    ∙ rows-put (row_of h) new_of job new (λ j. refl) here other (ids_of h)

-- a row that takes the place of a present job's is allowed, with a schedule and a zone as its spec says and a group that is there
pub edit-allowed : (t : Tables) (job : ℕ) (row new : Job) (spec : JobSpec) (plan : Plan) (edition : ℕ) (next : Option ℕ) → KeepsRules t → job_with job t.jobs ≡ Some row → new ≡ updated_row spec plan edition next row
    → parsed spec.kind spec.schedule ≡ Ok plan → SaysZone spec.zone → is_some (group_with spec.group t.groups) ≡ true → AreAllowed t (change.PutJob new ∷ [])
edit-allowed t job row new spec plan edition next rules found made said zone group =
    let id : new.id ≡ job = ap (λ (x : Job). x.id) made ∙ found-id (λ (x : Job). x.id) job t.jobs row found in
    let there : job_with new.id t.jobs ≡ Some row = subst (λ n. job_with n t.jobs ≡ Some row) (sym id) found in
    let within = found-within (λ (x : Job). x.id) 0 t.last.job new.id t.jobs row rules.jobs.rising there in (
      keeps_job t new rules (omega (arith, within.0)) within.1 (subst RunsByNext (sym made) refl) (subst HasItsSchedule (sym made) said) (subst HasItsZone (sym made) zone) (subst (HasGroup t.groups) (sym made) group) (inl (ap is_some there)),
      tt,
    )

-- a row in another edition, with another next time
pub turn-allowed : (t : Tables) (job : ℕ) (row new : Job) (edition : ℕ) (next : Option ℕ) → KeepsRules t → job_with job t.jobs ≡ Some row → new ≡ turned_row edition next row → AreAllowed t (change.PutJob new ∷ [])
turn-allowed t job row new edition next rules found made =
    let kept = job_has_rules t.groups t.jobs t.last.job job row rules.jobs found in
    edit-allowed t job row new row.spec row.schedule edition next rules found made kept.1 kept.2 kept.3

-- the row of a present job, in a history that is stood for
pub row-stands : (kept : Kept) (h : History) (job : ℕ) (row : Job) → job_with job kept.tables.jobs ≡ Some row → Stands kept h → job_with job (jobs_of h) ≡ Some row
row-stands kept h job row found s = subst (λ (t : Tables). job_with job t.jobs ≡ Some row) s.keeps.tables found

pub rows-rise : (kept : Kept) (h : History) → Stands kept h → RisesFrom (λ x. x.id) 0 (jobs_of h)
rows-rise kept h s = rises-from_rising (λ (x : Job). x.id) 0 (last_job h) (jobs_of h) (jobs_rise h s.opens)
