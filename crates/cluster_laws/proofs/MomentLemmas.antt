-- The next time is the carried first time.
use Rattle.std.proofs.Common.{◌≡◌, ℕ, ◌+◌, List, [], ◌∷◌, Bool, true, false, cond, eqb, Option, Some, None, map, refl, sym, ap, ◌∙◌, subst, arith}
use Rattle.std.specs.List.{slice_get}
use Rattle.std.proofs.lemmas.Bool.Decides.{nat_tests}
use Rattle.job_events.specs.declared.cluster.ClusterEvent.TheVariants.{AddJob, UpdateJob, StartJob, StopJob, ScanStep}
use Rattle.job_values.specs.declared.spec.JobSpec.{JobSpec}
use Rattle.job_records.specs.declared.job.Job.{Job}
use Rattle.misfire_rules.specs.Decide.{decided}
use Rattle.misfire_rules.specs.declared.decision.Decision.{Decision}
use Rattle.cluster_history.specs.declared.scan.Scan.{Scan}
use Rattle.cluster_history.specs.declared.scan.PageEntry.{PageEntry}
use Rattle.cluster_history.specs.History.{History, Begin, After, settings_of}
use Rattle.cluster_history.specs.Zones.{zone_of}
use Rattle.cluster_history.specs.Looks.{Looked, look_in, look_entry, look_row, look_due, next_looked, job_with}
use Rattle.cluster_history.specs.Jobs.{last_job, ids_of, jobs_of, row_of, spec_of, plan_of, next_of, scan_of, look_of, first_time, updated_time}
use Rattle.cluster_laws.specs.Moments.{moments_looked, moments_of, first_of, carried_once, carried, NextTimesCarried}

pub some-same : {X : Type 0} (x y : X) → Some x ≡ Some y → x ≡ y
some-same x y e = (cc)

found-here : (h : History) (job j : ℕ) (rest : Option Job) (row : Job) (b : Bool) → eqb j job ≡ b → (rest ≡ Some row → row ≡ row_of h job) → cond b (Some (row_of h j)) rest ≡ Some row → row ≡ row_of h job
found-here h job j rest row true test later e =
    let same : j ≡ job = grind (arith, nat_tests) in
    let here : row_of h j ≡ row = some-same (row_of h j) row e in
    sym here ∙ ap (row_of h) same
found-here h job j rest row false test later e = later e

pub row-found : (h : History) (job : ℕ) (ids : List ℕ) (row : Job) → job_with job (map (row_of h) ids) ≡ Some row → row ≡ row_of h job
row-found h job [] row e = (cc)
row-found h job (j ∷ ids) row e = found-here h job j (job_with job (map (row_of h) ids)) row (eqb j job) refl (row-found h job ids row) e

-- a look is at the row of its job, and decides what is due by this row at the scan's moment
pub record LooksRight (h : History) (scan : Scan) (look : Looked) : Type 0 where
  pub row : look.row ≡ row_of h look.row.id
  pub due : next_of h look.row.id ≡ Some look.due
  pub decision : look.decision ≡ decided look.due look.row.schedule look.row.spec.misfire (zone_of (settings_of h) look.row.spec) scan.at

due-right : (h : History) (scan : Scan) (row : Job) (next : Option ℕ) (look : Looked) → row ≡ row_of h row.id → row.next ≡ next → look_due (settings_of h) scan.at row next ≡ Some look → LooksRight h scan look
due-right h scan row None look is at e = (cc)
due-right h scan row (Some due) look is at e =
    let same = some-same _ look e in
    let P : Looked → Type 0 = λ l. LooksRight h scan l in
    subst P same (record { row = is; due = ap (λ (r : Job). r.next) (sym is) ∙ at; decision = refl })

edition-right : (h : History) (scan : Scan) (row : Job) (b : Bool) (look : Looked) → row ≡ row_of h row.id → cond b (look_due (settings_of h) scan.at row row.next) None ≡ Some look → LooksRight h scan look
edition-right h scan row true look is e = due-right h scan row row.next look is refl e
edition-right h scan row false look is e = (cc)

row-right : (h : History) (scan : Scan) (entry : PageEntry) (found : Option Job) (look : Looked) → job_with entry.job (jobs_of h) ≡ found → look_row (settings_of h) scan.at entry.edition found ≡ Some look → LooksRight h scan look
row-right h scan entry None look at e = (cc)
row-right h scan entry (Some row) look at e =
    let is : row ≡ row_of h entry.job = row-found h entry.job (ids_of h) row at in
    let same : row.id ≡ entry.job = ap (λ (r : Job). r.id) is in
    edition-right h scan row (eqb row.edition entry.edition) look (is ∙ ap (row_of h) (sym same)) e

pub entry-right : (h : History) (scan : Scan) (entry : Option PageEntry) (look : Looked) → look_entry (settings_of h) scan.at (jobs_of h) entry ≡ Some look → LooksRight h scan look
entry-right h scan None look e = (cc)
entry-right h scan (Some entry) look e = row-right h scan entry (job_with entry.job (jobs_of h)) look refl e

looked-cases : (h : History) (scan : Scan) (look : Looked) (j : ℕ) (b : Bool) → eqb j look.row.id ≡ b → LooksRight h scan look → next_of h j ≡ carried (settings_of h) (spec_of h j) (first_of h j) (moments_of h j)
    → cond b look.decision.next (next_of h j) ≡ carried (settings_of h) (spec_of h j) (first_of h j) (cond b (scan.at ∷ moments_of h j) (moments_of h j))
looked-cases h scan look j false test right before = before
looked-cases h scan look j true test right before =
    let same : j ≡ look.row.id = grind (arith, nat_tests) in
    let due : carried (settings_of h) (spec_of h j) (first_of h j) (moments_of h j) ≡ Some look.due = sym before ∙ ap (next_of h) same ∙ right.due in
    ap (λ (d : Decision). d.next) right.decision
    ∙ ap (λ (r : Job). (decided look.due r.schedule r.spec.misfire (zone_of (settings_of h) r.spec) scan.at).next) right.row
    ∙ ap (λ i. (decided look.due (plan_of (spec_of h i)) (spec_of h i).misfire (zone_of (settings_of h) (spec_of h i)) scan.at).next) (sym same)
    ∙ ap (λ d. carried_once (settings_of h) (spec_of h j) scan.at d) (sym due)

-- what a look makes of the next time is what the table makes of it
looked-by : (h : History) (scan : Option Scan) (look : Option Looked) (j : ℕ) → look_in (settings_of h) scan (jobs_of h) ≡ look → next_of h j ≡ carried (settings_of h) (spec_of h j) (first_of h j) (moments_of h j)
    → next_looked look j (next_of h j) ≡ carried (settings_of h) (spec_of h j) (first_of h j) (moments_looked scan look j (moments_of h j))
looked-by h scan None j e before = before
looked-by h None (Some look) j e before = (cc)
looked-by h (Some scan) (Some look) j e before = looked-cases h scan look j (eqb j look.row.id) refl (entry-right h scan (slice_get scan.page scan.steps) look e) before

-- a job that gets another spec, or none, begins anew
based-by : (h : History) (spec : JobSpec) (first : Option ℕ) (j : ℕ) (b : Bool) → next_of h j ≡ carried (settings_of h) (spec_of h j) (first_of h j) (moments_of h j)
    → cond b first (next_of h j) ≡ carried (settings_of h) (cond b spec (spec_of h j)) (cond b first (first_of h j)) (cond b [] (moments_of h j))
based-by h spec first j true before = refl
based-by h spec first j false before = before

-- so does one that keeps its spec
begun-by : (h : History) (first : Option ℕ) (j : ℕ) (b : Bool) → next_of h j ≡ carried (settings_of h) (spec_of h j) (first_of h j) (moments_of h j)
    → cond b first (next_of h j) ≡ carried (settings_of h) (spec_of h j) (cond b first (first_of h j)) (cond b [] (moments_of h j))
begun-by h first j true before = refl
begun-by h first j false before = before

pub next-carried : NextTimesCarried
next-carried (Begin o) j = refl
next-carried (After h (AddJob spec) r) j = based-by h spec None j (eqb j (last_job h + 1)) (next-carried h j)
next-carried (After h (UpdateJob at job spec) r) j = based-by h spec (updated_time (zone_of (settings_of h) spec) (plan_of spec) at (next_of h j)) j (eqb j job) (next-carried h j)
next-carried (After h (StartJob at job) r) j = begun-by h (first_time (zone_of (settings_of h) (spec_of h j)) (plan_of (spec_of h j)) at) j (eqb j job) (next-carried h j)
next-carried (After h (StopJob job) r) j = begun-by h None j (eqb j job) (next-carried h j)
next-carried (After h (ScanStep admin) r) j = looked-by h (scan_of h) (look_of h) j refl (next-carried h j)
next-carried (After h _ r) j = next-carried h j
