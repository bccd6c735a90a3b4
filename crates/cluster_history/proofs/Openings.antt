-- After an opening the rows are those of the opening.
use Rattle.std.proofs.Common.{◌≡◌, ℕ, ◌<◌, ◌≤◌, List, [], ◌∷◌, Bool, false, eqb, Option, Some, is_some, unwrap_or, map, refl, sym, ap, ◌∙◌, arith}
use Rattle.std.specs.List.{AllByRecursion}
use Rattle.std.proofs.lemmas.List.Elements.{recursion_from_All}
use Rattle.std.proofs.lemmas.Bool.Decides.{nat_tests}
use Rattle.cron_schedule.specs.declared.plan.Plan.{Plan}
use Rattle.job_records.specs.declared.job.Job.{Job}
use Rattle.job_records.specs.Rows.{row_with, IsRising}
use Rattle.job_records.specs.Rules.{RunsByNext, HasItsSchedule}
use Rattle.job_records.proofs.RowLemmas.{find-skip, find-here}
use Rattle.zone_texts.specs.Parsed.{zone_parsed}
use Rattle.cluster_history.specs.History.{Begin, Opening}
use Rattle.cluster_history.specs.Looks.{job_with}
use Rattle.cluster_history.specs.Jobs.{plan_said, plan_of, no_job, opened_row, row_of}
use Rattle.cluster_history.specs.Records.{OpeningsAreKept}

-- rows are found by their ids
abbrev Found : {R : Type 0} → (R → ℕ) → List R → List R → Type 0
Found id_of all rows = AllByRecursion (λ row. row_with id_of (id_of row) all ≡ Some row) rows

found-behind : {R : Type 0} (id_of : R → ℕ) (low last : ℕ) (first : R) (all rows : List R) → id_of first ≤ low → IsRising id_of low rows last → Found id_of all rows → Found id_of (first ∷ all) rows
found-behind id_of low last first all [] above rises found = tt
found-behind id_of low last first all (row ∷ rows) above rises found =
    let higher : low < id_of row = rises.0 in
    let test : eqb (id_of first) (id_of row) ≡ false = grind (arith, nat_tests) in (
      find-skip (λ r. eqb (id_of r) (id_of row)) first all test ∙ found.0,
      found-behind id_of (id_of row) last first all rows (omega arith) rises.1 found.1,
    )

pub found-all : {R : Type 0} (id_of : R → ℕ) (low last : ℕ) (rows : List R) → IsRising id_of low rows last → Found id_of rows rows
found-all id_of low last [] rises = tt
found-all id_of low last (row ∷ rows) rises = (
  find-here (λ r. eqb (id_of r) (id_of row)) row rows (grind (arith, nat_tests)),
  found-behind id_of (id_of row) last row rows rows (omega arith) rises.1 (found-all id_of (id_of row) last rows rises.1),
)

plan-kept : (job : Job) → HasItsSchedule job → plan_of job.spec ≡ job.schedule
unfolding plan_of zone_parsed
plan-kept job said = ap plan_said said

-- a row as a history makes it of what the opening says
abbrev made : ℕ → Plan → Bool → Job → Job
made id plan runs row = record { id = id; spec = row.spec; schedule = plan; running = runs; edition = row.edition; next = row.next }

row-kept : (o : Opening) (job : Job) → job_with job.id o.tables.jobs ≡ Some job → RunsByNext job → HasItsSchedule job → row_of (Begin o) job.id ≡ job
row-kept o job found running said =
    let is : opened_row o job.id ≡ job = ap (λ (row : Option Job). unwrap_or row no_job) found in
    ap (λ (row : Job). made job.id (plan_of row.spec) (is_some row.next) row) is
    ∙ ap (λ (plan : Plan). made job.id plan (is_some job.next) job) (plan-kept job said)
    ∙ ap (λ (runs : Bool). made job.id job.schedule runs job) (sym running)

rows-kept : (o : Opening) (jobs : List Job) → Found (λ job. job.id) o.tables.jobs jobs → AllByRecursion RunsByNext jobs → AllByRecursion HasItsSchedule jobs → map (row_of (Begin o)) (map (λ job. job.id) jobs) ≡ jobs
rows-kept o [] found running said = refl
rows-kept o (job ∷ jobs) found running said =
    ap (λ (row : Job). row ∷ map (row_of (Begin o)) (map (λ j. j.id) jobs)) (row-kept o job found.0 running.0 said.0)
    ∙ ap (λ (rows : List Job). job ∷ rows) (rows-kept o jobs found.1 running.1 said.1)

pub openings-kept : OpeningsAreKept
openings-kept o well =
    ap (λ (jobs : List Job). record { groups = o.tables.groups; jobs = jobs; logs = o.tables.logs; registry = o.tables.registry; last = o.tables.last })
    (rows-kept o o.tables.jobs (found-all (λ (job : Job). job.id) 0 o.tables.last.job o.tables.jobs well.rules.jobs.rising) (recursion_from_All RunsByNext o.tables.jobs well.rules.jobs.running) (recursion_from_All HasItsSchedule o.tables.jobs well.rules.jobs.schedules))
