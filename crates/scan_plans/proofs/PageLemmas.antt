-- A page that is read from the index of the running jobs.
use Rattle.std.proofs.Common.{◌≡◌, ℕ, ◌+◌, List, [], ◌∷◌, Option, Some, None, Bool, map, take, refl, sym, ap, ◌∙◌, arith}
use Rattle.std.proofs.lemmas.List.{take-map}
use Rattle.std.specs.List.{All, filter, filter_map, cons_option}
use Rattle.std.specs.Option.{option_map}
use Rattle.std.proofs.lemmas.List.Elements.{All-tail, All-take, All-filter, All-from_recursion, filter_agree}
use Rattle.job_values.specs.declared.limits.TheConstants.{LOOK_AHEAD}
use Rattle.row_indexes.specs.Pages.{is_next_by}
use Rattle.job_records.specs.declared.job.Job.{Job}
use Rattle.job_records.specs.Rules.{KeepsRules}
use Rattle.job_records.specs.Tables.{Tables}
use Rattle.cluster_history.specs.declared.scan.PageEntry.{PageEntry}
use Rattle.cluster_history.specs.Looks.{job_with}
use Rattle.cluster_history.specs.Pages.{is_due_by, page_entry_of, page_in}
use Rattle.cluster_history.proofs.Openings.{found-all}
use Rattle.scan_plans.specs.Entries.{entry_at}

-- a job is found by its id
abbrev IsFound : List Job → Job → Type 0
IsFound jobs job = job_with job.id jobs ≡ Some job

all-found : (t : Tables) → KeepsRules t → All (IsFound t.jobs) t.jobs
all-found t rules = All-from_recursion (IsFound t.jobs) t.jobs (found-all (λ (job : Job). job.id) 0 t.last.job t.jobs rules.jobs.rising)

-- the entries that are found by the ids of rows are those of the rows
entries-found : (jobs rows : List Job) → All (IsFound jobs) rows → filter_map (entry_at jobs) (map (λ job. job.id) rows) ≡ map page_entry_of rows
entries-found jobs [] all = refl
entries-found jobs (job ∷ rows) all =
    ap (λ (row : Option Job). cons_option (option_map page_entry_of row) (filter_map (entry_at jobs) (map (λ (j : Job). j.id) rows))) (all 0 job (omega arith))
    ∙ ap (λ (entries : List PageEntry). page_entry_of job ∷ entries) (entries-found jobs rows (All-tail (IsFound jobs) job rows all))

-- a row whose next time comes up to a bound is due by it
next-due : (bound : ℕ) (next : Option ℕ) → is_next_by bound next ≡ is_due_by bound next
next-due bound None = refl
next-due bound (Some next) = refl

-- the entries of the ids of a page are the page
pub page-entries : (limit at : ℕ) (t : Tables) (ids : List ℕ) → KeepsRules t → ids ≡ take limit (map (λ (job : Job). job.id) (filter (λ (job : Job). is_next_by (at + LOOK_AHEAD) job.next) t.jobs))
    → filter_map (entry_at t.jobs) ids ≡ page_in limit at t.jobs
page-entries limit at t ids rules is =
    ap (filter_map (entry_at t.jobs)) (is ∙ take-map (λ (job : Job). job.id) limit (filter soon t.jobs))
    ∙ entries-found t.jobs (take limit (filter soon t.jobs)) (All-take (IsFound t.jobs) limit (filter soon t.jobs) (All-filter soon (IsFound t.jobs) t.jobs (all-found t rules)))
    ∙ sym (take-map page_entry_of limit (filter soon t.jobs))
    ∙ ap (λ (rows : List Job). take limit (map page_entry_of rows)) (filter_agree soon (λ job. is_due_by (at + LOOK_AHEAD) job.next) (λ job. next-due (at + LOOK_AHEAD) job.next) t.jobs)
  where
    soon : Job → Bool
    soon job = is_next_by (at + LOOK_AHEAD) job.next
