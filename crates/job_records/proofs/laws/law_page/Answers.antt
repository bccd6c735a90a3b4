use Rattle.std.proofs.Common.{ap, ◌∙◌, ◌+◌, map, take, List}
use Rattle.rising_rows.proofs.RowLemmas.{rises-from_rising}
use Rattle.row_indexes.proofs.RowPageLemmas.{page-rows}
use Rattle.job_values.specs.declared.limits.TheConstants.{LOOK_AHEAD}
use Rattle.job_records.specs.declared.job.Job.{Job}
use Rattle.job_records.specs.DueJobs.{next_of}
use Rattle.job_records.proofs.IndexLemmas.{filter-next}
use Rattle.job_records.proofs.laws.law_page.Goals as goal

pub returns : goal.returns
returns c limit now t page rules is =
    page-rows (λ (job : Job). job.id) next_of limit now t.jobs page (rises-from_rising (λ (job : Job). job.id) 0 t.last.job t.jobs rules.jobs.rising) is
    ∙ ap (λ (jobs : List Job). take limit (map (λ (job : Job). job.id) jobs)) (filter-next (now + LOOK_AHEAD) t.jobs rules.jobs.running)
