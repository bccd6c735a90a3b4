-- The entries of a page.
use Rattle.std.specs.Prelude.{ℕ, List, Option, option_map}
use Rattle.job_records.specs.declared.job.Job.{Job}
use Rattle.cluster_history.specs.declared.scan.PageEntry.{PageEntry}
use Rattle.cluster_history.specs.Looks.{job_with}
use Rattle.cluster_history.specs.Pages.{page_entry_of}

-- the entry of the job with this id, if there is one
abbrev pub entry_at : List Job → ℕ → Option PageEntry
entry_at jobs id = option_map page_entry_of (job_with id jobs)
