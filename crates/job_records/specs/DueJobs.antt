-- The running jobs by their next times.
use Rattle.std.specs.Prelude.{ℕ, List, Option, None, if◌then◌else◌}
use Rattle.sorted_blocks.specs.declared.key.Key.{Key}
use Rattle.row_indexes.specs.Entries.{keys_of}
use Rattle.row_indexes.specs.Due.{due_entry}
use Rattle.job_records.specs.declared.job.Job.{Job}

-- the next time of a job that runs
abbrev pub next_of : Job → Option ℕ
next_of job = if job.running then job.next else None

-- that time with the id of the job
abbrev pub due_of : Job → Option Key
due_of job = due_entry job.id (next_of job)

-- the next times and ids of the running jobs, in rising order
abbrev pub due_entries : List Job → List Key
due_entries jobs = keys_of due_of jobs
