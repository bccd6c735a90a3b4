-- The rows of jobs that are added, started, stopped or updated.
use Rattle.std.specs.Prelude.{ℕ, Option, None, is_some, false}
use Rattle.job_values.specs.declared.spec.JobSpec.{JobSpec}
use Rattle.cron_schedule.specs.declared.plan.Plan.{Plan}
use Rattle.job_records.specs.declared.job.Job.{Job}

-- the row of a new job, which is stopped
abbrev pub new_row : ℕ → JobSpec → Plan → Job
new_row id spec plan = record { id = id; spec = spec; schedule = plan; running = false; edition = 0; next = None }

-- the row of a job that is updated, in this edition and due at this time next; it runs where there is one
abbrev pub updated_row : JobSpec → Plan → ℕ → Option ℕ → Job → Job
updated_row spec plan edition next row = record { id = row.id; spec = spec; schedule = plan; running = is_some next; edition = edition; next = next }

-- the same with the spec and the schedule as they are
abbrev pub turned_row : ℕ → Option ℕ → Job → Job
turned_row edition next row = updated_row row.spec row.schedule edition next row
