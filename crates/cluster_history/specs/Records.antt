-- The rows that a history has, as the tables that are kept.
use Rattle.std.specs.Prelude.{◌≡◌}
use Rattle.job_records.specs.Tables.{Tables}
use Rattle.cluster_history.specs.History.{History, Begin, Opening}
use Rattle.cluster_history.specs.Groups.{groups_of, last_group}
use Rattle.cluster_history.specs.Jobs.{jobs_of, last_job}
use Rattle.cluster_history.specs.Logs.{logs_of, last_log}
use Rattle.cluster_history.specs.Registrations.{registry_of}
use Rattle.cluster_history.specs.Runs.{OpensWell}

-- the rows and the last ids
abbrev pub records_of : History → Tables
records_of h = record { groups = groups_of h; jobs = jobs_of h; logs = logs_of h; registry = registry_of h; last = record { group = last_group h; job = last_job h; log = last_log h } }

-- with no entry they are those of the opening
abbrev pub OpeningsAreKept : Type 0
OpeningsAreKept = (o : Opening) → OpensWell o → records_of (Begin o) ≡ o.tables
