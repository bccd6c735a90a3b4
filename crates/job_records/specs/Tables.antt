-- What the admins share: four lists of rows, and the last ids.
use Rattle.std.specs.Prelude.{List, []}
use Rattle.job_records.specs.declared.group.Group.{Group}
use Rattle.job_records.specs.declared.job.Job.{Job}
use Rattle.job_records.specs.declared.log.Log.{Log}
use Rattle.job_records.specs.declared.registry.RegistryRow.{RegistryRow}
use Rattle.job_records.specs.declared.last_ids.LastIds.{LastIds}

-- the groups, jobs and logs in order of their ids, the registrations in order of key and value, and the last ids
pub record Tables : Type 0 where
  pub groups : List Group
  pub jobs : List Job
  pub logs : List Log
  pub registry : List RegistryRow
  pub last : LastIds

-- no rows, and no id given
abbrev pub no_rows : Tables
no_rows = record { groups = []; jobs = []; logs = []; registry = []; last = record { group = 0; job = 0; log = 0 } }
