-- The rules that the tables always keep.
use Rattle.std.specs.Prelude.{◌≡◌, true, ℕ, ◌<◌, ◌≤◌, ◌⊎◌, List, [], length, count_by, All, bytes_eq, IsSome, is_some, Ok}
use Rattle.std.specs.List.{list_any}
use Rattle.job_values.specs.declared.limits.TheConstants.{LAST_JOB_ID, LAST_LOG_ID, MOST_GROUPS, MOST_JOBS, MOST_REGISTRATIONS, MOST_OF_KEY, SUCCESS}
use Rattle.zone_texts.specs.declared.zone.Zone.{Zone}
use Rattle.zone_texts.specs.Laws.{IsZoneText}
use Rattle.cron_schedule.specs.Parse.{parsed}
use Rattle.job_records.specs.declared.group.Group.{Group}
use Rattle.job_records.specs.declared.job.Job.{Job}
use Rattle.job_records.specs.declared.last_ids.LastIds.{LastIds}
use Rattle.job_records.specs.declared.log.Log.{Log}
use Rattle.job_records.specs.declared.registry.RegistryRow.{RegistryRow}
use Rattle.job_records.specs.Order.{RisesByKey, is_registered}
use Rattle.rising_rows.specs.Rising.{row_with, IsRising}
use Rattle.job_records.specs.Tables.{Tables}

-- a job runs exactly where it has a next time
abbrev pub RunsByNext : Job → Type 0
RunsByNext job = job.running ≡ is_some job.next

-- a job's schedule is what its spec's kind and text say
abbrev pub HasItsSchedule : Job → Type 0
HasItsSchedule job = parsed job.spec.kind job.spec.schedule ≡ Ok job.schedule

-- a text says a zone: it is empty, which stands for the offset of the settings, or a zone text
abbrev pub SaysZone : List ℕ → Type 0
SaysZone text = (text ≡ []) ⊎ ((zone : Zone) × IsZoneText text zone)

-- a job's zone is what its spec's text says
abbrev pub HasItsZone : Job → Type 0
HasItsZone job = SaysZone job.spec.zone

-- a job's group is one of these
abbrev pub HasGroup : List Group → Job → Type 0
HasGroup groups job = IsSome (row_with (λ group. group.id) job.spec.group groups)

-- a log that was sent has an address
abbrev pub HasAddress : Log → Type 0
HasAddress log = log.trigger_code ≡ SUCCESS → IsSome log.address

-- the key and the value of a registration are not empty
abbrev pub IsNamed : RegistryRow → Type 0
IsNamed row = (0 < length row.key) × (0 < length row.value)

-- how many registrations have this key
abbrev pub count_of_key : List ℕ → List RegistryRow → ℕ
count_of_key key rows = count_by (λ row. bytes_eq row.key key) rows

-- a list has a row with this id, or fewer rows than a limit
abbrev pub HasPlace : {R : Type 0} → (R → ℕ) → ℕ → List R → ℕ → Type 0
HasPlace id_of id rows most = (IsSome (row_with id_of id rows)) ⊎ (length rows < most)

-- there is a registration with this key and value, or fewer than the limits, in all and of this key
abbrev pub HasKeyPlace : RegistryRow → List RegistryRow → Type 0
HasKeyPlace row rows =
    (list_any (is_registered row.key row.value) rows ≡ true)
    ⊎ ((length rows < MOST_REGISTRATIONS) × (count_of_key row.key rows < MOST_OF_KEY))

-- last ids that go with the rows: the ids rise up to them, and they are within the greatest ids
pub record AreLast (group_rows : List Group) (job_rows : List Job) (log_rows : List Log) (last : LastIds) : Type 0 where
  pub groups : IsRising (λ group. group.id) 0 group_rows last.group
  pub jobs : IsRising (λ job. job.id) 0 job_rows last.job
  pub logs : IsRising (λ log. log.id) 0 log_rows last.log
  pub group_ids : last.group ≤ LAST_JOB_ID
  pub job_ids : last.job ≤ LAST_JOB_ID
  pub log_ids : last.log ≤ LAST_LOG_ID

-- the groups: their ids rise up to the last id that was given, and they are not too many
pub record GroupRules (groups : List Group) (last : ℕ) : Type 0 where
  pub rising : IsRising (λ group. group.id) 0 groups last
  pub last_id : last ≤ LAST_JOB_ID
  pub few : length groups ≤ MOST_GROUPS

-- the jobs: their ids rise up to the last id that was given, each is as it must be, and they are not too many
pub record JobRules (groups : List Group) (jobs : List Job) (last : ℕ) : Type 0 where
  pub rising : IsRising (λ job. job.id) 0 jobs last
  pub last_id : last ≤ LAST_JOB_ID
  pub running : All RunsByNext jobs
  pub schedules : All HasItsSchedule jobs
  pub zones : All HasItsZone jobs
  pub groups_exist : All (HasGroup groups) jobs
  pub few : length jobs ≤ MOST_JOBS

-- the logs: their ids rise up to the last id that was given, and a log that was sent has an address
pub record LogRules (logs : List Log) (last : ℕ) : Type 0 where
  pub rising : IsRising (λ log. log.id) 0 logs last
  pub last_id : last ≤ LAST_LOG_ID
  pub addresses : All HasAddress logs

-- the registrations: they rise by key and value, none is empty, and they are not too many, in all and of one key
pub record RegistryRules (registry : List RegistryRow) : Type 0 where
  pub rising : RisesByKey registry
  pub named : All IsNamed registry
  pub few : length registry ≤ MOST_REGISTRATIONS
  pub few_of_key : (key : List ℕ) → count_of_key key registry ≤ MOST_OF_KEY

-- the tables keep the rules of each list
pub record KeepsRules (t : Tables) : Type 0 where
  pub groups : GroupRules t.groups t.last.group
  pub jobs : JobRules t.groups t.jobs t.last.job
  pub logs : LogRules t.logs t.last.log
  pub registry : RegistryRules t.registry
