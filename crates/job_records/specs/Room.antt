-- What contracts see of the records: the tables, and how many more rows fit without memory.
use Rattle.std.specs.Prelude.{ℕ, ◌+◌, ◌≤◌, List, count_by, Bool, true, false}
use Rattle.job_records.specs.declared.change.Change.{Change}
use Rattle.job_records.specs.declared.change.Change.TheVariants as change
use Rattle.job_records.specs.Tables.{Tables}

-- how many more rows fit in each list without memory
pub record Room : Type 0 where
  pub groups : ℕ
  pub jobs : ℕ
  pub logs : ℕ
  pub registry : ℕ

-- the tables, and the room
pub record RecordsState : Type 0 where
  pub kept : Tables
  pub room : Room

-- whether a change puts a group, a job, a log or a registration
abbrev pub puts_group : Change → Bool
puts_group (change.PutGroup group) = true
puts_group _ = false

abbrev pub puts_job : Change → Bool
puts_job (change.PutJob job) = true
puts_job _ = false

abbrev pub puts_log : Change → Bool
puts_log (change.PutLog log) = true
puts_log _ = false

abbrev pub puts_registration : Change → Bool
puts_registration (change.PutRegistry row) = true
puts_registration _ = false

-- there is room for the rows that these changes put
pub record HasRoom (room : Room) (changes : List Change) : Type 0 where
  pub groups : count_by puts_group changes ≤ room.groups
  pub jobs : count_by puts_job changes ≤ room.jobs
  pub logs : count_by puts_log changes ≤ room.logs
  pub registry : count_by puts_registration changes ≤ room.registry

-- no list has less room than before
pub record HasNoLessRoom (old new : Room) : Type 0 where
  pub groups : old.groups ≤ new.groups
  pub jobs : old.jobs ≤ new.jobs
  pub logs : old.logs ≤ new.logs
  pub registry : old.registry ≤ new.registry

-- no list has less room than before, but for the rows that these changes put
pub record KeepsRoom (old new : Room) (changes : List Change) : Type 0 where
  pub groups : old.groups ≤ new.groups + count_by puts_group changes
  pub jobs : old.jobs ≤ new.jobs + count_by puts_job changes
  pub logs : old.logs ≤ new.logs + count_by puts_log changes
  pub registry : old.registry ≤ new.registry + count_by puts_registration changes
