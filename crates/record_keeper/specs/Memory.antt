-- A keeper in memory, as contracts see it, and what its calls do.
use Rattle.std.specs.Prelude.{ℕ, Bool, true, false, List, ◌++◌, Some, None, Result, Ok, Err, is_ok, if◌then◌else◌}
use Rattle.outside.specs.Causes.{faults_after}
use Rattle.job_records.specs.declared.change.Change.{Change}
use Rattle.job_records.specs.Tables.{Tables, no_rows}
use Rattle.job_records.specs.Changes.{applied_all}
use Rattle.record_keeper.specs.declared.keeper.KeepError.{KeepError}
use Rattle.record_keeper.specs.declared.keeper.KeepError.TheVariants as keep
use Rattle.record_keeper.specs.Keeping.{KeeperView}

-- the changes that were saved, in order; the calls of these numbers fail
pub record KeeperMemory : Type 0 where
  pub saved : List Change
  pub failing : List ℕ
  pub calls : ℕ
  pub faults : ℕ

-- the tables that the saved changes make
abbrev pub tables_of : KeeperMemory → Tables
tables_of m = applied_all no_rows m.saved

abbrev pub seen_memory : KeeperMemory → KeeperView
seen_memory m = record { tables = Some (tables_of m); version = None; faults = m.faults }

-- whether a call failed because it was to
abbrev pub is_failed : {X : Type 0} → Result X KeepError → Bool
is_failed (Err keep.Failed) = true
is_failed (Err keep.NoMemory) = false
is_failed (Ok x) = false

-- after a call it is counted, and a failure too
abbrev pub after_call : {X : Type 0} → KeeperMemory → Result X KeepError → KeeperMemory
after_call m result = record m {
  calls = faults_after m.calls;
  faults = if is_failed result then faults_after m.faults else m.faults;
}

-- after a save the changes stand behind the others, but for one that came to an error
abbrev pub after_save : {X : Type 0} → KeeperMemory → List Change → Result X KeepError → KeeperMemory
after_save m changes result = record (after_call m result) { saved = if is_ok result then m.saved ++ changes else m.saved }
