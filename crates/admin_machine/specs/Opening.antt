-- How a machine opens over a keeper.
use Rattle.std.specs.Prelude.{◌≡◌, ℕ, ◌≤◌, List, [], ◌∷◌, ◌++◌, Option, Some, None}
use Rattle.outside.specs.Causes.{Rose}
use Rattle.job_events.specs.declared.cluster.ClusterEvent.TheVariants.{Reopen}
use Rattle.job_records.specs.Tables.{Tables}
use Rattle.cluster_history.specs.declared.settings.Settings.{Settings}
use Rattle.cluster_history.specs.Replies.{reply_of}
use Rattle.cluster_core.specs.Kept.{ClusterState}
use Rattle.record_keeper.specs.Keeping.{KeeperView}
use Rattle.admin_machine.specs.declared.machine.AdminOpening.{AdminOpening}
use Rattle.admin_machine.specs.declared.opening.LoadFault.{LoadFault}
use Rattle.admin_machine.specs.declared.opening.LoadFault.TheVariants as fault
use Rattle.admin_machine.specs.Standing.{Entry, history_of, IsLegalList, rows_of, Stands}

-- the version that a fault tells
abbrev pub version_in : LoadFault → Option ℕ
version_in (fault.Version found) = Some found
version_in _ = None

-- an opening fails by the keeper only where the count of its faults rose
abbrev pub Blames : LoadFault → ℕ → ℕ → Type 0
Blames fault.Keeper before now = Rose before now
Blames _ before now = Unit {0}

-- a keeper of an opening that failed holds what it held, tells the version that the fault tells, and explains the fault by its count
pub record IsLeft (old new : KeeperView) (f : LoadFault) : Type 0 where
  pub tables : new.tables ≡ old.tables
  pub version : new.version ≡ version_in f
  pub later : old.faults ≤ new.faults
  pub blames : Blames f old.faults new.faults

-- the stop of every admin, as the entry after these
abbrev pub stop_after : AdminOpening → List Entry → Entry
stop_after o log = (Reopen, reply_of (history_of o log) Reopen)

-- for each legal list with these settings whose rows a keeper held, a machine stands for it with the stop of every admin behind it
abbrev pub GoesOnFrom : Option Tables → Settings → Option Tables → ClusterState → Type 0
GoesOnFrom before settings held cluster =
    (o : AdminOpening) (log : List Entry) → IsLegalList o log → o.settings ≡ settings → before ≡ Some (rows_of o log) → Stands held o (log ++ stop_after o log ∷ []) cluster
