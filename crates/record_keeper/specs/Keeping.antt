-- What a keeper tells, and what its calls do.
use Rattle.std.specs.Prelude.{◌≡◌, ℕ, ◌≤◌, Option, Some, None, Result, Ok, Err}
use Rattle.outside.specs.Causes.{Rose}
use Rattle.job_records.specs.Tables.{Tables, no_rows}
use Rattle.record_keeper.specs.declared.keeper.KeepError.{KeepError}
use Rattle.record_keeper.specs.declared.keeper.KeepError.TheVariants as keep
use Rattle.record_keeper.specs.declared.keeper.Loaded.{Loaded}
use Rattle.record_keeper.specs.declared.keeper.Loaded.TheVariants as loaded

-- the tables, where they are told; the unknown version that the last load answered; and how often a call failed
pub record KeeperView : Type 0 where
  pub tables : Option Tables
  pub version : Option ℕ
  pub faults : ℕ

-- a call is refused for want of memory, or because the outside failed, which the count tells
abbrev pub Blames : KeepError → ℕ → ℕ → Type 0
Blames keep.Failed before now = Rose before now
Blames keep.NoMemory before now = Unit {0}

module _ {X : Type 0} where
  abbrev pub Explains : Result X KeepError → ℕ → ℕ → Type 0
  Explains (Ok x) before now = Unit {0}
  Explains (Err e) before now = Blames e before now

  -- the count does not fall in a call, which answers Failed only where it rose
  pub record HasKeepCause (old new : KeeperView) (result : Result X KeepError) : Type 0 where
    pub later : old.faults ≤ new.faults
    pub failed : Explains result old.faults new.faults

-- rows that were loaded are those of the tables, and Empty comes only where there are none and no id was given
abbrev pub AreOf : Tables → Loaded → Type 0
AreOf t (loaded.Empty) = t ≡ no_rows
AreOf t (loaded.Tables records) = records.kept ≡ t
AreOf t (loaded.Version found) = Unit {0}

-- what was loaded is what the tables hold, where they are told
abbrev pub LoadsAs : Option Tables → Loaded → Type 0
LoadsAs tables l = (t : Tables) → tables ≡ Some t → AreOf t l

-- the unknown version that a load answered
abbrev pub version_answered : Result Loaded KeepError → Option ℕ
version_answered (Ok (loaded.Version found)) = Some found
version_answered _ = None
