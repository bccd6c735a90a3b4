-- What a spool tells, and what its calls do.
use Rattle.std.specs.Prelude.{◌≡◌, ℕ, ◌≤◌, Bool, true, List, Option, Some, Result, Ok, Err, is_err, if◌then◌else◌}
use Rattle.std.specs.Option.{option_map}
use Rattle.outside.specs.Causes.{Rose, faults_after}
use Rattle.outside.specs.declared.spool.SpoolError.{SpoolError}
use Rattle.outside.specs.declared.spool.SpoolError.TheVariants as spool

-- the bytes, where they are told; whether the last save failed; and how often a call failed
pub record SpoolView : Type 0 where
  pub kept : Option (List ℕ)
  pub failed : Bool
  pub faults : ℕ

-- a call that is no save leaves the bytes, and what is told of the last save
pub record Stays (old new : SpoolView) : Type 0 where
  pub kept : new.kept ≡ old.kept
  pub failed : new.failed ≡ old.failed

-- these are the bytes, where they are told
abbrev pub Tells : SpoolView → List ℕ → Type 0
Tells s bytes = (told : List ℕ) → s.kept ≡ Some told → bytes ≡ told

-- all bytes are replaced by these, or all are left, the latter exactly where the save failed; and it fails only where the count rose
pub record Saves (old new : SpoolView) (bytes : List ℕ) : Type 0 where
  pub kept : new.kept ≡ (if new.failed then old.kept else option_map (λ _. bytes) old.kept)
  pub later : old.faults ≤ new.faults
  pub cause : new.failed ≡ true → Rose old.faults new.faults

-- a call is refused for want of memory, or because the outside failed, which the count tells
abbrev pub Blames : SpoolError → ℕ → ℕ → Type 0
Blames spool.Failed before now = Rose before now
Blames spool.NoMemory before now = Unit {0}

module _ {X : Type 0} where
  abbrev pub Explains : Result X SpoolError → ℕ → ℕ → Type 0
  Explains (Ok x) before now = Unit {0}
  Explains (Err e) before now = Blames e before now

  -- the count does not fall in a call, which answers Failed only where it rose
  pub record HasSpoolCause (old new : SpoolView) (result : Result X SpoolError) : Type 0 where
    pub later : old.faults ≤ new.faults
    pub failed : Explains result old.faults new.faults

-- bytes in memory; the calls of these numbers fail
pub record SpoolMemory : Type 0 where
  pub bytes : List ℕ
  pub failed : Bool
  pub failing : List ℕ
  pub calls : ℕ
  pub faults : ℕ

abbrev pub seen_memory : SpoolMemory → SpoolView
seen_memory m = record { kept = Some m.bytes; failed = m.failed; faults = m.faults }

-- a call is counted, and the list of those that are to fail stays
pub record Counts (old new : SpoolMemory) : Type 0 where
  pub calls : new.calls ≡ faults_after old.calls
  pub failing : new.failing ≡ old.failing

-- after a call it is counted, and a failure too
abbrev pub after_call : {X E : Type 0} → SpoolMemory → Result X E → SpoolMemory
after_call m result = record m {
  calls = faults_after m.calls;
  faults = if is_err result then faults_after m.faults else m.faults;
}
