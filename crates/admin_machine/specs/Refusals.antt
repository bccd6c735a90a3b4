-- Why an event is refused.
use Rattle.std.specs.Prelude.{◌≡◌, ℕ, ◌≤◌, List, Bool, true, false, Result, Ok, Err}
use Rattle.outside.specs.Causes.{Rose}
use Rattle.job_events.specs.declared.cluster.ClusterEvent.{ClusterEvent}
use Rattle.admin_machine.specs.Standing.{Entry}
use Rattle.admin_machine.specs.declared.machine.AdminOpening.{AdminOpening}
use Rattle.admin_machine.specs.declared.save.AdminRefusal.{AdminRefusal}
use Rattle.admin_machine.specs.declared.save.AdminRefusal.TheVariants.{Memory, KeeperFault}

-- whether a refusal is want of memory
abbrev pub is_want : AdminRefusal → Bool
is_want Memory = true
is_want (KeeperFault before after) = false

-- the counts that a refusal tells rose; it may meet any event
abbrev pub Refuses : AdminOpening → List Entry → ClusterEvent → AdminRefusal → Type 0
Refuses o log e Memory = Unit {0}
Refuses o log e (KeeperFault before after) = Rose before after

-- a refusal by a keeper tells its count of faults before and after, which rose
abbrev pub TellsCounts : ℕ → ℕ → AdminRefusal → Type 0
TellsCounts old new Memory = Unit {0}
TellsCounts old new (KeeperFault before after) = (before ≡ old) × (after ≡ new) × Rose before after

module _ {X : Type 0} where
  abbrev pub Accounts : Result X AdminRefusal → ℕ → ℕ → Type 0
  Accounts (Ok x) old new = Unit {0}
  Accounts (Err x) old new = TellsCounts old new x

  -- the count of faults does not fall, and a refusal by the keeper tells it
  pub record IsCounted (old new : ℕ) (result : Result X AdminRefusal) : Type 0 where
    pub later : old ≤ new
    pub told : Accounts result old new
