-- A call of an executor leaves its seat with the lock and the parts that it had.
use Rattle.std.proofs.Common.{ℕ, List, Option, refl, ◌∙◌}
use Rattle.turn_lock.specs.Seats.{IsSameSeat}
use Rattle.executor_node.specs.Standing.{Entry}
use Rattle.executor_node.specs.Exchanges.{Viewed}
use Rattle.executor_calls.specs.Gaining.{Gained, GainedAt, GainedBy}

pub gained_same : (old new : Viewed) (P : List Entry → Type 0) → Gained old new P → IsSameSeat old new
gained_same old new P g = g.1.same

pub gained_at_same : (r s : Option (List ℕ)) (old new : Viewed) (P : ℕ → List Entry → Type 0) → GainedAt r s old new P → IsSameSeat old new
gained_at_same r s old new P g = g.2.1.same

pub gained_by_same : (r s : Option (List ℕ)) (old new : Viewed) (P : List ℕ → List Entry → Type 0) → GainedBy r s old new P → IsSameSeat old new
gained_by_same r s old new P g = g.2.1.same

pub same_none : (s : Viewed) → IsSameSeat s s
same_none s = record { shared = refl; opening = refl; parts = refl }

pub same_then : (old now new : Viewed) → IsSameSeat old now → IsSameSeat now new → IsSameSeat old new
same_then old now new a b = record { shared = b.shared ∙ a.shared; opening = b.opening ∙ a.opening; parts = b.parts ∙ a.parts }
