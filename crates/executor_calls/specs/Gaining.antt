-- What a node call adds to its seat, with the readings of its clock.
use Rattle.std.specs.Prelude.{◌≡◌, ℕ, List, [], ◌∷◌, Option}
use Rattle.std.specs.Io.KnownBytes.{Appends}
use Rattle.turn_lock.specs.Gains.{Gains}
use Rattle.executor_node.specs.Standing.{Entry, IsLegalList}
use Rattle.executor_node.specs.Exchanges.{Viewed}

-- a seat gained entries of which this holds
abbrev pub Gained : Viewed → Viewed → (List Entry → Type 0) → Type 0
Gained old new P = (es : List Entry) × Gains IsLegalList old es new × P es

-- a call read its clock once, and its seat gained entries of which this holds at that moment
abbrev pub GainedAt : Option (List ℕ) → Option (List ℕ) → Viewed → Viewed → (ℕ → List Entry → Type 0) → Type 0
GainedAt readings readings' old new P = (at : ℕ) × Appends readings readings' (at ∷ []) × Gained old new (P at)

-- a call read its clock at these moments, in order
abbrev pub GainedBy : Option (List ℕ) → Option (List ℕ) → Viewed → Viewed → (List ℕ → List Entry → Type 0) → Type 0
GainedBy readings readings' old new P = (times : List ℕ) × Appends readings readings' times × Gained old new (P times)
