-- What a chain of calls adds to a seat, and predicates on the entries that seats own.
use Rattle.std.specs.Prelude.{◌≡◌, ◌⊎◌, ℕ, ◌<◌, List, [], ◌∷◌, ◌++◌}
use Rattle.turn_lock.specs.Places.{IsPrefix, IsAt, times}
use Rattle.turn_lock.specs.Seats.{SeatView, IsSameSeat, IsLegalSeat}

-- the entries stand in the history at these places, in this order
abbrev pub AreAt : {A : Type 0} → List A → List A → List ℕ → Type 0
AreAt log [] ps = ps ≡ []
AreAt log (e ∷ es) ps = (p : ℕ) × (qs : List ℕ) × (ps ≡ p ∷ qs) × IsAt log p e × AreAt log es qs

module _ {O E R X : Type 0} where
  -- between two moments of a seat it gained just the places of these entries, in their order
  pub record Gains (legal : O → List (E × R) → Type 0) (old : SeatView O E R X) (es : List (E × R)) (new : SeatView O E R X) : Type 0 where
    pub same : IsSameSeat old new
    pub grows : IsPrefix old.seen new.seen
    pub gained : List ℕ
    pub own : new.own ≡ old.own ++ gained
    pub are : AreAt new.seen es gained
    pub legally : IsLegalSeat legal old → IsLegalSeat legal new

  -- each entry that the seat owns is Q
  abbrev pub OwnAre : (E × R → Type 0) → SeatView O E R X → Type 0
  OwnAre Q s = (p : ℕ) → 0 < times p s.own → (e : E × R) × IsAt s.seen p e × Q e

  -- more may have been seen, and each entry that the seat owns was its own before or is Q
  abbrev pub Grew : (E × R → Type 0) → SeatView O E R X → SeatView O E R X → Type 0
  Grew Q old new = IsPrefix old.seen new.seen × ((p : ℕ) → 0 < times p new.own → (0 < times p old.own) ⊎ ((e : E × R) × IsAt new.seen p e × Q e))
