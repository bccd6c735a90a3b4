-- One history, dealt among callers: each place is one caller's, and each caller's places rise.
use Rattle.std.specs.Prelude.{◌≡◌, ◌⊎◌, ℕ, ◌+◌, ◌<◌, ◌≤◌, List, [], ◌∷◌, ◌++◌, length}
use Rattle.shared_counter.specs.declared.counter.Add.{Add}
use Rattle.shared_counter.specs.declared.counter.Counter.{Counter}
use Rattle.shared_counter.specs.declared.counter.OverLimit.{OverLimit}
use Rattle.shared_counter.specs.Counting.{IsLegal, value_after}
use Rattle.turn_lock.specs.Places.{RisesFrom, times}
use Rattle.turn_lock.specs.Seats.{SeatView, IsSameSeat, Opened}
use Rattle.turn_lock.specs.Gains.{AreAt, Gains}

-- each list of entries stands in the history at its list of places, which rise
abbrev pub AllAt : {A : Type 0} → List A → List (List A) → List (List ℕ) → Type 0
AllAt log [] pss = pss ≡ []
AllAt log (es ∷ ess) pss = (ps : List ℕ) × (rest : List (List ℕ)) × (pss ≡ ps ∷ rest) × AreAt log es ps × RisesFrom 0 ps (length log) × AllAt log ess rest

-- how often a place stands in these lists
abbrev pub times_in : ℕ → List (List ℕ) → ℕ
times_in p [] = 0
times_in p (ps ∷ pss) = times p ps + times_in p pss

module _ {A : Type 0} where
  -- each caller's entries stand in the history in their order, and each place of the history is one caller's, once
  abbrev pub IsDealt : List A → List (List A) → Type 0
  IsDealt log ess = (pss : List (List ℕ)) × AllAt log ess pss × ((p : ℕ) → 0 < p → p ≤ length log → times_in p pss ≡ 1)

  -- these places are those of the callers' entries
  abbrev pub Owns : List A → List (List A) → List ℕ → Type 0
  Owns log ess own = (pss : List (List ℕ)) × AllAt log ess pss × ((p : ℕ) → times_in p pss ≡ times p own)

module _ {O E R X : Type 0} where
  -- a seat that owned nothing now owns the entries of these callers
  pub record HasDone (old : SeatView O E R X) (ess : List (List (E × R))) (new : SeatView O E R X) : Type 0 where
    pub same : IsSameSeat old new
    pub owns : Owns new.seen ess new.own

-- each entry adds so much
abbrev pub AddEach : ℕ → List (Add × ℕ) → Type 0
AddEach by [] = Unit {0}
AddEach by (e ∷ es) = (e.0.by ≡ by) × AddEach by es

-- the history that the seat has seen leaves no room to add so much
abbrev pub IsFull : ℕ → SeatView Counter Add ℕ OverLimit → Type 0
IsFull by s = Opened s.opening (λ o. o.limit < value_after o.value s.seen + by)

-- so many entries that add so much, and fewer only where there was no room for another
abbrev pub HasMade : ℕ → ℕ → List (Add × ℕ) → SeatView Counter Add ℕ OverLimit → Type 0
HasMade by acts es s = AddEach by es × ((length es ≡ acts) ⊎ IsFull by s)

-- the same of each caller
abbrev pub HaveMade : ℕ → ℕ → List (List (Add × ℕ)) → SeatView Counter Add ℕ OverLimit → Type 0
HaveMade by acts [] s = Unit {0}
HaveMade by acts (es ∷ ess) s = HasMade by acts es s × HaveMade by acts ess s

-- the entries go on by what the seat gained, which is one entry, or none where there was no room
pub record GainsOne (by : ℕ) (old : SeatView Counter Add ℕ OverLimit) (before : List (Add × ℕ)) (new : SeatView Counter Add ℕ OverLimit) (after : List (Add × ℕ)) : Type 0 where
  pub es : List (Add × ℕ)
  pub entries : after ≡ before ++ es
  pub gains : Gains IsLegal old es new
  pub made : ((r : ℕ) × (es ≡ (record { by = by }, r) ∷ [])) ⊎ ((es ≡ []) × IsFull by new)
