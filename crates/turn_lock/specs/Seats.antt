-- What contracts see of a seat, and how one call moves it.
use Rattle.std.specs.Prelude.{◌≡◌, ℕ, ◌+◌, ◌<◌, ◌≤◌, List, [], ◌∷◌, ◌++◌, length, Option, Some, None, false}
use Rattle.atomic_table.specs.Table.{Me}
use Rattle.atomic_table.specs.Seated.{TableId}
use Rattle.turn_lock.specs.declared.view.View.{View}
use Rattle.turn_lock.specs.Places.{IsPrefix, RisesFrom, longer, merged, capped}

-- the opening is there, and P of it
abbrev pub Opened : {O : Type 0} → Option O → (O → Type 0) → Type 0
Opened {O} opening P = (o : O) × (opening ≡ Some o) × P o

-- The lock that the seat belongs to, the state from which its history goes, the history that it has seen, its own places in it, its parts, its refused acts and the last of them
pub record SeatView (O E R X : Type 0) : Type 0 where
  pub shared : TableId
  pub opening : Option O
  pub seen : List (E × R)
  pub own : List ℕ
  pub parts : ℕ
  pub refusals : ℕ
  pub last : Option X

module _ {O E R X : Type 0} where
  -- the seat of a new lock
  abbrev pub first_seat : TableId → O → SeatView O E R X
  first_seat id o = record { shared = id; opening = Some o; seen = []; own = []; parts = 9223372036854775808; refusals = 0; last = None }

  -- a seat that was split from this one
  abbrev pub split_seat : SeatView O E R X → ℕ → SeatView O E R X
  split_seat s parts = record { shared = s.shared; opening = s.opening; seen = s.seen; own = []; parts = parts; refusals = 0; last = None }

  -- two seats in one: the longer history, the places and the parts of both, and the first one's refusals
  abbrev pub joined_seat : SeatView O E R X → SeatView O E R X → SeatView O E R X
  joined_seat s other = record s { seen = longer s.seen other.seen; own = merged s.own other.own; parts = s.parts + other.parts }

  -- the same lock, the same opening, the same parts
  pub record IsSameSeat (old new : SeatView O E R X) : Type 0 where
    pub shared : new.shared ≡ old.shared
    pub opening : new.opening ≡ old.opening
    pub parts : new.parts ≡ old.parts

  -- the refusals are as before
  abbrev pub SameRefusals : SeatView O E R X → SeatView O E R X → Type 0
  SameRefusals old new = (new.refusals ≡ old.refusals) × (new.last ≡ old.last)

  -- one more refusal, which is now the last
  abbrev pub OneMoreRefusal : SeatView O E R X → X → SeatView O E R X → Type 0
  OneMoreRefusal old x new = (new.refusals ≡ capped (old.refusals + 1)) × (new.last ≡ Some x)

  -- what the seat has seen is legal after its opening
  abbrev pub IsLegalSeat : (O → List (E × R) → Type 0) → SeatView O E R X → Type 0
  IsLegalSeat legal s = Opened s.opening (λ o. legal o s.seen)

  -- what is seen begins with what had been, ends with this entry and is legal, and the entry's place is the one that the seat gained
  pub record Adds (legal : O → List (E × R) → Type 0) (old : SeatView O E R X) (e : E × R) (new : SeatView O E R X) : Type 0 where
    pub log : List (E × R)
    pub grows : IsPrefix old.seen log
    pub seen : new.seen ≡ log ++ e ∷ []
    pub own : new.own ≡ old.own ++ (length log + 1) ∷ []
    pub legally : IsLegalSeat legal new

  -- more may have been seen, of which this is told, and no place was gained
  pub record Sees (tells : O → List (E × R) → Type 0) (old new : SeatView O E R X) : Type 0 where
    pub grows : IsPrefix old.seen new.seen
    pub own : new.own ≡ old.own
    pub told : Opened new.opening (λ o. tells o new.seen)

  abbrev pub seat_view : TableId → View O E R → ℕ → ℕ → Option X → SeatView O E R X
  seat_view id v parts refusals last = record { shared = id; opening = v.opening; seen = v.seen; own = v.own; parts = parts; refusals = refusals; last = last }

module _ {O E R : Type 0} where
  -- between two calls a seat has no ticket, holds nothing, has a part, and what it has seen is legal
  pub record IsSeated {S : Type 0} (legal : O → List (E × R) → Type 0) (me : Me S (View O E R)) (parts : ℕ) : Type 0 where
    pub idle : (me.1 ≡ []) × (me.0.ticket ≡ None) × (me.0.holds ≡ false) × (me.0.before ≡ []) × (me.0.told ≡ [])
    pub parts_are : me.0.parts ≡ parts
    pub some_part : 0 < parts
    pub no_more : parts ≤ 9223372036854775808
    pub rising : RisesFrom 0 me.0.own (length me.0.seen)
    pub legally : Opened me.0.opening (λ o. legal o me.0.seen)
