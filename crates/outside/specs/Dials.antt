-- The dials of a dialer, and what the links that were hung up show.
use Rattle.std.specs.Prelude.{◌≡◌, ℕ, zero, suc, ◌+◌, ◌-◌, ◌^◌, ◌≤◌, min, Bool, true, false, nat_lt, List, [], ◌∷◌, ◌++◌, length, Option, Some, None, IfSome, ⊤}
use Rattle.outside.specs.declared.dialed.Dialed.{Dialed}
use Rattle.outside.specs.declared.dialed.Shown.{Shown}
use Rattle.outside.specs.Links.{LinkMemory}

-- a dial whose link was not hung up
abbrev pub dial_of : List ℕ → ℕ → Bool → Dialed
dial_of host port failed = record { host = host; port = port; failed = failed; shown = None }

-- one dial more, whatever it answered; only a dial that failed may leave the dials untold
abbrev pub AddsDial : Option (List Dialed) → Option (List Dialed) → Dialed → Type 0
AddsDial None new d = ⊤
AddsDial (Some ds) None d = d.failed ≡ true
AddsDial (Some ds) (Some es) d = es ≡ ds ++ d ∷ []

-- a link as a dial gives it: at the place behind the dials before it, nothing read or written, no end met and no fault
pub record IsFresh (dials : Option (List Dialed)) (at : ℕ) (read written : Option (List ℕ)) (ended : Bool) (count : ℕ) : Type 0 where
  pub place : IfSome dials (λ ds. at ≡ length ds)
  pub seen : IfSome dials (λ _. read ≡ Some [])
  pub taken : IfSome dials (λ _. written ≡ Some [])
  pub met : ended ≡ false
  pub faults : count ≡ 0

-- what a link shows when it is hung up, where it tells its bytes: those read and written, whether its end was met, and whether it failed
abbrev pub shown_of : Option (List ℕ) → Option (List ℕ) → Bool → ℕ → Option Shown
shown_of None written met faults = None
shown_of (Some read) None met faults = None
shown_of (Some read) (Some written) met faults =
    Some (record { written = written; read = read; met = met; faulted = nat_lt 0 faults })

-- the dials after the link of the dial at this place was hung up: that dial shows what the link told
abbrev pub hung_up : List Dialed → ℕ → Option Shown → List Dialed
hung_up [] place shown = []
hung_up (d ∷ ds) zero shown = record d { shown = shown } ∷ ds
hung_up (d ∷ ds) (suc place) shown = d ∷ hung_up ds place shown

-- hanging up a link leaves all dials but what its own one shows
abbrev pub HangsUp : Option (List Dialed) → Option (List Dialed) → ℕ → Option Shown → Type 0
HangsUp None new place shown = ⊤
HangsUp (Some ds) None place shown = ⊥
HangsUp (Some ds) (Some es) place shown = es ≡ hung_up ds place shown

-- a count takes up the faults of a link; it does not fall, and stays at its greatest value
pub record TakesUp (before faults now : ℕ) : Type 0 where
  pub later : before ≤ now
  pub all : min (before + faults) (2 ^ 64 - 1) ≤ now

-- links that are given or refused, dial by dial, and the dials so far where they are told
pub record ScriptedDials : Type 0 where
  pub script : List (Option LinkMemory)
  pub dials : Option (List Dialed)
  pub faults : ℕ

-- the link that the next dial gives, if it is not refused
abbrev pub next_link : List (Option LinkMemory) → Option LinkMemory
next_link [] = None
next_link (item ∷ items) = item

-- the bytes that are read from every link, and the dials so far where they are told
pub record AnsweredDials : Type 0 where
  pub answer : List ℕ
  pub dials : Option (List Dialed)
  pub faults : ℕ
