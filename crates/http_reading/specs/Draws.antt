-- What a call that reads does to a link and to the bytes that are held.
use Rattle.std.specs.Prelude.{ℕ, ◌≡◌, ◌<◌, ◌≤◌, ◌==◌, ◌⊎◌, ◌||◌, Bool, true, false, List, ◌++◌, length, Option, IfSome}
use Rattle.std.specs.List.{list_any}
use Rattle.std.specs.Io.KnownBytes.{Consumes, Appends}
use Rattle.outside.specs.Causes.{Rose}
use Rattle.http_reading.specs.declared.fault.HttpFault.{HttpFault}
use Rattle.http_reading.specs.declared.fault.HttpFault.TheVariants.{LinkFault, NoMemory}

-- bytes moved from the link behind the held ones, and all else that it tells stays; where its end was
-- met they are all that it had
pub record Draws {A : Type 0} (left seen taken : A → Option (List ℕ)) (met : A → Bool) (dial faults : A → ℕ)
    (before now : A) (held holds : List ℕ) (ended : Bool) : Type 0 where
  pub bytes : List ℕ
  pub grown : holds ≡ held ++ bytes
  pub gone : Consumes (left before) (left now) bytes
  pub told : Appends (seen before) (seen now) bytes
  pub written : taken now ≡ taken before
  pub place : dial now ≡ dial before
  pub later : faults before ≤ faults now
  pub end : met now ≡ (met before || ended)
  pub last : ended ≡ true → IfSome (left before) (λ all. all ≡ bytes)

-- the bytes with which a call ended in this fault, which `IsFault` says of them
pub record Fails {A : Type 0} (left seen taken : A → Option (List ℕ)) (met : A → Bool) (dial faults : A → ℕ)
    (before now : A) (held : List ℕ) (IsFault : List ℕ → Bool → HttpFault → Type 0) (fault : HttpFault) : Type 0 where
  pub holds : List ℕ
  pub ended : Bool
  pub draws : Draws left seen taken met dial faults before now held holds ended
  pub cause : fault ≡ LinkFault → Rose (faults before) (faults now)
  pub is : IsFault holds ended fault

-- some bytes came, or the link ended
pub record Came {A : Type 0} (left seen taken : A → Option (List ℕ)) (met : A → Bool) (dial faults : A → ℕ)
    (before now : A) (held holds : List ℕ) (ended : Bool) : Type 0 where
  pub draws : Draws left seen taken met dial faults before now held holds ended
  pub some : ended ≡ false → length held < length holds

-- no line ended in the bytes that came behind the held ones: none of them is an LF (10)
abbrev pub SameLine : List ℕ → List ℕ → Type 0
SameLine held holds = (bytes : List ℕ) × (holds ≡ held ++ bytes) × (list_any (λ b. b == 10) bytes ≡ false)

-- the fault is not of the bytes
abbrev pub IsOutside : HttpFault → Type 0
IsOutside fault = (fault ≡ LinkFault) ⊎ (fault ≡ NoMemory)

-- the same, whatever the bytes
abbrev pub Outer : List ℕ → Bool → HttpFault → Type 0
Outer holds ended fault = IsOutside fault
