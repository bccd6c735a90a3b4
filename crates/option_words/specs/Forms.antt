-- The forms of the texts that options take.
use Rattle.std.specs.Prelude.{◌≡◌, ◌≤◌, ◌-◌, ◌==◌, ℕ, List, [], ◌∷◌, length, Some, slice_get}
use Rattle.std.specs.List.{slice_split}
use Rattle.http_ends.specs.Addresses.{Address, IsAddress}
use Rattle.job_values.specs.declared.limits.TheConstants.{LONGEST_APP}

-- P holds of each element
abbrev pub Each : {X : Type 0} → (X → Type 0) → List X → Type 0
Each P [] = Unit {0}
Each P (x ∷ xs) = P x × Each P xs

-- the name of an application: 1 to 64 bytes
abbrev pub IsApp : List ℕ → Type 0
IsApp text = (1 ≤ length text) × (length text ≤ LONGEST_APP)

-- one address
abbrev pub IsOneAddress : List ℕ → Type 0
IsOneAddress text = (address : Address) × IsAddress text address

-- addresses with a comma (44) between them
abbrev pub AreAddresses : List ℕ → Type 0
AreAddresses text = Each IsOneAddress (slice_split (λ b. b == 44) text)

-- a base path begins and ends with a slash (47)
abbrev pub IsBase : List ℕ → Type 0
IsBase text = (slice_get text 0 ≡ Some 47) × (slice_get text (length text - 1) ≡ Some 47)
