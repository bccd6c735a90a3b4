-- The dials after one of their links was hung up.
use Rattle.std.proofs.Common.{◌≡◌, ℕ, zero, suc, ◌<◌, ◌≤◌, List, [], ◌∷◌, ◌++◌, Option, length, get_or, set, refl, ap, arith}
use Rattle.outside.specs.declared.dialed.Dialed.{Dialed}
use Rattle.outside.specs.declared.dialed.Shown.{Shown}
use Rattle.outside.specs.Dials.{hung_up}

-- one dial alone is written
pub hung_up-set : (ds : List Dialed) (place : ℕ) (shown : Option Shown) (d : Dialed) → d ≡ get_or ds place d → place < length ds → set ds place (record d { shown = shown }) ≡ hung_up ds place shown
hung_up-set [] place shown d at within = absurd (omega arith)
hung_up-set (x ∷ xs) zero shown d at within = ap (λ (y : Dialed). record y { shown = shown } ∷ xs) at
hung_up-set (x ∷ xs) (suc place) shown d at within = ap (λ ys. x ∷ ys) (hung_up-set xs place shown d at (omega arith))

-- no dial is at a place behind the last
pub hung_up-past : (ds : List Dialed) (place : ℕ) (shown : Option Shown) → length ds ≤ place → hung_up ds place shown ≡ ds
hung_up-past [] place shown past = refl
hung_up-past (x ∷ xs) zero shown past = absurd (omega arith)
hung_up-past (x ∷ xs) (suc place) shown past = ap (λ ys. x ∷ ys) (hung_up-past xs place shown (omega arith))

-- the last dial is hung up
pub hung_up-last : (ds : List Dialed) (d : Dialed) (shown : Option Shown) → hung_up (ds ++ d ∷ []) (length ds) shown ≡ ds ++ record d { shown = shown } ∷ []
hung_up-last [] d shown = refl
hung_up-last (x ∷ xs) d shown = ap (λ ys. x ∷ ys) (hung_up-last xs d shown)
