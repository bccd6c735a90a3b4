-- Forms of texts.
use Rattle.std.proofs.Common.{◌≡◌, ◌<◌, ℕ, zero, suc, Bool, true, false, MatchBool, List, [], ◌∷◌, length, map, slice_index_or, sym, subst, arith}
use Rattle.http_ends.specs.Addresses.{Address as Names, IsAddress, NoAddress}
use Rattle.option_words.specs.Forms.{Each, IsOneAddress}

-- an address or none, in one word
pub one_address : (b : Bool) (t : List ℕ) → MatchBool b ((a : Names) × IsAddress t a) (NoAddress t) → MatchBool b (IsOneAddress t) (IsOneAddress t → ⊥)
one_address true t h = h
one_address false t h = λ is. h is.0 is.1

pub no_address : (b : Bool) (t : List ℕ) → b ≡ false → MatchBool b ((a : Names) × IsAddress t a) (NoAddress t) → IsOneAddress t → ⊥
no_address b t none h = subst (λ x. MatchBool x (IsOneAddress t) (IsOneAddress t → ⊥)) none (one_address b t h)

-- what holds of each part holds of that at a place
pub each_index : {X Y : Type 0} (P : Y → Type 0) (f : X → Y) (xs : List X) (k : ℕ) (x : X) → k < length xs → x ≡ slice_index_or xs k x → Each P (map f xs) → P (f x)
each_index P f [] k x inside is all = absurd (omega arith)
each_index P f (y ∷ ys) zero x inside is all = subst (λ z. P (f z)) (sym is) all.0
each_index P f (y ∷ ys) (suc n) x inside is all = each_index P f ys n x (omega arith) is all.1
