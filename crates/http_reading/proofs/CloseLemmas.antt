-- Where CR LF is to stand.
use Rattle.std.proofs.Common.{◌≡◌, ◌≢◌, ℕ, ◌+◌, ◌<◌, ◌≤◌, true, false, List, [], ◌∷◌, length, get_or, refl, ap, ◌∙◌, arith, length-drop, inl, inr, Ok, Err}
use Rattle.http_reading.specs.ChunkReads.{Closing, OpenAt}

pub first_other : (bytes : List ℕ) → 0 < length bytes → get_or bytes 0 0 ≢ 13 → Closing bytes (Err 0)
first_other [] some other = absurd (omega arith)
first_other (b ∷ bytes) some other = (b, bytes, inl (refl, other, refl))

pub first_alone : (bytes : List ℕ) → get_or bytes 0 0 ≡ 13 → length bytes ≡ 1 → Closing bytes (Ok false)
first_alone [] is one = inl refl
first_alone (b ∷ []) is one = inr (ap (λ (t : ℕ). t ∷ []) is)
first_alone (b ∷ c ∷ bytes) is one = absurd (omega arith)

pub second_other : (bytes : List ℕ) → 0 < length bytes → get_or bytes 0 0 ≡ 13 → length bytes ≢ 1 → get_or bytes 1 0 ≢ 10 → Closing bytes (Err 1)
second_other [] some is more other = absurd (omega arith)
second_other (b ∷ []) some is more other = absurd (more refl)
second_other (b ∷ c ∷ bytes) some is more other = (c, bytes, inr (ap (λ (t : ℕ). t ∷ c ∷ bytes) is, other, refl))

pub both_there : (bytes : List ℕ) → 0 < length bytes → get_or bytes 0 0 ≡ 13 → length bytes ≢ 1 → get_or bytes 1 0 ≡ 10 → Closing bytes (Ok true)
both_there [] some is more other = absurd (omega arith)
both_there (b ∷ []) some is more other = absurd (more refl)
both_there (b ∷ c ∷ bytes) some is more other = ap (λ (t : ℕ). t ∷ c ∷ bytes) is ∙ ap (λ (t : ℕ). 13 ∷ t ∷ bytes) other

-- where it may still come, at most its first byte is there
pub open_short : (bytes : List ℕ) (end : ℕ) → OpenAt bytes end → length bytes ≤ end + 1
open_short bytes end (inl few) = omega arith
open_short bytes end (inr (inl none)) = omega (arith, length-drop end bytes, ap length none)
open_short bytes end (inr (inr one)) = omega (arith, length-drop end bytes, ap length one)
