-- The bytes of a name, one after the other.
use Rattle.std.proofs.Common.{◌≡◌, ℕ, zero, suc, ◌-◌, ◌<◌, true, false, cond, List, ap, ◌∙◌, arith}
use Rattle.zone_texts.specs.declared.reading.NameBytes.{NameBytes}
use Rattle.zone_texts.specs.Reading.{skipped, behind_up_to}

-- one byte was left out
pub skip_goes_on : (n : ℕ) (class : NameBytes) (bytes total now : List ℕ) → 0 < n → true ≡ (skipped class bytes).0 → now ≡ (skipped class bytes).1 → behind_up_to n class bytes ≡ total → behind_up_to (n - 1) class now ≡ total
skip_goes_on zero class bytes total now lt is now_is so_far = absurd (omega (arith, lt))
skip_goes_on (suc n) class bytes total now lt is now_is so_far =
    let e : suc n - 1 ≡ n = omega arith in
    rw (e, now_is) (ap (λ t. cond t (behind_up_to n class (skipped class bytes).1) (skipped class bytes).1) is ∙ so_far)

-- no byte was left out
pub skip_ends : (n : ℕ) (class : NameBytes) (bytes total now : List ℕ) → 0 < n → false ≡ (skipped class bytes).0 → now ≡ (skipped class bytes).1 → behind_up_to n class bytes ≡ total → now ≡ total
skip_ends zero class bytes total now lt is now_is so_far = absurd (omega (arith, lt))
skip_ends (suc n) class bytes total now lt is now_is so_far = now_is ∙ ap (λ t. cond t (behind_up_to n class (skipped class bytes).1) (skipped class bytes).1) is ∙ so_far
