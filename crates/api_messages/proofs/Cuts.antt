-- The place before which a text is cut is the end of the longest front of whole characters.
use Rattle.std.proofs.Common.{◌≡◌, ℕ, ◌<◌, ◌≤◌, List, length, take, false, nat_le, refl, sym, subst, ◌∙◌, arith, inl, inr}
use Rattle.std.proofs.lemmas.Bool.{cases_lt}
use Rattle.std.proofs.lemmas.Bool.Decides.{nat_tests}
use Rattle.std.proofs.lemmas.List.{length-take, take-take, take_all}
use Rattle.std.proofs.lemmas.Str.{utf8_valid_len-IsUtf8, utf8_valid_len-IsValidUpTo, IsCharBoundary-from_take}
use Rattle.std.specs.Str.{IsUtf8, IsCharBoundary}
use Rattle.std.specs.Str.Lossy.{utf8_valid_len}
use Rattle.api_messages.specs.Reading.{cut}

-- no longer front is one of whole characters
pub no_longer : (s : List ℕ) (most end m : ℕ) → IsUtf8 s → most < length s → ((i : ℕ) → end < i → i ≤ most → ¬ (IsCharBoundary s i)) → end < most → end < m → IsUtf8 (take m (take most s)) → ⊥
no_longer s most end m utf8 long nearest lt above found =
    elim (cases_lt most m) [
      | inl past ↦
          let whole : IsUtf8 (take most s) = subst IsUtf8 (take_all m (take most s) (omega (arith, length-take most s))) found in
          nearest most lt (omega arith) (IsCharBoundary-from_take s most utf8 (omega arith) whole)
      | inr within ↦
          let front : IsUtf8 (take m s) = subst IsUtf8 (take-take m most s within) found in
          nearest m above within (IsCharBoundary-from_take s m utf8 (omega arith) front)
    ]

valid_len : (s : List ℕ) (most end : ℕ) → IsUtf8 s → most < length s → end ≤ most → IsUtf8 (take end s) → ((i : ℕ) → end < i → i ≤ most → ¬ (IsCharBoundary s i)) → utf8_valid_len (take most s) ≡ end
valid_len s most end utf8 long bound whole nearest =
    elim (cases_lt end most) [
      | inl lt ↦ utf8_valid_len-IsValidUpTo (take most s) end (record {
        short = omega (arith, length-take most s);
        front = subst IsUtf8 (sym (take-take end most s bound)) whole;
        longest = λ m above found. no_longer s most end m utf8 long nearest lt above found;
      })
      | inr ge ↦
          let same : end ≡ most = omega arith in
          utf8_valid_len-IsUtf8 (take most s) (subst (λ n. IsUtf8 (take n s)) same whole) ∙ omega (arith, length-take most s)
    ]

pub cut-boundary : (s : List ℕ) (most end : ℕ) → IsUtf8 s → most < length s → end ≤ most → IsUtf8 (take end s) → ((i : ℕ) → end < i → i ≤ most → ¬ (IsCharBoundary s i)) → take end s ≡ cut most s
unfolding cut
cut-boundary s most end utf8 long bound whole nearest =
    let e = valid_len s most end utf8 long bound whole nearest in
    let not_short : nat_le (length s) most ≡ false = grind (arith, nat_tests) in
    rw (not_short, e, take-take end most s bound) refl
