-- The cut that is computed is the one cut that there is.
use Rattle.std.proofs.Common.{◌≡◌, ℕ, zero, suc, ◌<◌, ◌≤◌, List, [], ◌++◌, length, take, drop, Bool, true, false, cond, refl, sym, ap, subst, ◌∙◌, inl, inr, append-nil, arith}
use Rattle.std.specs.Prelude.{nat_le}
use Rattle.std.specs.Str.{IsUtf8, is_utf8}
use Rattle.std.specs.Str.Lossy.{utf8_valid_len, valid_len_up_to}
use Rattle.std.proofs.lemmas.Bool.{cases_lt, le-leb}
use Rattle.std.proofs.lemmas.Bool.Decides.{nat_tests}
use Rattle.std.proofs.lemmas.List.{length-take, length-take-le, take-take, take-append-drop, take_at}
use Rattle.std.proofs.lemmas.Str.{IsUtf8-from_is_utf8, is_utf8-from_IsUtf8, utf8_valid_len_le, IsUtf8-nil}
use Rattle.api_messages.specs.Meaning.{IsCut}
use Rattle.api_messages.specs.Reading.{cut}

at_test : (bs : List ℕ) (m : ℕ) (b : Bool) → is_utf8 (take (suc m) bs) ≡ b → IsUtf8 (take (valid_len_up_to bs m) bs) → IsUtf8 (take (cond b (suc m) (valid_len_up_to bs m)) bs)
at_test bs m true e h = IsUtf8-from_is_utf8 _ e
at_test bs m false e h = h

front_up_to : (bs : List ℕ) (m : ℕ) → IsUtf8 (take (valid_len_up_to bs m) bs)
front_up_to bs zero = IsUtf8-nil
front_up_to bs (suc m) = at_test bs m _ refl (front_up_to bs m)

at_longest : (bs : List ℕ) (k m : ℕ) (b : Bool) → is_utf8 (take (suc m) bs) ≡ b → k ≤ suc m → IsUtf8 (take k bs) → (k ≤ m → k ≤ valid_len_up_to bs m) → k ≤ cond b (suc m) (valid_len_up_to bs m)
at_longest bs k m true e within utf8 below = within
at_longest bs k m false e within utf8 below =
    elim (cases_lt m k) [
      | inl above ↦
          let same : k ≡ suc m = omega arith in
          let passed : is_utf8 (take (suc m) bs) ≡ true = is_utf8-from_IsUtf8 _ (subst (λ n. IsUtf8 (take n bs)) same utf8) in
          absurd cc
      | inr le ↦ below le
    ]

longest_up_to : (bs : List ℕ) (k m : ℕ) → k ≤ m → IsUtf8 (take k bs) → k ≤ valid_len_up_to bs m
longest_up_to bs k zero within utf8 = within
longest_up_to bs k (suc m) within utf8 = at_longest bs k m _ refl within utf8 (λ le. longest_up_to bs k m le utf8)

front_utf8 : (bs : List ℕ) → IsUtf8 (take (utf8_valid_len bs) bs)
unfolding utf8_valid_len
front_utf8 bs = front_up_to bs (length bs)

front_longest : (bs : List ℕ) (k : ℕ) → k ≤ length bs → IsUtf8 (take k bs) → k ≤ utf8_valid_len bs
unfolding utf8_valid_len
front_longest bs k within utf8 = longest_up_to bs k (length bs) within utf8

cut_short : (most : ℕ) (s : List ℕ) → length s ≤ most → cut most s ≡ s
unfolding cut
cut_short most s h = rw (le-leb (length s) most h) refl

cut_long : (most : ℕ) (s : List ℕ) → most < length s → cut most s ≡ take (utf8_valid_len (take most s)) s
unfolding cut
cut_long most s h =
    let not_short : nat_le (length s) most ≡ false = grind (arith, nat_tests) in
    let within : utf8_valid_len (take most s) ≤ most = omega (arith, utf8_valid_len_le (take most s), length-take most s) in
    rw not_short (take-take _ most s within)

-- a front of whole characters that is within the limit is one of the front of that length
front_of : (most : ℕ) (s u rest : List ℕ) → s ≡ u ++ rest → length u ≤ most → take (length u) (take most s) ≡ u
front_of most s u rest is within = take-take (length u) most s within ∙ ap (take (length u)) is ∙ take_at u rest (length u) refl

cut_size : (most : ℕ) (s : List ℕ) → most < length s → length (take (utf8_valid_len (take most s)) s) ≡ utf8_valid_len (take most s)
cut_size most s h = length-take-le _ s (omega (arith, utf8_valid_len_le (take most s), length-take most s))

short_is : (most : ℕ) (s : List ℕ) → length s ≤ most → IsCut most s s
short_is most s h = record {
  front = ([], sym (append-nil s));
  fits = h;
  kept = λ _. refl;
  characters = λ k. absurd (omega arith);
  longest = λ u rest k _ _ _. absurd (omega arith);
}

long_is : (most : ℕ) (s : List ℕ) → most < length s → IsCut most s (take (utf8_valid_len (take most s)) s)
long_is most s h =
    let n = utf8_valid_len (take most s) in
    let within : n ≤ most = omega (arith, utf8_valid_len_le (take most s), length-take most s) in
    let size = cut_size most s h in
    record {
      front = (drop n s, sym (take-append-drop n s));
      fits = omega arith;
      kept = λ k. absurd (omega arith);
      characters = λ k. subst IsUtf8 (take-take n most s within) (front_utf8 (take most s));
      longest = λ u rest k is utf8 fits.
          let front : IsUtf8 (take (length u) (take most s)) = subst IsUtf8 (sym (front_of most s u rest is fits)) utf8 in
          let least : length u ≤ n = front_longest (take most s) (length u) (omega (arith, length-take most s)) front in
          omega arith;
    }

pub cut_is : (most : ℕ) (s : List ℕ) → IsCut most s (cut most s)
cut_is most s =
    elim (cases_lt most (length s)) [
      | inl long ↦ subst (IsCut most s) (sym (cut_long most s long)) (long_is most s long)
      | inr short ↦ subst (IsCut most s) (sym (cut_short most s short)) (short_is most s short)
    ]

-- two fronts of one length are the same
same_front : (s t u r q : List ℕ) → s ≡ t ++ r → s ≡ u ++ q → length t ≡ length u → t ≡ u
same_front s t u r q e f g = sym (take_at t r (length u) g) ∙ ap (take (length u)) (sym e ∙ f) ∙ take_at u q (length u) refl

long_only : (most : ℕ) (s t u : List ℕ) → most < length s → IsCut most s t → IsCut most s u → t ≡ u
long_only most s t u h p q =
    let a = p.longest u q.front.0 h q.front.1 (q.characters h) q.fits in
    let b = q.longest t p.front.0 h p.front.1 (p.characters h) p.fits in
    same_front s t u p.front.0 q.front.0 p.front.1 q.front.1 (omega arith)

-- there is no other cut
pub cut_only : (most : ℕ) (s t u : List ℕ) → IsCut most s t → IsCut most s u → t ≡ u
cut_only most s t u p q =
    elim (cases_lt most (length s)) [
      | inl long ↦ long_only most s t u long p q
      | inr short ↦ p.kept short ∙ sym (q.kept short)
    ]
