-- Numbers and offsets of the plain form: `clap` reads them as what they spell, and takes them.
use Rattle.std.proofs.Common.{◌≡◌, ◌∙◌, ◌<◌, ◌≤◌, ◌^◌, ◌==◌, ℕ, ℤ, pos, negsuc, neg_ℤ, Bool, true, false, cond, zero, suc, sym, ap, ap₂, subst, arith, [], ◌∷◌, drop, ne_eqb, inl, inr}
use Rattle.std.specs.Prelude.{◌≤ℤ◌, FitsSigned, decimal}
use Rattle.std.specs.Int.{w64}
use Rattle.std.specs.Str.Parse.{IsNumeral, digits_value, signed_digits_value, starts_with_minus, without_leading_sign}
use Rattle.std.proofs.lemmas.Fmt.{decimal_is_IsNumeral}
use Rattle.std.proofs.lemmas.Int.{ints}
use Rattle.std.proofs.lemmas.Str.Parse.{digit_from_value}
use Rattle.clap.specs.ValueTests.{is_signed_in}
use Rattle.clap.specs.Walk.{Text}
use Rattle.clap.specs.declared.builder.value_parser.ValueParser.TheVariants as vp
use Rattle.clap.proofs.ValueTestLemmas.{Accepts-accepts}
use Rattle.job_values.specs.declared.limits.TheConstants.{LAST_OFFSET}
use Rattle.option_words.specs.Plain.{IsNumberWord, IsOffsetWord}

-- the text is a sign or none and digits, and writes this number
pub record Reads (t : Text) (z : ℤ) : Type 0 where
  pub numeral : IsNumeral 10 (without_leading_sign t)
  pub value : signed_digits_value 10 t ≡ z

-- digits have no sign before them
no_sign : (t : Text) → IsNumeral 10 t → (starts_with_minus t ≡ false) × (without_leading_sign t ≡ t)
no_sign [] h = absurd (omega (arith, h.0))
no_sign (b ∷ bs) h =
    let digit = digit_from_value b h.1.0 in
    let minus : (b == 45) ≡ false = ne_eqb _ _ (λ e. omega (arith, digit)) in
    let plus : (b == 43) ≡ false = ne_eqb _ _ (λ e. omega (arith, digit)) in
    (minus, ap₂ (λ (x y : Bool). cond x bs (drop (cond y 1 0) (b ∷ bs))) minus plus)

pub number_reads : (n : ℕ) → n < 2 ^ 64 → Reads (decimal n) (pos n)
number_reads n small =
    let is = decimal_is_IsNumeral n small in
    let plain = no_sign (decimal n) is.0 in
    record {
      numeral = subst (IsNumeral 10) (sym plain.1) is.0;
      value = ap₂ (λ (m : Bool) (ds : Text). cond m (neg_ℤ (pos (digits_value 10 ds))) (pos (digits_value 10 ds))) plain.0 plain.1 ∙ ap pos is.1;
    }

pub minus_reads : (n : ℕ) → n < 2 ^ 64 → Reads (45 ∷ decimal n) (neg_ℤ (pos n))
minus_reads n small =
    let is = decimal_is_IsNumeral n small in
    record { numeral = is.0; value = ap (λ (m : ℕ). neg_ℤ (pos m)) is.1 }

-- a text that writes a number within the bounds passes the parser
passes : (low high z : ℤ) (t : Text) → Reads t z → FitsSigned w64 z → low ≤ℤ z → z ≤ℤ high → is_signed_in low high t ≡ true
passes low high z t reads fits least most =
    Accepts-accepts false (vp.Signed low high) t (
      reads.numeral,
      subst (FitsSigned w64) (sym reads.value) fits,
      subst (λ (y : ℤ). low ≤ℤ y) (sym reads.value) least,
      subst (λ (y : ℤ). y ≤ℤ high) (sym reads.value) most,
    )

pub number_passes : (low high : ℕ) (t : Text) → high < 2 ^ 63 → IsNumberWord low high t → is_signed_in (pos low) (pos high) t ≡ true
number_passes low high t fits h =
    let n : ℕ = h.0 in
    let least : low ≤ n = h.1 in
    let most : n ≤ high = h.2 in
    subst (λ (u : Text). is_signed_in (pos low) (pos high) u ≡ true) (sym h.3)
    (passes (pos low) (pos high) (pos n) (decimal n) (number_reads n (omega arith)) (record { sfits = omega arith }) (omega (arith, ints)) (omega (arith, ints)))

after_passes : (n : ℕ) → n ≤ 64800 → is_signed_in (negsuc 64799) (pos 64800) (decimal n) ≡ true
after_passes n most = passes (negsuc 64799) (pos 64800) (pos n) (decimal n) (number_reads n (omega arith)) (record { sfits = omega arith }) (omega (arith, ints)) (omega (arith, ints))

before_passes : (n : ℕ) → n ≤ 64800 → is_signed_in (negsuc 64799) (pos 64800) (45 ∷ decimal n) ≡ true
before_passes zero most = passes (negsuc 64799) (pos 64800) (pos 0) (45 ∷ decimal 0) (minus_reads 0 (omega arith)) (record { sfits = omega arith }) (omega (arith, ints)) (omega (arith, ints))
before_passes (suc k) most = passes (negsuc 64799) (pos 64800) (negsuc k) (45 ∷ decimal (suc k)) (minus_reads (suc k) (omega arith)) (record { sfits = omega arith }) (omega (arith, ints)) (omega (arith, ints))

pub offset_passes : (t : Text) → IsOffsetWord t → is_signed_in (neg_ℤ LAST_OFFSET) LAST_OFFSET t ≡ true
offset_passes t h = elim h.2 [
  | inl is ↦ subst (λ (u : Text). is_signed_in (negsuc 64799) (pos 64800) u ≡ true) (sym is) (after_passes h.0 h.1)
  | inr is ↦ subst (λ (u : Text). is_signed_in (negsuc 64799) (pos 64800) u ≡ true) (sym is) (before_passes h.0 h.1)
]
