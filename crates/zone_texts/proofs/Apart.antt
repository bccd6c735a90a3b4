-- Bytes that lead different ways.
use Rattle.std.proofs.Common.{◌≡◌, ℕ, ◌||◌, ◌==◌, Bool, true, false, ap, ◌∙◌, arith}
use Rattle.std.proofs.lemmas.Bool.{eqb-true}
use Rattle.zone_texts.specs.ZoneText.{within, is_letter, is_quoted}

-- a class that has not this byte
pub only : (class : ℕ → Bool) (c : ℕ) → class c ≡ false → (b : ℕ) → (b == c) ≡ true → class b ≡ false
only class c off b is = ap class (eqb-true b c is) ∙ off

pub letter_no_offset : (b : ℕ) → is_letter b ≡ true → (b == 45 || (b == 43 || within 48 57 b)) ≡ false
letter_no_offset b is = grind arith

pub letter_no_daylight : (b : ℕ) → is_letter b ≡ true → (b == 45 || (b == 43 || (within 48 57 b || b == 44))) ≡ false
letter_no_daylight b is = grind arith

pub digit_no_name : (b : ℕ) → within 48 57 b ≡ true → (b == 60 || (is_letter b || false)) ≡ false
digit_no_name b is = grind arith

pub digit_no_colon : (b : ℕ) → within 48 57 b ≡ true → (b == 58) ≡ false
digit_no_colon b is = grind arith

pub digit_no_comma : (b : ℕ) → within 48 57 b ≡ true → (b == 44) ≡ false
digit_no_comma b is = grind arith

pub digit_no_dot : (b : ℕ) → within 48 57 b ≡ true → (b == 46) ≡ false
digit_no_dot b is = grind arith

pub quoted_no_end : (b : ℕ) → is_quoted b ≡ true → (b == 62) ≡ false
quoted_no_end b is = grind arith
