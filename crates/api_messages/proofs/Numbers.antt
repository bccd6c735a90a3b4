-- The whole numbers of 64 bits with a sign are those that the bounds let through.
use Rattle.std.proofs.Common.{◌≡◌, ℕ, ◌^◌, ℤ, pos, ◌≤ℤ◌, Bool, true, false, cond, Some, None, refl, sym, arith}
use Rattle.std.specs.Prelude.{nat_lt, option_and_then}
use Rattle.std.proofs.lemmas.Bool.Decides.{nat_tests}
use Rattle.std.proofs.lemmas.Int.{ints}
use Rattle.serde_json.specs.Data.{Num, unsigned, negative, float, Data, null, boolean, number, string, array, object}
use Rattle.serde_json.specs.Find.{as_number, as_i64, as_integer}
use Rattle.api_messages.specs.Reading.{within, whole_in}

too_great : (low high : ℤ) (n : ℕ) → high ≤ℤ pos 9223372036854775807 → nat_lt n (2 ^ 63) ≡ false → within low high (pos n) ≡ None
too_great low high n h e = grind (arith, ints, nat_tests)

chosen : (low high : ℤ) (n : ℕ) → high ≤ℤ pos 9223372036854775807 → (b : Bool) → nat_lt n (2 ^ 63) ≡ b → option_and_then (within low high) (cond b (Some (pos n)) None) ≡ within low high (pos n)
chosen low high n h true e = refl
chosen low high n h false e = sym (too_great low high n h e)

same_number : (low high : ℤ) (n : Num) → high ≤ℤ pos 9223372036854775807 → option_and_then (within low high) (as_i64 n) ≡ option_and_then (within low high) (as_integer n)
same_number low high (unsigned n) h = chosen low high n h (nat_lt n (2 ^ 63)) refl
same_number low high (negative z) h = refl
same_number low high (float x) h = refl

pub same_whole : (low high : ℤ) (d : Data) → high ≤ℤ pos 9223372036854775807 → option_and_then (within low high) (option_and_then as_i64 (as_number d)) ≡ whole_in low high d
same_whole low high null h = refl
same_whole low high (boolean b) h = refl
same_whole low high (number n) h = same_number low high n h
same_whole low high (string s) h = refl
same_whole low high (array ds) h = refl
same_whole low high (object ms) h = refl
