-- The JSON of an item has no LF and is short.
use Rattle.std.proofs.Common.{◌≡◌, ℕ, ◌+◌, ◌*◌, ◌<◌, ◌≤◌, ◌^◌, ◌/◌, ◌%◌, ◌==◌, Bool, true, false, nat_lt, pos, negsuc, ℤ, suc, ◌≤ℤ◌, List, [], ◌∷◌, ◌++◌, length, decimal, codes, length-append, refl, arith, lit<}
use Rattle.std.proofs.lemmas.Bool.Decides.{nat_tests}
use Rattle.std.proofs.lemmas.Int.{ints}
use Rattle.std.proofs.lemmas.Fmt.{decimal_by_steps, length-decimal-le}
use Rattle.std.specs.Char.{digit_char}
use Rattle.json.specs.Print.{escape_letter, escape_byte, escape, quoted}
use Rattle.serde_json.specs.Find.{of_integer}
use Rattle.serde_json.specs.Written.{number_text}
use Rattle.job_values.specs.declared.run.CallbackItem.{CallbackItem}
use Rattle.api_messages.specs.Tables.{item_rows}
use Rattle.api_messages.specs.Seen.{item_cells}
use Rattle.api_messages.specs.Writing.{Fit}
use Rattle.spool_text.specs.Spool.{item_line}

-- no byte is an LF
abbrev pub HasNoEnd : List ℕ → Type 0
HasNoEnd [] = Unit {0}
HasNoEnd (b ∷ bs) = ((b == 10) ≡ false) × HasNoEnd bs

pub record Plain (most : ℕ) (bs : List ℕ) : Type 0 where
  pub calm : HasNoEnd bs
  pub short : length bs ≤ most

calm-append : (xs ys : List ℕ) → HasNoEnd xs → HasNoEnd ys → HasNoEnd (xs ++ ys)
calm-append [] ys h k = k
calm-append (x ∷ xs) ys h k = (h.0, calm-append xs ys h.1 k)

plain_nil : Plain 0 []
plain_nil = record { calm = tt; short = omega arith }

plain_cons : (b n : ℕ) (bs : List ℕ) → (b == 10) ≡ false → Plain n bs → Plain (1 + n) (b ∷ bs)
plain_cons b n bs e h = record { calm = (e, h.calm); short = omega (arith, h.short) }

plain_append : (m n : ℕ) (xs ys : List ℕ) → Plain m xs → Plain n ys → Plain (m + n) (xs ++ ys)
plain_append m n xs ys h k = record { calm = calm-append xs ys h.calm k.calm; short = omega (arith, length-append xs ys, h.short, k.short) }

-- ---- escapes
letter_calm : (x : ℕ) → (escape_letter x == 10) ≡ false
letter_calm x = grind (arith, nat_tests)

digit_calm : (x : ℕ) → (digit_char x == 10) ≡ false
digit_calm x = grind (arith, nat_tests)

other_calm : (x : ℕ) → nat_lt x 32 ≡ false → (x == 10) ≡ false
other_calm x h = grind (arith, nat_tests)

byte_by : (x : ℕ) (b c : Bool) → nat_lt 0 (escape_letter x) ≡ b → nat_lt x 32 ≡ c → Plain 6 (escape_byte x)
unfolding escape_byte
byte_by x true c e f = rw e (record { calm = (refl, (letter_calm x, tt)); short = omega arith })
byte_by x false true e f = rw (e, f) (record { calm = (refl, (refl, (refl, (refl, (digit_calm (x / 16), (digit_calm (x % 16), tt)))))); short = omega arith })
byte_by x false false e f = rw (e, f) (record { calm = (other_calm x f, tt); short = omega arith })

byte_plain : (x : ℕ) → Plain 6 (escape_byte x)
byte_plain x = byte_by x (nat_lt 0 (escape_letter x)) (nat_lt x 32) refl refl

escape_plain : (s : List ℕ) → Plain (6 * length s) (escape s)
escape_plain [] = plain_nil
escape_plain (x ∷ s) =
    let more = plain_append 6 (6 * length s) (escape_byte x) (escape s) (byte_plain x) (escape_plain s) in
    record { calm = more.calm; short = omega (arith, more.short) }

quoted_plain : (s : List ℕ) → Plain (1 + (6 * length s + 1)) (quoted s)
quoted_plain s = plain_cons 34 (6 * length s + 1) (escape s ++ 34 ∷ []) refl (plain_append (6 * length s) 1 (escape s) (34 ∷ []) (escape_plain s) (plain_cons 34 0 [] refl plain_nil))

-- ---- numbers
digit_end : (n : ℕ) → ((48 + n) == 10) ≡ false
digit_end n = grind (arith, nat_tests)

decimal_calm : (n : ℕ) → n < 2 ^ 64 → HasNoEnd (decimal n)
decimal_calm n small =
    decimal_by_steps (λ m ds. HasNoEnd ds) (λ m h. (digit_end m, tt)) (λ m ds h k. calm-append ds ((48 + m % 10) ∷ []) k (digit_end (m % 10), tt)) n small

decimal_plain : (n : ℕ) → n < 2 ^ 64 → n < 10 ^ 20 → Plain 20 (decimal n)
decimal_plain n small few = record { calm = decimal_calm n small; short = length-decimal-le 20 n (lit< tt) few small }

wide : (n : ℕ) → n ≤ 9223372036854775807 → Plain 20 (decimal n)
wide n h =
    let most : 9223372036854775807 < 2 ^ 64 = lit< tt in
    let few : 9223372036854775807 < 10 ^ 20 = lit< tt in
    decimal_plain n (omega (arith, h, most)) (omega (arith, h, few))

at_most : (m n : ℕ) → pos m ≤ℤ pos n → m ≤ n
at_most m n h = grind (arith, ints, nat_tests)

at_least : (m n : ℕ) → negsuc m ≤ℤ negsuc n → n ≤ m
at_least m n h = grind (arith, ints, nat_tests)

signed_plain : (z : ℤ) → negsuc 2147483647 ≤ℤ z → z ≤ℤ pos 2147483647 → Plain 21 (number_text (of_integer z))
signed_plain (pos n) low high =
    let p = wide n (omega (arith, at_most n 2147483647 high)) in
    record { calm = p.calm; short = omega (arith, p.short) }
signed_plain (negsuc n) low high =
    let p = wide (suc n) (omega (arith, at_least 2147483647 n low)) in
    plain_cons 45 20 (decimal (suc n)) refl p

-- ---- the line
member_plain : (n : ℕ) (key value : List ℕ) → Plain n value → Plain ((1 + (6 * length key + 1)) + (1 + n)) (quoted key ++ 58 ∷ value)
member_plain n key value h = plain_append (1 + (6 * length key + 1)) (1 + n) (quoted key) (58 ∷ value) (quoted_plain key) (plain_cons 58 n value refl h)

-- an item within its bounds is a short line
pub line_plain : (item : CallbackItem) → Fit item_rows (item_cells item) → Plain 100000 (item_line item)
line_plain item fits =
    let code = signed_plain item.code fits.0.0 fits.0.1 in
    let msg = quoted_plain item.msg in
    let moment = wide item.log_moment (at_most item.log_moment 9223372036854775807 fits.1.1.0.2) in
    let log = wide item.log (at_most item.log 9223372036854775807 fits.1.1.1.0.1) in
    let fourth = member_plain _ (codes "logId") _ (plain_append _ _ _ _ log (plain_cons 125 0 [] refl plain_nil)) in
    let third = member_plain _ (codes "logDateTim") _ (plain_append _ _ _ _ moment (plain_cons 44 _ _ refl fourth)) in
    let second = member_plain _ (codes "handleMsg") _ (plain_append _ _ _ _ msg (plain_cons 44 _ _ refl third)) in
    let first = member_plain _ (codes "handleCode") _ (plain_append _ _ _ _ code (plain_cons 44 _ _ refl second)) in
    let line = plain_cons 123 _ _ refl first in
    record { calm = line.calm; short = omega (arith, line.short, fits.1.0) }
