-- Texts that are cut at the first of a byte.
use Rattle.std.proofs.Common.{◌≡◌, ℕ, suc, ◌+◌, ◌-◌, ◌<◌, Bool, true, false, ◌&&◌, nat_eq, nat_lt, not, Some, None, List, [], ◌∷◌, ◌++◌, length, get_or, take, drop, refl, sym, ap, ◌∙◌, arith, add-one, drop-cons, length-append, inl, inr}
use Rattle.std.specs.Prelude.{position}
use Rattle.std.specs.List.{position_or_len}
use Rattle.std.proofs.lemmas.List.{take-append-drop}
use Rattle.std.proofs.lemmas.List.Quantifiers.{position-Some}
use Rattle.std.proofs.lemmas.Bool.Decides.{nat_tests}
use Rattle.std.proofs.Math.Seq.{take-append_seam}
use Rattle.cron_schedule.proofs.FirstLemmas.{cases_test}

-- a text with a byte at a place is what stands before it, the byte, and what stands behind
pub split_at_byte : (text : List ℕ) (byte i : ℕ) → position (λ b. nat_eq b byte) text ≡ Some i → text ≡ take i text ++ byte ∷ drop (i + 1) text
split_at_byte text byte i e =
    let at = position-Some (λ b. nat_eq b byte) text i 0 e in
    let same : get_or text i 0 ≡ byte = grind (arith, nat_tests) in
    let cut : take i text ++ drop i text ≡ text = take-append-drop i text in
    let lt : i < length text = at.0 in
    let rest : drop i text ≡ get_or text i 0 ∷ drop (i + 1) text = rw (add-one, drop-cons text i 0) in
    sym cut ∙ ap (λ r. take i text ++ r) (rest ∙ ap (λ x. x ∷ drop (i + 1) text) same)

same : (n : ℕ) → nat_eq n n ≡ true
same n = grind (arith, nat_tests)

not_below : (n : ℕ) → nat_lt n n ≡ false
not_below n = grind (arith, nat_tests)

below_more_length : (n m : ℕ) → nat_lt n (n + suc m) ≡ true
below_more_length n m = grind (arith, nat_tests)

-- no byte of a text is this byte
abbrev pub lacks : ℕ → List ℕ → Bool
lacks byte [] = true
lacks byte (b ∷ bs) = (not (nat_eq b byte)) && lacks byte bs

pub lacks_first : (byte b : ℕ) (bs : List ℕ) → lacks byte (b ∷ bs) ≡ true → nat_eq b byte ≡ false
lacks_first byte b bs e = elim (cases_test (nat_eq b byte)) [
  | inl yes_it ↦ (let no_it : lacks byte (b ∷ bs) ≡ false = rw yes_it in cc)
  | inr other ↦ other
]

pub lacks_rest : (byte b : ℕ) (bs : List ℕ) → lacks byte (b ∷ bs) ≡ true → lacks byte bs ≡ true
lacks_rest byte b bs e = rw (lacks_first byte b bs e) at e

no_position : (byte : ℕ) (text : List ℕ) → lacks byte text ≡ true → position_or_len (λ b. nat_eq b byte) text ≡ length text
no_position byte [] e = refl
no_position byte (b ∷ bs) e =
    let rest = no_position byte bs (lacks_rest byte b bs e) in
    let here = lacks_first byte b bs e in
    rw here (omega (arith, rest))

position_before : (byte : ℕ) (a s : List ℕ) → lacks byte a ≡ true → position_or_len (λ b. nat_eq b byte) (a ++ byte ∷ s) ≡ length a
position_before byte [] s e = rw (same byte)
position_before byte (b ∷ bs) s e =
    let rest = position_before byte bs s (lacks_rest byte b bs e) in
    let here = lacks_first byte b bs e in
    rw here (omega (arith, rest))

-- a text that lacks a byte has no place of it
pub position-lacks : (byte : ℕ) (text : List ℕ) → lacks byte text ≡ true → position (λ b. nat_eq b byte) text ≡ None
position-lacks byte text e = rw (no_position byte text e) (rw (not_below (length text)))

-- and the first place of a byte behind such a text is where that ends
pub position-behind : (byte : ℕ) (a s : List ℕ) → lacks byte a ≡ true → position (λ b. nat_eq b byte) (a ++ byte ∷ s) ≡ Some (length a)
position-behind byte a s e = rw (position_before byte a s e) (rw (length-append a (byte ∷ s), below_more_length (length a) (length s)))

pub take-before : (a s : List ℕ) → take (length a) (a ++ s) ≡ a
take-before a s = take-append_seam a s

pub drop-behind : (byte : ℕ) (a s : List ℕ) → drop (length a + 1) (a ++ byte ∷ s) ≡ s
drop-behind byte [] s = refl
drop-behind byte (b ∷ bs) s =
    let e : suc (length bs) + 1 ≡ suc (length bs + 1) = omega arith in
    rw e (drop-behind byte bs s)

drop-whole : (text : List ℕ) → drop (length text) text ≡ []
drop-whole [] = refl
drop-whole (b ∷ bs) = drop-whole bs

-- a text is all but its last byte, and that byte
pub split_last_byte : (text : List ℕ) → 0 < length text → text ≡ take (length text - 1) text ++ get_or text (length text - 1) 0 ∷ []
split_last_byte text some =
    let lt : length text - 1 < length text = omega arith in
    let cut = take-append-drop (length text - 1) text in
    let back : length text - 1 + 1 ≡ length text = omega arith in
    let rest : drop (length text - 1) text ≡ get_or text (length text - 1) 0 ∷ drop (length text - 1 + 1) text = rw (add-one, drop-cons text (length text - 1) 0) in
    let end : drop (length text - 1 + 1) text ≡ [] = rw back (drop-whole text) in
    sym cut ∙ ap (λ r. take (length text - 1) text ++ r) (rest ∙ ap (λ r. get_or text (length text - 1) 0 ∷ r) end)

-- a text of one byte, of two, and of two and more
pub one_byte_text : (text : List ℕ) → length text ≡ 1 → text ≡ get_or text 0 0 ∷ []
one_byte_text [] e = absurd (omega arith)
one_byte_text (a ∷ []) e = refl
one_byte_text (a ∷ b ∷ bs) e = absurd (omega arith)

pub two_byte_text : (text : List ℕ) → length text ≡ 2 → text ≡ get_or text 0 0 ∷ get_or text 1 0 ∷ []
two_byte_text [] e = absurd (omega arith)
two_byte_text (a ∷ []) e = absurd (omega arith)
two_byte_text (a ∷ b ∷ []) e = refl
two_byte_text (a ∷ b ∷ c ∷ bs) e = absurd (omega arith)

pub second_byte_text : (text : List ℕ) (byte : ℕ) → 0 < byte → get_or text 1 0 ≡ byte → text ≡ get_or text 0 0 ∷ byte ∷ drop 2 text
second_byte_text [] byte pos e = (let none : 0 ≡ byte = e in absurd (omega arith))
second_byte_text (a ∷ []) byte pos e = (let none : 0 ≡ byte = e in absurd (omega arith))
second_byte_text (a ∷ b ∷ bs) byte pos e = (let same_byte : b ≡ byte = e in ap (λ x. a ∷ x ∷ bs) same_byte)

-- a text around another byte lacks a byte that its parts lack
pub lacks-both : (byte : ℕ) (a : List ℕ) (x : ℕ) (s : List ℕ) → lacks byte a ≡ true → nat_eq x byte ≡ false → lacks byte s ≡ true → lacks byte (a ++ x ∷ s) ≡ true
lacks-both byte [] x s e f g = rw (f, g)
lacks-both byte (b ∷ bs) x s e f g = rw (lacks_first byte b bs e, lacks-both byte bs x s (lacks_rest byte b bs e) f g)

behind_at : (a s : List ℕ) (x k : ℕ) → get_or (a ++ x ∷ s) (suc (length a + k)) 0 ≡ get_or s k 0
behind_at [] s x k = let e : 0 + k ≡ k = omega arith in rw e
behind_at (b ∷ bs) s x k = let e : suc (length bs) + k ≡ suc (length bs + k) = omega arith in rw e (behind_at bs s x k)

-- the last byte of a text around a byte is that of what stands behind
pub last-behind : (a s : List ℕ) (x : ℕ) → 0 < length s → get_or (a ++ x ∷ s) (length (a ++ x ∷ s) - 1) 0 ≡ get_or s (length s - 1) 0
last-behind a s x some =
    let e : length (a ++ x ∷ s) - 1 ≡ suc (length a + (length s - 1)) = omega (arith, length-append a (x ∷ s)) in
    rw e (behind_at a s x (length s - 1))

-- and of a text with one byte more it is that byte
pub last-added : (a : List ℕ) (x : ℕ) → (get_or (a ++ x ∷ []) (length (a ++ x ∷ []) - 1) 0 ≡ x) × (take (length (a ++ x ∷ []) - 1) (a ++ x ∷ []) ≡ a) × (length (a ++ x ∷ []) ≡ length a + 1)
last-added a x =
    let long : length (a ++ x ∷ []) ≡ length a + 1 = omega (arith, length-append a (x ∷ [])) in
    let e : length (a ++ x ∷ []) - 1 ≡ length a = omega arith in
    (rw e (at_end a x), rw e (take-before a (x ∷ [])), long)
  where
    at_end : (a : List ℕ) (x : ℕ) → get_or (a ++ x ∷ []) (length a) 0 ≡ x
    at_end [] x = refl
    at_end (b ∷ bs) x = at_end bs x

pub first-added : (a : List ℕ) (x : ℕ) → 0 < length a → get_or (a ++ x ∷ []) 0 0 ≡ get_or a 0 0
first-added [] x some = absurd (omega arith)
first-added (b ∷ bs) x some = refl
