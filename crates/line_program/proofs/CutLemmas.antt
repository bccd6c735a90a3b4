-- Lines and their parts.
use Rattle.std.proofs.Common.{◌≡◌, ℕ, ◌+◌, ◌<◌, Bool, true, false, cond, List, [], ◌∷◌, ◌++◌, length, get_or, refl, ap, sym, ◌∙◌, arith, length-append, append_assoc}
use Rattle.std.proofs.Common.{take, zero, suc, Option, Some, None, MatchOption, nat_eq}
use Rattle.std.proofs.lemmas.Bool.{eqb-true}
use Rattle.std.proofs.lemmas.List.{take_more}
use Rattle.std.proofs.Math.Seq.{take-length}
use Rattle.memchr.specs.Find.{IsFirstByte, is_byte}
use Rattle.line_program.specs.Cuts.{is_open, content, next_line, IsLineEnd}

-- a byte that is no end of a line, and bytes without one
pub open_cons : (x : ℕ) (xs : List ℕ) (test : Bool) → cond test false (is_open xs) ≡ true → (test ≡ false) × (is_open xs ≡ true)
open_cons x xs true h = cc
open_cons x xs false h = (refl, h)

pub open_append : (xs ys : List ℕ) → is_open xs ≡ true → is_open ys ≡ true → is_open (xs ++ ys) ≡ true
open_append [] ys p q = q
open_append (x ∷ xs) ys p q = let parts = open_cons x xs _ p in rw parts.0 (open_append xs ys parts.1 q)

-- before the first end of a line stands what has none
pub content_line : (xs ys : List ℕ) → is_open xs ≡ true → content (xs ++ 10 ∷ ys) ≡ xs
content_line [] ys p = refl
content_line (x ∷ xs) ys p = let parts = open_cons x xs _ p in rw parts.0 (ap (λ t. x ∷ t) (content_line xs ys parts.1))

pub content_open : (xs : List ℕ) → is_open xs ≡ true → content xs ≡ xs
content_open [] p = refl
content_open (x ∷ xs) p = let parts = open_cons x xs _ p in rw parts.0 (ap (λ t. x ∷ t) (content_open xs parts.1))

-- the next line behind bytes without an end of a line
pub next_append : (xs ys : List ℕ) → is_open xs ≡ true → next_line (xs ++ ys) ≡ xs ++ next_line ys
next_append [] ys p = refl
next_append (x ∷ xs) ys p = let parts = open_cons x xs _ p in rw parts.0 (ap (λ t. x ∷ t) (next_append xs ys parts.1))

pub content_append : (xs ys : List ℕ) → is_open xs ≡ true → content (xs ++ ys) ≡ xs ++ content ys
content_append [] ys p = refl
content_append (x ∷ xs) ys p = let parts = open_cons x xs _ p in rw parts.0 (ap (λ t. x ∷ t) (content_append xs ys parts.1))

-- the line that is ended by the first end of a line
pub next_whole : (front more : List ℕ) → is_open front ≡ true → next_line ((front ++ 10 ∷ []) ++ more) ≡ front ++ 10 ∷ []
next_whole front more one = rw (append_assoc front (10 ∷ []) more) (next_append front (10 ∷ more) one)

pub next_ended : (front rest more : List ℕ) → is_open front ≡ true → next_line ((front ++ 10 ∷ rest) ++ more) ≡ front ++ 10 ∷ []
next_ended front rest more one = rw (append_assoc front (10 ∷ rest) more) (next_append front (10 ∷ (rest ++ more)) one)

-- bytes without an end of a line are one line at the end of the input
pub next_open : (xs : List ℕ) → is_open xs ≡ true → next_line xs ≡ xs
next_open [] p = refl
next_open (x ∷ xs) p = let parts = open_cons x xs _ p in rw parts.0 (ap (λ t. x ∷ t) (next_open xs parts.1))

-- bytes are open where no place has an end of a line
open_step : (xs : List ℕ) (test : Bool) → (test ≡ true → ⊥) → is_open xs ≡ true → cond test false (is_open xs) ≡ true
open_step xs true never h = absurd (never refl)
open_step xs false never h = h

open_below : (bytes : List ℕ) (n : ℕ) → ((k : ℕ) → k < n → k < length bytes → nat_eq (get_or bytes k 0) 10 ≡ true → ⊥) → is_open (take n bytes) ≡ true
open_below [] zero never = refl
open_below [] (suc n) never = refl
open_below (x ∷ xs) zero never = refl
open_below (x ∷ xs) (suc n) never =
    open_step (take n xs) _ (never 0 (omega arith) (omega arith)) (open_below xs n (λ k below within. never (suc k) (omega arith) (omega arith)))

-- the first end of a line ends a line
pub first_end : (bytes : List ℕ) (at : Option ℕ) → IsFirstByte (is_byte 10) bytes at →
    MatchOption at (is_open bytes ≡ true) (λ i. (i < length bytes) × IsLineEnd (take (i + 1) bytes))
first_end bytes None nowhere = rw (← take-length bytes) (open_below bytes (length bytes) (λ k below within. nowhere k (omega arith) within))
first_end bytes (Some i) found = (
  found.0.high,
  record {
    front = take i bytes;
    is = take_more bytes i 0 found.0.high ∙ ap (λ b. take i bytes ++ b ∷ []) (eqb-true (get_or bytes i 0) 10 found.1);
    one = open_below bytes i (λ k below within. found.0.before k (omega arith) below);
  },
)

-- how many bytes stand before the end of a line
pub length_content : (pending end : List ℕ) → is_open pending ≡ true → IsLineEnd end → length (content (pending ++ end)) + 1 ≡ length (pending ++ end)
length_content pending end one line =
    let joined : pending ++ end ≡ (pending ++ line.front) ++ 10 ∷ [] = rw line.is (sym (append_assoc pending line.front (10 ∷ []))) in
    rw (joined, content_line (pending ++ line.front) [] (open_append pending line.front one line.one)) (omega (arith, length-append {A = ℕ}))

-- a line is the next line of the bytes that it begins
pub line_next : (line more : List ℕ) → IsLineEnd line → next_line (line ++ more) ≡ line
line_next line more end = rw end.is (next_whole end.front more end.one)

-- a line is not empty
pub line_some : (line : List ℕ) → IsLineEnd line → 0 < length line
line_some line end = omega (arith, ap length end.is, length-append {A = ℕ})
