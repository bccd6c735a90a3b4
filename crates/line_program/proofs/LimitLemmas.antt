-- The limits, and longer lines.
use Rattle.std.proofs.Common.{◌≡◌, ℕ, ◌+◌, ◌<◌, ◌≤◌, Bool, true, false, ◌&&◌, List, [], ◌∷◌, ◌++◌, length, refl, ap, arith, length-append, add-zero, ◌⊎◌, inl, inr}
use Rattle.std.proofs.lemmas.Bool.{leb-true, le-leb}
use Rattle.std.specs.Cmp.Derive.{both_true}
use Rattle.line_program.specs.declared.limits.TheConstants.{LAST_LINE_BYTES, LAST_INPUT_BYTES}
use Rattle.line_program.specs.Cuts.{is_open, content, next_line, is_within, IsPart}
use Rattle.line_program.specs.Meaning.{Meaning}
use Rattle.line_program.specs.Script.{IsTaken}
use Rattle.line_program.proofs.CutLemmas.{content_open, content_append, next_append, next_whole}

both_parts : (a b : Bool) → a && b ≡ true → (a ≡ true) × (b ≡ true)
both_parts true b e = (refl, e)
both_parts false b e = cc

-- what the limits say
pub within_bounds : (before : ℕ) (line : List ℕ) → is_within before line ≡ true → (length (content line) ≤ LAST_LINE_BYTES) × (before + length line ≤ LAST_INPUT_BYTES)
within_bounds before line within =
    let parts = both_parts _ _ within in
    (leb-true (length (content line)) LAST_LINE_BYTES parts.0, leb-true (before + length line) LAST_INPUT_BYTES parts.1)

pub bounds_within : (before : ℕ) (line : List ℕ) → length (content line) ≤ LAST_LINE_BYTES → before + length line ≤ LAST_INPUT_BYTES → is_within before line ≡ true
bounds_within before line short small =
    both_true (le-leb (length (content line)) LAST_LINE_BYTES short) (le-leb (before + length line) LAST_INPUT_BYTES small)

pub either_way : (b : Bool) → (b ≡ true → ⊥) → b ≡ false
either_way true never = absurd (never refl)
either_way false never = refl

-- a longer line is past a limit too
pub larger : (before : ℕ) (part line : List ℕ) → length (content part) ≤ length (content line) → length part ≤ length line →
    is_within before part ≡ false → is_within before line ≡ false
larger before part line content_grows grows large = either_way (is_within before line) (λ within.
    let bounds = within_bounds before line within in
    let small : is_within before part ≡ true = bounds_within before part (omega (arith, bounds.0)) (omega (arith, bounds.1)) in
    cc)

-- the lines that were taken are within the limit on the input
pub taken_small : {E : Type 0} (m : Meaning E) (before : ℕ) (es : List E) (bytes : List ℕ) → IsTaken m before es bytes → before ≤ LAST_INPUT_BYTES → before + length bytes ≤ LAST_INPUT_BYTES
taken_small m before [] bytes taken small = rw taken (rw add-zero small)
taken_small m before (e ∷ es) bytes taken small =
    let bounds = within_bounds before taken.0 taken.3 in
    let rest = taken_small m (before + length taken.0) es taken.1 taken.4 bounds.1 in
    rw taken.5 (omega (arith, rest, length-append {A = ℕ}))

-- no part of a line is empty and past a limit
pub large_some : (before : ℕ) (part : List ℕ) → before ≤ LAST_INPUT_BYTES → is_within before part ≡ false → 0 < length part
large_some before [] small large =
    let within : is_within before [] ≡ true = bounds_within before [] (omega arith) (rw add-zero small) in
    absurd (cc)
large_some before (x ∷ part) small large = omega arith

-- the line that a part begins is past the limit too
part_or_line : (before : ℕ) (part front more : List ℕ) → is_open front ≡ true → (part ≡ front) ⊎ (part ≡ front ++ 10 ∷ []) →
    is_within before part ≡ false → is_within before (next_line (part ++ more)) ≡ false
part_or_line before part front more one (inl is) large =
    let line : next_line (part ++ more) ≡ front ++ next_line more = rw is (next_append front more one) in
    let before_end : content (front ++ next_line more) ≡ front ++ content (next_line more) = content_append front (next_line more) one in
    let short : content part ≡ front = rw is (content_open front one) in
    rw line (larger before part (front ++ next_line more)
    (omega (arith, ap length before_end, ap length short, length-append {A = ℕ}))
    (omega (arith, ap length is, length-append {A = ℕ})) large)
part_or_line before part front more one (inr is) large =
    let line : next_line (part ++ more) ≡ part = rw is (next_whole front more one) in
    rw line large

pub large_part : (before : ℕ) (part more : List ℕ) → IsPart part → is_within before part ≡ false → is_within before (next_line (part ++ more)) ≡ false
large_part before part more one large = part_or_line before part one.0 more one.1 one.2 large
