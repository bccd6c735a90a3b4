-- How bytes are cut into lines, and which of these are within the limits.
use Rattle.std.specs.Prelude.{◌≡◌, ◌⊎◌, ◌++◌, ℕ, ◌+◌, ◌==◌, Bool, true, false, ◌&&◌, nat_le, List, [], ◌∷◌, length, if◌then◌else◌}
use Rattle.line_program.specs.declared.limits.TheConstants.{LAST_LINE_BYTES, LAST_INPUT_BYTES}

-- no byte is the end of a line
abbrev pub is_open : List ℕ → Bool
is_open [] = true
is_open (x ∷ xs) = if x == 10 then false else is_open xs

-- the bytes before the first end of a line
abbrev pub content : List ℕ → List ℕ
content [] = []
content (x ∷ xs) = if x == 10 then [] else x ∷ content xs

-- the line at the front of the bytes: up to the first end of a line and with it, or all of them
abbrev pub next_line : List ℕ → List ℕ
next_line [] = []
next_line (x ∷ xs) = if x == 10 then x ∷ [] else x ∷ next_line xs

-- a line that begins behind `before` bytes is within the limits on a line and on the input
abbrev pub is_within : ℕ → List ℕ → Bool
is_within before line = nat_le (length (content line)) LAST_LINE_BYTES && nat_le (before + length line) LAST_INPUT_BYTES

-- The end of one line: bytes without an end of a line, and then one.
pub record IsLineEnd (bytes : List ℕ) : Type 0 where
  pub front : List ℕ
  pub is : bytes ≡ front ++ 10 ∷ []
  pub one : is_open front ≡ true

-- A part of one line: no end of a line, or just one, at its end.
abbrev pub IsPart : List ℕ → Type 0
IsPart part = (front : List ℕ) × (is_open front ≡ true) × ((part ≡ front) ⊎ (part ≡ front ++ 10 ∷ []))
