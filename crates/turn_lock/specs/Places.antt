-- Histories that go on, and lists of places in a history. The first place is 1.
use Rattle.std.specs.Prelude.{◌≡◌, ℕ, zero, suc, ◌+◌, ◌<◌, ◌≤◌, ◌==◌, nat_lt, if◌then◌else◌, List, [], ◌∷◌, ◌++◌, length}

module _ {A : Type 0} where
  -- the second list begins with the first
  abbrev pub IsPrefix : List A → List A → Type 0
  IsPrefix xs ys = (rest : List A) × (xs ++ rest ≡ ys)

  -- the longer of two lists
  abbrev pub longer : List A → List A → List A
  longer xs ys = if nat_lt (length xs) (length ys) then ys else xs

  -- the entry at a place of a history
  abbrev pub IsAt : List A → ℕ → A → Type 0
  IsAt log p e = (front : List A) × (p ≡ length front + 1) × IsPrefix (front ++ e ∷ []) log

-- the numbers rise, each of them above low and none above high
abbrev pub RisesFrom : ℕ → List ℕ → ℕ → Type 0
RisesFrom low [] high = Unit {0}
RisesFrom low (p ∷ ps) high = (low < p) × (p ≤ high) × RisesFrom p ps high

-- how often a place stands in a list
abbrev pub times : ℕ → List ℕ → ℕ
times p [] = 0
times p (q ∷ qs) = (if q == p then 1 else 0) + times p qs

-- a rising list with one more place
abbrev pub with_place : ℕ → List ℕ → List ℕ
with_place p [] = p ∷ []
with_place p (q ∷ qs) = if nat_lt p q then p ∷ q ∷ qs else q ∷ with_place p qs

-- the places of both lists, rising
abbrev pub merged : List ℕ → List ℕ → List ℕ
merged [] qs = qs
merged (p ∷ ps) qs = with_place p (merged ps qs)

-- the n numbers that follow low
abbrev pub upto : ℕ → ℕ → List ℕ
upto low zero = []
upto low (suc n) = suc low ∷ upto (suc low) n

-- a number as a word that counts up to its last value and stands there
abbrev pub capped : ℕ → ℕ
capped n = if nat_lt n 18446744073709551615 then n else 18446744073709551615
