-- One of some fixed words, each with the byte behind it.
use Rattle.std.specs.Prelude.{◌≡◌, ℕ, zero, suc, min, Bool, true, false, ◌&&◌, ◌==◌, if◌then◌else◌, List, [], ◌∷◌, length, Result, Ok, Err}

-- the text is the word at this place of the list
abbrev pub IsWord : List (List ℕ) → ℕ → List ℕ → Type 0
IsWord [] i text = ⊥
IsWord (word ∷ words) zero text = text ≡ word
IsWord (word ∷ words) (suc i) text = IsWord words i text

-- the bytes behind the word, or the number of bytes left where they differ
abbrev pub word_at : List ℕ → List ℕ → Result (List ℕ) ℕ
word_at [] bytes = Ok bytes
word_at (a ∷ word) [] = Err 0
word_at (a ∷ word) (b ∷ bytes) = if a == b then word_at word bytes else Err (suc (length bytes))

-- what this word tells where it stands, or what comes where it does not
abbrev pub word_or : {V : Type 0} → Result (List ℕ) ℕ → V → (ℕ → Result (V × List ℕ) ℕ) → Result (V × List ℕ) ℕ
word_or (Ok rest) v others = Ok (v, rest)
word_or (Err left) v others = others left

-- the first word that stands there, or where the word that goes furthest stops
abbrev pub words_from : ℕ → ℕ → List (List ℕ) → List ℕ → Result (ℕ × List ℕ) ℕ
words_from i least [] bytes = Err least
words_from i least (word ∷ words) bytes = word_or (word_at word bytes) i (λ left. words_from (suc i) (min least left) words bytes)

-- which word of the list stands in front, and the bytes behind it
unfoldable pub words_at : List (List ℕ) → List ℕ → Result (ℕ × List ℕ) ℕ
words_at words bytes = words_from 0 (length bytes) words bytes

-- neither word begins the other
abbrev pub apart : List ℕ → List ℕ → Bool
apart [] other = false
apart (a ∷ word) [] = false
apart (a ∷ word) (b ∷ other) = if a == b then apart word other else true

abbrev pub all_apart : List ℕ → List (List ℕ) → Bool
all_apart word [] = true
all_apart word (other ∷ others) = apart word other && all_apart word others

-- no word of the list begins another
abbrev pub are_apart : List (List ℕ) → Bool
are_apart [] = true
are_apart (word ∷ words) = all_apart word words && are_apart words
