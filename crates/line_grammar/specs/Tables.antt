-- Values that are told by a word each, with the byte behind it.
use Rattle.std.specs.Prelude.{◌≡◌, ℕ, min, true, List, [], ◌∷◌, map, get_or, length, Result, Err}
use Rattle.line_grammar.specs.Choices.{word_at, word_or, are_apart}
use Rattle.line_grammar.specs.Grammar.{Grammar, Choice}

-- one of some values by its word, none of which begins another, and behind it what stands for the value
abbrev pub one_of : {V E : Type 0} (word : V → List ℕ) (first : V) (others : List V) → are_apart (map word (first ∷ others)) ≡ true → (V → Grammar E) → Grammar E
one_of word first others ok next = Choice (word first) (map word others) ok (λ i. next (get_or (first ∷ others) i first))

-- the words of some values, each with its value
abbrev pub rows_of : {V : Type 0} → (V → List ℕ) → List V → List (List ℕ × V)
rows_of word values = map (λ v. (word v, v)) values

-- the value of the first row whose word stands there, or where the word that goes furthest stops
abbrev pub row_from : {V : Type 0} → ℕ → List (List ℕ × V) → List ℕ → Result (V × List ℕ) ℕ
row_from least [] bytes = Err least
row_from least (row ∷ rows) bytes = word_or (word_at row.0 bytes) row.1 (λ left. row_from (min least left) rows bytes)

-- the value whose word stands in front, and the bytes behind it
unfoldable pub row_at : {V : Type 0} → List (List ℕ × V) → List ℕ → Result (V × List ℕ) ℕ
row_at rows bytes = row_from (length bytes) rows bytes
