-- What the writers of words write.
use Rattle.std.specs.Prelude.{ℕ, List, [], ◌∷◌, ◌++◌, length, Option, Some, None, decimal}
use Rattle.std.specs.List.{flat_map}
use Rattle.line_grammar.specs.Texts.{spelled}

-- a text between quotes
abbrev pub quoted : List ℕ → List ℕ
quoted text = 34 ∷ (spelled text ++ 34 ∷ [])

abbrev pub spaced_text : List ℕ → List ℕ
spaced_text text = 32 ∷ quoted text

-- a text, or `-` for none
abbrev pub optional_text : Option (List ℕ) → List ℕ
optional_text None = 45 ∷ []
optional_text (Some text) = quoted text

abbrev pub spaced_number : ℕ → List ℕ
spaced_number n = 32 ∷ decimal n

-- a count and the texts, each behind a space
abbrev pub counted_texts : List (List ℕ) → List ℕ
counted_texts texts = decimal (length texts) ++ flat_map spaced_text texts

-- a count and the numbers, each behind a space
abbrev pub counted_numbers : List ℕ → List ℕ
counted_numbers numbers = decimal (length numbers) ++ flat_map spaced_number numbers
