-- One of some values by its word is read by the rows of their words.
use Rattle.std.proofs.Common.{◌≡◌, ℕ, suc, ◌+◌, min, true, List, [], ◌∷◌, length, map, get_or, Result, Ok, Err, refl, ap, ◌∙◌, arith}
use Rattle.line_grammar.specs.Reading.{◌>>=◌}
use Rattle.line_grammar.specs.Choices.{word_at, word_or, words_from, words_at, are_apart}
use Rattle.line_grammar.specs.Grammar.{Grammar, reading}
use Rattle.line_grammar.specs.Tables.{one_of, rows_of, row_from, row_at}

-- one word, and the words behind it
row_behind : {V R : Type 0} (f : ℕ → V) (k : V → List ℕ → Result R ℕ) (i : ℕ) (v : V) (read : Result (List ℕ) ℕ) (words : ℕ → Result (ℕ × List ℕ) ℕ) (rows : ℕ → Result (V × List ℕ) ℕ) → f i ≡ v
    → ((left : ℕ) → (words left >>= λ x. k (f x.0) x.1) ≡ (rows left >>= λ x. k x.0 x.1))
    → (word_or read i words >>= λ x. k (f x.0) x.1) ≡ (word_or read v rows >>= λ x. k x.0 x.1)
row_behind f k i v (Ok rest) words rows here on = ap (λ u. k u rest) here
row_behind f k i v (Err left) words rows here on = on left

rows_behind : {V R : Type 0} (word : V → List ℕ) (f : ℕ → V) (k : V → List ℕ → Result R ℕ) (d : V) (values : List V) (i least : ℕ) (bytes : List ℕ) → ((j : ℕ) → f (i + j) ≡ get_or values j d)
    → (words_from i least (map word values) bytes >>= λ x. k (f x.0) x.1) ≡ (row_from least (rows_of word values) bytes >>= λ x. k x.0 x.1)
rows_behind word f k d [] i least bytes at = refl
rows_behind word f k d (v ∷ values) i least bytes at =
    row_behind f k i v (word_at (word v) bytes) (λ left. words_from (suc i) (min least left) (map word values) bytes) (λ left. row_from (min least left) (rows_of word values) bytes)
    (let same : i ≡ i + 0 = omega arith in ap f same ∙ at 0)
    (λ left. rows_behind word f k d values (suc i) (min least left) bytes (λ j. let same : suc i + j ≡ i + suc j = omega arith in ap f same ∙ at (suc j)))

pub one_of_reading : {V E : Type 0} (word : V → List ℕ) (first : V) (others : List V) (ok : are_apart (map word (first ∷ others)) ≡ true) (next : V → Grammar E) (bytes : List ℕ)
    → reading (one_of word first others ok next) bytes ≡ (row_at (rows_of word (first ∷ others)) bytes >>= λ x. reading (next x.0) x.1)
unfolding words_at row_at
one_of_reading word first others ok next bytes =
    rows_behind word (λ i. get_or (first ∷ others) i first) (λ v rest. reading (next v) rest) first (first ∷ others) 0 (length bytes) bytes
    (λ j. let same : 0 + j ≡ j = omega arith in ap (λ i. get_or (first ∷ others) i first) same)
