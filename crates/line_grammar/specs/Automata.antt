-- Words that are read byte by byte.
use Rattle.std.specs.Prelude.{ℕ, suc, List, [], ◌∷◌, length, Result, Ok, Err}

-- what a byte does: it goes on, ends the word, or may not stand there
pub data Step (S V : Type 0) : Type 0 where
  Goes : S → Step S V
  Ends : V → Step S V
  Refuses : Step S V

abbrev pub after : {S V : Type 0} → Step S V → (S → Result (V × List ℕ) ℕ) → List ℕ → Result (V × List ℕ) ℕ
after (Goes s) on bytes = on s
after (Ends v) on bytes = Ok (v, bytes)
after Refuses on bytes = Err (suc (length bytes))

-- one byte after the other, up to the one that ends the word
abbrev pub run : {S V : Type 0} → (S → ℕ → Step S V) → S → List ℕ → Result (V × List ℕ) ℕ
run step s [] = Err 0
run step s (b ∷ bytes) = after (step s b) (λ t. run step t bytes) bytes
