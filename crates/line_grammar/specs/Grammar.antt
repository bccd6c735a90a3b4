-- Grammars of lines: a tree of words whose branches depend on what each word says.
use Rattle.std.specs.Prelude.{◌≡◌, ℕ, ℤ, true, List, ◌∷◌, Option, Result, Ok}
use Rattle.line_grammar.specs.declared.ends.End.{End}
use Rattle.line_grammar.specs.declared.ends.End.TheVariants.{Space}
use Rattle.line_grammar.specs.declared.numbers.NumberForm.{NumberForm}
use Rattle.line_grammar.specs.declared.texts.TextForm.{TextForm}
use Rattle.line_grammar.specs.Languages.{IsOnly, Then}
use Rattle.line_grammar.specs.Reading.{◌>>=◌}
use Rattle.line_grammar.specs.Numbers.{IsNumber, is_number_form, number_at}
use Rattle.line_grammar.specs.Texts.{IsText, is_text_form, text_at}
use Rattle.line_grammar.specs.Choices.{IsWord, are_apart, words_at}
use Rattle.line_grammar.specs.Dashes.{IsOptional, optional_at, IsCode, code_at, number_form}
use Rattle.line_grammar.specs.Lists.{count_form, IsTextList, text_list_at, IsEndedNumbers, ended_numbers_at}

pub data Grammar (E : Type 0) : Type 0 where
  -- the line is whole and says this
  Gives : E → Grammar E
  Number : (form : NumberForm) → is_number_form form ≡ true → (ℕ → Grammar E) → Grammar E
  Text : (form : TextForm) → is_text_form form ≡ true → (List ℕ → Grammar E) → Grammar E
  -- a text, or `-` for none
  Optional : (form : TextForm) → is_text_form form ≡ true → (Option (List ℕ) → Grammar E) → Grammar E
  -- a signed number of 32 bits
  Code : End → (ℤ → Grammar E) → Grammar E
  -- one of some words, each with its end, none of which begins another
  Choice : (word : List ℕ) (words : List (List ℕ)) → are_apart (word ∷ words) ≡ true → (ℕ → Grammar E) → Grammar E
  TextList : (most : ℕ) (form : TextForm) → is_number_form (count_form most form.behind) ≡ true → is_text_form form ≡ true → (List (List ℕ) → Grammar E) → Grammar E
  -- a counted list of numbers, whose end says what follows
  EndedNumbers : (most least greatest : ℕ) → is_number_form (count_form most Space) ≡ true → is_number_form (number_form least greatest Space) ≡ true → (End → List ℕ → Grammar E) → Grammar E

-- the text says this by the grammar
abbrev pub Says : {E : Type 0} → Grammar E → E → List ℕ → Type 0
Says (Gives x) e text = IsOnly x e text
Says (Number form ok next) e text = Then (IsNumber form) (λ n. Says (next n)) e text
Says (Text form ok next) e text = Then (IsText form) (λ t. Says (next t)) e text
Says (Optional form ok next) e text = Then (IsOptional form) (λ t. Says (next t)) e text
Says (Code end next) e text = Then (IsCode end) (λ z. Says (next z)) e text
Says (Choice word words ok next) e text = Then (IsWord (word ∷ words)) (λ i. Says (next i)) e text
Says (TextList most form counts ok next) e text = Then (IsTextList most form) (λ ts. Says (next ts)) e text
Says (EndedNumbers most least greatest counts ok next) e text = Then (IsEndedNumbers most least greatest) (λ said. Says (next said.0 said.1)) e text

-- reading by the grammar
abbrev pub reading : {E : Type 0} → Grammar E → List ℕ → Result (E × List ℕ) ℕ
reading (Gives x) bytes = Ok (x, bytes)
reading (Number form ok next) bytes = number_at form bytes >>= λ x. reading (next x.0) x.1
reading (Text form ok next) bytes = text_at form bytes >>= λ x. reading (next x.0) x.1
reading (Optional form ok next) bytes = optional_at form bytes >>= λ x. reading (next x.0) x.1
reading (Code end next) bytes = code_at end bytes >>= λ x. reading (next x.0) x.1
reading (Choice word words ok next) bytes = words_at (word ∷ words) bytes >>= λ x. reading (next x.0) x.1
reading (TextList most form counts ok next) bytes = text_list_at most form bytes >>= λ x. reading (next x.0) x.1
reading (EndedNumbers most least greatest counts ok next) bytes = ended_numbers_at most least greatest bytes >>= λ x. reading (next x.0.0 x.0.1) x.1
