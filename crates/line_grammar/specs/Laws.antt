-- What holds of every grammar, and of every word.
use Rattle.std.specs.Prelude.{◌≡◌, ℕ, true, ◌≤◌, List, [], ◌∷◌, ◌++◌, length, Ok}
use Rattle.std.specs.Str.{IsUtf8}
use Rattle.std.specs.List.{AllByRecursion}
use Rattle.line_grammar.specs.declared.ends.End.{End}
use Rattle.line_grammar.specs.declared.ends.End.TheVariants.{Space}
use Rattle.line_grammar.specs.declared.numbers.NumberForm.{NumberForm}
use Rattle.line_grammar.specs.declared.texts.TextForm.{TextForm}
use Rattle.line_grammar.specs.Ends.{end_byte}
use Rattle.line_grammar.specs.Languages.{Reads}
use Rattle.line_grammar.specs.Numbers.{number_text, IsNumber, is_number_form, number_at}
use Rattle.line_grammar.specs.Texts.{text_text, IsText, is_text_form, text_at}
use Rattle.line_grammar.specs.Choices.{IsWord}
use Rattle.line_grammar.specs.Dashes.{IsOptional, IsCode, number_form}
use Rattle.line_grammar.specs.Lists.{count_form, IsTextList, text_list_at, IsNumberList, number_list_at, IsEndedNumbers, ended_numbers_at}
use Rattle.line_grammar.specs.Writing.{counted_texts, counted_numbers}
use Rattle.line_grammar.specs.Grammar.{Grammar, Says, reading}

-- reading finds what is said, reads again what is said, and stops where nothing that can be said goes on
abbrev pub GrammarsAreRead : Type 0 → Type 0
GrammarsAreRead E = (g : Grammar E) → Reads (Says g) (reading g)

-- no text of a grammar begins another, and no text says two things
abbrev pub NoTextBeginsAnother : Type 0 → Type 0
NoTextBeginsAnother E = (g : Grammar E) (v w : E) (text more : List ℕ) → Says g v text → Says g w (text ++ more) → (v ≡ w) × (more ≡ [])

-- two texts that say one value are the same
abbrev pub IsOneWay : {V : Type 0} → (V → List ℕ → Type 0) → Type 0
IsOneWay {V} L = (v : V) (text other : List ℕ) → L v text → L v other → text ≡ other

pub record WordsHaveOneSpelling : Type 0 where
  pub number : (form : NumberForm) → IsOneWay (IsNumber form)
  pub text : (form : TextForm) → IsOneWay (IsText form)
  pub optional : (form : TextForm) → IsOneWay (IsOptional form)
  pub code : (end : End) → IsOneWay (IsCode end)
  pub word : (words : List (List ℕ)) → IsOneWay (IsWord words)
  pub texts : (most : ℕ) (form : TextForm) → IsOneWay (IsTextList most form)
  pub numbers : (most : ℕ) (form : NumberForm) → IsOneWay (IsNumberList most form)
  pub ended : (most least greatest : ℕ) → IsOneWay (IsEndedNumbers most least greatest)

-- what a form can say
pub record IsNumberOf (form : NumberForm) (n : ℕ) : Type 0 where
  pub least : form.least ≤ n
  pub greatest : n ≤ form.greatest

pub record IsTextOf (form : TextForm) (text : List ℕ) : Type 0 where
  pub utf8 : IsUtf8 text
  pub least : form.least ≤ length text
  pub greatest : length text ≤ form.greatest

-- what is written as a word is read as it was
pub record WordsAreReadAgain : Type 0 where
  pub number : (form : NumberForm) (n : ℕ) (rest : List ℕ) → is_number_form form ≡ true → IsNumberOf form n → number_at form (number_text form n ++ rest) ≡ Ok (n, rest)
  pub text : (form : TextForm) (text rest : List ℕ) → is_text_form form ≡ true → IsTextOf form text → text_at form (text_text form text ++ rest) ≡ Ok (text, rest)
  pub texts : (most : ℕ) (form : TextForm) (texts : List (List ℕ)) (rest : List ℕ) → is_number_form (count_form most form.behind) ≡ true → is_text_form form ≡ true → length texts ≤ most → AllByRecursion (IsTextOf form) texts
      → text_list_at most form ((counted_texts texts ++ end_byte form.behind ∷ []) ++ rest) ≡ Ok (texts, rest)
  pub numbers : (most : ℕ) (form : NumberForm) (numbers rest : List ℕ) → is_number_form (count_form most form.behind) ≡ true → is_number_form form ≡ true → length numbers ≤ most → AllByRecursion (IsNumberOf form) numbers
      → number_list_at most form ((counted_numbers numbers ++ end_byte form.behind ∷ []) ++ rest) ≡ Ok (numbers, rest)
  pub ended : (most least greatest : ℕ) (end : End) (numbers rest : List ℕ) → is_number_form (count_form most Space) ≡ true → is_number_form (number_form least greatest Space) ≡ true → length numbers ≤ most → AllByRecursion (IsNumberOf (number_form least greatest end)) numbers
      → ended_numbers_at most least greatest ((counted_numbers numbers ++ end_byte end ∷ []) ++ rest) ≡ Ok ((end, numbers), rest)
