-- Lists with their count in front.
use Rattle.std.specs.Prelude.{ℕ, zero, suc, min, List, [], ◌∷◌, Result, Ok, Err}
use Rattle.line_grammar.specs.declared.ends.End.{End}
use Rattle.line_grammar.specs.declared.ends.End.TheVariants.{Space, Line}
use Rattle.line_grammar.specs.declared.numbers.NumberForm.{NumberForm}
use Rattle.line_grammar.specs.declared.texts.TextForm.{TextForm}
use Rattle.line_grammar.specs.Languages.{IsOnly, Then}
use Rattle.line_grammar.specs.Reading.{◌>>=◌}
use Rattle.line_grammar.specs.Numbers.{IsNumber, number_at}
use Rattle.line_grammar.specs.Texts.{IsText, text_at}
use Rattle.line_grammar.specs.Dashes.{number_form}

-- what stands behind a word of a list, with so many words after it
abbrev pub end_before : ℕ → End → End
end_before zero end = end
end_before (suc n) end = Space

abbrev pub text_before : ℕ → TextForm → TextForm
text_before n form = record { least = form.least; greatest = form.greatest; behind = end_before n form.behind }

abbrev pub number_before : ℕ → NumberForm → NumberForm
number_before n form = record { least = form.least; greatest = form.greatest; behind_zero = end_before n form.behind; behind = end_before n form.behind }

-- the count of a list
abbrev pub count_form : ℕ → End → NumberForm
count_form most end = record { least = 0; greatest = most; behind_zero = end; behind = Space }

-- this many texts
abbrev pub IsTexts : TextForm → ℕ → List (List ℕ) → List ℕ → Type 0
IsTexts form zero texts text = IsOnly [] texts text
IsTexts form (suc n) texts text = Then (IsText (text_before n form)) (λ first. Then (IsTexts form n) (λ others. IsOnly (first ∷ others))) texts text

-- this many numbers
abbrev pub IsNumbers : NumberForm → ℕ → List ℕ → List ℕ → Type 0
IsNumbers form zero numbers text = IsOnly [] numbers text
IsNumbers form (suc n) numbers text = Then (IsNumber (number_before n form)) (λ first. Then (IsNumbers form n) (λ others. IsOnly (first ∷ others))) numbers text

-- a count and that many texts
abbrev pub IsTextList : ℕ → TextForm → List (List ℕ) → List ℕ → Type 0
IsTextList most form = Then (IsNumber (count_form most form.behind)) (IsTexts form)

-- a count and that many numbers
abbrev pub IsNumberList : ℕ → NumberForm → List ℕ → List ℕ → Type 0
IsNumberList most form = Then (IsNumber (count_form most form.behind)) (IsNumbers form)

-- a count and that many numbers, with the end that stands behind them
abbrev pub IsEndedNumbers : ℕ → ℕ → ℕ → End × List ℕ → List ℕ → Type 0
IsEndedNumbers most least greatest said text = IsNumberList most (number_form least greatest said.0) said.1 text

unfoldable pub texts_at : TextForm → ℕ → List ℕ → Result (List (List ℕ) × List ℕ) ℕ
texts_at form zero bytes = Ok ([], bytes)
texts_at form (suc n) bytes = text_at (text_before n form) bytes >>= λ first. (texts_at form n first.1 >>= λ others. Ok (first.0 ∷ others.0, others.1))

unfoldable pub numbers_at : NumberForm → ℕ → List ℕ → Result (List ℕ × List ℕ) ℕ
numbers_at form zero bytes = Ok ([], bytes)
numbers_at form (suc n) bytes = number_at (number_before n form) bytes >>= λ first. (numbers_at form n first.1 >>= λ others. Ok (first.0 ∷ others.0, others.1))

unfoldable pub text_list_at : ℕ → TextForm → List ℕ → Result (List (List ℕ) × List ℕ) ℕ
text_list_at most form bytes = number_at (count_form most form.behind) bytes >>= λ n. texts_at form n.0 n.1

unfoldable pub number_list_at : ℕ → NumberForm → List ℕ → Result (List ℕ × List ℕ) ℕ
number_list_at most form bytes = number_at (count_form most form.behind) bytes >>= λ n. numbers_at form n.0 n.1

-- what ends with LF where that stands there, or else what ends with a space, or where the one that goes furthest stops
abbrev pub ended_at : {V : Type 0} → Result (V × List ℕ) ℕ → Result (V × List ℕ) ℕ → Result ((End × V) × List ℕ) ℕ
ended_at (Ok x) spaced = Ok ((Line, x.0), x.1)
ended_at (Err left) (Ok x) = Ok ((Space, x.0), x.1)
ended_at (Err left) (Err other) = Err (min left other)

unfoldable pub ended_numbers_at : ℕ → ℕ → ℕ → List ℕ → Result ((End × List ℕ) × List ℕ) ℕ
ended_numbers_at most least greatest bytes = ended_at (number_list_at most (number_form least greatest Line) bytes) (number_list_at most (number_form least greatest Space) bytes)
