-- Words that may begin with `-`: a text or none, and a signed number.
use Rattle.std.specs.Prelude.{◌≡◌, ℕ, zero, suc, ℤ, pos, negsuc, ◌==◌, ◌⊎◌, if◌then◌else◌, List, [], ◌∷◌, Option, Some, None, Result, Ok}
use Rattle.line_grammar.specs.declared.ends.End.{End}
use Rattle.line_grammar.specs.declared.numbers.NumberForm.{NumberForm}
use Rattle.line_grammar.specs.declared.texts.TextForm.{TextForm}
use Rattle.line_grammar.specs.Ends.{end_byte}
use Rattle.line_grammar.specs.Reading.{◌>>=◌}
use Rattle.line_grammar.specs.Choices.{IsWord, words_at}
use Rattle.line_grammar.specs.Numbers.{IsNumber, number_at}
use Rattle.line_grammar.specs.Texts.{IsText, text_at}

-- one language, or `-` and another
abbrev pub Either : {V W U : Type 0} → (V → U) → (V → List ℕ → Type 0) → (W → U) → (W → List ℕ → Type 0) → U → List ℕ → Type 0
Either {V} {W} f L g M u text = ((v : V) × L v text × (u ≡ f v)) ⊎ ((w : W) × (behind : List ℕ) × M w behind × (text ≡ 45 ∷ behind) × (u ≡ g w))

abbrev pub seen : {V U : Type 0} → (V → U) → Result (V × List ℕ) ℕ → Result (U × List ℕ) ℕ
seen f read = read >>= λ x. Ok (f x.0, x.1)

abbrev pub either_at : {V W U : Type 0} → (V → U) → (List ℕ → Result (V × List ℕ) ℕ) → (W → U) → (List ℕ → Result (W × List ℕ) ℕ) → List ℕ → Result (U × List ℕ) ℕ
either_at f first g second [] = seen f (first [])
either_at f first g second (b ∷ bytes) = if b == 45 then seen g (second bytes) else seen f (first (b ∷ bytes))

-- ---- a text, or `-` for none

abbrev pub no_text : ℕ → Option (List ℕ)
no_text i = None

abbrev pub some_text : List ℕ → Option (List ℕ)
some_text text = Some text

-- the end alone
abbrev pub end_words : End → List (List ℕ)
end_words end = (end_byte end ∷ []) ∷ []

abbrev pub IsOptional : TextForm → Option (List ℕ) → List ℕ → Type 0
IsOptional form = Either some_text (IsText form) no_text (IsWord (end_words form.behind))

unfoldable pub optional_at : TextForm → List ℕ → Result (Option (List ℕ) × List ℕ) ℕ
optional_at form bytes = either_at some_text (text_at form) no_text (words_at (end_words form.behind)) bytes

-- ---- a signed number of 32 bits

-- a number from least to greatest with this end
abbrev pub number_form : ℕ → ℕ → End → NumberForm
number_form least greatest end = record { least = least; greatest = greatest; behind_zero = end; behind = end }

abbrev pub plus_form : End → NumberForm
plus_form end = number_form 0 2147483647 end

abbrev pub minus_form : End → NumberForm
minus_form end = number_form 1 2147483648 end

abbrev pub plus : ℕ → ℤ
plus n = pos n

abbrev pub minus : ℕ → ℤ
minus zero = pos 0
minus (suc n) = negsuc n

abbrev pub IsCode : End → ℤ → List ℕ → Type 0
IsCode end = Either plus (IsNumber (plus_form end)) minus (IsNumber (minus_form end))

unfoldable pub code_at : End → List ℕ → Result (ℤ × List ℕ) ℕ
code_at end bytes = either_at plus (number_at (plus_form end)) minus (number_at (minus_form end)) bytes
