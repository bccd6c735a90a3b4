-- Lists and whole grammars are read and said.
use Rattle.std.proofs.Common.{◌≡◌, ℕ, zero, suc, true, [], ◌∷◌, Ok}
use Rattle.line_grammar.specs.declared.ends.End.TheVariants.{Space}
use Rattle.line_grammar.specs.declared.numbers.NumberForm.{NumberForm}
use Rattle.line_grammar.specs.declared.texts.TextForm.{TextForm}
use Rattle.line_grammar.specs.Languages.{IsOnly, Then, Reads}
use Rattle.line_grammar.specs.Reading.{◌>>=◌}
use Rattle.line_grammar.specs.Numbers.{IsNumber, is_number_form, number_at}
use Rattle.line_grammar.specs.Texts.{IsText, is_text_form, text_at}
use Rattle.line_grammar.specs.Choices.{IsWord, words_at}
use Rattle.line_grammar.specs.Dashes.{IsOptional, optional_at, IsCode, code_at, number_form}
use Rattle.line_grammar.specs.Lists.{text_before, number_before, count_form, IsTexts, IsNumbers, IsTextList, IsNumberList, texts_at, numbers_at, text_list_at, number_list_at, IsEndedNumbers, ended_numbers_at}
use Rattle.line_grammar.specs.Grammar.{Grammar, Gives, Number, Text, Optional, Code, Choice, TextList, EndedNumbers, Says, reading}
use Rattle.line_grammar.proofs.Algebra.{only_reads, then_reads}
use Rattle.line_grammar.proofs.Decimals.{number_reads}
use Rattle.line_grammar.proofs.Quoted.{text_reads}
use Rattle.line_grammar.proofs.Keywords.{words_reads}
use Rattle.line_grammar.proofs.Either.{optional_reads, code_reads}
use Rattle.line_grammar.proofs.Ended.{ended_reads, list_apart}

pub texts_reads : (form : TextForm) → is_text_form form ≡ true → (n : ℕ) → Reads (IsTexts form n) (texts_at form n)
unfolding texts_at
texts_reads form ok zero = only_reads []
texts_reads form ok (suc n) =
    then_reads (IsText (text_before n form)) (λ first. Then (IsTexts form n) (λ others. IsOnly (first ∷ others))) (text_at (text_before n form)) (λ first bytes. texts_at form n bytes >>= λ others. Ok (first ∷ others.0, others.1))
    (text_reads (text_before n form) ok)
    (λ first. then_reads (IsTexts form n) (λ others. IsOnly (first ∷ others)) (texts_at form n) (λ others bytes. Ok (first ∷ others, bytes)) (texts_reads form ok n) (λ others. only_reads (first ∷ others)))

pub numbers_reads : (form : NumberForm) → is_number_form form ≡ true → (n : ℕ) → Reads (IsNumbers form n) (numbers_at form n)
unfolding numbers_at
numbers_reads form ok zero = only_reads []
numbers_reads form ok (suc n) =
    then_reads (IsNumber (number_before n form)) (λ first. Then (IsNumbers form n) (λ others. IsOnly (first ∷ others))) (number_at (number_before n form)) (λ first bytes. numbers_at form n bytes >>= λ others. Ok (first ∷ others.0, others.1))
    (number_reads (number_before n form) ok)
    (λ first. then_reads (IsNumbers form n) (λ others. IsOnly (first ∷ others)) (numbers_at form n) (λ others bytes. Ok (first ∷ others, bytes)) (numbers_reads form ok n) (λ others. only_reads (first ∷ others)))

pub text_list_reads : (most : ℕ) (form : TextForm) → is_number_form (count_form most form.behind) ≡ true → is_text_form form ≡ true → Reads (IsTextList most form) (text_list_at most form)
unfolding text_list_at
text_list_reads most form counts ok =
    then_reads (IsNumber (count_form most form.behind)) (IsTexts form) (number_at (count_form most form.behind)) (texts_at form) (number_reads (count_form most form.behind) counts) (texts_reads form ok)

pub number_list_reads : (most : ℕ) (form : NumberForm) → is_number_form (count_form most form.behind) ≡ true → is_number_form form ≡ true → Reads (IsNumberList most form) (number_list_at most form)
unfolding number_list_at
number_list_reads most form counts ok =
    then_reads (IsNumber (count_form most form.behind)) (IsNumbers form) (number_at (count_form most form.behind)) (numbers_at form) (number_reads (count_form most form.behind) counts) (numbers_reads form ok)

pub ended_numbers_reads : (most least greatest : ℕ) → is_number_form (count_form most Space) ≡ true → is_number_form (number_form least greatest Space) ≡ true → Reads (IsEndedNumbers most least greatest) (ended_numbers_at most least greatest)
unfolding ended_numbers_at
ended_numbers_reads most least greatest counts ok =
    ended_reads (λ end. IsNumberList most (number_form least greatest end)) (λ end. number_list_at most (number_form least greatest end)) (λ end. number_list_reads most (number_form least greatest end) counts ok) (list_apart most least greatest counts ok)

-- every grammar is read as it says
pub grammar_reads : {E : Type 0} (g : Grammar E) → Reads (Says g) (reading g)
grammar_reads (Gives x) = only_reads x
grammar_reads (Number form ok next) = then_reads (IsNumber form) (λ n. Says (next n)) (number_at form) (λ n. reading (next n)) (number_reads form ok) (λ n. grammar_reads (next n))
grammar_reads (Text form ok next) = then_reads (IsText form) (λ t. Says (next t)) (text_at form) (λ t. reading (next t)) (text_reads form ok) (λ t. grammar_reads (next t))
grammar_reads (Optional form ok next) = then_reads (IsOptional form) (λ t. Says (next t)) (optional_at form) (λ t. reading (next t)) (optional_reads form ok) (λ t. grammar_reads (next t))
grammar_reads (Code end next) = then_reads (IsCode end) (λ z. Says (next z)) (code_at end) (λ z. reading (next z)) (code_reads end) (λ z. grammar_reads (next z))
grammar_reads (Choice word words ok next) = then_reads (IsWord (word ∷ words)) (λ i. Says (next i)) (words_at (word ∷ words)) (λ i. reading (next i)) (words_reads word words ok) (λ i. grammar_reads (next i))
grammar_reads (TextList most form counts ok next) = then_reads (IsTextList most form) (λ t. Says (next t)) (text_list_at most form) (λ t. reading (next t)) (text_list_reads most form counts ok) (λ t. grammar_reads (next t))
grammar_reads (EndedNumbers most least greatest counts ok next) = then_reads (IsEndedNumbers most least greatest) (λ said. Says (next said.0 said.1)) (ended_numbers_at most least greatest) (λ said. reading (next said.0 said.1)) (ended_numbers_reads most least greatest counts ok) (λ said. grammar_reads (next said.0 said.1))
