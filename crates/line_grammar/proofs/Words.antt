-- What callers of the word readers want to know.
use Rattle.std.proofs.Common.{◌≡◌, ℕ, ◌≤◌, true, List, length, Ok}
use Rattle.std.specs.Str.{IsUtf8}
use Rattle.line_grammar.specs.declared.numbers.NumberForm.{NumberForm}
use Rattle.line_grammar.specs.declared.texts.TextForm.{TextForm}
use Rattle.line_grammar.specs.Numbers.{is_number_form, number_at}
use Rattle.line_grammar.specs.Texts.{is_text_form, text_at}
use Rattle.line_grammar.proofs.Decimals.{number_reads}
use Rattle.line_grammar.proofs.Quoted.{text_reads}

-- a number that was read is within its bounds
pub number_within : (form : NumberForm) (bytes : List ℕ) (n : ℕ) (rest : List ℕ) → is_number_form form ≡ true → number_at form bytes ≡ Ok (n, rest) → (form.least ≤ n) × (n ≤ form.greatest)
number_within form bytes n rest ok e = let f = (number_reads form ok).found bytes n rest e in (f.1.0, f.1.1)

-- a text that was read is UTF-8
pub text_utf8 : (form : TextForm) (bytes text rest : List ℕ) → is_text_form form ≡ true → text_at form bytes ≡ Ok (text, rest) → IsUtf8 text
text_utf8 form bytes text rest ok e = ((text_reads form ok).found bytes text rest e).1.0

-- a text that was read is within its bounds
pub text_within : (form : TextForm) (bytes text rest : List ℕ) → is_text_form form ≡ true → text_at form bytes ≡ Ok (text, rest) → (form.least ≤ length text) × (length text ≤ form.greatest)
text_within form bytes text rest ok e = let f = (text_reads form ok).found bytes text rest e in (f.1.1, f.1.2)
