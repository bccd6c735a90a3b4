-- A signed code is said as it is written, and in no other way.
use Rattle.std.proofs.Common.{◌≡◌, ℕ, zero, suc, ℤ, pos, negsuc, ◌≤◌, List, [], ◌∷◌, ◌++◌, refl, sym, ap, subst, ◌∙◌, inl, inr, arith, FitsSigned, w32}
use Rattle.std.specs.Fmt.{decimal, signed_decimal}
use Rattle.line_grammar.specs.declared.ends.End.{End}
use Rattle.line_grammar.specs.Ends.{end_byte}
use Rattle.line_grammar.specs.Dashes.{IsCode, minus}
use Rattle.line_grammar.proofs.Decimals.{number_whole}
use Rattle.script_text.specs.Spelling.{CodeFits}

-- a number of 32 bits is a code
pub code_fits : (z : ℤ) → FitsSigned w32 z → CodeFits z
code_fits (pos n) fits = omega arith
code_fits (negsuc n) fits = omega arith

pub code_said : (end : End) (z : ℤ) → CodeFits z → IsCode end z (signed_decimal z ++ end_byte end ∷ [])
code_said end (pos n) h = inl (n, (omega arith, h, sym (number_whole 0 2147483647 end n)), refl)
code_said end (negsuc n) h = inr (suc n, decimal (suc n) ++ end_byte end ∷ [], (omega arith, omega (arith, h), sym (number_whole 1 2147483648 end (suc n))), refl, refl)

minus_text : (n : ℕ) → 1 ≤ n → signed_decimal (minus n) ≡ 45 ∷ decimal n
minus_text zero some = absurd (omega arith)
minus_text (suc n) some = refl

pub code_found : (end : End) (z : ℤ) (text : List ℕ) → IsCode end z text → text ≡ signed_decimal z ++ end_byte end ∷ []
code_found end z text (inl h) = subst (λ (x : ℤ). text ≡ signed_decimal x ++ end_byte end ∷ []) (sym h.2) (h.1.2 ∙ number_whole 0 2147483647 end h.0)
code_found end z text (inr h) =
    subst (λ (x : ℤ). text ≡ signed_decimal x ++ end_byte end ∷ []) (sym h.4)
    (h.3 ∙ ap (λ (t : List ℕ). 45 ∷ t) (h.2.2 ∙ number_whole 1 2147483648 end h.0) ∙ ap (λ (t : List ℕ). t ++ end_byte end ∷ []) (sym (minus_text h.0 h.2.0)))
