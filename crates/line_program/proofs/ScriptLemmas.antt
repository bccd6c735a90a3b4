-- A script with one line more.
use Rattle.std.proofs.Common.{◌≡◌, ℕ, ◌+◌, List, [], ◌∷◌, ◌++◌, length, refl, ap, sym, ◌∙◌, subst, append_assoc, append-nil, length-append, arith, add-zero, true}
use Rattle.line_program.specs.Cuts.{is_within}
use Rattle.line_program.specs.Meaning.{Meaning}
use Rattle.line_program.specs.Script.{IsLineOf, IsTaken, answers_behind, replies_text}

pub taken_more : {E : Type 0} (m : Meaning E) (before : ℕ) (es : List E) (e : E) (whole line : List ℕ) →
    IsTaken m before es whole → is_within (before + length whole) line ≡ true → IsLineOf m e line → IsTaken m before (es ++ e ∷ []) (whole ++ line)
taken_more m before [] e whole line taken within says =
    let P : ℕ → Type 0 = λ n. is_within n line ≡ true in
    let none : before + length whole ≡ before = rw taken (add-zero before) in
    (line, [], says, subst P none within, refl, rw taken (sym (append-nil line)))
taken_more m before (x ∷ es) e whole line taken within says =
    let P : ℕ → Type 0 = λ n. is_within n line ≡ true in
    let size : before + length whole ≡ (before + length taken.0) + length taken.1 = rw taken.5 (omega (arith, length-append {A = ℕ})) in (
      taken.0,
      taken.1 ++ line,
      taken.2,
      taken.3,
      taken_more m (before + length taken.0) es e taken.1 line taken.4 (subst P size within) says,
      rw taken.5 (append_assoc taken.0 taken.1 line),
    )

answers_more : {E : Type 0} (m : Meaning E) (before es : List E) (e : E) → answers_behind m before (es ++ e ∷ []) ≡ answers_behind m before es ++ m.answer (before ++ es) e
answers_more m before [] e = append-nil (m.answer before e) ∙ ap (λ xs. m.answer xs e) (sym (append-nil before))
answers_more m before (x ∷ es) e =
    ap (λ text. m.answer before x ++ text) (answers_more m (before ++ x ∷ []) es e)
    ∙ sym (append_assoc (m.answer before x) (answers_behind m (before ++ x ∷ []) es) (m.answer ((before ++ x ∷ []) ++ es) e))
    ∙ ap (λ xs. (m.answer before x ++ answers_behind m (before ++ x ∷ []) es) ++ m.answer xs e) (append_assoc before (x ∷ []) es)

pub text_more : {E : Type 0} (m : Meaning E) (es : List E) (e : E) → replies_text m (es ++ e ∷ []) ≡ replies_text m es ++ m.answer es e
text_more m es e = answers_more m [] es e
