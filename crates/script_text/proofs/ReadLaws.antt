-- What reading says of lines, whatever they say.
use Rattle.std.proofs.Common.{◌≡◌, ℕ, ◌+◌, ◌-◌, ◌≤◌, List, [], ◌∷◌, ◌++◌, length, Result, Ok, Err, refl, sym, ap, subst, ◌∙◌, append_assoc, arith, length-append}
use Rattle.std.proofs.lemmas.List.{append-nil, nil_from_length}
use Rattle.line_grammar.specs.Languages.{Reads}
use Rattle.line_grammar.proofs.Algebra.{no_longer}
use Rattle.script_text.specs.Faults.{IsColumnIn, IsNoneOf}

ok_same : {V : Type 0} (x y : V × List ℕ) (r : Result (V × List ℕ) ℕ) → r ≡ Ok x → r ≡ Ok y → x ≡ y
ok_same x y r e d = cc

pub ok_or_err : {V : Type 0} (x : V × List ℕ) (n : ℕ) (r : Result (V × List ℕ) ℕ) → r ≡ Ok x → r ≡ Err n → ⊥
ok_or_err x n r e d = cc

module _ {V : Type 0} (L : V → List ℕ → Type 0) (read : List ℕ → Result (V × List ℕ) ℕ) (reads : Reads L read) where
  pub whole : (bytes : List ℕ) (e : V) → L e bytes → read bytes ≡ Ok (e, [])
  whole bytes e h = ap read (sym (append-nil bytes)) ∙ reads.again e bytes [] h

  -- all of the bytes were read
  pub line_found : (bytes : List ℕ) (e : V) (rest : List ℕ) → read bytes ≡ Ok (e, rest) → length rest ≡ 0 → L e bytes
  line_found bytes e rest r empty =
      let f = reads.found bytes e rest r in
      subst (L e) (sym (f.2 ∙ ap (λ (t : List ℕ). f.0 ++ t) (nil_from_length rest empty) ∙ append-nil f.0)) f.1

  pub line_only : (bytes : List ℕ) (e : V) (rest : List ℕ) → read bytes ≡ Ok (e, rest) → (other : V) → L other bytes → e ≡ other
  line_only bytes e rest r other h = ap (λ (p : V × List ℕ). p.0) (ok_same (e, rest) (other, []) (read bytes) r (whole bytes other h))

  pub no_line : (bytes : List ℕ) (left : ℕ) → read bytes ≡ Err left → IsNoneOf L bytes
  no_line bytes left r e h = ok_or_err (e, []) left (read bytes) (whole bytes e h) r

  pub left_within : (bytes : List ℕ) (left : ℕ) → read bytes ≡ Err left → left ≤ length bytes
  left_within bytes left r = let s = reads.stops bytes left r in omega (arith, ap length s.parts, length-append s.front s.back, s.left_is)

  pub line_column : (bytes : List ℕ) (left column : ℕ) → read bytes ≡ Err left → column ≡ length bytes - left + 1 → IsColumnIn L bytes column
  line_column bytes left column r is = (left, reads.stops bytes left r, omega (arith, left_within bytes left r))

  -- bytes stand behind a line
  pub rest_within : (bytes : List ℕ) (e : V) (rest : List ℕ) → read bytes ≡ Ok (e, rest) → length rest ≤ length bytes
  rest_within bytes e rest r = let f = reads.found bytes e rest r in omega (arith, ap length f.2, length-append f.0 rest)

  pub more_no_line : (bytes : List ℕ) (e : V) (rest : List ℕ) → read bytes ≡ Ok (e, rest) → (length rest ≡ 0 → ⊥) → IsNoneOf L bytes
  more_no_line bytes e rest r more other h =
      more (ap (λ (p : V × List ℕ). length p.1) (ok_same (e, rest) (other, []) (read bytes) r (whole bytes other h)))

  -- nothing that a line begins goes on behind it
  pub goes_no_further : (e : V) (text : List ℕ) (b : ℕ) (more : List ℕ) → L e text → (other : V) → L other (text ++ b ∷ more) → ⊥
  goes_no_further e text b more h other k =
      absurd (omega (arith, ap length (no_longer L read reads e other text (b ∷ more) h k).1))

  pub more_column : (bytes : List ℕ) (e : V) (rest : List ℕ) (column : ℕ) → read bytes ≡ Ok (e, rest) → column ≡ length bytes - length rest + 1 → IsColumnIn L bytes column
  more_column bytes e rest column r is =
      let f = reads.found bytes e rest r in (
        length rest,
        record {
          front = f.0;
          back = rest;
          parts = f.2;
          left_is = refl;
          begins = (e, [], subst (L e) (sym (append-nil f.0)) f.1);
          longest = λ b more back_is begun. goes_no_further e f.0 b begun.1 f.1 begun.0 (subst (L begun.0) (append_assoc f.0 (b ∷ []) begun.1) begun.2);
        },
        omega (arith, rest_within bytes e rest r),
      )
