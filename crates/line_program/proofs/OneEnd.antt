-- An input ends in one way: all of it is lines, or a line is bad, or one is past a limit.
use Rattle.std.proofs.Common.{◌≡◌, ℕ, ◌+◌, ◌<◌, true, false, List, [], ◌∷◌, ◌++◌, length, refl, ap, sym, ◌∙◌, subst, arith, append_assoc, append-nil, length-append, add-zero, zero-add, inl, inr, Option, Some}
use Rattle.line_program.specs.Cuts.{is_within, next_line}
use Rattle.line_program.specs.declared.status.Status.{Status}
use Rattle.line_program.specs.declared.status.Status.TheVariants as statuses
use Rattle.line_program.specs.Meaning.{Meaning}
use Rattle.line_program.specs.Ports.{Ports}
use Rattle.line_program.specs.Script.{IsLineOf, IsTaken}
use Rattle.line_program.specs.Outcome.{RunEnds, Yields, code_of}
use Rattle.line_program.proofs.CutLemmas.{line_next, line_some}

pub data Way : Type 0 where
  AllLines : Way
  BadOne : Way
  LargeOne : Way

module _ {E : Type 0} (m : Meaning E) where
  -- what stands behind the lines that were taken
  abbrev pub Goes : Way → ℕ → List ℕ → Type 0
  Goes AllLines before rest = rest ≡ []
  Goes BadOne before rest = (0 < length rest) × (is_within before (next_line rest) ≡ true) × ((event : E) → m.is_line event (next_line rest) → ⊥)
  Goes LargeOne before rest = (0 < length rest) × (is_within before (next_line rest) ≡ false)

  -- one rest goes one way
  pub one_rest : (way other : Way) (before : ℕ) (rest : List ℕ) → Goes way before rest → Goes other before rest → way ≡ other
  one_rest AllLines AllLines before rest goes there = refl
  one_rest AllLines BadOne before rest goes there = absurd (omega (arith, ap length goes, there.0))
  one_rest AllLines LargeOne before rest goes there = absurd (omega (arith, ap length goes, there.0))
  one_rest BadOne AllLines before rest goes there = absurd (omega (arith, ap length there, goes.0))
  one_rest BadOne BadOne before rest goes there = refl
  one_rest BadOne LargeOne before rest goes there = absurd (cc (goes.1, there.1))
  one_rest LargeOne AllLines before rest goes there = absurd (omega (arith, ap length there, goes.0))
  one_rest LargeOne BadOne before rest goes there = absurd (cc (goes.1, there.1))
  one_rest LargeOne LargeOne before rest goes there = refl

  -- nothing ends where a line that is within the limits stands
  pub no_end : (way : Way) (before : ℕ) (e : E) (line more : List ℕ) → IsLineOf m e line → is_within before line ≡ true → Goes way before (line ++ more) → ⊥
  no_end AllLines before e line more says within goes = omega (arith, line_some line says.ends, ap length goes, length-append {A = ℕ})
  no_end BadOne before e line more says within goes = goes.2 e (rw (line_next line more says.ends) says.says)
  no_end LargeOne before e line more says within goes =
      let large : is_within before line ≡ false = rw (line_next line more says.ends) at goes.1 in cc (large, within)

  cancel : (front xs ys : List ℕ) → front ++ xs ≡ front ++ ys → xs ≡ ys
  cancel [] xs ys same = same
  cancel (x ∷ front) xs ys same = cancel front xs ys (cc)

  -- the lines in front, and the way of what stands behind them, are the input's
  pub one_end : (way other : Way) (before : ℕ) (es fs : List E) (whole front rest back : List ℕ) →
      IsTaken m before es whole → IsTaken m before fs front → whole ++ rest ≡ front ++ back →
      Goes way (before + length whole) rest → Goes other (before + length front) back → way ≡ other
  one_end way other before [] [] whole front rest back taken given same goes there =
      let rests : rest ≡ back = rw (taken, given) at same in
      let P : ℕ → Type 0 = λ n. Goes way n rest in
      let Q : ℕ → Type 0 = λ n. Goes other n back in
      let R : List ℕ → Type 0 = λ t. Goes other before t in
      one_rest way other before rest (subst P (rw taken (add-zero before)) goes) (subst R (sym rests) (subst Q (rw given (add-zero before)) there))
  one_end way other before [] (f ∷ fs) whole front rest back taken given same goes there =
      let P : ℕ → Type 0 = λ n. Goes way n rest in
      let here : Goes way before rest = subst P (rw taken (add-zero before)) goes in
      let is : rest ≡ given.0 ++ (given.1 ++ back) = (rw (taken, given.5) at same) ∙ append_assoc given.0 given.1 back in
      let Q : List ℕ → Type 0 = λ t. Goes way before t in
      absurd (no_end way before f given.0 (given.1 ++ back) given.2 given.3 (subst Q is here))
  one_end way other before (e ∷ es) [] whole front rest back taken given same goes there =
      let P : ℕ → Type 0 = λ n. Goes other n back in
      let here : Goes other before back = subst P (rw given (add-zero before)) there in
      let is : back ≡ taken.0 ++ (taken.1 ++ rest) = (sym (rw (given, taken.5) at same)) ∙ append_assoc taken.0 taken.1 rest in
      let Q : List ℕ → Type 0 = λ t. Goes other before t in
      absurd (no_end other before e taken.0 (taken.1 ++ rest) taken.2 taken.3 (subst Q is here))
  one_end way other before (e ∷ es) (f ∷ fs) whole front rest back taken given same goes there =
      let both : taken.0 ++ (taken.1 ++ rest) ≡ given.0 ++ (given.1 ++ back)
      = sym (append_assoc taken.0 taken.1 rest) ∙ (rw (taken.5, given.5) at same) ∙ append_assoc given.0 given.1 back in
      let lines : taken.0 ≡ given.0 = sym (line_next taken.0 (taken.1 ++ rest) taken.2.ends) ∙ ap next_line both ∙ line_next given.0 (given.1 ++ back) given.2.ends in
      let others : taken.1 ++ rest ≡ given.1 ++ back = cancel taken.0 (taken.1 ++ rest) (given.1 ++ back) (both ∙ ap (λ t. t ++ (given.1 ++ back)) (sym lines)) in
      let P : ℕ → Type 0 = λ n. Goes way n rest in
      let Q : ℕ → Type 0 = λ n. Goes other n back in
      let R : ℕ → Type 0 = λ n. IsTaken m n fs given.1 in
      let size : before + length whole ≡ (before + length taken.0) + length taken.1 = rw taken.5 (omega (arith, length-append {A = ℕ})) in
      let size' : before + length front ≡ (before + length taken.0) + length given.1 = rw given.5 (omega (arith, length-append {A = ℕ}, ap length lines)) in
      one_end way other (before + length taken.0) es fs taken.1 given.1 rest back taken.4 (subst R (ap (λ t. before + length t) (sym lines)) given.4) others
      (subst P size goes) (subst Q size' there)

  -- the status of a way
  abbrev pub status_of_way : Way → ℕ
  status_of_way AllLines = 0
  status_of_way BadOne = 1
  status_of_way LargeOne = 6

  -- the way of the input decides the status
  pub yields : (before after : Ports) (status : Status) (way : Way) (es : List E) (input whole rest : List ℕ) →
      RunEnds m before after status → before.left ≡ Some input → IsTaken m 0 es whole → input ≡ whole ++ rest → Goes way (length whole) rest → Yields (status_of_way way) (code_of status)
  yields before after statuses.Done way es input whole rest ends is script parts goes =
      let end = (ends input is).1 in
      let P : ℕ → Type 0 = λ n. Goes way n rest in
      let same : way ≡ AllLines = one_end way AllLines 0 es end.events whole input rest [] script end.script (sym parts ∙ sym (append-nil input)) (subst P (sym (zero-add (length whole))) goes) refl in
      inl (sym (ap status_of_way same))
  yields before after statuses.BadLine way es input whole rest ends is script parts goes =
      let end = (ends input is).at in
      let P : ℕ → Type 0 = λ n. Goes way n rest in
      let Q : ℕ → Type 0 = λ n. Goes BadOne n end.rest in
      let same : way ≡ BadOne = one_end way BadOne 0 es (ends input is).events whole end.whole rest end.rest script end.script (sym parts ∙ end.parts)
      (subst P (sym (zero-add (length whole))) goes) (subst Q (sym (zero-add (length end.whole))) (end.next.some, end.next.within, end.next.bad.none)) in
      inl (sym (ap status_of_way same))
  yields before after statuses.BadWords way es input whole rest ends is script parts goes = absurd ends
  yields before after statuses.SourceFailed way es input whole rest ends is script parts goes = inr (inl refl)
  yields before after statuses.SinkFailed way es input whole rest ends is script parts goes = inr (inr (inl refl))
  yields before after statuses.NoMemory way es input whole rest ends is script parts goes = inr (inr (inr refl))
  yields before after statuses.TooLarge way es input whole rest ends is script parts goes =
      let end = (ends input is).at in
      let P : ℕ → Type 0 = λ n. Goes way n rest in
      let Q : ℕ → Type 0 = λ n. Goes LargeOne n end.rest in
      let same : way ≡ LargeOne = one_end way LargeOne 0 es (ends input is).events whole end.whole rest end.rest script end.script (sym parts ∙ end.parts)
      (subst P (sym (zero-add (length whole))) goes) (subst Q (sym (zero-add (length end.whole))) (end.next.some, end.next.large)) in
      inl (sym (ap status_of_way same))
