-- What the bytes that were read say of the whole input.
use Rattle.std.proofs.Common.{◌≡◌, ℕ, ◌<◌, ◌≤◌, true, List, [], ◌∷◌, ◌++◌, length, Option, Some, None, refl, ap, sym, ◌∙◌, subst, arith, append_assoc, append-nil, length-append}
use Rattle.std.specs.Io.KnownBytes.{Consumes, IsAtEnd}
use Rattle.line_program.specs.declared.limits.TheConstants.{LAST_INPUT_BYTES}
use Rattle.line_program.specs.Cuts.{is_open, next_line}
use Rattle.line_program.specs.Progress.{Start, At, Has, Ends, Stops, Refuses, Goes, GoesTo, PlaysAll, PlaysTo}
use Rattle.line_program.specs.declared.stream.LineStream.{LineStream}
use Rattle.line_program.specs.declared.stream.Ended.{Ended}
use Rattle.line_program.specs.declared.stream.Ended.TheVariants.{Bad, TooLarge, Source, Sink, Memory}
use Rattle.line_program.proofs.CutLemmas.{next_ended, next_open}
use Rattle.line_program.proofs.LimitLemmas.{large_part, large_some, taken_small}
use Rattle.line_program.proofs.ProgressLemmas.{at_stays, front_of_at}
use Rattle.line_program.proofs.Feeding.{front_more}
use Rattle.line_program.specs.Meaning.{Play}

module _ {M E S : Type 0} (play : Play M E S) where
  -- what is left of a told input
  pub left_of : (left left' : Option (List ℕ)) (bytes input : List ℕ) → Consumes left left' bytes → left ≡ Some input →
      (rest : List ℕ) × (left' ≡ Some rest) × (input ≡ bytes ++ rest)
  left_of None left' bytes input consumes is = cc
  left_of (Some xs) None bytes input consumes is = absurd consumes
  left_of (Some xs) (Some rest) bytes input consumes is = let same : xs ≡ input = cc in (rest, refl, sym same ∙ consumes)

  pub none_left : (left : Option (List ℕ)) (rest : List ℕ) → IsAtEnd left → left ≡ Some rest → rest ≡ []
  none_left None rest ended is = cc
  none_left (Some xs) rest ended is = let same : xs ≡ rest = cc in sym same ∙ ended

  -- the lines that were taken are within the limit on the input
  pub at_small : (base : Start S) (now : Option (List ℕ)) (stream : LineStream M) (whole : List ℕ) → At play base now stream whole → length whole ≤ LAST_INPUT_BYTES
  at_small base now stream whole at =
      omega (arith, taken_small (play.meaning base.settings) 0 at.stands.events whole at.stands.script (omega arith))

  -- how the bytes that were read ended the stream is how the input does
  pub stops_of_ends : (base : Start S) (now : Option (List ℕ)) (stream : LineStream M) (bytes more : List ℕ) (e : Ended) →
      Ends play base now stream bytes e → Stops play base now stream (bytes ++ more) e
  stops_of_ends base now stream bytes more (Bad column) ends =
      let line : next_line ((ends.front ++ 10 ∷ ends.rest) ++ more) ≡ ends.front ++ 10 ∷ [] = next_ended ends.front ends.rest more ends.one in
      record {
        whole = ends.whole;
        rest = (ends.front ++ 10 ∷ ends.rest) ++ more;
        at = ends.at;
        parts = ap (λ t. t ++ more) ends.parts ∙ append_assoc ends.whole (ends.front ++ 10 ∷ ends.rest) more;
        next = record { some = omega (arith, length-append {A = ℕ}); within = rw (line, ends.at.size) ends.within; bad = rw line ends.bad };
      }
  stops_of_ends base now stream bytes more TooLarge ends = record {
    whole = ends.whole;
    rest = ends.part ++ (ends.rest ++ more);
    at = ends.at;
    parts = ap (λ t. t ++ more) ends.parts ∙ append_assoc ends.whole (ends.part ++ ends.rest) more ∙ ap (λ t. ends.whole ++ t) (append_assoc ends.part ends.rest more);
    next = record {
      some = omega (arith, length-append {A = ℕ}, large_some stream.size ends.part (rw (← ends.at.size) (at_small base now stream ends.whole ends.at)) ends.large);
      large = rw ends.at.size (large_part stream.size ends.part (ends.rest ++ more) ends.one ends.large);
    };
  }
  stops_of_ends base now stream bytes more Source ends = front_more play base now bytes more ends
  stops_of_ends base now stream bytes more Sink ends = front_more play base now bytes more ends
  stops_of_ends base now stream bytes more Memory ends = front_more play base now bytes more ends

  -- a last line that was not taken
  pub stops_of_tail : (base : Start S) (now : Option (List ℕ)) (old new : LineStream M) (whole pending : List ℕ) (e : Ended) →
      At play base now old whole → is_open pending ≡ true → 0 < length pending → Refuses play old new pending e → Stops play base now new (whole ++ pending) e
  stops_of_tail base now old new whole pending (Bad column) at one some refused = record {
    whole = whole;
    rest = pending;
    at = at_stays play base now old new whole refused.0 at;
    parts = refl;
    next = record { some = some; within = rw (next_open pending one, at.size) refused.1; bad = rw (next_open pending one) (refused.2 base.settings) };
  }
  stops_of_tail base now old new whole pending TooLarge at one some refused = record {
    whole = whole;
    rest = pending;
    at = at_stays play base now old new whole refused.0 at;
    parts = refl;
    next = record { some = some; large = rw (next_open pending one, at.size) refused.1 };
  }
  stops_of_tail base now old new whole pending Source at one some refused = absurd refused
  stops_of_tail base now old new whole pending Sink at one some refused = absurd refused
  stops_of_tail base now old new whole pending Memory at one some refused = front_of_at play base now old whole pending at

  -- nothing is read yet
  has_nothing : (base : Start S) (now : Option (List ℕ)) (stream : LineStream M) → At play base now stream [] → Has play base now stream [] []
  has_nothing base now stream at = record { whole = []; at = at; parts = refl }

  -- all of the input was read, and its last line taken
  pub plays_all : (left left' before now : Option (List ℕ)) (old between new : LineStream M) (pending bytes : List ℕ) →
      Consumes left left' bytes → IsAtEnd left' → Goes play before now old between [] pending bytes →
      ((base : Start S) (now : Option (List ℕ)) (whole : List ℕ) → At play base now between whole → At play base now new (whole ++ pending)) →
      PlaysAll play left left' before now old new
  plays_all left left' before now old between new pending bytes consumes ended goes tail input is =
      let after = left_of left left' bytes input consumes is in
      let none : after.0 ≡ [] = none_left left' after.0 ended after.1 in
      let all : input ≡ bytes = after.2 ∙ ap (λ t. bytes ++ t) none ∙ append-nil bytes in (
        after.1 ∙ ap Some none,
        λ base at.
            let has = goes base [] (has_nothing base before old at) in
            let P : List ℕ → Type 0 = λ t. At play base now new t in
            subst P (sym has.parts ∙ sym all) (tail base now has.whole has.at),
      )

  -- the bytes that were read ended the stream
  pub plays_to : (left left' before now : Option (List ℕ)) (old new : LineStream M) (bytes : List ℕ) (e : Ended) →
      Consumes left left' bytes → GoesTo play before now old new [] bytes e → PlaysTo play left before now old new e
  plays_to left left' before now old new bytes e consumes goes input is base at =
      let after = left_of left left' bytes input consumes is in
      let P : List ℕ → Type 0 = λ t. Stops play base now new t e in
      subst P (sym after.2) (stops_of_ends base now new bytes after.0 e (goes base [] (has_nothing base before old at)))

  -- the last line ended it
  pub plays_to_tail : (left left' before now : Option (List ℕ)) (old between new : LineStream M) (pending bytes : List ℕ) (e : Ended) →
      Consumes left left' bytes → IsAtEnd left' → Goes play before now old between [] pending bytes →
      is_open pending ≡ true → 0 < length pending → Refuses play between new pending e → PlaysTo play left before now old new e
  plays_to_tail left left' before now old between new pending bytes e consumes ended goes one some refused input is base at =
      let after = left_of left left' bytes input consumes is in
      let none : after.0 ≡ [] = none_left left' after.0 ended after.1 in
      let all : input ≡ bytes = after.2 ∙ ap (λ t. bytes ++ t) none ∙ append-nil bytes in
      let has = goes base [] (has_nothing base before old at) in
      let P : List ℕ → Type 0 = λ t. Stops play base now new t e in
      subst P (sym has.parts ∙ sym all) (stops_of_tail base now between new has.whole pending e has.at one some refused)
