-- The loop over the lines that end in a piece of the script.
use Rattle.std.proofs.Common.{◌≡◌, ℕ, ◌++◌, List, Option, [], ◌∷◌, refl, append_assoc, append-nil, ap, sym, ◌∙◌, subst, true, false, inl}
use Rattle.line_program.proofs.ProgressLemmas.{front_of_has}
use Rattle.line_program.specs.Cuts.{is_open, is_within}
use Rattle.line_program.specs.Progress.{Start, Has, Ends, FrontOf, Goes, GoesTo}
use Rattle.line_program.specs.declared.stream.LineStream.{LineStream}
use Rattle.line_program.specs.declared.stream.Ended.{Ended}
use Rattle.line_program.specs.declared.stream.Ended.TheVariants.{Bad, TooLarge, Source, Sink, Memory}
use Rattle.line_program.specs.Meaning.{Play}

module _ {M E S : Type 0} (play : Play M E S) where
  -- The lines that end in a front of the piece are taken.
  pub record Fed (before now : Option (List ℕ)) (old new : LineStream M) (pending left piece rest : List ℕ) : Type 0 where
    pub front : List ℕ
    pub parts : piece ≡ front ++ rest
    pub goes : Goes play before now old new pending left front

  -- nothing is taken at first
  pub fed_first : (now : Option (List ℕ)) (stream : LineStream M) (pending piece : List ℕ) → Fed now now stream stream pending pending piece piece
  fed_first now stream pending piece = record {
    front = [];
    parts = refl;
    goes = λ base given has. let P : List ℕ → Type 0 = λ t. Has play base now stream t pending in subst P (sym (append-nil given)) has;
  }

  -- one line more
  pub fed_more : (before mid now : Option (List ℕ)) (old between new : LineStream M) (pending left piece rest line more : List ℕ) →
      Fed before mid old between pending left piece rest → rest ≡ line ++ more → Goes play mid now between new left [] line →
      Fed before now old new pending [] piece more
  fed_more before mid now old between new pending left piece rest line more fed split goes = record {
    front = fed.front ++ line;
    parts = fed.parts ∙ rw split (sym (append_assoc fed.front line more));
    goes = λ base given has.
        let P : List ℕ → Type 0 = λ t. Has play base now new t [] in
        subst P (append_assoc given fed.front line) (goes base (given ++ fed.front) (fed.goes base given has));
  }

  pub front_more : (base : Start S) (now : Option (List ℕ)) (given more : List ℕ) → FrontOf play base now given → FrontOf play base now (given ++ more)
  front_more base now given more front = record {
    lines = front.lines;
    whole = front.whole;
    rest = front.rest ++ more;
    written = front.written;
    unwritten = front.unwritten;
    plays = front.plays;
    appended = front.appended;
    parts = rw front.parts (append_assoc front.whole front.rest more);
  }

  -- bytes behind those at which a stream ended change nothing
  pub ends_more : (base : Start S) (now : Option (List ℕ)) (stream : LineStream M) (given more : List ℕ) (e : Ended) → Ends play base now stream given e → Ends play base now stream (given ++ more) e
  ends_more base now stream given more (Bad column) ends = record {
    whole = ends.whole;
    front = ends.front;
    at = ends.at;
    one = ends.one;
    within = ends.within;
    bad = ends.bad;
    rest = ends.rest ++ more;
    parts = rw ends.parts (append_assoc ends.whole (ends.front ++ 10 ∷ ends.rest) more) ∙ ap (λ t. ends.whole ++ t) (append_assoc ends.front (10 ∷ ends.rest) more);
  }
  ends_more base now stream given more TooLarge ends = record {
    whole = ends.whole;
    part = ends.part;
    at = ends.at;
    one = ends.one;
    large = ends.large;
    rest = ends.rest ++ more;
    parts = rw ends.parts (append_assoc ends.whole (ends.part ++ ends.rest) more) ∙ ap (λ t. ends.whole ++ t) (append_assoc ends.part ends.rest more);
  }
  ends_more base now stream given more Source ends = front_more base now given more ends
  ends_more base now stream given more Sink ends = front_more base now given more ends
  ends_more base now stream given more Memory ends = front_more base now given more ends

  -- the end at one line of a piece is an end at the piece
  pub ends_fed : (before mid now : Option (List ℕ)) (old between new : LineStream M) (pending left piece rest line more : List ℕ) (e : Ended) →
      Fed before mid old between pending left piece rest → rest ≡ line ++ more →
      GoesTo play mid now between new left line e → GoesTo play before now old new pending piece e
  ends_fed before mid now old between new pending left piece rest line more e fed split ends base given has =
      let P : List ℕ → Type 0 = λ t. Ends play base now new t e in
      let whole : ((given ++ fed.front) ++ line) ++ more ≡ given ++ piece
      = append_assoc (given ++ fed.front) line more ∙ append_assoc given fed.front (line ++ more) ∙ ap (λ t. given ++ t) (ap (λ t. fed.front ++ t) (sym split) ∙ sym fed.parts) in
      subst P whole (ends_more base now new ((given ++ fed.front) ++ line) more e (ends base (given ++ fed.front) (fed.goes base given has)))

  -- what is left of a piece is pending
  pub goes_pending : (before now : Option (List ℕ)) (old new : LineStream M) (pending left piece rest : List ℕ) →
      Fed before now old new pending left piece rest → Goes play before now old new pending (left ++ rest) piece
  goes_pending before now old new pending left piece rest fed base given has =
      let after = fed.goes base given has in
      record {
        whole = after.whole;
        at = after.at;
        parts = ap (λ p. given ++ p) fed.parts ∙ sym (append_assoc given fed.front rest) ∙ ap (λ t. t ++ rest) after.parts ∙ append_assoc after.whole left rest;
      }

  -- a front of the replies is written at any time
  pub front_fed : (before now : Option (List ℕ)) (old new : LineStream M) (pending left piece rest : List ℕ) →
      Fed before now old new pending left piece rest →
      (base : Start S) (given : List ℕ) → Has play base before old given pending → FrontOf play base now (given ++ piece)
  front_fed before now old new pending left piece rest fed base given has =
      let P : List ℕ → Type 0 = λ t. FrontOf play base now t in
      let whole : (given ++ fed.front) ++ rest ≡ given ++ piece = append_assoc given fed.front rest ∙ ap (λ t. given ++ t) (sym fed.parts) in
      subst P whole (front_of_has play base now new (given ++ fed.front) left rest (fed.goes base given has))

  -- what has come of the next line is past a limit already
  pub large_pending : (before now : Option (List ℕ)) (old new : LineStream M) (pending left bytes : List ℕ) →
      Goes play before now old new pending left bytes → is_open left ≡ true → is_within new.size left ≡ false → GoesTo play before now old new pending bytes TooLarge
  large_pending before now old new pending left bytes goes one large base given has =
      let after = goes base given has in
      record {
        whole = after.whole;
        part = left;
        rest = [];
        at = after.at;
        parts = after.parts ∙ ap (λ t. after.whole ++ t) (sym (append-nil left));
        one = (left, one, inl refl);
        large = large;
      }

  -- one piece after another
  pub goes_both : (before mid now : Option (List ℕ)) (old between new : LineStream M) (pending kept left first second : List ℕ) →
      Goes play before mid old between pending kept first → Goes play mid now between new kept left second → Goes play before now old new pending left (first ++ second)
  goes_both before mid now old between new pending kept left first second goes after base given has =
      let P : List ℕ → Type 0 = λ t. Has play base now new t left in
      subst P (append_assoc given first second) (after base (given ++ first) (goes base given has))

  pub goes_to : (before mid now : Option (List ℕ)) (old between new : LineStream M) (pending kept first second : List ℕ) (e : Ended) →
      Goes play before mid old between pending kept first → GoesTo play mid now between new kept second e → GoesTo play before now old new pending (first ++ second) e
  goes_to before mid now old between new pending kept first second e goes to base given has =
      let P : List ℕ → Type 0 = λ t. Ends play base now new t e in
      subst P (append_assoc given first second) (to base (given ++ first) (goes base given has))

  -- nothing is read at first
  pub goes_first : (now : Option (List ℕ)) (stream : LineStream M) (pending : List ℕ) → Goes play now now stream stream pending pending []
  goes_first now stream pending base given has = let P : List ℕ → Type 0 = λ t. Has play base now stream t pending in subst P (sym (append-nil given)) has

  -- a front of the replies is written at any time
  pub front_gone : (before now : Option (List ℕ)) (old new : LineStream M) (pending left bytes : List ℕ) →
      Goes play before now old new pending left bytes → (base : Start S) (given : List ℕ) → Has play base before old given pending → FrontOf play base now (given ++ bytes)
  front_gone before now old new pending left bytes goes base given has =
      let P : List ℕ → Type 0 = λ t. FrontOf play base now t in
      subst P (append-nil (given ++ bytes)) (front_of_has play base now new (given ++ bytes) left [] (goes base given has))
