-- A stream goes on: a line more, a flush, bytes that are not a whole line yet.
use Rattle.std.proofs.Common.{◌≡◌, ℕ, ◌+◌, ◌≤◌, ◌<◌, List, [], ◌∷◌, ◌++◌, length, Option, arith, length-append, append_assoc, ap, sym, ◌∙◌, subst, true, inr, take, drop, append-nil, refl, zero-add}
use Rattle.std.proofs.lemmas.List.{take-append-drop}
use Rattle.std.specs.Io.KnownBytes.{Appends}
use Rattle.outside.proofs.KnownLemmas.{appends_both}
use Rattle.line_program.proofs.CutLemmas.{open_append}
use Rattle.line_program.specs.declared.stream.Ended.{Ended}
use Rattle.line_program.specs.declared.stream.Ended.TheVariants.{Bad, TooLarge, Source, Sink, Memory}
use Rattle.line_program.specs.declared.stream.LineStream.{LineStream}
use Rattle.line_program.specs.Cuts.{is_open, is_within, IsLineEnd}
use Rattle.line_program.specs.Meaning.{Play}
use Rattle.line_program.specs.Script.{IsLineOf, IsBad}
use Rattle.line_program.specs.Steps.{Answered}
use Rattle.line_program.specs.Outcome.{Plays}
use Rattle.line_program.specs.Progress.{Start, Stands, At, Stays, Has, FrontOf, Ends, Refuses}
use Rattle.line_program.proofs.ScriptLemmas.{taken_more, text_more}

module _ {M E S : Type 0} (play : Play M E S) where
  -- a machine that stands for a script plays it
  plays_of : {settings : S} {machine : M} {lines : ℕ} {whole text : List ℕ} → Stands play settings machine lines whole text → Plays (play.meaning settings) lines whole text
  plays_of stands = record { events = stands.events; script = stands.script; count = stands.count; replies = stands.replies }

  -- the answer to a line in the buffer
  pub at_more : (base : Start S) (now : Option (List ℕ)) (old new : LineStream M) (event : E) (line whole : List ℕ) →
      ((settings : S) → IsLineOf (play.meaning settings) event line) →
      ((settings : S) (events : List E) → play.stands settings old.machine events → Answered play settings new.machine events event old.out.items new.out.items) →
      is_within old.size line ≡ true → (old.lines ≤ old.size → new.lines ≡ old.lines + 1) → new.size ≡ old.size + length line → 0 < length line →
      At play base now old whole → At play base now new (whole ++ line)
  at_more base now old new event line whole says acted within counted sized some at =
      let events : List E = at.stands.events in
      let answered : Answered play base.settings new.machine events event old.out.items new.out.items = acted base.settings events at.stands.stands in
      let reply : List ℕ = (play.meaning base.settings).answer events event in
      let count : new.lines ≡ old.lines + 1 = counted at.few in
      let P : ℕ → Type 0 = λ n. is_within n line ≡ true in
      record {
        text = at.text ++ reply;
        written = at.written;
        stands = record {
          events = events ++ event ∷ [];
          script = taken_more (play.meaning base.settings) 0 events event whole line at.stands.script (rw zero-add (subst P (sym at.size) within)) (says base.settings);
          count = rw count (rw length-append (ap (λ n. n + 1) at.stands.count));
          replies = ap (λ t. t ++ reply) at.stands.replies ∙ sym (text_more (play.meaning base.settings) events event);
          stands = answered.stands;
        };
        appended = at.appended;
        buffered = ap (λ t. t ++ reply) at.buffered ∙ append_assoc at.written old.out.items reply ∙ ap (λ o. at.written ++ o) (sym answered.buffer);
        size = rw sized (rw length-append (ap (λ n. n + length line) at.size));
        few = omega arith;
      }

  -- a stream that stays is where it was
  pub at_stays : (base : Start S) (now : Option (List ℕ)) (old new : LineStream M) (whole : List ℕ) → Stays old new → At play base now old whole → At play base now new whole
  at_stays base now old new whole stays at = record {
    text = at.text;
    written = at.written;
    stands = rw (stays.machine, stays.lines) at.stands;
    appended = at.appended;
    buffered = rw stays.out at.buffered;
    size = rw stays.size at.size;
    few = omega arith;
  }

  -- where a stream is, a front of its replies was written
  pub front_of_at : (base : Start S) (now : Option (List ℕ)) (stream : LineStream M) (whole rest : List ℕ) → At play base now stream whole → FrontOf play base now (whole ++ rest)
  front_of_at base now stream whole rest at = record {
    lines = stream.lines;
    whole = whole;
    rest = rest;
    written = at.written;
    unwritten = stream.out.items;
    plays = let P : List ℕ → Type 0 = λ t. Plays (play.meaning base.settings) stream.lines whole t in subst P at.buffered (plays_of at.stands);
    parts = refl;
    appended = at.appended;
  }

  -- the buffer is written whole
  pub at_flushed : (base : Start S) (now later : Option (List ℕ)) (old new : LineStream M) (whole : List ℕ) →
      Appends now later old.out.items → new.machine ≡ old.machine → new.out.items ≡ [] → new.lines ≡ old.lines → new.size ≡ old.size →
      At play base now old whole → At play base later new whole
  at_flushed base now later old new whole wrote machine empty lines size at = record {
    text = at.text;
    written = at.written ++ old.out.items;
    stands = rw (machine, lines) at.stands;
    appended = appends_both base.taken now later at.written old.out.items at.appended wrote;
    buffered = rw empty (at.buffered ∙ sym (append-nil (at.written ++ old.out.items)));
    size = rw size at.size;
    few = omega arith;
  }

  -- a front of the buffer is written
  pub front_flushed : (base : Start S) (now later : Option (List ℕ)) (old : LineStream M) (whole rest : List ℕ) (n : ℕ) →
      Appends now later (take n old.out.items) → At play base now old whole → FrontOf play base later (whole ++ rest)
  front_flushed base now later old whole rest n wrote at = record {
    lines = old.lines;
    whole = whole;
    rest = rest;
    written = at.written ++ take n old.out.items;
    unwritten = drop n old.out.items;
    plays =
        let P : List ℕ → Type 0 = λ t. Plays (play.meaning base.settings) old.lines whole t in
        let joined : at.text ≡ (at.written ++ take n old.out.items) ++ drop n old.out.items
        = at.buffered ∙ ap (λ t. at.written ++ t) (sym (take-append-drop n old.out.items)) ∙ sym (append_assoc at.written (take n old.out.items) (drop n old.out.items)) in
        subst P joined (plays_of at.stands);
    parts = refl;
    appended = appends_both base.taken now later at.written (take n old.out.items) at.appended wrote;
  }

  -- a line and its end, behind what had come of it
  joined_line : (pending end front : List ℕ) → end ≡ front ++ 10 ∷ [] → pending ++ end ≡ (pending ++ front) ++ 10 ∷ []
  joined_line pending end front is = rw is (sym (append_assoc pending front (10 ∷ [])))

  joined_parts : (given whole pending end front : List ℕ) → given ≡ whole ++ pending → end ≡ front ++ 10 ∷ [] → given ++ end ≡ whole ++ ((pending ++ front) ++ 10 ∷ [])
  joined_parts given whole pending end front parts is =
      rw parts (append_assoc whole pending end) ∙ ap (λ t. whole ++ t) (joined_line pending end front is)

  -- a line that was not taken ended the stream
  pub ends_refused : (base : Start S) (now : Option (List ℕ)) (old new : LineStream M) (given pending end : List ℕ) (e : Ended) →
      Has play base now old given pending → is_open pending ≡ true → IsLineEnd end → Refuses play old new (pending ++ end) e → Ends play base now new (given ++ end) e
  ends_refused base now old new given pending end (Bad column) has one line refused = record {
    whole = has.whole;
    front = pending ++ line.front;
    rest = [];
    at = at_stays base now old new has.whole refused.0 has.at;
    parts = joined_parts given has.whole pending end line.front has.parts line.is;
    one = open_append pending line.front one line.one;
    within = rw (refused.0.size, ← joined_line pending end line.front line.is) refused.1;
    bad = let P : List ℕ → Type 0 = λ t. IsBad (play.meaning base.settings) t column in subst P (joined_line pending end line.front line.is) (refused.2 base.settings);
  }
  ends_refused base now old new given pending end TooLarge has one line refused = record {
    whole = has.whole;
    part = pending ++ end;
    rest = [];
    at = at_stays base now old new has.whole refused.0 has.at;
    parts = rw has.parts (append_assoc has.whole pending end) ∙ ap (λ t. has.whole ++ t) (sym (append-nil (pending ++ end)));
    one = (pending ++ line.front, open_append pending line.front one line.one, inr (joined_line pending end line.front line.is));
    large = rw refused.0.size refused.1;
  }
  ends_refused base now old new given pending end Source has one line refused = absurd refused
  ends_refused base now old new given pending end Sink has one line refused = absurd refused
  ends_refused base now old new given pending end Memory has one line refused =
      let P : List ℕ → Type 0 = λ t. FrontOf play base now t in
      subst P (sym (rw has.parts (append_assoc has.whole pending end))) (front_of_at base now old has.whole (pending ++ end) has.at)

  -- a whole line was taken
  pub has_line : (base : Start S) (now : Option (List ℕ)) (old new : LineStream M) (given pending end : List ℕ) →
      ((whole : List ℕ) → At play base now old whole → At play base now new (whole ++ (pending ++ end))) →
      Has play base now old given pending → Has play base now new (given ++ end) []
  has_line base now old new given pending end goes has = record {
    whole = has.whole ++ (pending ++ end);
    at = goes has.whole has.at;
    parts = rw has.parts (append_assoc has.whole pending end) ∙ sym (append-nil (has.whole ++ (pending ++ end)));
  }

  -- what a stream has is moved on by a flush
  pub has_flushed : (base : Start S) (now later : Option (List ℕ)) (old new : LineStream M) (given pending : List ℕ) →
      ((whole : List ℕ) → At play base now old whole → At play base later new whole) →
      Has play base now old given pending → Has play base later new given pending
  has_flushed base now later old new given pending goes has = record { whole = has.whole; at = goes has.whole has.at; parts = has.parts }

  -- a front of the replies is written at any time
  pub front_of_has : (base : Start S) (now : Option (List ℕ)) (stream : LineStream M) (given pending more : List ℕ) → Has play base now stream given pending → FrontOf play base now (given ++ more)
  front_of_has base now stream given pending more has =
      let P : List ℕ → Type 0 = λ t. FrontOf play base now t in
      subst P (sym (rw has.parts (append_assoc has.whole pending more))) (front_of_at base now stream has.whole (pending ++ more) has.at)

  pub front_failed : (base : Start S) (now later : Option (List ℕ)) (stream : LineStream M) (given : List ℕ) →
      ((whole rest : List ℕ) → At play base now stream whole → FrontOf play base later (whole ++ rest)) →
      Has play base now stream given [] → FrontOf play base later given
  front_failed base now later stream given fails has =
      let P : List ℕ → Type 0 = λ t. FrontOf play base later t in
      subst P (sym has.parts) (fails has.whole [] has.at)
