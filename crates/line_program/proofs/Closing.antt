-- The last line is written behind the replies.
use Rattle.std.proofs.Common.{◌≡◌, ℕ, ◌+◌, List, [], ◌++◌, length, take, drop, Option, ap, sym, ◌∙◌, subst, arith, append_assoc, append-nil, min}
use Rattle.line_program.proofs.ProgressLemmas.{front_of_at}
use Rattle.line_program.proofs.Stopping.{at_small}
use Rattle.std.proofs.lemmas.List.{take-append-drop}
use Rattle.std.specs.Io.KnownBytes.{Appends}
use Rattle.outside.proofs.KnownLemmas.{appends_both}
use Rattle.line_program.specs.declared.stream.LineStream.{LineStream}
use Rattle.line_program.specs.Script.{replies_text}
use Rattle.line_program.specs.Progress.{Start, At, FrontOf, Closed, CutShort}
use Rattle.line_program.specs.Meaning.{Play}

module _ {M E S : Type 0} (play : Play M E S) where
  -- the buffer with the last line is written whole
  pub closed : (start : Start S) (before now : Option (List ℕ)) (stream : LineStream M) (whole out : List ℕ) (last : (S → List E → List ℕ)) (at : At play start before stream whole) →
      out ≡ stream.out.items ++ last start.settings at.stands.events → Appends before now out → Closed play start now whole last
  closed start before now stream whole out last at is wrote = record {
    events = at.stands.events;
    script = at.stands.script;
    written =
        let P : List ℕ → Type 0 = λ t. Appends start.taken now t in
        let text : at.written ++ out ≡ replies_text (play.meaning start.settings) at.stands.events ++ last start.settings at.stands.events
        = ap (λ t. at.written ++ t) is ∙ sym (append_assoc at.written stream.out.items (last start.settings at.stands.events))
        ∙ ap (λ t. t ++ last start.settings at.stands.events) (sym at.buffered ∙ at.stands.replies) in
        subst P text (appends_both start.taken before now at.written out at.appended wrote);
  }

  -- a front of it is written
  pub short : (start : Start S) (before now : Option (List ℕ)) (stream : LineStream M) (whole out : List ℕ) (n : ℕ) (last : (S → List E → List ℕ)) (at : At play start before stream whole) →
      out ≡ stream.out.items ++ last start.settings at.stands.events → Appends before now (take n out) → CutShort play start now whole last
  short start before now stream whole out n last at is wrote = record {
    events = at.stands.events;
    front = at.written ++ take n out;
    unwritten = drop n out;
    script = at.stands.script;
    text =
        let text : at.written ++ out ≡ replies_text (play.meaning start.settings) at.stands.events ++ last start.settings at.stands.events
        = ap (λ t. at.written ++ t) is ∙ sym (append_assoc at.written stream.out.items (last start.settings at.stands.events))
        ∙ ap (λ t. t ++ last start.settings at.stands.events) (sym at.buffered ∙ at.stands.replies) in
        sym text ∙ ap (λ t. at.written ++ t) (sym (take-append-drop n out)) ∙ sym (append_assoc at.written (take n out) (drop n out));
    written = appends_both start.taken before now at.written (take n out) at.appended wrote;
  }

  -- the number of the next line
  pub line_number : (start : Start S) (now : Option (List ℕ)) (stream : LineStream M) (whole : List ℕ) (at : At play start now stream whole) (line : ℕ) →
      line ≡ min (stream.lines + 1) 18446744073709551615 → line ≡ length at.stands.events + 1
  line_number start now stream whole at line is =
      omega (arith, at_small play start now stream whole at, at.size, at.few, at.stands.count, is)

  -- only replies were written
  pub front_whole : (start : Start S) (now : Option (List ℕ)) (stream : LineStream M) (whole : List ℕ) → At play start now stream whole → FrontOf play start now whole
  front_whole start now stream whole at =
      let P : List ℕ → Type 0 = λ t. FrontOf play start now t in subst P (append-nil whole) (front_of_at play start now stream whole [] at)
