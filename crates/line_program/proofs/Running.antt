-- A run ends as its stream and the writing of its last text did.
use Rattle.std.proofs.Common.{◌≡◌, ℕ, ◌+◌, ◌≤◌, List, [], ◌++◌, length, Option, Some, None, Result, Ok, Err, OnOk, IfErr, refl, sym, ◌∙◌, subst, arith, append-nil, inl, inr}
use Rattle.std.specs.Io.KnownBytes.{Appends}
use Rattle.outside.specs.Causes.{Rose}
use Rattle.line_program.specs.declared.stream.LineStream.{LineStream}
use Rattle.line_program.specs.declared.stream.Ended.{Ended}
use Rattle.line_program.specs.declared.stream.Ended.TheVariants.{Bad, TooLarge, Source, Sink, Memory}
use Rattle.line_program.specs.declared.status.Status.{Status}
use Rattle.line_program.specs.declared.status.Status.TheVariants as status
use Rattle.line_program.specs.Meaning.{Meaning, Play}
use Rattle.line_program.specs.Ports.{Ports}
use Rattle.line_program.specs.Outcome.{Front, Short, IsLast, RunEnds, status_after, bad_line, large_line}
use Rattle.line_program.specs.Progress.{Start, At, FrontOf, StopsBad, StopsLarge, PlaysAll, PlaysTo, Closed, CutShort, Fails}
use Rattle.line_program.proofs.Feeding.{front_more}

-- a rise of a count, told from an earlier count
rose_before : (before mid now : ℕ) → before ≤ mid → Rose mid now → Rose before now
rose_before before mid now later rose = omega arith

appends_none : (known : Option (List ℕ)) → Appends known known []
appends_none None = tt
appends_none (Some xs) = sym (append-nil xs)

-- nothing was read or written
pub front_nothing : {E : Type 0} (m : Meaning E) (taken : Option (List ℕ)) (input : List ℕ) → Front m taken taken input
front_nothing m taken input = record {
  lines = 0;
  whole = [];
  rest = input;
  written = [];
  unwritten = [];
  plays = record { events = []; script = refl; count = refl; replies = refl };
  parts = refl;
  appended = appends_none taken;
}

module _ {M E S : Type 0} (play : Play M E S) where
  -- where a run begins
  pub at_first : (settings : S) (taken : Option (List ℕ)) (stream : LineStream M) → play.stands settings stream.machine [] → stream.out.items ≡ [] → stream.lines ≡ 0 → stream.size ≡ 0 →
      At play (record { settings = settings; taken = taken }) taken stream []
  at_first settings taken stream stands empty lines size = record {
    text = [];
    written = [];
    stands = rw lines (record { events = []; script = refl; count = refl; replies = refl; stands = stands });
    appended = appends_none taken;
    buffered = sym empty;
    size = sym size;
    few = omega arith;
  }

  -- the text behind the replies told what follows, and was cut short
  ended_short : (start : Start S) (now : Option (List ℕ)) (whole rest : List ℕ) (last : S → List E → List ℕ) (short : CutShort play start now whole last) →
      IsLast (play.meaning start.settings) short.events whole rest (last start.settings short.events) → Short (play.meaning start.settings) start.taken now (whole ++ rest)
  ended_short start now whole rest last short is = record {
    events = short.events;
    whole = whole;
    rest = rest;
    last = last start.settings short.events;
    front = short.front;
    unwritten = short.unwritten;
    script = short.script;
    parts = refl;
    is_last = is;
    text = short.text;
    written = short.written;
  }

  module _ (settings : S) (before after : Ports) (mid : Option (List ℕ)) (mids : ℕ) (old new : LineStream M) where
    -- the report is what is written last
    abbrev report_text : S → List E → List ℕ
    report_text settings events = (play.meaning settings).report events

    abbrev Ending : Status → Type 0
    Ending end = RunEnds (play.meaning settings) before after end

    -- all was played
    pub run_done : {A : Type 0} (result : Result A Ended) →
        PlaysAll play before.left after.left before.taken mid old new → At play (record { settings = settings; taken = before.taken }) before.taken old [] → before.write_faults ≤ mids →
        OnOk result ((start : Start S) (whole : List ℕ) → At play start mid new whole → Closed play start after.taken whole report_text) → IfErr result (Fails play report_text mid after.taken mids after.write_faults new) →
        Ending (status_after result status.Done)
    run_done (Ok x) plays at later ok err = λ input is.
        let start : Start S = record { settings = settings; taken = before.taken } in
        let all = plays input is in
        let closed : Closed play start after.taken input report_text = ok start input (all.1 start at) in
        (all.0, record { events = closed.events; script = closed.script; written = closed.written })
    run_done (Err (Bad column)) plays at later ok err = absurd err
    run_done (Err TooLarge) plays at later ok err = absurd err
    run_done (Err Source) plays at later ok err = absurd err
    run_done (Err Sink) plays at later ok err = (
      rose_before before.write_faults mids after.write_faults later err.0,
      λ input is.
          let start : Start S = record { settings = settings; taken = before.taken } in
          let short : CutShort play start after.taken input report_text = err.1 start input ((plays input is).1 start at) in
          let P : List ℕ → Type 0 = λ t. Short (play.meaning settings) before.taken after.taken t in
          inr (subst P (append-nil input) (ended_short start after.taken input [] report_text short (inl (refl, refl)))),
    )
    run_done (Err Memory) plays at later ok err = λ input is.
        let start : Start S = record { settings = settings; taken = before.taken } in
        err start input ((plays input is).1 start at)

    -- it stopped at a bad line
    pub run_bad : {A : Type 0} (column : ℕ) (result : Result A Ended) →
        PlaysTo play before.left before.taken mid old new (Bad column) → At play (record { settings = settings; taken = before.taken }) before.taken old [] → before.write_faults ≤ mids →
        OnOk result ((start : Start S) (whole : List ℕ) → At play start mid new whole → Closed play start after.taken whole (λ _ events. bad_line (length events + 1) column)) →
        IfErr result (Fails play (λ _ events. bad_line (length events + 1) column) mid after.taken mids after.write_faults new) →
        Ending (status_after result status.BadLine)
    run_bad column (Ok x) plays at later ok err = λ input is.
        let start : Start S = record { settings = settings; taken = before.taken } in
        let stops : StopsBad play start mid new input column = plays input is start at in
        let closed : Closed play start after.taken stops.whole (λ _ events. bad_line (length events + 1) column) = ok start stops.whole stops.at in
        record {
          events = closed.events;
          column = column;
          at = record { whole = stops.whole; rest = stops.rest; script = closed.script; parts = stops.parts; next = stops.next };
          written = closed.written;
        }
    run_bad column (Err (Bad other)) plays at later ok err = absurd err
    run_bad column (Err TooLarge) plays at later ok err = absurd err
    run_bad column (Err Source) plays at later ok err = absurd err
    run_bad column (Err Sink) plays at later ok err = (
      rose_before before.write_faults mids after.write_faults later err.0,
      λ input is.
          let start : Start S = record { settings = settings; taken = before.taken } in
          let stops : StopsBad play start mid new input column = plays input is start at in
          let short : CutShort play start after.taken stops.whole (λ _ events. bad_line (length events + 1) column) = err.1 start stops.whole stops.at in
          let P : List ℕ → Type 0 = λ t. Short (play.meaning settings) before.taken after.taken t in
          inr (subst P (sym stops.parts) (ended_short start after.taken stops.whole stops.rest (λ _ events. bad_line (length events + 1) column) short (inr (inl (column, stops.next, refl))))),
    )
    run_bad column (Err Memory) plays at later ok err = λ input is.
        let start : Start S = record { settings = settings; taken = before.taken } in
        let stops : StopsBad play start mid new input column = plays input is start at in
        let P : List ℕ → Type 0 = λ t. FrontOf play start after.taken t in
        subst P (sym stops.parts) (front_more play start after.taken stops.whole stops.rest (err start stops.whole stops.at))

    -- it stopped at a line past a limit
    pub run_large : {A : Type 0} (result : Result A Ended) →
        PlaysTo play before.left before.taken mid old new TooLarge → At play (record { settings = settings; taken = before.taken }) before.taken old [] → before.write_faults ≤ mids →
        OnOk result ((start : Start S) (whole : List ℕ) → At play start mid new whole → Closed play start after.taken whole (λ _ events. large_line (length events + 1))) →
        IfErr result (Fails play (λ _ events. large_line (length events + 1)) mid after.taken mids after.write_faults new) →
        Ending (status_after result status.TooLarge)
    run_large (Ok x) plays at later ok err = λ input is.
        let start : Start S = record { settings = settings; taken = before.taken } in
        let stops : StopsLarge play start mid new input = plays input is start at in
        let closed : Closed play start after.taken stops.whole (λ _ events. large_line (length events + 1)) = ok start stops.whole stops.at in
        record {
          events = closed.events;
          at = record { whole = stops.whole; rest = stops.rest; script = closed.script; parts = stops.parts; next = stops.next };
          written = closed.written;
        }
    run_large (Err (Bad other)) plays at later ok err = absurd err
    run_large (Err TooLarge) plays at later ok err = absurd err
    run_large (Err Source) plays at later ok err = absurd err
    run_large (Err Sink) plays at later ok err = (
      rose_before before.write_faults mids after.write_faults later err.0,
      λ input is.
          let start : Start S = record { settings = settings; taken = before.taken } in
          let stops : StopsLarge play start mid new input = plays input is start at in
          let short : CutShort play start after.taken stops.whole (λ _ events. large_line (length events + 1)) = err.1 start stops.whole stops.at in
          let P : List ℕ → Type 0 = λ t. Short (play.meaning settings) before.taken after.taken t in
          inr (subst P (sym stops.parts) (ended_short start after.taken stops.whole stops.rest (λ _ events. large_line (length events + 1)) short (inr (inr (stops.next, refl))))),
    )
    run_large (Err Memory) plays at later ok err = λ input is.
        let start : Start S = record { settings = settings; taken = before.taken } in
        let stops : StopsLarge play start mid new input = plays input is start at in
        let P : List ℕ → Type 0 = λ t. FrontOf play start after.taken t in
        subst P (sym stops.parts) (front_more play start after.taken stops.whole stops.rest (err start stops.whole stops.at))
