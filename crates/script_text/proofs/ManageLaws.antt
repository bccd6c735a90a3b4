-- What reading says of management lines.
use Rattle.std.proofs.Common.{◌≡◌, ◌⊎◌, ℕ, ◌+◌, ◌-◌, ◌≤◌, List, [], ◌∷◌, ◌++◌, length, Ok, Err, refl, sym, ap, subst, ◌∙◌, append_assoc, inl, inr, arith, length-append}
use Rattle.std.specs.Prelude.{decimal}
use Rattle.std.proofs.lemmas.List.{append-nil, nil_from_length}
use Rattle.job_values.specs.declared.limits.TheConstants.{LAST_LOG_ID, LAST_JOB_ID, LONGEST_PARAM, LONGEST_NAME, LONGEST_APP, MOST_ADDRESSES}
use Rattle.job_values.specs.Words.{group_kind_text}
use Rattle.line_grammar.specs.declared.ends.End.TheVariants.{Space, Line}
use Rattle.line_grammar.specs.Languages.{Begins, Stops, Reads}
use Rattle.line_grammar.specs.Texts.{text_form}
use Rattle.line_grammar.specs.Writing.{quoted, optional_text, counted_texts}
use Rattle.line_grammar.specs.Grammar.{Gives, Says, reading}
use Rattle.line_grammar.proofs.Fronts.{cons_parts}
use Rattle.line_grammar.proofs.Algebra.{reads_as, no_longer}
use Rattle.line_grammar.proofs.TableLaws.{one_of_reading}
use Rattle.script_text.specs.declared.manage_lines.ManageLine.{ManageLine}
use Rattle.script_text.specs.declared.manage_lines.ManageLine.TheVariants.{AddGroup, SetGroup, AddJob, UpdateJob, StartJob, StopJob, RemoveJob, TriggerJob, ReadLog, Shutdown}
use Rattle.script_text.specs.declared.manage_words.ManageCommand.{ManageCommand}
use Rattle.script_text.specs.declared.manage_words.ManageCommand.TheVariants as command
use Rattle.script_text.specs.Lines.{addresses, spec}
use Rattle.script_text.specs.Spelling.{spec_text}
use Rattle.script_text.specs.Faults.{IsColumnIn}
use Rattle.script_text.specs.Manage.{word, other_commands, behind, line, line_at, IsManageLine, manage_words}
use Rattle.script_text.proofs.SaidWords.{SaysOnly, only_end, only_number, only_text, only_optional, only_texts, only_one_of, only_part, only_group_kind}
use Rattle.script_text.proofs.SpecLaws.{spec_only}
use Rattle.script_text.proofs.SpellingLaws.{one_word, two_words, three_words}
use Rattle.script_text.proofs.ReadLaws.{ok_or_err, left_within}

abbrev M : Type 0
M = ManageLine

line_reading : (bytes : List ℕ) → reading line bytes ≡ line_at bytes
line_reading bytes = one_of_reading word command.AddGroup other_commands refl behind bytes

abbrev pub LineReads : Type 0
LineReads = Reads (Says line) line_at

-- the law of the grammar of management lines, by their commands
pub line_reads : Reads (Says line) (reading line) → LineReads
line_reads reads = reads_as (Says line) (reading line) line_at line_reading reads

-- ---- each ends with an LF

-- the words of the line, and an LF behind them
abbrev IsEnded : M → List ℕ → Type 0
IsEnded said text = text ≡ manage_words said ++ 10 ∷ []

last : (said : M) {front : List ℕ → List ℕ} → front [] ≡ manage_words said ++ 10 ∷ [] → SaysOnly IsEnded (Gives said) front
last said is = only_end is

-- behind its word the line of each command ends with an LF
ends : (c : ManageCommand) → SaysOnly IsEnded (behind c) (λ rest. word c ++ rest)
ends command.AddGroup =
    only_text 1 LONGEST_APP Space (λ app. only_group_kind (λ k. addresses (AddGroup app k)) (λ kind. only_texts MOST_ADDRESSES (text_form 1 LONGEST_NAME Line) (λ texts.
    last (AddGroup app kind texts) (three_words (word command.AddGroup) (quoted app) (group_kind_text kind) (counted_texts texts)))))
ends command.SetGroup =
    only_number 1 LAST_JOB_ID Space (λ group. only_group_kind (λ k. addresses (SetGroup group k)) (λ kind. only_texts MOST_ADDRESSES (text_form 1 LONGEST_NAME Line) (λ texts.
    last (SetGroup group kind texts) (three_words (word command.SetGroup) (decimal group) (group_kind_text kind) (counted_texts texts)))))
ends command.AddJob =
    only_part spec (λ s. Gives (AddJob s)) spec_only (λ s text h.
    last (AddJob s) (ap (λ (x : List ℕ). word command.AddJob ++ (x ++ [])) h ∙ one_word (word command.AddJob) (spec_text s)))
ends command.SetJob =
    only_number 1 LAST_JOB_ID Space (λ job. only_part spec (λ s. Gives (UpdateJob job s)) spec_only (λ s text h.
    last (UpdateJob job s) (ap (λ (x : List ℕ). word command.SetJob ++ ((decimal job ++ 32 ∷ []) ++ (x ++ []))) h ∙ two_words (word command.SetJob) (decimal job) (spec_text s))))
ends command.StartJob = only_number 1 LAST_JOB_ID Line (λ job. last (StartJob job) (one_word (word command.StartJob) (decimal job)))
ends command.StopJob = only_number 1 LAST_JOB_ID Line (λ job. last (StopJob job) (one_word (word command.StopJob) (decimal job)))
ends command.DropJob = only_number 1 LAST_JOB_ID Line (λ job. last (RemoveJob job) (one_word (word command.DropJob) (decimal job)))
ends command.Fire =
    only_number 1 LAST_JOB_ID Space (λ job. only_optional 0 LONGEST_PARAM Line (λ own. last (TriggerJob job own) (two_words (word command.Fire) (decimal job) (optional_text own))))
ends command.ShowLog = only_number 1 LAST_LOG_ID Line (λ l. last (ReadLog l) (one_word (word command.ShowLog) (decimal l)))
ends command.Shutdown = last Shutdown refl

lines_end : SaysOnly IsEnded line (λ text. text)
lines_end = only_one_of word command.AddGroup other_commands ends

line_ends : (said : M) (text : List ℕ) → Says line said text → IsEnded said text
line_ends said text h = lines_end.holds said text h

-- ---- without that LF

-- where bytes with an LF behind them are taken apart, the LF is in the back, or nothing is
last_parts : (xs front back : List ℕ) → xs ++ 10 ∷ [] ≡ front ++ back → (back ≡ []) ⊎ ((others : List ℕ) × (back ≡ others ++ 10 ∷ []) × (xs ≡ front ++ others))
last_parts xs [] back is = inr (xs, sym is, refl)
last_parts [] (a ∷ front) back is = inl (nil_from_length back (omega (arith, ap length is, length-append front back)))
last_parts (x ∷ xs) (a ∷ front) back is =
    let p = cons_parts x a (xs ++ 10 ∷ []) (front ++ back) is in
    elim (last_parts xs front back p.1) [
      | inl none ↦ inl none
      | inr h ↦ inr (h.0, h.1, ap (λ (k : ℕ). k ∷ xs) p.0 ∙ ap (λ (t : List ℕ). a ∷ t) h.2)
    ]

-- what begins a line with its LF is that line, or begins one without
begun : (said : M) (front more : List ℕ) → Says line said (front ++ more) → (more ≡ []) ⊎ Begins IsManageLine front
begun said front more h =
    let e = line_ends said (front ++ more) h in
    elim (last_parts (manage_words said) front more (sym e)) [
      | inl none ↦ inl none
      | inr p ↦ inr (said, p.0, subst (Says line said) (e ∙ ap (λ (t : List ℕ). t ++ 10 ∷ []) p.2) h)
    ]

-- the bytes of a management line are its words
pub words_only : (said : M) (bytes : List ℕ) → IsManageLine said bytes → bytes ≡ manage_words said
words_only said bytes h =
    elim (last_parts bytes (manage_words said) (10 ∷ []) (line_ends said (bytes ++ 10 ∷ []) h)) [
      | inl none ↦ absurd (omega (arith, ap length none))
      | inr p ↦
          let empty : length p.0 ≡ 0 = omega (arith, ap length p.1, length-append p.0 (10 ∷ [])) in
          p.2 ∙ ap (λ (t : List ℕ). manage_words said ++ t) (nil_from_length p.0 empty) ∙ append-nil (manage_words said)
    ]

module _ (reads : LineReads) where
  -- what begins bytes that are read to no line is no line
  not_whole : (bytes front back : List ℕ) (left : ℕ) → line_at bytes ≡ Err left → bytes ≡ front ++ back → (said : M) → Says line said front → ⊥
  not_whole bytes front back left r parts said h = ok_or_err (said, back) left (line_at bytes) (ap line_at parts ∙ reads.again said front back h) r

  -- where all of the bytes and the LF begin a line
  at_end : (bytes more : List ℕ) (said : M) → Says line said ((bytes ++ 10 ∷ []) ++ more) → Stops IsManageLine bytes 0
  at_end bytes more said h = record {
    front = bytes;
    back = [];
    parts = sym (append-nil bytes);
    left_is = refl;
    begins = elim (begun said bytes (10 ∷ more) (subst (Says line said) (append_assoc bytes (10 ∷ []) more) h)) [ inl empty ↦ absurd (omega (arith, ap length empty)) | inr b ↦ b ];
    longest = λ b others is k. absurd (omega (arith, ap length is));
  }

  -- where the LF stands behind the place
  before : (bytes : List ℕ) (left : ℕ) → line_at (bytes ++ 10 ∷ []) ≡ Err left → (s : Stops (Says line) (bytes ++ 10 ∷ []) left) (others : List ℕ) → s.back ≡ others ++ 10 ∷ [] → bytes ≡ s.front ++ others → Stops IsManageLine bytes (left - 1)
  before bytes left r s others back_is parts = record {
    front = s.front;
    back = others;
    parts = parts;
    left_is = omega (arith, s.left_is, ap length back_is, length-append others (10 ∷ []));
    begins = elim (begun s.begins.0 s.front s.begins.1 s.begins.2) [
      | inl empty ↦ absurd (not_whole (bytes ++ 10 ∷ []) s.front s.back left r s.parts s.begins.0 (subst (Says line s.begins.0) (ap (λ (t : List ℕ). s.front ++ t) empty ∙ append-nil s.front) s.begins.2))
      | inr b ↦ b
    ];
    longest = λ b behind is k.
        s.longest b (behind ++ 10 ∷ []) (back_is ∙ ap (λ (t : List ℕ). t ++ 10 ∷ []) is) (k.0, k.1 ++ 10 ∷ [], subst (Says line k.0) (append_assoc (s.front ++ b ∷ []) k.1 (10 ∷ [])) k.2);
  }

  -- where reading the bytes and an LF stopped, no management line goes on
  stops_by : (bytes : List ℕ) (left : ℕ) → line_at (bytes ++ 10 ∷ []) ≡ Err left → Stops (Says line) (bytes ++ 10 ∷ []) left → Stops IsManageLine bytes (left - 1)
  stops_by bytes left r s =
      elim (last_parts bytes s.front s.back s.parts) [
        | inl none ↦
            let none_left : 0 ≡ left - 1 = omega (arith, s.left_is, ap length none) in
            let front_is : s.front ≡ bytes ++ 10 ∷ [] = sym (s.parts ∙ ap (λ (t : List ℕ). s.front ++ t) none ∙ append-nil s.front) in
            subst (Stops IsManageLine bytes) none_left (at_end bytes s.begins.1 s.begins.0 (subst (λ (t : List ℕ). Says line s.begins.0 (t ++ s.begins.1)) front_is s.begins.2))
        | inr p ↦ before bytes left r s p.0 p.1 p.2
      ]

  pub bad_within : (bytes : List ℕ) (left : ℕ) → line_at (bytes ++ 10 ∷ []) ≡ Err left → left - 1 ≤ length bytes
  bad_within bytes left r = omega (arith, left_within (Says line) line_at reads (bytes ++ 10 ∷ []) left r, length-append bytes (10 ∷ []))

  pub bad_column : (bytes : List ℕ) (left column : ℕ) → line_at (bytes ++ 10 ∷ []) ≡ Err left → column ≡ length bytes - (left - 1) + 1 → IsColumnIn IsManageLine bytes column
  bad_column bytes left column r is = (left - 1, stops_by bytes left r (reads.stops (bytes ++ 10 ∷ []) left r), omega (arith, is, bad_within bytes left r))

  -- behind a line and its LF nothing goes on
  further : (said : M) (words : List ℕ) → Says line said (words ++ 10 ∷ []) → (b : ℕ) → b ≡ 10 → Begins IsManageLine (words ++ b ∷ []) → ⊥
  further said words h b is k =
      let long : Says line k.0 (((words ++ 10 ∷ []) ++ k.1) ++ 10 ∷ []) = subst (λ (c : ℕ). Says line k.0 (((words ++ c ∷ []) ++ k.1) ++ 10 ∷ [])) is k.2 in
      let none = (no_longer (Says line) line_at reads said k.0 (words ++ 10 ∷ []) (k.1 ++ 10 ∷ []) h (subst (Says line k.0) (append_assoc (words ++ 10 ∷ []) k.1 (10 ∷ [])) long)).1 in
      omega (arith, ap length none, length-append k.1 (10 ∷ []))

  -- bytes stand behind a line, whose LF is the first byte that may not stand there
  stops_more : (bytes : List ℕ) (said : M) (rest : List ℕ) → (length rest ≡ 0 → ⊥) → (text : List ℕ) → Says line said text → bytes ++ 10 ∷ [] ≡ text ++ rest → Stops IsManageLine bytes (length rest)
  stops_more bytes said rest more text h is =
      let e = line_ends said text h in
      elim (last_parts bytes text rest is) [
        | inl none ↦ absurd (more (ap length none))
        | inr p ↦ record {
          front = manage_words said;
          back = 10 ∷ p.0;
          parts = p.2 ∙ ap (λ (t : List ℕ). t ++ p.0) e ∙ append_assoc (manage_words said) (10 ∷ []) p.0;
          left_is = omega (arith, ap length p.1, length-append p.0 (10 ∷ []));
          begins = (said, [], subst (Says line said) (e ∙ ap (λ (t : List ℕ). t ++ 10 ∷ []) (sym (append-nil (manage_words said)))) h);
          longest = λ b behind at k. further said (manage_words said) (subst (Says line said) e h) b (sym (cons_parts 10 b p.0 behind at).0) k;
        }
      ]

  pub more_within : (bytes : List ℕ) (said : M) (rest : List ℕ) → line_at (bytes ++ 10 ∷ []) ≡ Ok (said, rest) → length rest ≤ length bytes
  more_within bytes said rest r =
      let f = reads.found (bytes ++ 10 ∷ []) said rest r in
      let e = line_ends said f.0 f.1 in
      omega (arith, ap length f.2, length-append bytes (10 ∷ []), length-append f.0 rest, ap length e, length-append (manage_words said) (10 ∷ []))

  pub more_column : (bytes : List ℕ) (said : M) (rest : List ℕ) (column : ℕ) → line_at (bytes ++ 10 ∷ []) ≡ Ok (said, rest) → (length rest ≡ 0 → ⊥) → column ≡ length bytes - length rest + 1 → IsColumnIn IsManageLine bytes column
  more_column bytes said rest column r more is =
      let f = reads.found (bytes ++ 10 ∷ []) said rest r in
      (length rest, stops_more bytes said rest more f.0 f.1 f.2, omega (arith, is, more_within bytes said rest r))
