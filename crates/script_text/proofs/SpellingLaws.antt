-- The line of an event is its spelling, and nothing else is.
use Rattle.std.proofs.Common.{◌≡◌, ℕ, List, [], ◌∷◌, ◌++◌, map, get_or, refl, sym, ap, subst, ◌∙◌, append_assoc}
use Rattle.std.specs.Prelude.{decimal, codes}
use Rattle.std.specs.Fmt.{signed_decimal}
use Rattle.std.proofs.lemmas.List.{append-nil}
use Rattle.job_events.specs.declared.cluster.ClusterEvent.{ClusterEvent}
use Rattle.job_events.specs.declared.cluster.ClusterEvent.TheVariants.{NodeStart, NodeStop, NodeAsk, AddGroup, SetGroup, AddJob, UpdateJob, StartJob, StopJob, RemoveJob, TriggerJob, ScanBegin, ScanStep, Turn, Take, Sent, Callback, Registry, RegistryRemove, Sweep, Monitor, Lost, Clean, ReadLog, Reopen}
use Rattle.job_values.specs.Words.{group_kind_text, pool_kind_text}
use Rattle.line_grammar.specs.declared.ends.End.{End}
use Rattle.line_grammar.specs.declared.ends.End.TheVariants.{Space, Line}
use Rattle.line_grammar.specs.Ends.{end_byte}
use Rattle.line_grammar.specs.Texts.{text_form}
use Rattle.line_grammar.specs.Choices.{IsWord}
use Rattle.line_grammar.specs.Dashes.{number_form}
use Rattle.line_grammar.specs.Writing.{quoted, optional_text, counted_texts}
use Rattle.line_grammar.specs.Grammar.{Grammar, Gives, Number, Text}
use Rattle.script_text.specs.declared.limits.TheConstants.{LAST_WORD}
use Rattle.script_text.specs.Words.{moment, choice_word, pool_kind_at, group_kind_at}
use Rattle.script_text.specs.declared.commands.Command.{Command}
use Rattle.script_text.specs.declared.commands.Command.TheVariants as command
use Rattle.script_text.specs.Lines.{addresses, spec, word, behind, other_commands, line, IsLine}
use Rattle.script_text.specs.Spelling.{spec_text, spelling, IsMoment, IsId, IsRegistryText, IsWithin}
use Rattle.script_text.proofs.SaidWords.{IsSaid, SaysOnly, say_end, say_number, say_below, say_code, say_text, say_optional, say_texts, say_word, say_one_of, say_part, place_of, only_end, only_number, only_code, only_text, only_optional, only_texts, only_one_of, only_part, only_pool_kind, only_group_kind, pool_kind_said, group_kind_said}
use Rattle.script_text.proofs.SpecLaws.{spec_said, spec_only}
use Rattle.job_values.specs.declared.limits.TheConstants.{LAST_ADMIN, LAST_MOMENT, LAST_LOG_ID, LAST_LOG_MOMENT, LAST_JOB_ID, LONGEST_PARAM, LONGEST_RESULT, LONGEST_NAME, LONGEST_APP, MOST_ADDRESSES}

abbrev E : Type 0
E = ClusterEvent

-- ---- how the words of a line are put together

pub one_word : (c x : List ℕ) → c ++ ((x ++ 10 ∷ []) ++ []) ≡ (c ++ x) ++ 10 ∷ []
one_word c x = simp (append_assoc, append-nil)

pub two_words : (c x y : List ℕ) → c ++ ((x ++ 32 ∷ []) ++ ((y ++ 10 ∷ []) ++ [])) ≡ (c ++ x ++ 32 ∷ y) ++ 10 ∷ []
two_words c x y = simp (append_assoc, append-nil)

pub three_words : (c x y z : List ℕ) → c ++ ((x ++ 32 ∷ []) ++ ((y ++ 32 ∷ []) ++ ((z ++ 10 ∷ []) ++ []))) ≡ (c ++ x ++ 32 ∷ y ++ 32 ∷ z) ++ 10 ∷ []
three_words c x y z = simp (append_assoc, append-nil)

four_words : (c x y z w : List ℕ) → c ++ ((x ++ 32 ∷ []) ++ ((y ++ 32 ∷ []) ++ ((z ++ 32 ∷ []) ++ ((w ++ 10 ∷ []) ++ [])))) ≡ (c ++ x ++ 32 ∷ y ++ 32 ∷ z ++ 32 ∷ w) ++ 10 ∷ []
four_words c x y z w = simp (append_assoc, append-nil)

five_words : (c x y z w v : List ℕ) → c ++ ((x ++ 32 ∷ []) ++ ((y ++ 32 ∷ []) ++ ((z ++ 32 ∷ []) ++ ((w ++ 32 ∷ []) ++ ((v ++ 10 ∷ []) ++ []))))) ≡ (c ++ x ++ 32 ∷ y ++ 32 ∷ z ++ 32 ∷ w ++ 32 ∷ v) ++ 10 ∷ []
five_words c x y z w v =
    let rest : List ℕ = (y ++ 32 ∷ []) ++ ((z ++ 32 ∷ []) ++ ((w ++ 32 ∷ []) ++ ((v ++ 10 ∷ []) ++ []))) in
    sym (append_assoc c (x ++ 32 ∷ []) rest) ∙ ap (λ (t : List ℕ). t ++ rest) (sym (append_assoc c x (32 ∷ [])))
    ∙ four_words (c ++ x ++ 32 ∷ []) y z w v
    ∙ ap (λ (t : List ℕ). (t ++ 32 ∷ z ++ 32 ∷ w ++ 32 ∷ v) ++ 10 ∷ []) (append_assoc (c ++ x) (32 ∷ []) y)

six_words : (c a t l w z m : List ℕ) → c ++ ((a ++ 32 ∷ []) ++ ((t ++ 32 ∷ []) ++ ((l ++ 32 ∷ []) ++ ((w ++ 32 ∷ []) ++ ((z ++ 32 ∷ []) ++ ((m ++ 10 ∷ []) ++ [])))))) ≡ (c ++ a ++ 32 ∷ t ++ (32 ∷ l ++ 32 ∷ w ++ 32 ∷ z ++ 32 ∷ m)) ++ 10 ∷ []
six_words c a t l w z m = simp (append_assoc, append-nil)

-- ---- each event is said by its spelling

abbrev commands : List Command
commands = command.Start ∷ other_commands

-- the place of a command, by its word
abbrev place : Command → ℕ
place c = place_of (word c) (map word commands)

-- the word of a command and what stands behind it
say_line : {rest : List ℕ} (c : Command) (e : E) → IsWord (map word commands) (place c) (word c) → get_or commands (place c) command.Start ≡ c → IsSaid (behind c) e rest → word c ++ rest ≡ spelling e → IsLine e (spelling e)
say_line {rest} c e there own s is =
    let said : IsSaid line e (word c ++ rest) = say_one_of word command.Start other_commands behind c there own s in
    subst (IsLine e) is said.says

say_moment : {next : ℕ → Grammar E} {e : E} {rest : List ℕ} (end : End) (at : ℕ) → IsMoment at → IsSaid (next at) e rest → IsSaid (Number (number_form 0 LAST_MOMENT end) refl next) e ((decimal at ++ end_byte end ∷ []) ++ rest)
say_moment end at h s = say_below LAST_MOMENT end at h s

say_id : {next : ℕ → Grammar E} {e : E} {rest : List ℕ} (end : End) (id : ℕ) → IsId id → IsSaid (next id) e rest → IsSaid (Number (number_form 1 LAST_JOB_ID end) refl next) e ((decimal id ++ end_byte end ∷ []) ++ rest)
say_id end id h s = say_number 1 LAST_JOB_ID end id h.least h.greatest s

say_registry : {next : List ℕ → Grammar E} {e : E} {rest : List ℕ} (end : End) (text : List ℕ) → IsRegistryText text → IsSaid (next text) e rest → IsSaid (Text (text_form 0 LONGEST_NAME end) refl next) e ((quoted text ++ end_byte end ∷ []) ++ rest)
say_registry end text h s = say_text 0 LONGEST_NAME end text h s

-- an event with values within their bounds is said by its spelling
pub said : (e : E) → IsWithin e → IsLine e (spelling e)
said (NodeStart a) h = say_line command.Start (NodeStart a) refl refl (say_below LAST_ADMIN Line a h say_end) (one_word (word command.Start) (decimal a))
said (NodeStop a) h = say_line command.Stop (NodeStop a) refl refl (say_below LAST_ADMIN Line a h say_end) (one_word (word command.Stop) (decimal a))
said (NodeAsk a) h = say_line command.Ask (NodeAsk a) refl refl (say_below LAST_ADMIN Line a h say_end) (one_word (word command.Ask) (decimal a))
said (AddGroup app kind texts) h =
    say_line command.AddGroup (AddGroup app kind texts) refl refl
    (say_text 1 LONGEST_APP Space app h.0 (say_word (codes "auto ") (codes "manual " ∷ []) group_kind_at (λ k. addresses (AddGroup app k)) kind (group_kind_text kind ++ 32 ∷ []) (group_kind_said kind) (say_texts MOST_ADDRESSES 1 LONGEST_NAME texts h.1.count h.1.texts say_end)))
    (three_words (word command.AddGroup) (quoted app) (group_kind_text kind) (counted_texts texts))
said (SetGroup group kind texts) h =
    say_line command.SetGroup (SetGroup group kind texts) refl refl
    (say_id Space group h.0 (say_word (codes "auto ") (codes "manual " ∷ []) group_kind_at (λ k. addresses (SetGroup group k)) kind (group_kind_text kind ++ 32 ∷ []) (group_kind_said kind) (say_texts MOST_ADDRESSES 1 LONGEST_NAME texts h.1.count h.1.texts say_end)))
    (three_words (word command.SetGroup) (decimal group) (group_kind_text kind) (counted_texts texts))
said (AddJob s) h = say_line command.AddJob (AddJob s) refl refl (say_part spec (λ d. Gives (AddJob d)) (spec_said s h) say_end) (one_word (word command.AddJob) (spec_text s))
said (UpdateJob at job s) h =
    say_line command.SetJob (UpdateJob at job s) refl refl (say_moment Space at h.0 (say_id Space job h.1 (say_part spec (λ d. Gives (UpdateJob at job d)) (spec_said s h.2) say_end)))
    (three_words (word command.SetJob) (decimal at) (decimal job) (spec_text s))
said (StartJob at job) h = say_line command.StartJob (StartJob at job) refl refl (say_moment Space at h.0 (say_id Line job h.1 say_end)) (two_words (word command.StartJob) (decimal at) (decimal job))
said (StopJob job) h = say_line command.StopJob (StopJob job) refl refl (say_id Line job h say_end) (one_word (word command.StopJob) (decimal job))
said (RemoveJob job) h = say_line command.DropJob (RemoveJob job) refl refl (say_id Line job h say_end) (one_word (word command.DropJob) (decimal job))
said (TriggerJob a at job own) h =
    say_line command.Fire (TriggerJob a at job own) refl refl (say_below LAST_ADMIN Space a h.0 (say_moment Space at h.1 (say_id Space job h.2 (say_optional 0 LONGEST_PARAM Line own h.3 say_end))))
    (four_words (word command.Fire) (decimal a) (decimal at) (decimal job) (optional_text own))
said (ScanBegin a at) h = say_line command.Scan (ScanBegin a at) refl refl (say_below LAST_ADMIN Space a h.0 (say_moment Line at h.1 say_end)) (two_words (word command.Scan) (decimal a) (decimal at))
said (ScanStep a) h = say_line command.Step (ScanStep a) refl refl (say_below LAST_ADMIN Line a h say_end) (one_word (word command.Step) (decimal a))
said (Turn a at) h = say_line command.Turn (Turn a at) refl refl (say_below LAST_ADMIN Space a h.0 (say_moment Line at h.1 say_end)) (two_words (word command.Turn) (decimal a) (decimal at))
said (Take a pool at w) h =
    say_line command.Take (Take a pool at w) refl refl
    (say_below LAST_ADMIN Space a h.0
    (say_word (codes "fast ") (codes "slow " ∷ []) pool_kind_at (λ k. moment Space (λ m. choice_word Line (λ v. Gives (Take a k m v)))) pool (pool_kind_text pool ++ 32 ∷ []) (pool_kind_said pool) (say_moment Space at h.1 (say_below LAST_WORD Line w h.2 say_end))))
    (four_words (word command.Take) (decimal a) (pool_kind_text pool) (decimal at) (decimal w))
said (Sent l to c start end) h =
    say_line command.Sent (Sent l to c start end) refl refl
    (say_number 1 LAST_LOG_ID Space l h.0.least h.0.greatest (say_optional 1 LONGEST_NAME Space to h.1 (say_code Space c h.2 (say_moment Space start h.3 (say_moment Line end h.4 say_end)))))
    (five_words (word command.Sent) (decimal l) (optional_text to) (signed_decimal c) (decimal start) (decimal end))
said (Callback a at item) h =
    say_line command.Back (Callback a at item) refl refl
    (say_below LAST_ADMIN Space a h.0 (say_moment Space at h.1 (say_number 1 LAST_LOG_ID Space item.log h.2.log.least h.2.log.greatest (say_below LAST_LOG_MOMENT Space item.log_moment h.2.log_moment (say_code Space item.code h.2.code (say_text 0 LONGEST_RESULT Line item.msg h.2.msg say_end))))))
    (six_words (word command.Back) (decimal a) (decimal at) (decimal item.log) (decimal item.log_moment) (signed_decimal item.code) (quoted item.msg))
said (Registry at group key value) h =
    say_line command.Register (Registry at group key value) refl refl (say_moment Space at h.0 (say_registry Space group h.1 (say_registry Space key h.2 (say_registry Line value h.3 say_end))))
    (four_words (word command.Register) (decimal at) (quoted group) (quoted key) (quoted value))
said (RegistryRemove group key value) h =
    say_line command.Unregister (RegistryRemove group key value) refl refl (say_registry Space group h.0 (say_registry Space key h.1 (say_registry Line value h.2 say_end)))
    (three_words (word command.Unregister) (quoted group) (quoted key) (quoted value))
said (Sweep at) h = say_line command.Sweep (Sweep at) refl refl (say_moment Line at h say_end) (one_word (word command.Sweep) (decimal at))
said (Monitor a at) h = say_line command.Monitor (Monitor a at) refl refl (say_below LAST_ADMIN Space a h.0 (say_moment Line at h.1 say_end)) (two_words (word command.Monitor) (decimal a) (decimal at))
said (Lost at) h = say_line command.Lost (Lost at) refl refl (say_moment Line at h say_end) (one_word (word command.Lost) (decimal at))
said (Clean at) h = say_line command.Clean (Clean at) refl refl (say_moment Line at h say_end) (one_word (word command.Clean) (decimal at))
said (ReadLog l) h = say_line command.ShowLog (ReadLog l) refl refl (say_number 1 LAST_LOG_ID Line l h.least h.greatest say_end) (one_word (word command.ShowLog) (decimal l))
said Reopen h = say_line command.Reopen Reopen refl refl say_end refl

-- ---- and by nothing else

-- the text is the event's spelling
pub record IsSpelled (e : E) (text : List ℕ) : Type 0 where
  pub text_is : text ≡ spelling e

spelled_end : (e : E) {front : List ℕ → List ℕ} → front [] ≡ spelling e → SaysOnly IsSpelled (Gives e) front
spelled_end e is = only_end (record { text_is = is })

-- behind its word the line of each command says a spelling
spells : (c : Command) → SaysOnly IsSpelled (behind c) (λ rest. word c ++ rest)
spells command.Start = only_number 0 LAST_ADMIN Line (λ a. spelled_end (NodeStart a) (one_word (word command.Start) (decimal a)))
spells command.Stop = only_number 0 LAST_ADMIN Line (λ a. spelled_end (NodeStop a) (one_word (word command.Stop) (decimal a)))
spells command.Ask = only_number 0 LAST_ADMIN Line (λ a. spelled_end (NodeAsk a) (one_word (word command.Ask) (decimal a)))
spells command.AddGroup =
    only_text 1 LONGEST_APP Space (λ app. only_group_kind (λ k. addresses (AddGroup app k)) (λ kind. only_texts MOST_ADDRESSES (text_form 1 LONGEST_NAME Line) (λ texts.
    spelled_end (AddGroup app kind texts) (three_words (word command.AddGroup) (quoted app) (group_kind_text kind) (counted_texts texts)))))
spells command.SetGroup =
    only_number 1 LAST_JOB_ID Space (λ group. only_group_kind (λ k. addresses (SetGroup group k)) (λ kind. only_texts MOST_ADDRESSES (text_form 1 LONGEST_NAME Line) (λ texts.
    spelled_end (SetGroup group kind texts) (three_words (word command.SetGroup) (decimal group) (group_kind_text kind) (counted_texts texts)))))
spells command.AddJob =
    only_part spec (λ s. Gives (AddJob s)) spec_only (λ s text h.
    spelled_end (AddJob s) (ap (λ (x : List ℕ). word command.AddJob ++ (x ++ [])) h ∙ one_word (word command.AddJob) (spec_text s)))
spells command.SetJob =
    only_number 0 LAST_MOMENT Space (λ at. only_number 1 LAST_JOB_ID Space (λ job. only_part spec (λ s. Gives (UpdateJob at job s)) spec_only (λ s text h.
    spelled_end (UpdateJob at job s)
    (ap (λ (x : List ℕ). word command.SetJob ++ ((decimal at ++ 32 ∷ []) ++ ((decimal job ++ 32 ∷ []) ++ (x ++ [])))) h ∙ three_words (word command.SetJob) (decimal at) (decimal job) (spec_text s)))))
spells command.StartJob = only_number 0 LAST_MOMENT Space (λ at. only_number 1 LAST_JOB_ID Line (λ job. spelled_end (StartJob at job) (two_words (word command.StartJob) (decimal at) (decimal job))))
spells command.StopJob = only_number 1 LAST_JOB_ID Line (λ job. spelled_end (StopJob job) (one_word (word command.StopJob) (decimal job)))
spells command.DropJob = only_number 1 LAST_JOB_ID Line (λ job. spelled_end (RemoveJob job) (one_word (word command.DropJob) (decimal job)))
spells command.Fire =
    only_number 0 LAST_ADMIN Space (λ a. only_number 0 LAST_MOMENT Space (λ at. only_number 1 LAST_JOB_ID Space (λ job. only_optional 0 LONGEST_PARAM Line (λ own.
    spelled_end (TriggerJob a at job own) (four_words (word command.Fire) (decimal a) (decimal at) (decimal job) (optional_text own))))))
spells command.Scan = only_number 0 LAST_ADMIN Space (λ a. only_number 0 LAST_MOMENT Line (λ at. spelled_end (ScanBegin a at) (two_words (word command.Scan) (decimal a) (decimal at))))
spells command.Step = only_number 0 LAST_ADMIN Line (λ a. spelled_end (ScanStep a) (one_word (word command.Step) (decimal a)))
spells command.Turn = only_number 0 LAST_ADMIN Space (λ a. only_number 0 LAST_MOMENT Line (λ at. spelled_end (Turn a at) (two_words (word command.Turn) (decimal a) (decimal at))))
spells command.Take =
    only_number 0 LAST_ADMIN Space (λ a. only_pool_kind (λ k. moment Space (λ m. choice_word Line (λ v. Gives (Take a k m v)))) (λ pool. only_number 0 LAST_MOMENT Space (λ at. only_number 0 LAST_WORD Line (λ w.
    spelled_end (Take a pool at w) (four_words (word command.Take) (decimal a) (pool_kind_text pool) (decimal at) (decimal w))))))
spells command.Sent =
    only_number 1 LAST_LOG_ID Space (λ l. only_optional 1 LONGEST_NAME Space (λ to. only_code Space (λ c. only_number 0 LAST_MOMENT Space (λ start. only_number 0 LAST_MOMENT Line (λ end.
    spelled_end (Sent l to c start end) (five_words (word command.Sent) (decimal l) (optional_text to) (signed_decimal c) (decimal start) (decimal end)))))))
spells command.Back =
    only_number 0 LAST_ADMIN Space (λ a. only_number 0 LAST_MOMENT Space (λ at. only_number 1 LAST_LOG_ID Space (λ l. only_number 0 LAST_LOG_MOMENT Space (λ w. only_code Space (λ c. only_text 0 LONGEST_RESULT Line (λ t.
    spelled_end (Callback a at (record { log = l; log_moment = w; code = c; msg = t })) (six_words (word command.Back) (decimal a) (decimal at) (decimal l) (decimal w) (signed_decimal c) (quoted t))))))))
spells command.Register =
    only_number 0 LAST_MOMENT Space (λ at. only_text 0 LONGEST_NAME Space (λ group. only_text 0 LONGEST_NAME Space (λ key. only_text 0 LONGEST_NAME Line (λ value.
    spelled_end (Registry at group key value) (four_words (word command.Register) (decimal at) (quoted group) (quoted key) (quoted value))))))
spells command.Unregister =
    only_text 0 LONGEST_NAME Space (λ group. only_text 0 LONGEST_NAME Space (λ key. only_text 0 LONGEST_NAME Line (λ value.
    spelled_end (RegistryRemove group key value) (three_words (word command.Unregister) (quoted group) (quoted key) (quoted value)))))
spells command.Sweep = only_number 0 LAST_MOMENT Line (λ at. spelled_end (Sweep at) (one_word (word command.Sweep) (decimal at)))
spells command.Monitor = only_number 0 LAST_ADMIN Space (λ a. only_number 0 LAST_MOMENT Line (λ at. spelled_end (Monitor a at) (two_words (word command.Monitor) (decimal a) (decimal at))))
spells command.Lost = only_number 0 LAST_MOMENT Line (λ at. spelled_end (Lost at) (one_word (word command.Lost) (decimal at)))
spells command.Clean = only_number 0 LAST_MOMENT Line (λ at. spelled_end (Clean at) (one_word (word command.Clean) (decimal at)))
spells command.ShowLog = only_number 1 LAST_LOG_ID Line (λ l. spelled_end (ReadLog l) (one_word (word command.ShowLog) (decimal l)))
spells command.Reopen = spelled_end Reopen refl

line_only : SaysOnly IsSpelled line (λ text. text)
line_only = only_one_of word command.Start other_commands spells

pub found : (e : E) (text : List ℕ) → IsLine e text → text ≡ spelling e
found e text h = (line_only.holds e text h).text_is
