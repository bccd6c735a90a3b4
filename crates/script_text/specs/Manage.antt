-- The lines of management requests: one table of commands, and the grammar that it makes.
use Rattle.std.specs.Prelude.{◌≡◌, ℕ, refl, List, [], ◌∷◌, ◌++◌, codes, decimal, Result}
use Rattle.job_values.specs.declared.limits.TheConstants.{LONGEST_APP}
use Rattle.job_values.specs.Words.{group_kind_text}
use Rattle.line_grammar.specs.declared.ends.End.TheVariants.{Space, Line}
use Rattle.line_grammar.specs.Texts.{text_form}
use Rattle.line_grammar.specs.Reading.{◌>>=◌}
use Rattle.line_grammar.specs.Grammar.{Grammar, Gives, Text, Says, reading}
use Rattle.line_grammar.specs.Parts.{and_then}
use Rattle.line_grammar.specs.Tables.{one_of, rows_of, row_at}
use Rattle.line_grammar.specs.Writing.{quoted, optional_text, counted_texts}
use Rattle.script_text.specs.declared.manage_lines.ManageLine.{ManageLine}
use Rattle.script_text.specs.declared.manage_lines.ManageLine.TheVariants.{AddGroup, SetGroup, AddJob, UpdateJob, StartJob, StopJob, RemoveJob, TriggerJob, ReadLog, Shutdown}
use Rattle.script_text.specs.declared.manage_words.ManageCommand.{ManageCommand}
use Rattle.script_text.specs.declared.manage_words.ManageCommand.TheVariants as command
use Rattle.script_text.specs.Words.{id, log, param, group_kind}
use Rattle.script_text.specs.Lines.{addresses, spec}
use Rattle.script_text.specs.Spelling.{spec_text}

-- the management line of a command, with an LF behind it: the word that begins it, and what stands behind that
abbrev pub row : ManageCommand → List ℕ × Grammar ManageLine
-- addgroup TEXT GROUPKIND LIST
row command.AddGroup = (codes "addgroup ", Text (text_form 1 LONGEST_APP Space) refl (λ app. group_kind (λ kind. addresses (AddGroup app kind))))
-- setgroup G GROUPKIND LIST
row command.SetGroup = (codes "setgroup ", id Space (λ group. group_kind (λ kind. addresses (SetGroup group kind))))
-- addjob SPEC
row command.AddJob = (codes "addjob ", and_then spec (λ s. Gives (AddJob s)))
-- setjob J SPEC
row command.SetJob = (codes "setjob ", id Space (λ job. and_then spec (λ s. Gives (UpdateJob job s))))
-- startjob J
row command.StartJob = (codes "startjob ", id Line (λ job. Gives (StartJob job)))
-- stopjob J
row command.StopJob = (codes "stopjob ", id Line (λ job. Gives (StopJob job)))
-- dropjob J
row command.DropJob = (codes "dropjob ", id Line (λ job. Gives (RemoveJob job)))
-- fire J PARAM
row command.Fire = (codes "fire ", id Space (λ job. param Line (λ own. Gives (TriggerJob job own))))
-- showlog LOG
row command.ShowLog = (codes "showlog ", log Line (λ l. Gives (ReadLog l)))
-- shutdown
row command.Shutdown = (codes "shutdown\n", Gives Shutdown)

-- the commands but the first
abbrev pub other_commands : List ManageCommand
other_commands =
    command.SetGroup ∷ command.AddJob ∷ command.SetJob ∷ command.StartJob ∷ command.StopJob ∷ command.DropJob ∷ command.Fire ∷ command.ShowLog ∷ command.Shutdown ∷ []

-- the word that begins the line of a command
abbrev pub word : ManageCommand → List ℕ
word c = (row c).0

-- what stands behind it
abbrev pub behind : ManageCommand → Grammar ManageLine
behind c = (row c).1

-- the grammar of all management lines, each with an LF behind it
abbrev pub line : Grammar ManageLine
line = one_of word command.AddGroup other_commands refl behind

-- reading the command of a line
abbrev pub command_at : List ℕ → Result (ManageCommand × List ℕ) ℕ
command_at bytes = row_at (rows_of word (command.AddGroup ∷ other_commands)) bytes

-- reading a line: its command, and what stands behind the word
abbrev pub line_at : List ℕ → Result (ManageLine × List ℕ) ℕ
line_at bytes = command_at bytes >>= λ x. reading (behind x.0) x.1

-- the bytes are this management line, which has no LF of its own
abbrev pub IsManageLine : ManageLine → List ℕ → Type 0
IsManageLine said bytes = Says line said (bytes ++ 10 ∷ [])

-- the words of a management line
abbrev pub manage_words : ManageLine → List ℕ
manage_words (AddGroup app kind addresses) = codes "addgroup " ++ quoted app ++ 32 ∷ group_kind_text kind ++ 32 ∷ counted_texts addresses
manage_words (SetGroup group kind addresses) = codes "setgroup " ++ decimal group ++ 32 ∷ group_kind_text kind ++ 32 ∷ counted_texts addresses
manage_words (AddJob s) = codes "addjob " ++ spec_text s
manage_words (UpdateJob job s) = codes "setjob " ++ decimal job ++ 32 ∷ spec_text s
manage_words (StartJob job) = codes "startjob " ++ decimal job
manage_words (StopJob job) = codes "stopjob " ++ decimal job
manage_words (RemoveJob job) = codes "dropjob " ++ decimal job
manage_words (TriggerJob job own) = codes "fire " ++ decimal job ++ 32 ∷ optional_text own
manage_words (ReadLog l) = codes "showlog " ++ decimal l
manage_words Shutdown = codes "shutdown"

-- the bytes of a management line are its words
abbrev pub ManageLinesAreWords : Type 0
ManageLinesAreWords = (said : ManageLine) (bytes : List ℕ) → IsManageLine said bytes → bytes ≡ manage_words said
