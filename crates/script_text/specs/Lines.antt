-- The lines of a script: one table of commands, and the grammar that it makes.
use Rattle.std.specs.Prelude.{ℕ, refl, List, [], ◌∷◌, codes, Result}
use Rattle.job_events.specs.declared.cluster.ClusterEvent.{ClusterEvent}
use Rattle.job_events.specs.declared.cluster.ClusterEvent.TheVariants.{NodeStart, NodeStop, NodeAsk, AddGroup, SetGroup, AddJob, UpdateJob, StartJob, StopJob, RemoveJob, TriggerJob, ScanBegin, ScanStep, Turn, Take, Sent, Callback, Registry, RegistryRemove, Sweep, Monitor, Lost, Clean, ReadLog, Reopen}
use Rattle.job_values.specs.declared.spec.JobSpec.{JobSpec}
use Rattle.job_values.specs.declared.limits.TheConstants.{LAST_JOB_ID, LAST_SECONDS, LAST_RETRIES, LONGEST_PARAM, LONGEST_SCHEDULE_GIVEN, LONGEST_NAME, LONGEST_APP, MOST_ADDRESSES, MOST_CHILDREN}
use Rattle.line_grammar.specs.declared.ends.End.{End}
use Rattle.line_grammar.specs.declared.ends.End.TheVariants.{Space, Line}
use Rattle.line_grammar.specs.Texts.{text_form}
use Rattle.line_grammar.specs.Dashes.{number_form}
use Rattle.line_grammar.specs.Reading.{◌>>=◌}
use Rattle.line_grammar.specs.Grammar.{Grammar, Gives, Number, Text, Code, TextList, EndedNumbers, Choice, Says, reading}
use Rattle.line_grammar.specs.Parts.{and_then}
use Rattle.line_grammar.specs.Tables.{one_of, rows_of, row_at}
use Rattle.script_text.specs.declared.commands.Command.{Command}
use Rattle.script_text.specs.declared.commands.Command.TheVariants as command
use Rattle.script_text.specs.Words.{admin, moment, id, log, log_moment, result_text, registry_text, address, choice_word, pool_kind, param, group_kind, schedule_kind, misfire, route, block}

-- ---- parts of lines

-- LIST at the end of a line: a count and that many addresses
abbrev pub addresses : {E : Type 0} → (List (List ℕ) → E) → Grammar E
addresses said = TextList MOST_ADDRESSES (text_form 1 LONGEST_NAME Line) refl refl (λ texts. Gives (said texts))

-- the zone of a spec: none where LF ends the children, or else the word and a text of at least one byte
abbrev pub zone : End → Grammar (List ℕ)
zone Line = Gives []
zone Space = Choice (codes "zone ") [] refl (λ i. Text (text_form 1 LONGEST_NAME Line) refl (λ text. Gives text))

-- reading the zone of a spec
unfoldable pub zone_at : End → List ℕ → Result (List ℕ × List ℕ) ℕ
zone_at end bytes = reading (zone end) bytes

-- SPEC: G KIND TEXT MISFIRE ROUTE BLOCK TEXT TEXT TIMEOUT RETRIES n J1 .. Jn, the texts being schedule, handler and parameter; where it names a zone, then ` zone` and a TEXT
abbrev pub spec : Grammar JobSpec
spec =
    id Space (λ group. schedule_kind (λ kind. Text (text_form 0 LONGEST_SCHEDULE_GIVEN Space) refl (λ schedule. misfire (λ misfire. route (λ route. block (λ block.
    Text (text_form 0 LONGEST_NAME Space) refl (λ handler. Text (text_form 0 LONGEST_PARAM Space) refl (λ param.
    Number (number_form 0 LAST_SECONDS Space) refl (λ timeout. Number (number_form 0 LAST_RETRIES Space) refl (λ retries.
    EndedNumbers MOST_CHILDREN 1 LAST_JOB_ID refl refl (λ end children. and_then (zone end) (λ zone.
    Gives (record { group = group; kind = kind; schedule = schedule; misfire = misfire; route = route; block = block; handler = handler; param = param; timeout = timeout; retries = retries; children = children; zone = zone })))))))))))))

-- reading a spec
unfoldable pub spec_at : List ℕ → Result (JobSpec × List ℕ) ℕ
spec_at bytes = reading spec bytes

-- ---- the table

-- the line of a command: the word that begins it, and what stands behind that
abbrev pub row : Command → List ℕ × Grammar ClusterEvent
-- start A
row command.Start = (codes "start ", admin Line (λ a. Gives (NodeStart a)))
-- stop A
row command.Stop = (codes "stop ", admin Line (λ a. Gives (NodeStop a)))
-- ask A
row command.Ask = (codes "ask ", admin Line (λ a. Gives (NodeAsk a)))
-- addgroup TEXT GROUPKIND LIST: the app, who writes the addresses, the addresses
row command.AddGroup = (codes "addgroup ", Text (text_form 1 LONGEST_APP Space) refl (λ app. group_kind (λ kind. addresses (AddGroup app kind))))
-- setgroup G GROUPKIND LIST
row command.SetGroup = (codes "setgroup ", id Space (λ group. group_kind (λ kind. addresses (SetGroup group kind))))
-- addjob SPEC
row command.AddJob = (codes "addjob ", and_then spec (λ s. Gives (AddJob s)))
-- setjob T J SPEC
row command.SetJob = (codes "setjob ", moment Space (λ at. id Space (λ job. and_then spec (λ s. Gives (UpdateJob at job s)))))
-- startjob T J
row command.StartJob = (codes "startjob ", moment Space (λ at. id Line (λ job. Gives (StartJob at job))))
-- stopjob J
row command.StopJob = (codes "stopjob ", id Line (λ job. Gives (StopJob job)))
-- dropjob J
row command.DropJob = (codes "dropjob ", id Line (λ job. Gives (RemoveJob job)))
-- fire A T J PARAM
row command.Fire = (codes "fire ", admin Space (λ a. moment Space (λ at. id Space (λ job. param Line (λ own. Gives (TriggerJob a at job own))))))
-- scan A T
row command.Scan = (codes "scan ", admin Space (λ a. moment Line (λ at. Gives (ScanBegin a at))))
-- step A
row command.Step = (codes "step ", admin Line (λ a. Gives (ScanStep a)))
-- turn A T
row command.Turn = (codes "turn ", admin Space (λ a. moment Line (λ at. Gives (Turn a at))))
-- take A POOL T W: the pool, and a word for a random choice
row command.Take = (codes "take ", admin Space (λ a. pool_kind (λ pool. moment Space (λ at. choice_word Line (λ w. Gives (Take a pool at w))))))
-- sent LOG ADDR CODE T T: the address or `-`, a signed code, and when the sending began and ended
row command.Sent = (
  codes "sent ",
  log Space (λ l. address Space (λ to. Code Space (λ c. moment Space (λ start. moment Line (λ end. Gives (Sent l to c start end)))))),
)
-- back A T LOG W CODE TEXT: the result of a log, with the log's moment, a signed code and a text
row command.Back = (
  codes "back ",
  admin Space (λ a. moment Space (λ at. log Space (λ l. log_moment Space (λ w. Code Space (λ c. result_text Line (λ t.
      Gives (Callback a at (record { log = l; log_moment = w; code = c; msg = t })))))))),
)
-- reg T TEXT TEXT TEXT: the group of the call, the app, the address
row command.Register = (codes "reg ", moment Space (λ at. registry_text Space (λ group. registry_text Space (λ key. registry_text Line (λ value. Gives (Registry at group key value))))))
-- unreg TEXT TEXT TEXT
row command.Unregister = (codes "unreg ", registry_text Space (λ group. registry_text Space (λ key. registry_text Line (λ value. Gives (RegistryRemove group key value)))))
-- sweep T
row command.Sweep = (codes "sweep ", moment Line (λ at. Gives (Sweep at)))
-- monitor A T
row command.Monitor = (codes "monitor ", admin Space (λ a. moment Line (λ at. Gives (Monitor a at))))
-- lost T
row command.Lost = (codes "lost ", moment Line (λ at. Gives (Lost at)))
-- clean T
row command.Clean = (codes "clean ", moment Line (λ at. Gives (Clean at)))
-- showlog LOG
row command.ShowLog = (codes "showlog ", log Line (λ l. Gives (ReadLog l)))
-- reopen
row command.Reopen = (codes "reopen\n", Gives Reopen)

-- the commands but the first
abbrev pub other_commands : List Command
other_commands =
    command.Stop ∷ command.Ask ∷ command.AddGroup ∷ command.SetGroup ∷ command.AddJob ∷ command.SetJob ∷ command.StartJob ∷ command.StopJob ∷ command.DropJob
    ∷ command.Fire ∷ command.Scan ∷ command.Step ∷ command.Turn ∷ command.Take ∷ command.Sent ∷ command.Back ∷ command.Register ∷ command.Unregister ∷ command.Sweep ∷ command.Monitor ∷ command.Lost
    ∷ command.Clean ∷ command.ShowLog ∷ command.Reopen ∷ []

-- the word that begins the line of a command
abbrev pub word : Command → List ℕ
word c = (row c).0

-- what stands behind it
abbrev pub behind : Command → Grammar ClusterEvent
behind c = (row c).1

-- ---- all lines

-- the grammar of all lines
abbrev pub line : Grammar ClusterEvent
line = one_of word command.Start other_commands refl behind

-- reading the command of a line
abbrev pub command_at : List ℕ → Result (Command × List ℕ) ℕ
command_at bytes = row_at (rows_of word (command.Start ∷ other_commands)) bytes

-- reading a line: its command, and what stands behind the word
abbrev pub line_at : List ℕ → Result (ClusterEvent × List ℕ) ℕ
line_at bytes = command_at bytes >>= λ x. reading (behind x.0) x.1

-- the bytes are the line of this event
abbrev pub IsLine : ClusterEvent → List ℕ → Type 0
IsLine event bytes = Says line event bytes
