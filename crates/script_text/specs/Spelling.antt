-- The one spelling of each event.
use Rattle.std.specs.Prelude.{ℕ, ℤ, pos, negsuc, ◌≤◌, List, [], ◌∷◌, ◌++◌, length, Option, IfSome, codes, decimal}
use Rattle.std.specs.List.{AllByRecursion}
use Rattle.std.specs.Fmt.{signed_decimal}
use Rattle.script_text.specs.declared.limits.TheConstants.{LAST_WORD}
use Rattle.line_grammar.specs.declared.ends.End.TheVariants.{Line}
use Rattle.line_grammar.specs.Texts.{text_form}
use Rattle.line_grammar.specs.Dashes.{number_form}
use Rattle.line_grammar.specs.Laws.{IsTextOf, IsNumberOf}
use Rattle.job_events.specs.declared.cluster.ClusterEvent.{ClusterEvent}
use Rattle.job_events.specs.declared.cluster.ClusterEvent.TheVariants.{NodeStart, NodeStop, NodeAsk, AddGroup, SetGroup, AddJob, UpdateJob, StartJob, StopJob, RemoveJob, TriggerJob, ScanBegin, ScanStep, Turn, Take, Sent, Callback, Registry, RegistryRemove, Sweep, Monitor, Lost, Clean, ReadLog, Reopen}
use Rattle.job_values.specs.declared.spec.JobSpec.{JobSpec}
use Rattle.job_values.specs.declared.run.CallbackItem.{CallbackItem}
use Rattle.job_values.specs.Words.{schedule_kind_text, misfire_text, route_text, block_text, group_kind_text, pool_kind_text}
use Rattle.line_grammar.specs.Writing.{quoted, optional_text, spaced_text, spaced_number, counted_texts, counted_numbers}
use Rattle.job_values.specs.declared.limits.TheConstants.{LAST_ADMIN, LAST_MOMENT, LAST_LOG_ID, LAST_LOG_MOMENT, LAST_JOB_ID, LAST_SECONDS, LAST_RETRIES, LONGEST_PARAM, LONGEST_RESULT, LONGEST_SCHEDULE_GIVEN, LONGEST_NAME, LONGEST_APP, MOST_ADDRESSES, MOST_CHILDREN}

-- when a job fires and where it runs: G KIND TEXT MISFIRE ROUTE BLOCK
abbrev pub trigger_text : JobSpec → List ℕ
trigger_text s = decimal s.group ++ 32 ∷ schedule_kind_text s.kind ++ spaced_text s.schedule ++ 32 ∷ misfire_text s.misfire ++ 32 ∷ route_text s.route ++ 32 ∷ block_text s.block

-- what a job runs: TEXT TEXT TIMEOUT RETRIES n J1 .. Jn, each word behind a space
abbrev pub work_text : JobSpec → List ℕ
work_text s = spaced_text s.handler ++ spaced_text s.param ++ spaced_number s.timeout ++ spaced_number s.retries ++ 32 ∷ counted_numbers s.children

-- the zone that a spec names, behind its word
abbrev pub zone_text : List ℕ → List ℕ
zone_text [] = []
zone_text (b ∷ zone) = codes " zone " ++ quoted (b ∷ zone)

-- the words of a spec
abbrev pub spec_text : JobSpec → List ℕ
spec_text s = trigger_text s ++ work_text s ++ zone_text s.zone

-- a signed code, behind a space
abbrev pub spaced_code : ℤ → List ℕ
spaced_code code = 32 ∷ signed_decimal code

-- a result: LOG W CODE TEXT, each word behind a space
abbrev pub item_text : CallbackItem → List ℕ
item_text item = spaced_number item.log ++ spaced_number item.log_moment ++ spaced_code item.code ++ spaced_text item.msg

-- an event's line without its LF
abbrev pub event_words : ClusterEvent → List ℕ
event_words (NodeStart a) = codes "start " ++ decimal a
event_words (NodeStop a) = codes "stop " ++ decimal a
event_words (NodeAsk a) = codes "ask " ++ decimal a
event_words (AddGroup app kind addresses) = codes "addgroup " ++ quoted app ++ 32 ∷ group_kind_text kind ++ 32 ∷ counted_texts addresses
event_words (SetGroup group kind addresses) = codes "setgroup " ++ decimal group ++ 32 ∷ group_kind_text kind ++ 32 ∷ counted_texts addresses
event_words (AddJob s) = codes "addjob " ++ spec_text s
event_words (UpdateJob at job s) = codes "setjob " ++ decimal at ++ spaced_number job ++ 32 ∷ spec_text s
event_words (StartJob at job) = codes "startjob " ++ decimal at ++ spaced_number job
event_words (StopJob job) = codes "stopjob " ++ decimal job
event_words (RemoveJob job) = codes "dropjob " ++ decimal job
event_words (TriggerJob a at job own) = codes "fire " ++ decimal a ++ spaced_number at ++ spaced_number job ++ 32 ∷ optional_text own
event_words (ScanBegin a at) = codes "scan " ++ decimal a ++ spaced_number at
event_words (ScanStep a) = codes "step " ++ decimal a
event_words (Turn a at) = codes "turn " ++ decimal a ++ spaced_number at
event_words (Take a pool at w) = codes "take " ++ decimal a ++ 32 ∷ pool_kind_text pool ++ spaced_number at ++ spaced_number w
event_words (Sent l to c start end) = codes "sent " ++ decimal l ++ 32 ∷ optional_text to ++ spaced_code c ++ spaced_number start ++ spaced_number end
event_words (Callback a at item) = codes "back " ++ decimal a ++ spaced_number at ++ item_text item
event_words (Registry at group key value) = codes "reg " ++ decimal at ++ spaced_text group ++ spaced_text key ++ spaced_text value
event_words (RegistryRemove group key value) = codes "unreg " ++ quoted group ++ spaced_text key ++ spaced_text value
event_words (Sweep at) = codes "sweep " ++ decimal at
event_words (Monitor a at) = codes "monitor " ++ decimal a ++ spaced_number at
event_words (Lost at) = codes "lost " ++ decimal at
event_words (Clean at) = codes "clean " ++ decimal at
event_words (ReadLog l) = codes "showlog " ++ decimal l
event_words Reopen = codes "reopen"

-- an event as its line
abbrev pub spelling : ClusterEvent → List ℕ
spelling event = event_words event ++ 10 ∷ []

-- an admin's number, a moment, a group's or a job's id, a log's id, a parameter or none
abbrev pub IsAdmin : ℕ → Type 0
IsAdmin a = a ≤ LAST_ADMIN

abbrev pub IsMoment : ℕ → Type 0
IsMoment at = at ≤ LAST_MOMENT

abbrev pub IsId : ℕ → Type 0
IsId id = IsNumberOf (number_form 1 LAST_JOB_ID Line) id

abbrev pub IsLog : ℕ → Type 0
IsLog l = IsNumberOf (number_form 1 LAST_LOG_ID Line) l

abbrev pub IsParam : Option (List ℕ) → Type 0
IsParam own = IfSome own (IsTextOf (text_form 0 LONGEST_PARAM Line))

abbrev pub IsRegistryText : List ℕ → Type 0
IsRegistryText text = IsTextOf (text_form 0 LONGEST_NAME Line) text

-- a code of 32 bits
abbrev pub CodeFits : ℤ → Type 0
CodeFits (pos n) = n ≤ 2147483647
CodeFits (negsuc n) = n ≤ 2147483647

-- a result is within its bounds
pub record ItemFits (item : CallbackItem) : Type 0 where
  pub log : IsLog item.log
  pub log_moment : item.log_moment ≤ LAST_LOG_MOMENT
  pub code : CodeFits item.code
  pub msg : IsTextOf (text_form 0 LONGEST_RESULT Line) item.msg

-- what a job runs is within its bounds
pub record WorkFits (s : JobSpec) : Type 0 where
  pub handler : IsTextOf (text_form 0 LONGEST_NAME Line) s.handler
  pub param : IsTextOf (text_form 0 LONGEST_PARAM Line) s.param
  pub timeout : s.timeout ≤ LAST_SECONDS
  pub retries : s.retries ≤ LAST_RETRIES
  pub count : length s.children ≤ MOST_CHILDREN
  pub children : AllByRecursion (IsNumberOf (number_form 1 LAST_JOB_ID Line)) s.children

-- the values of a spec are within their bounds
pub record SpecFits (s : JobSpec) : Type 0 where
  pub group : IsId s.group
  pub schedule : IsTextOf (text_form 0 LONGEST_SCHEDULE_GIVEN Line) s.schedule
  pub work : WorkFits s
  pub zone : IsTextOf (text_form 0 LONGEST_NAME Line) s.zone

-- the addresses of a group are within their bounds
pub record AddressesFit (addresses : List (List ℕ)) : Type 0 where
  pub count : length addresses ≤ MOST_ADDRESSES
  pub texts : AllByRecursion (IsTextOf (text_form 1 LONGEST_NAME Line)) addresses

-- the values of an event are within their bounds, as its type has them
abbrev pub IsWithin : ClusterEvent → Type 0
IsWithin (NodeStart a) = IsAdmin a
IsWithin (NodeStop a) = IsAdmin a
IsWithin (NodeAsk a) = IsAdmin a
IsWithin (AddGroup app kind addresses) = IsTextOf (text_form 1 LONGEST_APP Line) app × AddressesFit addresses
IsWithin (SetGroup group kind addresses) = IsId group × AddressesFit addresses
IsWithin (AddJob s) = SpecFits s
IsWithin (UpdateJob at job s) = IsMoment at × IsId job × SpecFits s
IsWithin (StartJob at job) = IsMoment at × IsId job
IsWithin (StopJob job) = IsId job
IsWithin (RemoveJob job) = IsId job
IsWithin (TriggerJob a at job own) = IsAdmin a × IsMoment at × IsId job × IsParam own
IsWithin (ScanBegin a at) = IsAdmin a × IsMoment at
IsWithin (ScanStep a) = IsAdmin a
IsWithin (Turn a at) = IsAdmin a × IsMoment at
IsWithin (Take a pool at w) = IsAdmin a × IsMoment at × (w ≤ LAST_WORD)
IsWithin (Sent l to c start end) = IsLog l × IfSome to (IsTextOf (text_form 1 LONGEST_NAME Line)) × CodeFits c × IsMoment start × IsMoment end
IsWithin (Callback a at item) = IsAdmin a × IsMoment at × ItemFits item
IsWithin (Registry at group key value) = IsMoment at × IsRegistryText group × IsRegistryText key × IsRegistryText value
IsWithin (RegistryRemove group key value) = IsRegistryText group × IsRegistryText key × IsRegistryText value
IsWithin (Sweep at) = IsMoment at
IsWithin (Monitor a at) = IsAdmin a × IsMoment at
IsWithin (Lost at) = IsMoment at
IsWithin (Clean at) = IsMoment at
IsWithin (ReadLog l) = IsLog l
IsWithin Reopen = Unit {0}
