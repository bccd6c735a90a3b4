-- When words are refused, and by which name.
use Rattle.std.specs.Prelude.{◌≡◌, List, [], Option, Result, Ok, Err}
use Rattle.clap.specs.Words.{App, Text, fault_of, matches_of, rows_of, found_of}
use Rattle.clap.specs.declared.parser.matches.ArgMatches.{ArgMatches}
use Rattle.option_words.specs.Options.{CommandOption}
use Rattle.option_words.specs.Plain.{Use, text_said}
use Rattle.option_command.specs.Said.{text_in}
use Rattle.option_command.specs.declared.refusal.WordsRefusal.{WordsRefusal}
use Rattle.option_command.specs.declared.refusal.WordsRefusal.TheVariants.{Words, Form, Memory}

-- a value of which P holds; or no value has it and the form is refused; or memory ran out
abbrev pub GivesForm : {T : Type 0} → (T → Type 0) → Result T WordsRefusal → Type 0
GivesForm P (Ok x) = P x
GivesForm {T} P (Err Form) = (x : T) → P x → ⊥
GivesForm P (Err Memory) = Unit {0}
GivesForm P (Err (Words e)) = ⊥

-- the command takes the words, and these are the options by the texts that stand in its matches; or it has a
-- fault on them; or it takes them, and no options are those by these texts; or memory ran out
abbrev pub ReadsWords : {T : Type 0} → App → ((CommandOption → Option Text) → T → Type 0) → List Text → Result T WordsRefusal → Type 0
ReadsWords app IsOptions words (Ok options) = (fault_of app words ≡ []) × IsOptions (text_in (matches_of app words)) options
ReadsWords app IsOptions words (Err (Words e)) = fault_of app words ≡ [] → ⊥
ReadsWords {T} app IsOptions words (Err Form) =
    (fault_of app words ≡ []) × ((options : T) → IsOptions (text_in (matches_of app words)) options → ⊥)
ReadsWords app IsOptions words (Err Memory) = Unit {0}

-- words that are these uses, in the plain form, give the options that the uses say, a missing one having its default; or memory ran out
abbrev pub GivesPlain : {T : Type 0} → ((CommandOption → Option Text) → T → Type 0) → List Use → Result T WordsRefusal → Type 0
GivesPlain IsOptions uses (Ok options) = IsOptions (text_said uses) options
GivesPlain IsOptions uses (Err refusal) = refusal ≡ Memory

-- what the command reads of the words; or it has a fault on them; or memory ran out
abbrev pub GivesMatches : App → List Text → Result ArgMatches WordsRefusal → Type 0
GivesMatches app words (Ok m) = (fault_of app words ≡ []) × (rows_of (found_of m) ≡ matches_of app words)
GivesMatches app words (Err (Words e)) = fault_of app words ≡ [] → ⊥
GivesMatches app words (Err Form) = ⊥
GivesMatches app words (Err Memory) = Unit {0}
