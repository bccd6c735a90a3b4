-- The law of plain words, and the limits as numbers.
use Rattle.std.specs.Prelude.{◌≡◌, ◌+◌, true, List}
use Rattle.clap.specs.Words.{App, Text, first_of, matches_of, takes}
use Rattle.job_values.specs.declared.limits.TheConstants.{ADMINS, EXECUTORS, LAST_ADMIN}
use Rattle.option_words.specs.declared.limits.TheConstants.{LAST_PORT, LAST_FIRST_PORT, MOST_FAST, MOST_SLOW}
use Rattle.option_words.specs.Forms.{Each}
use Rattle.option_words.specs.Options.{CommandOption, AreFormed}
use Rattle.option_words.specs.Plain.{Use, AreUses, text_said}

-- words of the plain form are taken, each text has its form, and what stands for an option is what they say of it, or else its default
abbrev pub PlainWordsAreTaken : App → List CommandOption → Type 0
PlainWordsAreTaken app options =
    (uses : List Use) (words : List Text) → AreUses options uses words
    → (takes app words ≡ true) × AreFormed options (matches_of app words)
    × Each (λ o. first_of o.name (matches_of app words) ≡ text_said uses o) options

-- up to 64 nodes, the last of which has the greatest port at most; up to 64 runners, 200 fast and 100 slow threads
abbrev pub LimitsAre : Type 0
LimitsAre =
    (ADMINS ≡ 64) × (LAST_PORT ≡ 65535) × (LAST_FIRST_PORT + LAST_ADMIN ≡ LAST_PORT)
    × (EXECUTORS ≡ 64) × (MOST_FAST ≡ 200) × (MOST_SLOW ≡ 100)
