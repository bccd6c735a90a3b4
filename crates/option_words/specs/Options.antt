-- The options of a command, each with one value.
use Rattle.std.specs.Prelude.{◌≡◌, ⊤, ℕ, Bool, true, pos, neg_ℤ, List, [], ◌∷◌, fold, Option, Some, None, IfSome}
use Rattle.job_values.specs.declared.limits.TheConstants.{LAST_OFFSET}
use Rattle.clap.specs.Words.{App, Row, Rule, Text, fault_of, first_of, matches_of, new_app, new_rule, with_rule}
use Rattle.clap.specs.declared.builder.action.ArgAction.TheVariants.{Set}
use Rattle.clap.specs.declared.builder.value_parser.ValueParser.{ValueParser}
use Rattle.clap.specs.declared.builder.value_parser.ValueParser.TheVariants as vp
use Rattle.option_words.specs.Forms.{Each, IsApp, IsOneAddress, AreAddresses, IsBase}

-- what an option takes: a number from the least to the greatest, an offset in seconds, any text, or a text of a form
pub data Takes : Type 0 where
  number : ℕ → ℕ → Takes
  offset : Takes
  text : Takes
  app : Takes
  address : Takes
  addresses : Takes
  base : Takes

-- an option: its name, what it takes, whether it has to be given, and the text that stands for it where it is not
pub record CommandOption : Type 0 where
  pub name : Text
  pub takes : Takes
  pub required : Bool
  pub default : Option Text

-- the text has the form that the option asks for; on numbers and offsets `clap` decides
abbrev pub HasForm : Takes → Text → Type 0
HasForm (number least greatest) t = ⊤
HasForm offset t = ⊤
HasForm text t = ⊤
HasForm app t = IsApp t
HasForm address t = IsOneAddress t
HasForm addresses t = AreAddresses t
HasForm base t = IsBase t

-- each option that has a text has one of its form
abbrev pub AreFormed : List CommandOption → List Row → Type 0
AreFormed options rows = Each (λ o. IfSome (first_of o.name rows) (HasForm o.takes)) options

-- ---- the command that has these options and no other

abbrev pub parser_for : Takes → Option ValueParser
parser_for (number least greatest) = Some (vp.Signed (pos least) (pos greatest))
parser_for offset = Some (vp.Signed (neg_ℤ LAST_OFFSET) LAST_OFFSET)
parser_for _ = None

abbrev pub defaults_for : Option Text → List Text
defaults_for None = []
defaults_for (Some t) = t ∷ []

abbrev pub rule_for : CommandOption → Rule
rule_for o = record (new_rule o.name) {
  long = Some o.name;
  action = Some Set;
  required = o.required;
  parser = parser_for o.takes;
  defaults = defaults_for o.default;
}

-- the words have no program's name before them, and `--help` is no option
abbrev pub bare_app : Text → App
bare_app name = let a = new_app name in record a { top = record a.top { no_binary_name = true; disable_help_flag = true } }

abbrev pub app_for : Text → List CommandOption → App
app_for name options = fold (λ a o. with_rule a (rule_for o)) (bare_app name) options

-- the command takes the words, and each text has its form
abbrev pub AreTaken : App → List CommandOption → List Text → Type 0
AreTaken a options words = (fault_of a words ≡ []) × AreFormed options (matches_of a words)
