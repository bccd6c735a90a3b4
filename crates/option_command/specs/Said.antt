-- What the options of the two node programs are, by the texts that stand for them.
use Rattle.std.specs.Prelude.{◌≡◌, ◌≤◌, ◌≤ℤ◌, ◌==◌, ℕ, ℤ, neg_ℤ, List, Option, Some}
use Rattle.std.specs.List.{slice_split}
use Rattle.std.specs.Str.Parse.{IsNumeral, digits_value, signed_digits_value, without_leading_plus, without_leading_sign}
use Rattle.clap.specs.Words.{Row, Text, first_of}
use Rattle.job_values.specs.declared.limits.TheConstants.{ADMINS, EXECUTORS, LAST_OFFSET}
use Rattle.option_words.specs.declared.limits.TheConstants.{LAST_PORT, LAST_FIRST_PORT, MOST_FAST, MOST_SLOW}
use Rattle.option_words.specs.Forms.{IsApp, IsOneAddress, AreAddresses, IsBase}
use Rattle.option_words.specs.Options.{CommandOption}
use Rattle.option_words.specs.Programs.{base_option, token_option, first_port_option, nodes_option, offset_option, fast_option, slow_option, db_option, port_option, app_option, address_option, admins_option, runners_option, spool_option}
use Rattle.option_command.specs.declared.forms.TextForm.{TextForm}
use Rattle.option_command.specs.declared.forms.TextForm.TheVariants.{Any, App, Address, Base}
use Rattle.option_command.specs.declared.admin.AdminOptions.{AdminOptions}
use Rattle.option_command.specs.declared.executor.ExecutorOptions.{ExecutorOptions}

-- the text that stands for an option in the matches of a command
abbrev pub text_in : List Row → CommandOption → Option Text
text_in rows o = first_of o.name rows

-- the text writes this number, within the bounds: digits, and `+` before them or not
abbrev pub IsNumber : ℕ → ℕ → Text → ℕ → Type 0
IsNumber least greatest t n =
    IsNumeral 10 (without_leading_plus t) × (n ≡ digits_value 10 (without_leading_plus t)) × (least ≤ n) × (n ≤ greatest)

-- the text writes this offset: digits, and a sign before them or not
abbrev pub IsOffset : Text → ℤ → Type 0
IsOffset t z =
    IsNumeral 10 (without_leading_sign t) × (z ≡ signed_digits_value 10 t) × (neg_ℤ LAST_OFFSET ≤ℤ z) × (z ≤ℤ LAST_OFFSET)

-- this number stands for an option of which this is the text
abbrev pub StandsNumber : ℕ → ℕ → Option Text → ℕ → Type 0
StandsNumber least greatest said n = (t : Text) × (said ≡ Some t) × IsNumber least greatest t n

-- and this offset
abbrev pub StandsOffset : Option Text → ℤ → Type 0
StandsOffset said z = (t : Text) × (said ≡ Some t) × IsOffset t z

-- and this text, which has its form
abbrev pub StandsText : (Text → Type 0) → Option Text → Text → Type 0
StandsText IsForm said t = (said ≡ Some t) × IsForm t

-- and these addresses, between commas (44)
abbrev pub StandAddresses : Option Text → List Text → Type 0
StandAddresses said list = (t : Text) × (said ≡ Some t) × (list ≡ slice_split (λ b. b == 44) t) × AreAddresses t

-- the text has the form
abbrev pub HasTextForm : TextForm → Text → Type 0
HasTextForm Any t = Unit {0}
HasTextForm App t = IsApp t
HasTextForm Address t = IsOneAddress t
HasTextForm Base t = IsBase t

-- the options of `xxl_admin`, by the text that stands for each
pub record IsAdmin (text : CommandOption → Option Text) (o : AdminOptions) : Type 0 where
  pub port : StandsNumber 1 LAST_FIRST_PORT (text first_port_option) o.port
  pub nodes : StandsNumber 1 ADMINS (text nodes_option) o.nodes
  pub offset : StandsOffset (text offset_option) o.offset
  pub fast : StandsNumber 1 MOST_FAST (text fast_option) o.fast
  pub slow : StandsNumber 1 MOST_SLOW (text slow_option) o.slow
  pub token : StandsText (HasTextForm Any) (text token_option) o.token
  pub base : StandsText (HasTextForm Base) (text base_option) o.base
  pub db : text db_option ≡ o.db

-- the options of `xxl_executor`
pub record IsExecutor (text : CommandOption → Option Text) (o : ExecutorOptions) : Type 0 where
  pub port : StandsNumber 1 LAST_PORT (text port_option) o.port
  pub app : StandsText (HasTextForm App) (text app_option) o.app
  pub address : StandsText (HasTextForm Address) (text address_option) o.address
  pub admins : StandAddresses (text admins_option) o.admins
  pub base : StandsText (HasTextForm Base) (text base_option) o.base
  pub token : StandsText (HasTextForm Any) (text token_option) o.token
  pub runners : StandsNumber 1 EXECUTORS (text runners_option) o.runners
  pub spool : StandsText (HasTextForm Any) (text spool_option) o.spool
