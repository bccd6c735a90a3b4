-- Words of the plain form: each option at most once, as `--name value` or as `--name=value`.
use Rattle.std.specs.Prelude.{◌≡◌, ◌≢◌, ◌⊎◌, ◌≤◌, ℕ, ◌<◌, Bool, true, false, if◌then◌else◌, nat_abs, List, [], ◌∷◌, ◌++◌, length, find, Option, Some, None, IsSome, option_map, slice_index, decimal}
use Rattle.std.specs.List.{list_any}
use Rattle.std.specs.Str.{bytes_eq}
use Rattle.job_values.specs.declared.limits.TheConstants.{LAST_OFFSET}
use Rattle.clap.specs.Words.{Text}
use Rattle.option_words.specs.Forms.{Each}
use Rattle.option_words.specs.Options.{Takes, number, offset, text, app, address, addresses, base, CommandOption, HasForm}

-- decimal digits without leading zeros, within the bounds
abbrev pub IsNumberWord : ℕ → ℕ → Text → Type 0
IsNumberWord least greatest t = (n : ℕ) × (least ≤ n) × (n ≤ greatest) × (t ≡ decimal n)

-- an offset in seconds, with `-` (45) in front of one behind UTC
abbrev pub IsOffsetWord : Text → Type 0
IsOffsetWord t = (n : ℕ) × (n ≤ nat_abs LAST_OFFSET) × ((t ≡ decimal n) ⊎ (t ≡ 45 ∷ decimal n))

-- the value is one that the option takes
abbrev pub IsTaken : Takes → Text → Type 0
IsTaken (number least greatest) t = IsNumberWord least greatest t
IsTaken offset t = IsOffsetWord t
IsTaken text t = HasForm text t
IsTaken app t = HasForm app t
IsTaken address t = HasForm address t
IsTaken addresses t = HasForm addresses t
IsTaken base t = HasForm base t

-- one use of an option, in one word or in two
pub record Use : Type 0 where
  pub name : Text
  pub value : Text
  pub joined : Bool

-- `--name=value`, or `--name` and `value`; 45 is `-` and 61 is `=`
abbrev pub use_words : Use → List Text
use_words u = if u.joined then (45 ∷ 45 ∷ (u.name ++ (61 ∷ u.value))) ∷ [] else (45 ∷ 45 ∷ u.name) ∷ (u.value ∷ [])

abbrev pub words_of : List Use → List Text
words_of [] = []
words_of (u ∷ us) = use_words u ++ words_of us

-- the value is not empty, and as a word of its own it does not begin with `-`
abbrev pub IsWritten : Use → Type 0
IsWritten u = (0 < length u.value) × (u.joined ≡ false → slice_index u.value 0 ≢ 45)

-- the use is of one of these options, with a value that it takes
abbrev pub IsUseOf : List CommandOption → Use → Type 0
IsUseOf options u = (o : CommandOption) × (find (λ o. bytes_eq o.name u.name) options ≡ Some o) × IsTaken o.takes u.value × IsWritten u

-- no later use is of the same option
abbrev pub AreOnce : List Use → Type 0
AreOnce [] = Unit {0}
AreOnce (u ∷ us) = (list_any (λ v. bytes_eq u.name v.name) us ≡ false) × AreOnce us

-- the value that the uses give to an option
abbrev pub value_said : List Use → Text → Option Text
value_said uses name = option_map (λ u. u.value) (find (λ u. bytes_eq u.name name) uses)

-- the words are these uses, each of an option and of no option twice, and the required ones are there
pub record AreUses (options : List CommandOption) (uses : List Use) (words : List Text) : Type 0 where
  pub are : words ≡ words_of uses
  pub each : Each (IsUseOf options) uses
  pub once : AreOnce uses
  pub needed : Each (λ o. o.required ≡ true → IsSome (value_said uses o.name)) options

-- the words have the plain form
abbrev pub ArePlain : List CommandOption → List Text → Type 0
ArePlain options words = (uses : List Use) × AreUses options uses words

-- what was said, or else the default
abbrev pub value_or_default : Option Text → Option Text → Option Text
value_or_default (Some v) default = Some v
value_or_default None default = default

-- the text that stands for an option where these are its uses
abbrev pub text_said : List Use → CommandOption → Option Text
text_said uses o = value_or_default (value_said uses o.name) o.default
