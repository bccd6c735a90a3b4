-- The rows that uses of options leave, and what is held between two words.
use Rattle.std.proofs.Common.{◌≡◌, ◌∙◌, ◌<◌, ◌&&◌, ◌||◌, Bool, true, false, not, cond, refl, sym, ap, ap₂, List, [], ◌∷◌, ◌++◌, map, length, Option, Some, None, append-nil, option_map}
use Rattle.std.specs.List.{list_any}
use Rattle.std.specs.Option.{option_map_or}
use Rattle.std.specs.Str.{bytes_eq}
use Rattle.std.proofs.lemmas.List.{map-append}
use Rattle.std.proofs.lemmas.List.Folds.{list_any-append}
use Rattle.clap.specs.Lexer.{has_byte}
use Rattle.clap.specs.Simple.{filled}
use Rattle.clap.specs.Takes.{settle_passes, use_passes, value_passes}
use Rattle.clap.specs.Walk.{Held, Row, Rule, Text, Walk, arg_by_id, arg_by_long, at_row, has_row, idle, more_values, reading_by, settled, used, used_by_id, with_values}
use Rattle.clap.specs.declared.parser.matches.ValueSource.TheVariants.{CommandLine}
use Rattle.option_words.specs.Forms.{Each}
use Rattle.option_words.specs.Options.{CommandOption, rule_for}
use Rattle.option_words.specs.Plain.{Use}
use Rattle.option_words.proofs.Words.{neither}

-- an option's rule, as building makes it
abbrev pub built_rule : CommandOption → Rule
built_rule c = filled (rule_for c)

abbrev pub Taken : Type 0
Taken = CommandOption × Text

-- the row that a use leaves
abbrev pub row : Taken → Row
row t = record { id = t.0.name; values = t.1 ∷ []; count = None; source = Some CommandLine; reading = reading_by (built_rule t.0) }

abbrev pub rows : List Taken → List Row
rows = map row

-- a row behind rows of other ids
pub at_row_none : (id : Text) (change : Row → List Row) (missing rs : List Row) → has_row id rs ≡ false → at_row id change missing rs ≡ rs ++ missing
at_row_none id change missing [] none = refl
at_row_none id change missing (r ∷ rs) none =
    let p = neither _ _ none in
    ap (λ (b : Bool). cond b (change r ++ rs) (r ∷ at_row id change missing rs)) p.0 ∙ ap (λ (l : List Row). r ∷ l) (at_row_none id change missing rs p.1)

pub used_new : (c : CommandOption) (v : Text) (rs : List Row) → has_row c.name rs ≡ false → used (built_rule c) (v ∷ []) rs ≡ rs ++ row (c, v) ∷ []
used_new c v rs none =
    ap (with_values c.name (reading_by (built_rule c)) CommandLine (v ∷ [])) (at_row_none c.name (λ _. []) [] rs none ∙ append-nil rs)
    ∙ at_row_none c.name (more_values CommandLine (v ∷ [])) (row (c, v) ∷ []) rs none

pub passes_use : (again : Bool) (c : CommandOption) (v : Text) (rs : List Row) → value_passes (built_rule c) v ≡ true → has_row c.name rs ≡ false
    → use_passes again (built_rule c) (v ∷ []) rs ≡ true
passes_use again c v rs passes none = ap₂ (λ (a b : Bool). (not a || again) && (b && true)) none passes

-- the option is found by its name
pub record IsFound (rules : List Rule) (c : CommandOption) : Type 0 where
  pub by_long : arg_by_long rules c.name ≡ Some (built_rule c)
  pub by_id : arg_by_id rules c.name ≡ Some (built_rule c)
  pub some : 0 < length c.name
  pub no_equals : has_byte 61 c.name ≡ false

-- ---- what is held between two uses: the last one may still be pending

abbrev pub opened : Option Taken → List Taken
opened None = []
opened (Some t) = t ∷ []

abbrev pub held : List Taken → Option Taken → Held
held closed tail = record { rows = rows closed; pending = option_map (λ t. (t.0.name, t.1 ∷ [])) tail; skip = 0 }

abbrev pub at : List Taken → Option Taken → Walk
at closed tail = record { held = held closed tail; waiting = idle; position = 1; is_trailing = false; stopped = None }

pub record IsSound (rules : List Rule) (t : Taken) : Type 0 where
  pub found : IsFound rules t.0
  pub passes : value_passes (built_rule t.0) t.1 ≡ true

-- what is pending is of no earlier option
abbrev pub Fits : List Rule → List Taken → Option Taken → Type 0
Fits rules closed None = Unit {0}
Fits rules closed (Some t) = IsSound rules t × (has_row t.0.name (rows closed) ≡ false)

pub settles : (rules : List Rule) (again : Bool) (closed : List Taken) (tail : Option Taken) → Fits rules closed tail → settle_passes rules again (held closed tail) ≡ true
settles rules again closed None fits = refl
settles rules again closed (Some t) fits =
    ap (λ (o : Option Rule). option_map_or (λ a. use_passes again a (t.1 ∷ []) (rows closed)) o true) fits.0.found.by_id
    ∙ passes_use again t.0 t.1 (rows closed) fits.0.passes fits.1

abbrev bare : List Row → Held
bare l = record { rows = l; pending = None; skip = 0 }

pub settled_is : (rules : List Rule) (closed : List Taken) (tail : Option Taken) → Fits rules closed tail → settled rules (held closed tail) ≡ held (closed ++ opened tail) None
settled_is rules closed None fits = ap (λ (l : List Taken). held l None) (sym (append-nil closed))
settled_is rules closed (Some t) fits =
    ap bare (ap (λ (o : Option Rule). used_by_id o (t.1 ∷ []) (rows closed)) fits.0.found.by_id
    ∙ used_new t.0 t.1 (rows closed) fits.1 ∙ sym (map-append row closed (t ∷ [])))

-- ---- no option twice

abbrev pub AreFresh : List Taken → List Use → Type 0
AreFresh seen us = Each (λ u. has_row u.name (rows seen) ≡ false) us

pub next_fresh : (seen : List Taken) (t : Taken) (name : Text) → t.0.name ≡ name → (us : List Use) → AreFresh seen us → list_any (λ v. bytes_eq name v.name) us ≡ false
    → AreFresh (seen ++ t ∷ []) us
next_fresh seen t name is [] fresh once = tt
next_fresh seen t name is (u ∷ us) fresh once =
    let p = neither _ _ once in (
      ap (has_row u.name) (map-append row seen (t ∷ [])) ∙ list_any-append (λ (r : Row). bytes_eq r.id u.name) (rows seen) (row t ∷ [])
          ∙ ap₂ (λ (a b : Bool). a || (b || false)) fresh.0 (ap (λ (n : Text). bytes_eq n u.name) is ∙ p.0),
      next_fresh seen t name is us fresh.1 p.1,
    )
