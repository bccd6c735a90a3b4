-- A command of options takes the words that give them plainly, and reads from them what they say.
use Rattle.std.proofs.Common.{◌≡◌, ◌∙◌, ◌&&◌, ◌||◌, Bool, true, false, not, cond, refl, sym, ap, ap₂, subst, List, [], ◌∷◌, map, fold, drop, Option, Some, None, IsSome, IfSome, find, option_map}
use Rattle.std.specs.List.{list_all}
use Rattle.std.specs.Str.{bytes_eq}
use Rattle.std.proofs.lemmas.Option.{none-some, same_Some}
use Rattle.std.proofs.lemmas.Slice.Eq.{bytes_eq-Decides}
use Rattle.clap.specs.Simple.{App, Shape, argument_words, built, is_simple, label_of, matches_of}
use Rattle.clap.specs.Takes.{built_takes, default_passes, is_given, is_valid, level_passes, settle_passes, takes, value_passes, walk_passes}
use Rattle.clap.specs.Walk.{Held, Rule, Text, Walk, finished, first_of, nothing_held, settled, walk, walked, with_default}
use Rattle.clap.proofs.TakesLemmas.{leaf_takes}
use Rattle.option_words.specs.Forms.{Each}
use Rattle.option_words.specs.Options.{Takes, number, offset, text, app, address, addresses, base, CommandOption, HasForm}
use Rattle.option_words.specs.Plain.{Use, AreUses, IsTaken, IsUseOf, text_said, value_said, value_or_default, words_of}
use Rattle.option_words.proofs.Words.{or_true}
use Rattle.option_words.proofs.Rows.{AreFresh, IsFound, Taken, at, built_rule, held, rows, settled_is, settles}
use Rattle.option_words.proofs.Walks.{Walked, taken, walks}
use Rattle.option_words.proofs.Ends.{AreApart, gives, stands}

-- what a command of these options comes to, which computes where they are written out
pub record IsReady (app : App) (options : List CommandOption) : Type 0 where
  pub rules : (built app).top.rules ≡ map built_rule options
  pub subs : (built app).subs ≡ []
  pub simple : is_simple app ≡ true
  pub bare : app.top.no_binary_name ≡ true
  pub no_help : (built app).top.arg_required_else_help ≡ false
  pub no_sub : (built app).top.subcommand_required ≡ false
  pub found : Each (IsFound (map built_rule options)) options
  pub reads : Each (λ c. (v : Text) → IsTaken c.takes v → value_passes (built_rule c) v ≡ true) options
  pub apart : AreApart options
  pub defaults : list_all default_passes (map built_rule options) ≡ true
  pub free : list_all (λ a. a.is_free) (map built_rule options) ≡ true

all_fresh : (uses : List Use) → AreFresh [] uses
all_fresh [] = tt
all_fresh (u ∷ us) = (refl, all_fresh us)

needed_given : (options all cs : List CommandOption) (uses : List Use) (each : Each (IsUseOf options) uses) → Each (λ c. c.required ≡ true → IsSome (value_said uses c.name)) cs
    → list_all (λ (a : Rule). not a.required || is_given a.id (fold with_default (rows (taken options uses each)) (map built_rule all))) (map built_rule cs) ≡ true
needed_given options all [] uses each needed = refl
needed_given options all (c ∷ cs) uses each needed =
    ap₂ (λ (a b : Bool). a && b) (go c.required refl) (needed_given options all cs uses each needed.1)
  where
    given : Bool
    given = is_given c.name (fold with_default (rows (taken options uses each)) (map built_rule all))

    go : (b : Bool) → c.required ≡ b → (not c.required || given) ≡ true
    go true on = ap₂ (λ (a b : Bool). not a || b) on (gives options all uses each c.name (needed.0 on))
    go false off = ap (λ (a : Bool). not a || given) off

-- ---- the forms of what was said

-- a use that a search finds
pub use_found : (options : List CommandOption) (uses : List Use) (each : Each (IsUseOf options) uses) (id : Text) (u : Use)
    → find (λ u. bytes_eq u.name id) uses ≡ Some u → IsUseOf options u × (bytes_eq u.name id ≡ true)
use_found options [] each id u e = absurd (none-some u e)
use_found options (x ∷ xs) each id u e = go (λ f. use_found options xs each.1 id u f) (bytes_eq x.name id) refl
  where
    go : (find (λ u. bytes_eq u.name id) xs ≡ Some u → IsUseOf options u × (bytes_eq u.name id ≡ true)) → (b : Bool) → bytes_eq x.name id ≡ b
        → IsUseOf options u × (bytes_eq u.name id ≡ true)
    go more true hit = subst (λ (y : Use). IsUseOf options y × (bytes_eq y.name id ≡ true)) (same_Some x u (rw hit at e)) (each.0, hit)
    go more false miss = more (rw miss at e)

-- what an option takes has its form
taken_formed : (takes : Takes) (v : Text) → IsTaken takes v → HasForm takes v
taken_formed (number least greatest) v h = tt
taken_formed offset v h = tt
taken_formed text v h = h
taken_formed app v h = h
taken_formed address v h = h
taken_formed addresses v h = h
taken_formed base v h = h

said_formed : (options : List CommandOption) (uses : List Use) (each : Each (IsUseOf options) uses) (c : CommandOption)
    → find (λ d. bytes_eq d.name c.name) options ≡ Some c → IfSome c.default (HasForm c.takes) → IfSome (text_said uses c) (HasForm c.takes)
said_formed options uses each c at_c default = go (find (λ u. bytes_eq u.name c.name) uses) refl
  where
    go : (o : Option Use) → find (λ u. bytes_eq u.name c.name) uses ≡ o → IfSome (value_or_default (option_map (λ (u : Use). u.value) o) c.default) (HasForm c.takes)
    go None e = default
    go (Some u) e =
        let found = use_found options uses each c.name u e in
        let name : u.name ≡ c.name = (bytes_eq-Decides u.name c.name).0 found.1 in
        let same : c ≡ found.0.0 = same_Some c found.0.0 (sym at_c ∙ subst (λ (n : Text). find (λ d. bytes_eq d.name n) options ≡ Some found.0.0) name found.0.1) in
        subst (λ (d : CommandOption). HasForm d.takes u.value) (sym same) (taken_formed found.0.0.takes u.value found.0.2)

module _ (app : App) (options : List CommandOption) (ready : IsReady app options) (uses : List Use) (words : List Text) (plain : AreUses options uses words) where
  abbrev s : Shape
  s = (built app).top

  found : Each (IsFound s.rules) options
  found = subst (λ (rs : List Rule). Each (IsFound rs) options) (sym ready.rules) ready.found

  done : Walked s [] None (taken options uses plain.each) (words_of uses)
  done = walks s options found ready.reads uses plain.each [] None tt (all_fresh uses) plain.once

  abbrev end : Held
  end = (walk s.rules [] nothing_held words).held

  end_is : end ≡ held done.last_closed done.last_tail
  end_is = ap (λ (ws : List Text). (fold (walked s.rules []) (at [] None) ws).held) plain.are ∙ ap (λ (w : Walk). w.held) done.ends

  finished_is : finished s.rules end ≡ fold with_default (rows (taken options uses plain.each)) (map built_rule options)
  finished_is =
      ap (λ (h : Held). fold with_default (settled s.rules h).rows s.rules) end_is
      ∙ ap (λ (h : Held). fold with_default h.rows s.rules) (settled_is s.rules done.last_closed done.last_tail done.fits)
      ∙ ap₂ (λ (ts : List Taken) (rs : List Rule). fold with_default (rows ts) rs) done.all ready.rules

  valid : is_valid s (finished s.rules end) false ≡ true
  valid =
      rw (ready.no_help, ready.no_sub, finished_is, ready.rules, ready.free, needed_given options options options uses plain.each plain.needed) (or_true _)

  passes : level_passes s [] nothing_held words false ≡ true
  passes = ap₂ (λ (a b : Bool). a && b)
      (ap (walk_passes s [] (at [] None)) plain.are ∙ done.passes)
      (ap₂ (λ (a b : Bool). a && b)
      (ap (settle_passes s.rules s.args_override_self) end_is ∙ settles s.rules s.args_override_self done.last_closed done.last_tail done.fits)
      (ap₂ (λ (a b : Bool). a && b) (ap (list_all default_passes) ready.rules ∙ ready.defaults) valid))

  words_are : argument_words app words ≡ words
  words_are = ap (λ (b : Bool). cond b words (drop 1 words)) ready.bare

  pub plain_takes : takes app words ≡ true
  plain_takes = ap₂ (λ (a b : Bool). a && b) ready.simple
      (ap (built_takes (built app) nothing_held) words_are ∙ leaf_takes (built app) nothing_held words ready.subs passes)

  -- what stands for an option
  pub plain_says : (c : CommandOption) → find (λ d. bytes_eq d.name c.name) options ≡ Some c
      → first_of c.name (matches_of app words) ≡ text_said uses c
  plain_says c at_c =
      let rows_are : matches_of app words ≡ finished s.rules end = ap₂ (λ (ns : List (Text × List Text)) (ws : List Text). finished s.rules (walk s.rules ns nothing_held ws).held) (ap (map label_of) ready.subs) words_are in
      ap (first_of c.name) (rows_are ∙ finished_is) ∙ stands options options uses plain.each c ready.apart at_c

  -- and it has its form
  pub plain_formed : (c : CommandOption) → find (λ d. bytes_eq d.name c.name) options ≡ Some c → IfSome c.default (HasForm c.takes)
      → IfSome (first_of c.name (matches_of app words)) (HasForm c.takes)
  plain_formed c at_c default =
      subst (λ (o : Option Text). IfSome o (HasForm c.takes)) (sym (plain_says c at_c)) (said_formed options uses plain.each c at_c default)
