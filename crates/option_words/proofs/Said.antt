-- What stands for an option where the words have the plain form is what the option takes.
use Rattle.std.proofs.Common.{◌≡◌, ◌∙◌, ◌⊎◌, true, false, Bool, refl, sym, ap, subst, List, [], ◌∷◌, Option, Some, None, IsSome, find, option_map, inl, inr}
use Rattle.std.specs.Str.{bytes_eq}
use Rattle.std.proofs.lemmas.Option.{none-some, same_Some}
use Rattle.std.proofs.lemmas.Slice.Eq.{bytes_eq-Decides}
use Rattle.clap.specs.Words.{Text}
use Rattle.option_words.specs.Forms.{Each}
use Rattle.option_words.specs.Options.{CommandOption}
use Rattle.option_words.specs.Plain.{Use, AreUses, IsTaken, text_said, value_said, value_or_default}
use Rattle.option_words.proofs.Ready.{use_found}

each_found : (P : CommandOption → Type 0) (options : List CommandOption) (id : Text) (c : CommandOption) → Each P options
    → find (λ d. bytes_eq d.name id) options ≡ Some c → P c
each_found P [] id c all e = absurd (none-some c e)
each_found P (x ∷ xs) id c all e = go (λ f. each_found P xs id c all.1 f) (bytes_eq x.name id) refl
  where
    go : (find (λ d. bytes_eq d.name id) xs ≡ Some c → P c) → (b : Bool) → bytes_eq x.name id ≡ b → P c
    go more true hit = subst P (same_Some x c (rw hit at e)) all.0
    go more false miss = more (rw miss at e)

-- the option has to be given, or a text that it takes stands for it
abbrev pub HasText : CommandOption → Type 0
HasText c = (c.required ≡ true) ⊎ ((t : Text) × (c.default ≡ Some t) × IsTaken c.takes t)

pub stands_taken : (options : List CommandOption) (uses : List Use) (words : List Text) → AreUses options uses words → (c : CommandOption)
    → find (λ d. bytes_eq d.name c.name) options ≡ Some c → HasText c → (t : Text) × (text_said uses c ≡ Some t) × IsTaken c.takes t
stands_taken options uses words plain c at_c has = go (find (λ u. bytes_eq u.name c.name) uses) refl
  where
    go : (o : Option Use) → find (λ u. bytes_eq u.name c.name) uses ≡ o → (t : Text) × (text_said uses c ≡ Some t) × IsTaken c.takes t
    go None e = elim has [
      | inl needed ↦
          let some : IsSome (value_said uses c.name) = each_found (λ o. o.required ≡ true → IsSome (value_said uses o.name)) options c.name c plain.needed at_c needed in
          let none : IsSome (option_map (λ (u : Use). u.value) None) = subst (λ (o : Option Use). IsSome (option_map (λ (u : Use). u.value) o)) e some in
          let never : ⊥ = cc in
          absurd never
      | inr default ↦ (
        default.0,
        ap (λ (o : Option Use). value_or_default (option_map (λ (u : Use). u.value) o) c.default) e ∙ default.1,
        default.2,
      )
    ]
    go (Some u) e =
        let found = use_found options uses plain.each c.name u e in
        let name : u.name ≡ c.name = (bytes_eq-Decides u.name c.name).0 found.1 in
        let same : c ≡ found.0.0 = same_Some c found.0.0 (sym at_c ∙ subst (λ (n : Text). find (λ d. bytes_eq d.name n) options ≡ Some found.0.0) name found.0.1) in (
          u.value,
          ap (λ (o : Option Use). value_or_default (option_map (λ (w : Use). w.value) o) c.default) e,
          subst (λ (d : CommandOption). IsTaken d.takes u.value) (sym same) found.0.2,
        )
