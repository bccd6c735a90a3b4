-- The end of a parse: defaults behind the rows of the uses, and what is required.
use Rattle.std.proofs.Common.{◌≡◌, ◌∙◌, ◌||◌, Bool, true, false, cond, refl, sym, ap, ap₂, subst, List, [], ◌∷◌, ◌++◌, map, fold, Option, Some, None, IsSome, true≢false, append-nil, option_map, find, slice_get, option_and_then, is_some, ◌⊎◌, inl, inr, ⊎_elim}
use Rattle.std.specs.List.{list_any}
use Rattle.std.specs.Option.{option_map_or}
use Rattle.std.specs.Str.{bytes_eq}
use Rattle.std.proofs.lemmas.List.Folds.{list_any-append}
use Rattle.std.proofs.lemmas.Option.{none-some, same_Some}
use Rattle.std.proofs.lemmas.Slice.Eq.{bytes_eq-Decides}
use Rattle.clap.specs.Facts.{explicit_source}
use Rattle.clap.specs.Takes.{is_given}
use Rattle.clap.specs.Walk.{Row, Text, default_rows, first_of, has_row, more_values, reading_by, with_default}
use Rattle.clap.specs.declared.parser.matches.ValueSource.TheVariants.{DefaultValue}
use Rattle.option_words.specs.Forms.{Each}
use Rattle.option_words.specs.Options.{CommandOption, text}
use Rattle.option_words.specs.Plain.{Use, IsUseOf, value_said, value_or_default}
use Rattle.option_words.proofs.Words.{neither, same_text}
use Rattle.option_words.proofs.Rows.{at_row_none, built_rule, row, rows}
use Rattle.option_words.proofs.Walks.{taken}

abbrev has_id : Text → Row → Bool
has_id id r = bytes_eq r.id id

-- the row that a default leaves
abbrev default_row : CommandOption → Text → Row
default_row c v = record { id = c.name; values = v ∷ []; count = None; source = Some DefaultValue; reading = reading_by (built_rule c) }

-- ---- searches

pub found_passes : {X : Type 0} (p : X → Bool) (xs : List X) (x : X) → find p xs ≡ Some x → p x ≡ true
found_passes p [] x e = absurd (none-some x e)
found_passes p (y ∷ ys) x e = go (λ f. found_passes p ys x f) (p y) refl
  where
    go : (find p ys ≡ Some x → p x ≡ true) → (b : Bool) → p y ≡ b → p x ≡ true
    go more true hit = ap p (sym (same_Some y x (rw hit at e))) ∙ hit
    go more false miss = more (rw miss at e)

find_before : {X : Type 0} (p : X → Bool) (xs ys : List X) (x : X) → find p xs ≡ Some x → find p (xs ++ ys) ≡ Some x
find_before p [] ys x e = absurd (none-some x e)
find_before p (z ∷ zs) ys x e = go (λ f. find_before p zs ys x f) (p z) refl
  where
    go : (find p zs ≡ Some x → find p (zs ++ ys) ≡ Some x) → (b : Bool) → p z ≡ b → find p ((z ∷ zs) ++ ys) ≡ Some x
    go more true hit = ap (λ (c : Bool). cond c (Some z) (find p (zs ++ ys))) hit ∙ (ap (λ (c : Bool). cond c (Some z) (find p zs)) (sym hit) ∙ e)
    go more false miss = ap (λ (c : Bool). cond c (Some z) (find p (zs ++ ys))) miss ∙ more (rw miss at e)

find_behind : {X : Type 0} (p : X → Bool) (xs ys : List X) → list_any p xs ≡ false → find p (xs ++ ys) ≡ find p ys
find_behind p [] ys none = refl
find_behind p (z ∷ zs) ys none =
    let q = neither _ _ none in
    ap (λ (c : Bool). cond c (Some z) (find p (zs ++ ys))) q.0 ∙ find_behind p zs ys q.1

find_none : {X : Type 0} (p : X → Bool) (xs : List X) → list_any p xs ≡ false → find p xs ≡ None
find_none p [] none = refl
find_none p (z ∷ zs) none =
    let q = neither _ _ none in
    ap (λ (c : Bool). cond c (Some z) (find p zs)) q.0 ∙ find_none p zs q.1

-- ---- defaults

abbrev left_out : CommandOption → Option Text → List Row
left_out c None = []
left_out c (Some v) = default_row c v ∷ []

abbrev filled_defaults : Option Text → List Text
filled_defaults d = (built_rule (record { name = []; takes = text; required = false; default = d })).defaults

defaulted : (c : CommandOption) (rs : List Row) → has_row c.name rs ≡ false → with_default rs (built_rule c) ≡ rs ++ left_out c c.default
defaulted c rs none =
    ap (λ (b : Bool). cond b rs (default_rows c.name (reading_by (built_rule c)) (filled_defaults c.default) rs)) none ∙ go c.default
  where
    go : (d : Option Text) → default_rows c.name (reading_by (built_rule c)) (filled_defaults d) rs ≡ rs ++ left_out c d
    go None = sym (append-nil rs)
    go (Some v) = at_row_none c.name (more_values DefaultValue (v ∷ [])) (default_row c v ∷ []) rs none

kept_default : (c : CommandOption) (rs : List Row) → has_row c.name rs ≡ true → with_default rs (built_rule c) ≡ rs
kept_default c rs there = ap (λ (b : Bool). cond b rs (default_rows c.name (reading_by (built_rule c)) (filled_defaults c.default) rs)) there

-- a row that is there stays the first of its id
keeps : (cs : List CommandOption) (id : Text) (rs : List Row) (r : Row) → find (has_id id) rs ≡ Some r → find (has_id id) (fold with_default rs (map built_rule cs)) ≡ Some r
keeps [] id rs r e = e
keeps (c ∷ cs) id rs r e = keeps cs id (with_default rs (built_rule c)) r (go (has_row c.name rs) refl)
  where
    go : (b : Bool) → has_row c.name rs ≡ b → find (has_id id) (with_default rs (built_rule c)) ≡ Some r
    go true there = ap (find (has_id id)) (kept_default c rs there) ∙ e
    go false none = ap (find (has_id id)) (defaulted c rs none) ∙ find_before (has_id id) rs (left_out c c.default) r e

-- options of other names add no row of an id
adds_none : (c : CommandOption) (id : Text) (rs : List Row) → bytes_eq c.name id ≡ false → has_row id rs ≡ false → has_row id (with_default rs (built_rule c)) ≡ false
adds_none c id rs other none = go (has_row c.name rs) refl
  where
    row_none : (d : Option Text) → list_any (has_id id) (left_out c d) ≡ false
    row_none None = refl
    row_none (Some v) = ap (λ (b : Bool). b || false) other

    go : (b : Bool) → has_row c.name rs ≡ b → has_row id (with_default rs (built_rule c)) ≡ false
    go true there = ap (has_row id) (kept_default c rs there) ∙ none
    go false missing = ap (has_row id) (defaulted c rs missing) ∙ list_any-append (has_id id) rs (left_out c c.default) ∙ ap₂ (λ (a b : Bool). a || b) none (row_none c.default)

none_more : (cs : List CommandOption) (id : Text) (rs : List Row) → list_any (λ c. bytes_eq c.name id) cs ≡ false → has_row id rs ≡ false → has_row id (fold with_default rs (map built_rule cs)) ≡ false
none_more [] id rs others none = none
none_more (c ∷ cs) id rs others none =
    let q = neither _ _ others in
    none_more cs id (with_default rs (built_rule c)) q.1 (adds_none c id rs q.0 none)

-- no two options have one name
abbrev pub AreApart : List CommandOption → Type 0
AreApart [] = Unit {0}
AreApart (c ∷ cs) = (list_any (λ d. bytes_eq d.name c.name) cs ≡ false) × AreApart cs

abbrev first_value : Option Row → Option Text
first_value o = option_and_then (λ r. slice_get r.values 0) o

fills : (cs : List CommandOption) (c : CommandOption) (rs : List Row) → AreApart cs → find (λ d. bytes_eq d.name c.name) cs ≡ Some c → has_row c.name rs ≡ false
    → first_value (find (has_id c.name) (fold with_default rs (map built_rule cs))) ≡ c.default
fills [] c rs apart e none = absurd (none-some c e)
fills (x ∷ xs) c rs apart e none = go (λ rs f n. fills xs c rs apart.1 f n) (bytes_eq x.name c.name) refl
  where
    mine : (d : Option Text) → with_default rs (built_rule c) ≡ rs ++ left_out c d → list_any (λ d. bytes_eq d.name c.name) xs ≡ false
        → first_value (find (has_id c.name) (fold with_default (with_default rs (built_rule c)) (map built_rule xs))) ≡ d
    mine None is others =
        let same : with_default rs (built_rule c) ≡ rs = is ∙ append-nil rs in
        ap first_value (find_none (has_id c.name) _ (none_more xs c.name (with_default rs (built_rule c)) others (ap (has_row c.name) same ∙ none)))
    mine (Some v) is others =
        ap first_value (keeps xs c.name (with_default rs (built_rule c)) (default_row c v)
        (ap (find (has_id c.name)) is ∙ find_behind (has_id c.name) rs (default_row c v ∷ []) none ∙ ap (λ (b : Bool). cond b (Some (default_row c v)) None) (same_text c.name)))

    go : ((rs : List Row) → find (λ d. bytes_eq d.name c.name) xs ≡ Some c → has_row c.name rs ≡ false → first_value (find (has_id c.name) (fold with_default rs (map built_rule xs))) ≡ c.default)
        → (b : Bool) → bytes_eq x.name c.name ≡ b → first_value (find (has_id c.name) (fold with_default rs (map built_rule (x ∷ xs)))) ≡ c.default
    go more true hit =
        let same : c ≡ x = sym (same_Some x c (rw hit at e)) in
        let others : list_any (λ d. bytes_eq d.name c.name) xs ≡ false = ap (λ (y : CommandOption). list_any (λ d. bytes_eq d.name y.name) xs) same ∙ apart.0 in
        subst (λ (y : CommandOption). first_value (find (has_id c.name) (fold with_default (with_default rs (built_rule y)) (map built_rule xs))) ≡ c.default) same
        (mine c.default (defaulted c rs none) others)
    go more false miss = more (with_default rs (built_rule x)) (rw miss at e) (adds_none x c.name rs miss none)

-- ---- what the uses leave for an id

abbrev Shown : Text → List Row → Option Text → Type 0
Shown id rs said =
    ((said ≡ None) × (has_row id rs ≡ false))
    ⊎ ((v : Text) × (r : Row) × (said ≡ Some v) × (find (has_id id) rs ≡ Some r) × (r.values ≡ v ∷ []) × (explicit_source r.source ≡ true))

shown : (options : List CommandOption) (uses : List Use) (each : Each (IsUseOf options) uses) (id : Text) → Shown id (rows (taken options uses each)) (value_said uses id)
shown options [] each id = inl (refl, refl)
shown options (u ∷ us) each id = go (shown options us each.1 id) (bytes_eq u.name id) refl
  where
    c : CommandOption
    c = each.0.0

    is : c.name ≡ u.name
    is = (bytes_eq-Decides c.name u.name).0 (found_passes (λ d. bytes_eq d.name u.name) options c each.0.1)

    rest : List Row
    rest = rows (taken options us each.1)

    go : Shown id rest (value_said us id) → (b : Bool) → bytes_eq u.name id ≡ b → Shown id (row (c, u.value) ∷ rest) (value_said (u ∷ us) id)
    go more true hit = inr (
      u.value,
      row (c, u.value),
      ap (λ (b : Bool). option_map (λ (w : Use). w.value) (cond b (Some u) (find (λ w. bytes_eq w.name id) us))) hit,
      ap (λ (b : Bool). cond b (Some (row (c, u.value))) (find (has_id id) rest)) (ap (λ (n : Text). bytes_eq n id) is ∙ hit),
      refl,
      refl,
    )
    go more false miss =
        let said : value_said (u ∷ us) id ≡ value_said us id = ap (λ (b : Bool). option_map (λ (w : Use). w.value) (cond b (Some u) (find (λ w. bytes_eq w.name id) us))) miss in
        let other : bytes_eq c.name id ≡ false = ap (λ (n : Text). bytes_eq n id) is ∙ miss in
        ⊎_elim
        (λ h. inl (said ∙ h.0, ap₂ (λ (a b : Bool). a || b) other h.1))
        (λ h. inr (h.0, h.1, said ∙ h.2, ap (λ (b : Bool). cond b (Some (row (c, u.value))) (find (has_id id) rest)) other ∙ h.3, h.4, h.5))
        more

-- what stands for an option at the end
pub stands : (options cs : List CommandOption) (uses : List Use) (each : Each (IsUseOf options) uses) (c : CommandOption) → AreApart cs → find (λ d. bytes_eq d.name c.name) cs ≡ Some c
    → first_of c.name (fold with_default (rows (taken options uses each)) (map built_rule cs)) ≡ value_or_default (value_said uses c.name) c.default
stands options cs uses each c apart found =
    ⊎_elim
    (λ h. fills cs c (rows (taken options uses each)) apart found h.1 ∙ ap (λ (o : Option Text). value_or_default o c.default) (sym h.0))
    (λ h. ap first_value (keeps cs c.name (rows (taken options uses each)) h.1 h.3) ∙ ap (λ (vs : List Text). slice_get vs 0) h.4 ∙ ap (λ (o : Option Text). value_or_default o c.default) (sym h.2))
    (shown options uses each c.name)

-- an option that was used is given
pub gives : (options cs : List CommandOption) (uses : List Use) (each : Each (IsUseOf options) uses) (id : Text) → IsSome (value_said uses id)
    → is_given id (fold with_default (rows (taken options uses each)) (map built_rule cs)) ≡ true
gives options cs uses each id said =
    ⊎_elim
    (λ h. absurd (true≢false (sym (sym (ap is_some h.0) ∙ said))))
    (λ h. ap (λ (o : Option Row). option_map_or (λ r. explicit_source r.source) o false) (keeps cs id (rows (taken options uses each)) h.1 h.3) ∙ h.5)
    (shown options uses each id)
