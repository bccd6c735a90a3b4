-- What words are: `--name=value`, `--name`, and a value that does not begin with `-`.
use Rattle.std.proofs.Common.{◌≡◌, ◌≢◌, ◌∙◌, ◌+◌, ◌<◌, ◌&&◌, ◌||◌, ◌==◌, ℕ, Bool, true, false, not, cond, suc, refl, ap, ap₂, arith, [], ◌∷◌, ◌++◌, length, take, drop, Option, Some, None, slice_index, true≢false, ne_eqb, option_and_then}
use Rattle.std.specs.List.{before_first, after_first, position_or_len}
use Rattle.std.specs.Str.{bytes_eq}
use Rattle.std.proofs.lemmas.Slice.Eq.{bytes_eq-Decides}
use Rattle.std.proofs.Math.Seq.{take-append_seam, take-length}
use Rattle.clap.specs.Lexer.{has_byte, long_of, long_of_rest, short_of, short_of_rest, strip_byte}
use Rattle.clap.specs.Walk.{Text}

-- where one or the other is false, each is
pub neither : (a b : Bool) → (a || b) ≡ false → (a ≡ false) × (b ≡ false)
neither true b e = absurd (true≢false e)
neither false b e = (refl, e)

pub or_true : (a : Bool) → (a || true) ≡ true
or_true true = refl
or_true false = refl

pub same_text : (t : Text) → bytes_eq t t ≡ true
same_text t = (bytes_eq-Decides t t).1 refl

-- the first `=` stands behind a name that has none
first_equals : (name value : Text) → has_byte 61 name ≡ false → position_or_len (λ x. x == 61) (name ++ (61 ∷ value)) ≡ length name
first_equals [] value none = refl
first_equals (x ∷ xs) value none =
    let p = neither _ _ none in
    let rest = first_equals xs value p.1 in
    ap (λ (b : Bool). cond (not b) (1 + position_or_len (λ x. x == 61) (xs ++ (61 ∷ value))) 0) p.0 ∙ omega (arith, rest)

no_equals : (name : Text) → has_byte 61 name ≡ false → position_or_len (λ x. x == 61) name ≡ length name
no_equals [] none = refl
no_equals (x ∷ xs) none =
    let p = neither _ _ none in
    let rest = no_equals xs p.1 in
    ap (λ (b : Bool). cond (not b) (1 + position_or_len (λ x. x == 61) xs) 0) p.0 ∙ omega (arith, rest)

drop_front : (xs ys : Text) (y : ℕ) → drop (suc (length xs)) (xs ++ (y ∷ ys)) ≡ ys
drop_front [] ys y = refl
drop_front (x ∷ xs) ys y = drop_front xs ys y

has_equals : (name value : Text) → has_byte 61 (name ++ (61 ∷ value)) ≡ true
has_equals [] value = refl
has_equals (x ∷ xs) value = ap (λ (b : Bool). (x == 61) || b) (has_equals xs value) ∙ or_true (x == 61)

pub long_joined : (name value : Text) → 0 < length name → has_byte 61 name ≡ false → long_of (45 ∷ 45 ∷ (name ++ (61 ∷ value))) ≡ Some (name, Some value)
long_joined [] value some none = absurd (omega arith)
long_joined (x ∷ xs) value some none =
    let name : Text = x ∷ xs in
    let at = first_equals name value none in
    let front : before_first (λ y. y == 61) (name ++ (61 ∷ value)) ≡ name = ap (λ n. take n (name ++ (61 ∷ value))) at ∙ take-append_seam name (61 ∷ value) in
    let one_more : position_or_len (λ y. y == 61) (name ++ (61 ∷ value)) + 1 ≡ suc (length name) = omega (arith, at) in
    let behind : after_first (λ y. y == 61) (name ++ (61 ∷ value)) ≡ value = ap (λ n. drop n (name ++ (61 ∷ value))) one_more ∙ drop_front name value 61 in
    ap₂ (λ (n : Text) (o : Option Text). Some (n, o)) front
    (ap₂ (λ (b : Bool) (t : Text). cond b (Some t) None) (has_equals name value) behind)

pub long_apart : (name : Text) → 0 < length name → has_byte 61 name ≡ false → long_of (45 ∷ 45 ∷ name) ≡ Some (name, None)
long_apart [] some none = absurd (omega arith)
long_apart (x ∷ xs) some none =
    let name : Text = x ∷ xs in
    let front : before_first (λ y. y == 61) name ≡ name = ap (λ n. take n name) (no_equals name none) ∙ take-length name in
    ap₂ (λ (n : Text) (o : Option Text). Some (n, o)) front
    (ap (λ (b : Bool). cond b (Some (after_first (λ y. y == 61) name)) None) none)

pub more_than_dashes : (name rest : Text) → 0 < length name → bytes_eq (45 ∷ 45 ∷ (name ++ rest)) (45 ∷ 45 ∷ []) ≡ false
more_than_dashes [] rest some = absurd (omega arith)
more_than_dashes (x ∷ xs) rest some = refl

pub name_beyond_dashes : (name : Text) → 0 < length name → bytes_eq (45 ∷ 45 ∷ name) (45 ∷ 45 ∷ []) ≡ false
name_beyond_dashes [] some = absurd (omega arith)
name_beyond_dashes (x ∷ xs) some = refl

-- ---- a value that does not begin with `-`

pub no_long : (v : Text) → 0 < length v → slice_index v 0 ≢ 45 → long_of v ≡ None
no_long [] some plain = absurd (omega arith)
no_long (x ∷ xs) some plain =
    let other : (x == 45) ≡ false = ne_eqb _ _ plain in
    ap (λ (b : Bool). option_and_then long_of_rest (option_and_then (strip_byte 45) (cond b (Some xs) None))) other

pub no_short : (v : Text) → 0 < length v → slice_index v 0 ≢ 45 → short_of v ≡ None
no_short [] some plain = absurd (omega arith)
no_short (x ∷ xs) some plain =
    let other : (x == 45) ≡ false = ne_eqb _ _ plain in
    ap (λ (b : Bool). option_and_then short_of_rest (cond b (Some xs) None)) other

pub no_dashes : (v : Text) → 0 < length v → slice_index v 0 ≢ 45 → bytes_eq v (45 ∷ 45 ∷ []) ≡ false
no_dashes [] some plain = absurd (omega arith)
no_dashes (x ∷ xs) some plain =
    let other : (x == 45) ≡ false = ne_eqb _ _ plain in
    ap (λ (b : Bool). b && bytes_eq xs (45 ∷ [])) other
