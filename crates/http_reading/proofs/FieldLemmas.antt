-- The values of fields, one field after another.
use Rattle.std.proofs.Common.{◌≡◌, ℕ, ◌+◌, ◌<◌, true, false, ◌||◌, cond, List, [], ◌∷◌, ◌++◌, length, get_or, take, drop, map, refl, sym, ap, ◌∙◌}
use Rattle.std.specs.Str.{str_eq_ignore_ascii_case}
use Rattle.std.specs.List.{list_any}
use Rattle.std.specs.Prelude.{codes}
use Rattle.std.proofs.lemmas.List.{take_more, map-append, take-append-drop}
use Rattle.std.proofs.lemmas.List.Folds.{list_any-append}
use Rattle.httparse.specs.declared.spans.Span.{Span}
use Rattle.httparse.specs.Spans.{span_bytes}
use Rattle.http_reading.specs.Plans.{values_of, value_if, is_close, has_close}
use Rattle.http_reading.specs.Found.{IsFound}
use Rattle.http_reading.specs.declared.fields.Found.TheVariants.{One, More}

pub values_push : (name : List ℕ) (fs : List (List ℕ × List ℕ)) (f : List ℕ × List ℕ)
    → values_of name (fs ++ f ∷ []) ≡ values_of name fs ++ value_if name f
values_push name [] f = elim (str_eq_ignore_ascii_case f.0 name) as (λ b. cond b (f.1 ∷ []) [] ≡ [] ++ cond b (f.1 ∷ []) []) [ true ↦ refl | false ↦ refl ]
values_push name (g ∷ fs) f =
    elim (str_eq_ignore_ascii_case g.0 name) as (λ b. cond b (g.1 ∷ values_of name (fs ++ f ∷ [])) (values_of name (fs ++ f ∷ []))
    ≡ cond b (g.1 ∷ values_of name fs) (values_of name fs) ++ value_if name f) [
      | true ↦ ap (λ (t : List (List ℕ)). g.1 ∷ t) (values_push name fs f)
      | false ↦ values_push name fs f
    ]

-- one header more
pub values_more : {H : Type 0} (pair : H → List ℕ × List ℕ) (name : List ℕ) (hs : List H) (i : ℕ) (d : H) → i < length hs
    → values_of name (map pair (take (i + 1) hs)) ≡ values_of name (map pair (take i hs)) ++ value_if name (pair (get_or hs i d))
values_more pair name hs i d inside =
    ap (λ t. values_of name (map pair t)) (take_more hs i d inside)
    ∙ ap (values_of name) (map-append pair (take i hs) (get_or hs i d ∷ []))
    ∙ values_push name (map pair (take i hs)) (pair (get_or hs i d))

-- no field up to here closes, and one more does or does not
pub close_more : {H : Type 0} (pair : H → List ℕ × List ℕ) (hs : List H) (i : ℕ) (d : H) → i < length hs
    → has_close (map pair (take i hs)) ≡ false
    → has_close (map pair (take (i + 1) hs)) ≡ list_any is_close (value_if (codes "connection") (pair (get_or hs i d)))
close_more pair hs i d inside none =
    ap (list_any is_close) (values_more pair (codes "connection") hs i d inside)
    ∙ list_any-append is_close (values_of (codes "connection") (map pair (take i hs))) (value_if (codes "connection") (pair (get_or hs i d)))
    ∙ ap (λ b. b || list_any is_close (value_if (codes "connection") (pair (get_or hs i d)))) none

values_split : (name : List ℕ) (fs gs : List (List ℕ × List ℕ)) → values_of name (fs ++ gs) ≡ values_of name fs ++ values_of name gs
values_split name [] gs = refl
values_split name (f ∷ fs) gs =
    elim (str_eq_ignore_ascii_case f.0 name) as (λ b. cond b (f.1 ∷ values_of name (fs ++ gs)) (values_of name (fs ++ gs))
    ≡ cond b (f.1 ∷ values_of name fs) (values_of name fs) ++ values_of name gs) [
      | true ↦ ap (λ (t : List (List ℕ)). f.1 ∷ t) (values_split name fs gs)
      | false ↦ values_split name fs gs
    ]

-- a field up to here closes
pub close_found : {H : Type 0} (pair : H → List ℕ × List ℕ) (hs : List H) (i : ℕ)
    → has_close (map pair (take i hs)) ≡ true → has_close (map pair hs) ≡ true
close_found pair hs i found =
    ap (λ t. has_close (map pair t)) (sym (take-append-drop i hs))
    ∙ ap has_close (map-append pair (take i hs) (drop i hs))
    ∙ ap (list_any is_close) (values_split (codes "connection") (map pair (take i hs)) (map pair (drop i hs)))
    ∙ list_any-append is_close (values_of (codes "connection") (map pair (take i hs))) (values_of (codes "connection") (map pair (drop i hs)))
    ∙ ap (λ b. b || has_close (map pair (drop i hs))) found

-- ---- values that were found

pub found_second : (bytes : List ℕ) (values : List (List ℕ)) (first value : Span) → IsFound bytes (One first) values
    → IsFound bytes (More first) (values ++ span_bytes bytes value ∷ [])
found_second bytes values first value h = (h.0, (span_bytes bytes value, [], ap (λ (t : List (List ℕ)). t ++ span_bytes bytes value ∷ []) h.1))

pub found_more : (bytes : List ℕ) (values : List (List ℕ)) (first value : Span) → IsFound bytes (More first) values
    → IsFound bytes (More first) (values ++ span_bytes bytes value ∷ [])
found_more bytes values first value h =
    (h.0, (h.1.0, h.1.1 ++ span_bytes bytes value ∷ [], ap (λ (t : List (List ℕ)). t ++ span_bytes bytes value ∷ []) h.1.2))
