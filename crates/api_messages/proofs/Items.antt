-- The items of a callback are read one by one.
use Rattle.std.proofs.Common.{◌≡◌, ℕ, ◌+◌, ◌<◌, ◌≤◌, List, [], ◌∷◌, ◌++◌, length, get_or, drop, map, Bool, true, false, Some, None, Result, Ok, Err, refl, sym, ap, ◌∙◌, inl, inr}
use Rattle.std.proofs.lemmas.List.{drop_all, drop_more, length-map}
use Rattle.std.proofs.lemmas.Bool.{le-ltb, lt-ltb}
use Rattle.std.proofs.lemmas.List.Folds.{list_all-map}
use Rattle.std.specs.List.{list_all}
use Rattle.serde_json.specs.Data.{Data}
use Rattle.serde_json.specs.View.{view, items_of, items_view}
use Rattle.serde_json.specs.Find.{as_array}
use Rattle.serde_json.specs.declared.value.Value.{Value}
use Rattle.api_messages.specs.Members.{Cell}
use Rattle.api_messages.specs.Reading.{Fails, item_in, items_from, items_at, is_object, list_of, array_in, results_in}
use Rattle.job_values.specs.declared.limits.TheConstants.{BATCH_ITEMS}
use Rattle.api_messages.specs.declared.fault.MessageFault.{MessageFault}
use Rattle.api_messages.specs.declared.fault.MessageFault.TheVariants.{WrongShape, TooLong}

-- an item before the others
pub first : (before : List (List Cell)) (d : Data) (ds : List Data) (cs : List Cell) → item_in d ≡ Ok cs → items_from before (d ∷ ds) ≡ items_from (before ++ cs ∷ []) ds
unfolding items_from
first before d ds cs is = rw is refl

pub first_fault : (e : MessageFault) (before : List (List Cell)) (d : Data) (ds : List Data) → Fails e (item_in d) → Fails e (items_from before (d ∷ ds))
unfolding items_from
first_fault e before d ds (inl memory) = inl memory
first_fault e before d ds (inr is) = rw is (inr refl)

pub no_item : (before : List (List Cell)) → items_from before [] ≡ Ok before
unfolding items_from
no_item before = refl

-- what is left at an index
left : (values : List Value) (i : ℕ) (value : Value) → i < length values → value ≡ get_or values i value → map view (drop i values) ≡ view value ∷ map view (drop (i + 1) values)
left values i value h is = rw (drop_more values i value h, ← is) refl

pub goes_on : (values : List Value) (i : ℕ) (value : Value) (before : List (List Cell)) (cs : List Cell) (given : Result (List (List Cell)) MessageFault)
    → i < length values → value ≡ get_or values i value → item_in (view value) ≡ Ok cs → items_from before (map view (drop i values)) ≡ given
    → items_from (before ++ cs ∷ []) (map view (drop (i + 1) values)) ≡ given
goes_on values i value before cs given h is reads so_far = sym (ap (items_from before) (left values i value h is) ∙ first before (view value) _ cs reads) ∙ so_far

pub stops : (values : List Value) (i : ℕ) (value : Value) (before : List (List Cell)) (e : MessageFault) (given : Result (List (List Cell)) MessageFault)
    → i < length values → value ≡ get_or values i value → Fails e (item_in (view value)) → items_from before (map view (drop i values)) ≡ given → Fails e given
stops values i value before e given h is fault so_far = rw (sym so_far, left values i value h is) (first_fault e before (view value) _ fault)

pub ends : (values : List Value) (i : ℕ) (before : List (List Cell)) (given : Result (List (List Cell)) MessageFault) → length values ≤ i → items_from before (map view (drop i values)) ≡ given → given ≡ Ok before
ends values i before given h so_far = sym so_far ∙ rw (drop_all i values h) (no_item before)

pub list_of-items_of : (ds : List Data) → list_of (items_of ds) ≡ ds
list_of-items_of [] = refl
list_of-items_of (d ∷ ds) = ap (λ x. d ∷ x) (list_of-items_of ds)

pub not_objects : (values : List Value) (b : Bool) → b ≡ list_all (λ value. is_object (view value)) values → b ≡ false → results_in (map view values) ≡ Err WrongShape
not_objects values b is fails = rw (list_all-map is_object view values, ← is, fails) refl

pub too_long : (values : List Value) (b : Bool) → b ≡ list_all (λ value. is_object (view value)) values → b ≡ true → BATCH_ITEMS < length values → results_in (map view values) ≡ Err TooLong
too_long values b is holds long = rw (list_all-map is_object view values, ← is, holds, length-map values view, lt-ltb BATCH_ITEMS (length values) long) refl

pub objects : (values : List Value) (b : Bool) → b ≡ list_all (λ value. is_object (view value)) values → b ≡ true → length values ≤ BATCH_ITEMS → results_in (map view values) ≡ items_at (map view values)
objects values b is holds short = rw (list_all-map is_object view values, ← is, holds, length-map values view, le-ltb BATCH_ITEMS (length values) short) refl

pub of_array : (d : Data) (values : List Value) → Some (items_view values) ≡ as_array d → array_in d ≡ Ok (map view values)
of_array d values is = rw (← is, list_of-items_of (map view values)) refl

pub no_array : (d : Data) → None ≡ as_array d → array_in d ≡ Err WrongShape
no_array d is = rw (← is) refl
