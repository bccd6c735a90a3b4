-- Reading gives exactly what a callback means.
use Rattle.std.proofs.Common.{◌≡◌, ℕ, ◌<◌, ◌≤◌, List, [], ◌∷◌, ◌++◌, length, Bool, true, false, Ok, Err, refl, sym, ap, subst, ◌∙◌, inl, inr, append-nil, append_assoc}
use Rattle.std.specs.Prelude.{◌⊎◌, ◌&&◌}
use Rattle.std.proofs.lemmas.Bool.{cases_lt, le-ltb, lt-ltb}
use Rattle.serde_json.specs.Data.{Data, null, boolean, number, string, array, object, Items, no_items, item}
use Rattle.serde_json.specs.View.{items_of}
use Rattle.api_messages.specs.Members.{Cell}
use Rattle.job_values.specs.declared.limits.TheConstants.{LONGEST_BODY, BATCH_ITEMS}
use Rattle.api_messages.specs.Meaning.{IsBody, IsNoJson, IsArray, IsBodyOf, HasBodyFault, AreObjects, MeansItem, MeansAll, IsItemFault, IsFirstFaultyItem, IsCallback, HasCallbackFault}
use Rattle.api_messages.specs.Reading.{◌>>=◌, value_at, item_in, one_item_at, list_of, all_objects, items_from, items_at, array_in, results_in, callbacks_at}
use Rattle.api_messages.specs.declared.fault.MessageFault.{MessageFault}
use Rattle.api_messages.specs.declared.fault.MessageFault.TheVariants as faults
use Rattle.api_messages.proofs.Bodies.{value_at-none}
use Rattle.api_messages.proofs.Items.{list_of-items_of, first, no_item}
use Rattle.api_messages.proofs.ExactRows.{bind_ok, bind_err}
use Rattle.api_messages.proofs.ExactOneItem.{item_is, item_has, item_fault, item_has_fault}
use Rattle.api_messages.proofs.ExactBodies.{value_at-long, body_value, value_is, value_fault, object_test, object_has, body_is, body_fault, body_has_fault}

-- ---- the items

abbrev Gave : List (List Cell) → List Data → List (List Cell) → Type 0
Gave before ds items = (own : List (List Cell)) × (items ≡ before ++ own) × MeansAll ds own

items_is : (before : List (List Cell)) (ds : List Data) (items : List (List Cell)) → items_from before ds ≡ Ok items → Gave before ds items
unfolding items_from
items_is before [] items e = ([], (let same : before ≡ items = cc in sym same ∙ sym (append-nil before)), tt)
items_is before (d ∷ ds) items e =
    let p = bind_ok (item_in d) _ items e in
    let q = items_is (before ++ p.0 ∷ []) ds items p.2 in
    (p.0 ∷ q.0, q.1 ∙ append_assoc before (p.0 ∷ []) q.0, (item_is d p.0 p.1, q.2))

items_has : (before : List (List Cell)) (ds : List Data) (own : List (List Cell)) → MeansAll ds own → items_from before ds ≡ Ok (before ++ own)
items_has before [] [] h = rw append-nil (no_item before)
items_has before [] (c ∷ cs) h = absurd h
items_has before (d ∷ ds) [] h = absurd h
items_has before (d ∷ ds) (c ∷ cs) h =
    first before d ds c (item_has d c h.0) ∙ items_has (before ++ c ∷ []) ds cs h.1 ∙ ap Ok (append_assoc before (c ∷ []) cs)

abbrev Faulty : List Data → MessageFault → Type 0
Faulty ds e = (name : List ℕ) × (e ≡ faults.Member name) × IsFirstFaultyItem ds name

items_fault : (before : List (List Cell)) (ds : List Data) (e : MessageFault) → items_from before ds ≡ Err e → Faulty ds e
unfolding items_from
items_fault before [] e h = absurd cc
items_fault before (d ∷ ds) e h =
    elim (bind_err (item_in d) _ e h) [
      | inl here ↦ let p = item_fault d e here in (p.0, p.1, ([], ds, d, [], refl, tt, p.2))
      | inr later ↦
          let q = items_fault (before ++ later.0 ∷ []) ds e later.2 in
          let f = q.2 in
          (q.0, q.1, (d ∷ f.0, f.1, f.2, later.0 ∷ f.3, ap (λ (xs : List Data). d ∷ xs) f.4, (item_is d later.0 later.1, f.5), f.6))
    ]

fault_at : (done_items : List (List Cell)) (before after : List Data) (d : Data) (items : List (List Cell)) (name : List ℕ) → MeansAll before items → IsItemFault d name → items_from done_items (before ++ d ∷ after) ≡ Err (faults.Member name)
unfolding items_from
fault_at done_items [] after d [] name h f = rw (item_has_fault d name f) refl
fault_at done_items [] after d (c ∷ cs) name h f = absurd h
fault_at done_items (x ∷ xs) after d [] name h f = absurd h
fault_at done_items (x ∷ xs) after d (c ∷ cs) name h f = rw (item_has x c h.0) (fault_at (done_items ++ c ∷ []) xs after d cs name h.1 f)

items_has_fault : (before : List (List Cell)) (ds : List Data) (name : List ℕ) → IsFirstFaultyItem ds name → items_from before ds ≡ Err (faults.Member name)
items_has_fault before ds name f = rw f.4 (fault_at before f.0 f.1 f.2 f.3 name f.5 f.6)

-- ---- the array

items_of-list_of : (is : Items) → items_of (list_of is) ≡ is
items_of-list_of no_items = refl
items_of-list_of (item d is) = ap (item d) (items_of-list_of is)

array_test : (d : Data) → ((ds : List Data) × IsArray d ds × (array_in d ≡ Ok ds)) ⊎ (((ds : List Data) → ¬ (IsArray d ds)) × (array_in d ≡ Err faults.WrongShape))
array_test (array is) = inl (list_of is, ap array (sym (items_of-list_of is)), refl)
array_test null = inr ((λ ds e. absurd cc), refl)
array_test (boolean b) = inr ((λ ds e. absurd cc), refl)
array_test (number n) = inr ((λ ds e. absurd cc), refl)
array_test (string s) = inr ((λ ds e. absurd cc), refl)
array_test (object ms) = inr ((λ ds e. absurd cc), refl)

array_has : (d : Data) (ds : List Data) → IsArray d ds → array_in d ≡ Ok ds
array_has d ds is = rw (is, list_of-items_of ds) refl

array_is : (d : Data) (ds : List Data) → array_in d ≡ Ok ds → IsArray d ds
array_is d ds e =
    elim (array_test d) [
      | inl p ↦ let k = p.2 in let same : p.0 ≡ ds = cc in subst (IsArray d) same p.1
      | inr p ↦ let k = p.1 in absurd cc
    ]

array_fault : (d : Data) (e : MessageFault) → array_in d ≡ Err e → (e ≡ faults.WrongShape) × ((ds : List Data) → ¬ (IsArray d ds))
array_fault d e h =
    elim (array_test d) [
      | inl p ↦ let k = p.2 in absurd cc
      | inr p ↦ let k = p.1 in (cc, p.0)
    ]

array_only : (d : Data) (xs ys : List Data) → IsArray d xs → IsArray d ys → xs ≡ ys
array_only d xs ys p q = let k = array_has d xs p in let l = array_has d ys q in cc

objects_pass : (ds : List Data) → AreObjects ds → all_objects ds ≡ true
objects_pass [] h = refl
objects_pass (d ∷ ds) h =
    elim (object_test d) [
      | inl p ↦ rw p.1 (objects_pass ds h.1)
      | inr p ↦ absurd (p.0 h.0)
    ]

objects_are : (ds : List Data) → all_objects ds ≡ true → AreObjects ds
objects_are [] e = tt
objects_are (d ∷ ds) e =
    elim (object_test d) [
      | inl p ↦ (p.0, objects_are ds (let k = p.1 in sym (ap (λ b. b && all_objects ds) k) ∙ e))
      | inr p ↦ let k : false ≡ true = sym (ap (λ b. b && all_objects ds) p.1) ∙ e in absurd cc
    ]

bool_test : (b : Bool) → (b ≡ true) ⊎ (b ≡ false)
bool_test true = inl refl
bool_test false = inr refl

objects_test : (ds : List Data) → AreObjects ds ⊎ ((¬ (AreObjects ds)) × (all_objects ds ≡ false))
objects_test ds =
    elim (bool_test (all_objects ds)) [
      | inl e ↦ inl (objects_are ds e)
      | inr e ↦ inr ((λ h. let k = objects_pass ds h in absurd cc), e)
    ]

results_pass : (ds : List Data) → AreObjects ds → length ds ≤ BATCH_ITEMS → results_in ds ≡ items_at ds
results_pass ds h few = rw (objects_pass ds h, le-ltb BATCH_ITEMS (length ds) few) refl

results_long : (ds : List Data) → AreObjects ds → BATCH_ITEMS < length ds → results_in ds ≡ Err faults.TooLong
results_long ds h long = rw (objects_pass ds h, lt-ltb BATCH_ITEMS (length ds) long) refl

results_shape : (ds : List Data) → all_objects ds ≡ false → results_in ds ≡ Err faults.WrongShape
results_shape ds e = rw e refl

results_is : (ds : List Data) (items : List (List Cell)) → results_in ds ≡ Ok items → AreObjects ds × ((length ds ≤ BATCH_ITEMS) × MeansAll ds items)
results_is ds items e =
    elim (objects_test ds) [
      | inr p ↦ let k = results_shape ds p.1 in absurd cc
      | inl objects ↦
          elim (cases_lt BATCH_ITEMS (length ds)) [
            | inl long ↦ let k = results_long ds objects long in absurd cc
            | inr few ↦
                let r = items_is [] ds items (sym (results_pass ds objects few) ∙ e) in
                (objects, (few, subst (MeansAll ds) (sym r.1) r.2))
          ]
    ]

results_fault : (bytes : List ℕ) (d : Data) (ds : List Data) (e : MessageFault) → IsBody bytes d → IsArray d ds → results_in ds ≡ Err e → HasCallbackFault bytes e
results_fault bytes d ds e body is h =
    elim (objects_test ds) [
      | inr p ↦
          let k = results_shape ds p.1 in
          let same : e ≡ faults.WrongShape = cc in
          rw same (d, body, λ q. p.0 (subst AreObjects (array_only d q.0 ds q.1 is) q.2))
      | inl objects ↦
          elim (cases_lt BATCH_ITEMS (length ds)) [
            | inl long ↦ let k = results_long ds objects long in let same : e ≡ faults.TooLong = cc in rw same (inr (d, ds, body, is, objects, long))
            | inr few ↦
                let f = items_fault [] ds e (sym (results_pass ds objects few) ∙ h) in
                rw f.1 (d, ds, body, is, objects, few, f.2)
          ]
    ]

-- ---- an item alone

pub alone_is : (bytes : List ℕ) (cells : List Cell) → one_item_at bytes ≡ Ok cells → IsBodyOf MeansItem bytes cells
unfolding one_item_at
alone_is bytes cells e = body_is item_in MeansItem bytes cells (λ d. item_is d cells) e

pub alone_has : (bytes : List ℕ) (cells : List Cell) → IsBodyOf MeansItem bytes cells → one_item_at bytes ≡ Ok cells
unfolding one_item_at
alone_has bytes cells m = rw (object_has bytes m.0 m.1 m.2) (item_has m.0 cells m.3)

pub alone_fault : (bytes : List ℕ) (e : MessageFault) → one_item_at bytes ≡ Err e → HasBodyFault IsItemFault bytes e
unfolding one_item_at
alone_fault bytes e h = body_fault item_in IsItemFault bytes e (λ d. item_fault d e) h

pub alone_has_fault : (bytes : List ℕ) (e : MessageFault) → HasBodyFault IsItemFault bytes e → one_item_at bytes ≡ Err e
unfolding one_item_at
alone_has_fault bytes e h = body_has_fault item_in IsItemFault bytes e item_has_fault h

-- ---- a callback

pub callback_is : (bytes : List ℕ) (items : List (List Cell)) → callbacks_at bytes ≡ Ok items → IsCallback bytes items
unfolding callbacks_at
callback_is bytes items e =
    let p = bind_ok (value_at bytes) _ items e in
    let q = bind_ok (array_in p.0) results_in items p.2 in
    let r = results_is q.0 items q.2 in
    (p.0, q.0, value_is bytes p.0 p.1, array_is p.0 q.0 q.1, r.0, r.1.0, r.1.1)

pub callback_has : (bytes : List ℕ) (items : List (List Cell)) → IsCallback bytes items → callbacks_at bytes ≡ Ok items
unfolding callbacks_at
callback_has bytes items m = rw (body_value bytes m.0 m.2, array_has m.0 m.1 m.3) (results_pass m.1 m.4 m.5 ∙ items_has [] m.1 items m.6)

of_value : (bytes : List ℕ) (e : MessageFault) → ((e ≡ faults.TooLong) × (LONGEST_BODY < length bytes)) ⊎ ((e ≡ faults.NotJson) × ((length bytes ≤ LONGEST_BODY) × IsNoJson bytes)) → HasCallbackFault bytes e
of_value bytes e (inl p) = rw p.0 (inl p.1)
of_value bytes e (inr p) = rw p.0 p.1

pub callback_fault : (bytes : List ℕ) (e : MessageFault) → callbacks_at bytes ≡ Err e → HasCallbackFault bytes e
unfolding callbacks_at
callback_fault bytes e h =
    elim (bind_err (value_at bytes) _ e h) [
      | inl early ↦ of_value bytes e (value_fault bytes e early)
      | inr p ↦
          elim (bind_err (array_in p.0) results_in e p.2) [
            | inl shape ↦ let s = array_fault p.0 e shape in rw s.0 (p.0, value_is bytes p.0 p.1, λ q. s.1 q.0 q.1)
            | inr q ↦ results_fault bytes p.0 q.0 e (value_is bytes p.0 p.1) (array_is p.0 q.0 q.1) q.2
          ]
    ]

shape_fault : (d : Data) → ¬ ((ds : List Data) × IsArray d ds × AreObjects ds) → (array_in d >>= results_in) ≡ Err faults.WrongShape
shape_fault d h =
    elim (array_test d) [
      | inr p ↦ rw p.1 refl
      | inl p ↦
          elim (objects_test p.0) [
            | inl objects ↦ absurd (h (p.0, p.1, objects))
            | inr q ↦ rw p.2 (results_shape p.0 q.1)
          ]
    ]

pub callback_has_fault : (bytes : List ℕ) (e : MessageFault) → HasCallbackFault bytes e → callbacks_at bytes ≡ Err e
unfolding callbacks_at
callback_has_fault bytes faults.TooLong (inl long) = rw (value_at-long bytes long) refl
callback_has_fault bytes faults.TooLong (inr m) = rw (body_value bytes m.0 m.2, array_has m.0 m.1 m.3) (results_long m.1 m.4 m.5)
callback_has_fault bytes faults.NotJson h = rw (value_at-none bytes h.0 h.1) refl
callback_has_fault bytes faults.WrongShape h = rw (body_value bytes h.0 h.1) (shape_fault h.0 h.2)
callback_has_fault bytes (faults.Member which) m = rw (body_value bytes m.0 m.2, array_has m.0 m.1 m.3) (results_pass m.1 m.4 m.5 ∙ items_has_fault [] m.1 which m.6)
callback_has_fault bytes faults.NoMemory h = absurd h
