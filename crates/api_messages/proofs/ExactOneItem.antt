-- Reading gives exactly what an item means.
use Rattle.std.proofs.Common.{◌≡◌, ℕ, List, [], ◌∷◌, codes, Result, Ok, Err, refl, sym, subst, ◌∙◌, inl, inr}
use Rattle.std.specs.Prelude.{◌⊎◌}
use Rattle.serde_json.specs.Data.{Data}
use Rattle.api_messages.specs.Members.{Cell}
use Rattle.api_messages.specs.Tables.{told_rows, place_rows, result_rows}
use Rattle.api_messages.specs.Meaning.{Means, IsOlder, MeansResult, Tells, MeansItem, IsToldFault, IsItemFault}
use Rattle.api_messages.specs.Reading.{cells_at, result_in, told_in, item_in}
use Rattle.api_messages.specs.declared.fault.MessageFault.{MessageFault}
use Rattle.api_messages.specs.declared.fault.MessageFault.TheVariants as faults
use Rattle.api_messages.proofs.Exact.{absent_is, there_is, presence}
use Rattle.api_messages.proofs.ExactRows.{bind_ok, bind_err, cells_is, cells_has, cells_fault, cells_has_fault}
use Rattle.api_messages.proofs.ExactBodies.{object_test}
use Rattle.api_messages.proofs.OneItem.{no_result, whole, faulty_result, first_form, no_form, older_form, told_then}

-- ---- the executeResult

read_test : (r : Result (List Cell) MessageFault) → ((cells : List Cell) × (r ≡ Ok cells)) ⊎ ((e : MessageFault) × (r ≡ Err e))
read_test (Ok cells) = inl (cells, refl)
read_test (Err e) = inr (e, refl)

result_test : (d : Data) → ((told : List Cell) × MeansResult d told × (result_in d ≡ Ok told)) ⊎ (((told : List Cell) → ¬ (MeansResult d told)) × (result_in d ≡ Err (faults.Member (codes "executeResult"))))
result_test d =
    elim (object_test d) [
      | inr p ↦ inr ((λ told m. p.0 m.0), no_result d p.1)
      | inl p ↦
          elim (read_test (cells_at result_rows d)) [
            | inl q ↦ let r = cells_is [] result_rows d q.0 q.1 in inl (q.0, (p.0, subst (Means result_rows d) (sym r.1) r.2), whole d q.0 p.1 q.1)
            | inr q ↦ inr ((λ told m. let k = cells_has [] result_rows d told m.1 in let l = q.1 in absurd cc), faulty_result d q.0 p.1 q.1)
          ]
    ]

result_has : (d : Data) (told : List Cell) → MeansResult d told → result_in d ≡ Ok told
result_has d told m =
    elim (object_test d) [
      | inl p ↦ whole d told p.1 (cells_has [] result_rows d told m.1)
      | inr p ↦ absurd (p.0 m.0)
    ]

-- ---- the code and the text

older_is : (d result : Data) → IsOlder d result → told_in d ≡ result_in result
older_is d result o = older_form d result (absent_is (codes "handleCode") d o.no_code) (there_is (codes "executeResult") d result o.is o.some)

form : (d : Data) → ((result : Data) × IsOlder d result × (told_in d ≡ result_in result)) ⊎ (((result : Data) → ¬ (IsOlder d result)) × (told_in d ≡ cells_at told_rows d))
form d =
    elim (presence (codes "handleCode") d) [
      | inr p ↦ inr ((λ result o. let k = absent_is (codes "handleCode") d o.no_code in let l = p.3 in absurd cc), first_form d p.0 p.3)
      | inl p ↦
          elim (presence (codes "executeResult") d) [
            | inl q ↦ inr ((λ result o. let k = there_is (codes "executeResult") d result o.is o.some in let l = q.1 in absurd cc), no_form d p.1 q.1)
            | inr q ↦ let o : IsOlder d q.0 = record { no_code = p.0; is = q.1; some = q.2 } in inl (q.0, o, older_is d q.0 o)
          ]
    ]

told_is : (d : Data) (told : List Cell) → told_in d ≡ Ok told → Tells d told
told_is d told e =
    elim (form d) [
      | inr p ↦ let r = cells_is [] told_rows d told (sym p.1 ∙ e) in inl (subst (Means told_rows d) (sym r.1) r.2)
      | inl p ↦
          elim (result_test p.0) [
            | inl q ↦ let k = p.2 in let l = q.2 in let same : q.0 ≡ told = cc in inr (p.0, p.1, subst (MeansResult p.0) same q.1)
            | inr q ↦ let k = p.2 in let l = q.1 in absurd cc
          ]
    ]

told_has : (d : Data) (told : List Cell) → Tells d told → told_in d ≡ Ok told
told_has d told (inr m) = older_is d m.0 m.1 ∙ result_has m.0 told m.2
told_has d [] (inl m) = absurd m
told_has d (c ∷ cs) (inl m) =
    elim m.0 [
      | inl h ↦ let e = h.1 in absurd cc
      | inr h ↦ first_form d h.0 (there_is (codes "handleCode") d h.0 h.1 h.2) ∙ cells_has [] told_rows d (c ∷ cs) m
    ]

told_fault : (d : Data) (e : MessageFault) → told_in d ≡ Err e → (name : List ℕ) × (e ≡ faults.Member name) × IsToldFault d name
told_fault d e h =
    elim (form d) [
      | inr p ↦ let f = cells_fault [] told_rows d e (sym p.1 ∙ h) in (f.0, f.1, inl (p.0, f.2))
      | inl p ↦
          elim (result_test p.0) [
            | inl q ↦ let k = p.2 in let l = q.2 in absurd cc
            | inr q ↦ let k = p.2 in let l = q.1 in (codes "executeResult", cc, inr (p.0, p.1, q.0, refl))
          ]
    ]

told_has_fault : (d : Data) (name : List ℕ) → IsToldFault d name → told_in d ≡ Err (faults.Member name)
told_has_fault d name (inl f) =
    elim (form d) [
      | inl p ↦ absurd (f.0 p.0 p.1)
      | inr p ↦ p.1 ∙ cells_has_fault [] told_rows d name f.1
    ]
told_has_fault d name (inr f) =
    elim (result_test f.0) [
      | inl q ↦ absurd (f.2 q.0 q.1)
      | inr q ↦ rw f.3 (older_is d f.0 f.1 ∙ q.1)
    ]

-- ---- the item

pub item_is : (d : Data) (cells : List Cell) → item_in d ≡ Ok cells → MeansItem d cells
unfolding item_in
item_is d cells e =
    let p = bind_ok (told_in d) _ cells e in
    let r = cells_is p.0 place_rows d cells p.2 in
    (p.0, r.0, told_is d p.0 p.1, r.2, r.1)

pub item_has : (d : Data) (cells : List Cell) → MeansItem d cells → item_in d ≡ Ok cells
item_has d cells m = rw m.4 (told_then d m.0 (told_has d m.0 m.2) ∙ cells_has m.0 place_rows d m.1 m.3)

pub item_fault : (d : Data) (e : MessageFault) → item_in d ≡ Err e → (name : List ℕ) × (e ≡ faults.Member name) × IsItemFault d name
unfolding item_in
item_fault d e h =
    elim (bind_err (told_in d) _ e h) [
      | inl early ↦ let f = told_fault d e early in (f.0, f.1, inl f.2)
      | inr p ↦ let f = cells_fault p.0 place_rows d e p.2 in (f.0, f.1, inr ((p.0, told_is d p.0 p.1), f.2))
    ]

pub item_has_fault : (d : Data) (name : List ℕ) → IsItemFault d name → item_in d ≡ Err (faults.Member name)
unfolding item_in
item_has_fault d name (inl f) = rw (told_has_fault d name f) refl
item_has_fault d name (inr f) = told_then d f.0.0 (told_has d f.0.0 f.0.1) ∙ cells_has_fault f.0.0 place_rows d name f.1
