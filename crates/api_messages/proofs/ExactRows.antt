-- Reading gives exactly what an object means, row by row.
use Rattle.std.proofs.Common.{◌≡◌, ℕ, List, [], ◌∷◌, ◌++◌, Result, Ok, Err, refl, sym, ap, ◌∙◌, inl, inr, append-nil, append_assoc}
use Rattle.std.specs.Prelude.{◌⊎◌}
use Rattle.serde_json.specs.Data.{Data}
use Rattle.api_messages.specs.Members.{Cell, Row}
use Rattle.api_messages.specs.Meaning.{Has, Means, IsFirstFaulty}
use Rattle.api_messages.specs.Reading.{◌>>=◌, cell_at, cells_from}
use Rattle.api_messages.specs.declared.fault.MessageFault.{MessageFault}
use Rattle.api_messages.specs.declared.fault.MessageFault.TheVariants as faults
use Rattle.api_messages.proofs.Exact.{cell_is, cell_has, cell_fault, cell_has_none}
use Rattle.api_messages.proofs.Rows.{next, done}

pub bind_ok : {A B : Type 0} (r : Result A MessageFault) (f : A → Result B MessageFault) (y : B) → (r >>= f) ≡ Ok y → (x : A) × (r ≡ Ok x) × (f x ≡ Ok y)
bind_ok (Ok x) f y e = (x, refl, e)
bind_ok (Err d) f y e = absurd cc

pub bind_err : {A B : Type 0} (r : Result A MessageFault) (f : A → Result B MessageFault) (e : MessageFault) → (r >>= f) ≡ Err e → (r ≡ Err e) ⊎ ((x : A) × (r ≡ Ok x) × (f x ≡ Err e))
bind_err (Ok x) f e h = inr (x, refl, h)
bind_err (Err d) f e h = inl cc

-- what the rows give, behind what stands before
abbrev Gave : List Cell → List Row → Data → List Cell → Type 0
Gave before rows d cells = (own : List Cell) × (cells ≡ before ++ own) × Means rows d own

pub cells_is : (before : List Cell) (rows : List Row) (d : Data) (cells : List Cell) → cells_from before rows d ≡ Ok cells → Gave before rows d cells
unfolding cells_from
cells_is before [] d cells e = ([], (let same : before ≡ cells = cc in sym same ∙ sym (append-nil before)), tt)
cells_is before (row ∷ rows) d cells e =
    let p = bind_ok (cell_at row d) _ cells e in
    let q = cells_is (before ++ p.0 ∷ []) rows d cells p.2 in
    (p.0 ∷ q.0, q.1 ∙ append_assoc before (p.0 ∷ []) q.0, (cell_is row d p.0 p.1, q.2))

pub cells_has : (before : List Cell) (rows : List Row) (d : Data) (own : List Cell) → Means rows d own → cells_from before rows d ≡ Ok (before ++ own)
cells_has before [] d [] h = rw append-nil (done before d)
cells_has before [] d (c ∷ cs) h = absurd h
cells_has before (row ∷ rows) d [] h = absurd h
cells_has before (row ∷ rows) d (c ∷ cs) h =
    next _ before row rows d c (cell_has row d c h.0) (cells_has (before ++ c ∷ []) rows d cs h.1 ∙ ap Ok (append_assoc before (c ∷ []) cs))

abbrev Faulty : List Row → Data → MessageFault → Type 0
Faulty rows d e = (name : List ℕ) × (e ≡ faults.Member name) × IsFirstFaulty rows d name

pub cells_fault : (before : List Cell) (rows : List Row) (d : Data) (e : MessageFault) → cells_from before rows d ≡ Err e → Faulty rows d e
unfolding cells_from
cells_fault before [] d e h = absurd cc
cells_fault before (row ∷ rows) d e h =
    elim (bind_err (cell_at row d) _ e h) [
      | inl here ↦ let p = cell_fault row d e here in (row.name, p.0, ([], rows, row, [], refl, tt, p.1, refl))
      | inr later ↦
          let q = cells_fault (before ++ later.0 ∷ []) rows d e later.2 in
          let f = q.2 in
          (q.0, q.1, (row ∷ f.0, f.1, f.2, later.0 ∷ f.3, ap (λ (rs : List Row). row ∷ rs) f.4, (cell_is row d later.0 later.1, f.5), f.6, f.7))
    ]

fault_at : (done_cells : List Cell) (before after : List Row) (row : Row) (d : Data) (cells : List Cell) → Means before d cells → ((c : Cell) → ¬ (Has row d c)) → cells_from done_cells (before ++ row ∷ after) d ≡ Err (faults.Member row.name)
unfolding cells_from
fault_at done_cells [] after row d [] h no_value = rw (cell_has_none row d no_value) refl
fault_at done_cells [] after row d (c ∷ cs) h no_value = absurd h
fault_at done_cells (r ∷ rs) after row d [] h no_value = absurd h
fault_at done_cells (r ∷ rs) after row d (c ∷ cs) h no_value = rw (cell_has r d c h.0) (fault_at (done_cells ++ c ∷ []) rs after row d cs h.1 no_value)

pub cells_has_fault : (before : List Cell) (rows : List Row) (d : Data) (name : List ℕ) → IsFirstFaulty rows d name → cells_from before rows d ≡ Err (faults.Member name)
cells_has_fault before rows d name f = rw (f.4, f.7) (fault_at before f.0 f.1 f.2 d f.3 f.5 f.6)
