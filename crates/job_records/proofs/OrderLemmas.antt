-- Lemmas on the order of the registrations: those that rise are split by a key and a value.
use Rattle.std.proofs.Common.{◌≡◌, ℕ, ◌⊎◌, inl, inr, List, ◌&&◌, not, get_or, refl, sym, ap, ◌∙◌}
use Rattle.std.specs.declared.cmp.Ordering.{Ordering}
use Rattle.std.specs.declared.cmp.Ordering.TheVariants.{Less, Equal, Greater}
use Rattle.std.specs.Cmp.{IsTotalOrder}
use Rattle.std.specs.Cmp.Lexicographic.{slice_cmp, texts_ties}
use Rattle.std.specs.List.{filter}
use Rattle.std.specs.Ordering.{nat_cmp, ordering_then, ordering_reverse, is_eq}
use Rattle.std.specs.Prelude.{bytes_eq}
use Rattle.std.proofs.lemmas.Cmp.{nat_list_cmp_total, on_total, then_total}
use Rattle.std.proofs.lemmas.List.Elements.{filter_agree}
use Rattle.job_records.specs.declared.registry.RegistryRow.{RegistryRow}
use Rattle.job_records.specs.Order.{key_order, RisesByKey, is_registered}
use Rattle.rising_rows.specs.Seats.{IsSplitBy}

-- of two that rise, the lower is below a third or the higher is above it
pub split-ordered : {K : Type 0} {R : K → K → Ordering} (o : IsTotalOrder R) (a b c : K) (r : Ordering) → R a c ≡ r → R a b ≡ Less → (R a c ≡ Less) ⊎ (R b c ≡ Greater)
split-ordered o a b c Less is less = inl is
split-ordered {R = R} o a b c Equal is less =
    let below : R c b ≡ Less = sym (o.congr a c b is) ∙ less in
    inr (o.antisymm b c ∙ ap ordering_reverse below)
split-ordered {R = R} o a b c Greater is less =
    let under : R c a ≡ Less = o.antisymm c a ∙ ap ordering_reverse is in
    let below : R c b ≡ Less = o.trans c a b under less in
    inr (o.antisymm b c ∙ ap ordering_reverse below)

-- the order of registrations
abbrev pub row_cmp : RegistryRow → RegistryRow → Ordering
row_cmp a b = key_order b.key b.value a

pub row_cmp-total : IsTotalOrder row_cmp
row_cmp-total = then_total (on_total (λ (row : RegistryRow). row.key) nat_list_cmp_total) (on_total (λ (row : RegistryRow). row.value) nat_list_cmp_total)

-- a registration with this key and this value
abbrev pub row_of_key : List ℕ → List ℕ → RegistryRow
row_of_key key value = record { key = key; value = value; beat = 0 }

-- registrations that rise are split by a key and a value
pub split-by_key : (key value : List ℕ) (rows : List RegistryRow) → RisesByKey rows → IsSplitBy (key_order key value) rows
split-by_key key value rows rises i j d before within =
    split-ordered row_cmp-total (get_or rows i d) (get_or rows j d) (row_of_key key value) (row_cmp (get_or rows i d) (row_of_key key value)) refl (rises i j d before within)

tied-then : (a b : Ordering) → is_eq (ordering_then a b) ≡ (is_eq a && is_eq b)
tied-then Less b = refl
tied-then Equal b = refl
tied-then Greater b = refl

-- a registration has a key and a value where it is equal to them in the order
pub registered-order : (key value : List ℕ) (row : RegistryRow) → is_eq (key_order key value row) ≡ is_registered key value row
registered-order key value row =
    tied-then (slice_cmp nat_cmp row.key key) (slice_cmp nat_cmp row.value value)
    ∙ ap (λ b. b && is_eq (slice_cmp nat_cmp row.value value)) (sym (texts_ties row.key key))
    ∙ ap (λ b. bytes_eq row.key key && b) (sym (texts_ties row.value value))

pub unregistered-order : (key value : List ℕ) (rows : List RegistryRow) → filter (λ row. not (is_eq (key_order key value row))) rows ≡ filter (λ row. not (is_registered key value row)) rows
unregistered-order key value rows = filter_agree (λ row. not (is_eq (key_order key value row))) (λ row. not (is_registered key value row)) (λ row. ap not (registered-order key value row)) rows
