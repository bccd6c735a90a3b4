-- Lemmas on drops of registrations that rise by key and value.
use Rattle.std.proofs.Common.{◌≡◌, ℕ, ◌+◌, ◌-◌, ◌<◌, ◌≤◌, List, length, get_or, take, refl, ap, ◌∙◌, sym, ⊎_elim, arith}
use Rattle.std.specs.declared.cmp.Ordering.TheVariants.{Less}
use Rattle.std.specs.List.{AllPairs}
use Rattle.std.proofs.lemmas.Bool.{cases_lt}
use Rattle.std.proofs.lemmas.List.{get_or-take, length-take}
use Rattle.rising_rows.specs.Seats.{IsSplitBy}
use Rattle.job_records.specs.declared.change.Change.{Change}
use Rattle.job_records.specs.declared.registry.RegistryRow.{RegistryRow}
use Rattle.job_records.specs.DropBatches.{drops_registration, dropped_row, drop_order, IsBelow, AreRegistryDrops, GoesOn}
use Rattle.job_records.proofs.OrderLemmas.{row_cmp, row_cmp-total, row_of_key, split-ordered}

-- drops that rise are split by a key and a value
pub split-drops : (key value : List ℕ) (drops : List Change) → AllPairs IsBelow drops → IsSplitBy (drop_order key value) drops
split-drops key value drops rises i j d before within =
    split-ordered row_cmp-total (dropped_row (get_or drops i d)) (dropped_row (get_or drops j d)) (row_of_key key value)
    (row_cmp (dropped_row (get_or drops i d)) (row_of_key key value)) refl (rises i j d before within)

-- rows that rise up to a place, and from the one before it to it, rise up to and with that place
chain : (f : ℕ → RegistryRow) (place : ℕ) → ((i j : ℕ) → i < j → j < place → row_cmp (f i) (f j) ≡ Less) → (0 < place → row_cmp (f (place - 1)) (f place) ≡ Less) → (i j : ℕ) → i < j → j < place + 1 → row_cmp (f i) (f j) ≡ Less
chain f place sofar next i j before within =
    ⊎_elim (λ (inside : j < place). sofar i j before inside)
    (λ (outside : place ≤ j).
    let last : j ≡ place = omega arith in
    let step : row_cmp (f (place - 1)) (f place) ≡ Less = next (omega arith) in
    ap (λ (n : ℕ). row_cmp (f i) (f n)) last
    ∙ ⊎_elim (λ (early : i < place - 1). row_cmp-total.trans (f i) (f (place - 1)) (f place) (sofar i (place - 1) early (omega arith)) step)
    (λ (late : place - 1 ≤ i). let same : i ≡ place - 1 = omega arith in ap (λ (n : ℕ). row_cmp (f n) (f place)) same ∙ step)
    (cases_lt i (place - 1)))
    (cases_lt j place)

-- drops that rise up to a place rise with the change at that place, if it goes on
pub goes-on : (changes : List Change) (place : ℕ) → place < length changes → AreRegistryDrops (take place changes) → GoesOn changes place → AreRegistryDrops (take (place + 1) changes)
goes-on changes place lt sofar next = record {
  all = λ k d within.
      let short : k < place + 1 = omega (arith, length-take (place + 1) changes) in
      let read : get_or (take (place + 1) changes) k d ≡ get_or changes k d = get_or-take (place + 1) changes k d short in
      ⊎_elim (λ (before : k < place).
      ap drops_registration (read ∙ sym (get_or-take place changes k d before)) ∙ sofar.all k d (omega (arith, length-take place changes)))
      (λ (after : place ≤ k).
      let same : k ≡ place = omega arith in
      ap drops_registration (read ∙ ap (λ (n : ℕ). get_or changes n d) same) ∙ next.drop d)
      (cases_lt k place);
  rising = λ i j d before within.
      let short : j < place + 1 = omega (arith, length-take (place + 1) changes) in
      rw (get_or-take (place + 1) changes i d (omega arith), get_or-take (place + 1) changes j d short)
      (chain (λ n. dropped_row (get_or changes n d)) place
      (λ m n less inside. rw (get_or-take place changes m d (omega arith), get_or-take place changes n d inside) at (sofar.rising m n d less (omega (arith, length-take place changes))))
      (λ some. next.above d some) i j before short);
}
