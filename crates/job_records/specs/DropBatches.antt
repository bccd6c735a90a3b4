-- Batches of drops, each one pass over a list.
use Rattle.std.specs.Prelude.{◌≡◌, ℕ, ◌-◌, ◌<◌, List, [], filter, not, slice_index_or, AllPairs, Bool, true, false}
use Rattle.std.specs.List.{AllPass, HoldsAt, list_any}
use Rattle.std.specs.Ordering.{is_eq}
use Rattle.std.specs.declared.cmp.Ordering.{Ordering}
use Rattle.std.specs.declared.cmp.Ordering.TheVariants.{Less}
use Rattle.job_records.specs.declared.change.Change.{Change}
use Rattle.job_records.specs.declared.change.Change.TheVariants as change
use Rattle.job_records.specs.declared.drops.Dropped.{Dropped}
use Rattle.job_records.specs.declared.drops.Dropped.TheVariants as dropped
use Rattle.job_records.specs.declared.registry.RegistryRow.{RegistryRow}
use Rattle.job_records.specs.Order.{key_order}
use Rattle.rising_rows.specs.Rising.{RisesFrom}

-- the id of the row that a change drops; 0 for a change that drops none by its id
abbrev pub dropped_id : Change → ℕ
dropped_id (change.DropJob id) = id
dropped_id (change.DropLog id) = id
dropped_id _ = 0

-- whether a change drops a job, or a log
abbrev pub is_drop_of : Dropped → Change → Bool
is_drop_of dropped.Job (change.DropJob id) = true
is_drop_of dropped.Log (change.DropLog id) = true
is_drop_of _ _ = false

-- these changes drop rows of one kind, with rising ids
pub record AreDrops (kind : Dropped) (drops : List Change) : Type 0 where
  pub all : AllPass (is_drop_of kind) drops
  pub rising : RisesFrom dropped_id 0 drops

-- whether a change drops a registration
abbrev pub drops_registration : Change → Bool
drops_registration (change.DropRegistry key value) = true
drops_registration _ = false

-- the registration that a change drops, at no moment; one without texts for a change that drops none
abbrev pub dropped_row : Change → RegistryRow
dropped_row (change.DropRegistry key value) = record { key = key; value = value; beat = 0 }
dropped_row _ = record { key = []; value = []; beat = 0 }

-- how the registration that a change drops compares with a key and a value
abbrev pub drop_order : List ℕ → List ℕ → Change → Ordering
drop_order key value drop = key_order key value (dropped_row drop)

-- a change drops a lower registration than a later one
abbrev pub IsBelow : Change → Change → Type 0
IsBelow drop later = drop_order (dropped_row later).key (dropped_row later).value drop ≡ Less

-- these changes drop registrations, which rise by key and value
pub record AreRegistryDrops (drops : List Change) : Type 0 where
  pub all : AllPass drops_registration drops
  pub rising : AllPairs IsBelow drops

-- a change drops a registration, which is above the one that the change before it drops
pub record GoesOn (changes : List Change) (place : ℕ) : Type 0 where
  pub drop : HoldsAt (λ change. drops_registration change ≡ true) changes place
  pub above : (d : Change) → 0 < place → IsBelow (slice_index_or changes (place - 1) d) (slice_index_or changes place d)

-- the registrations that none of these changes drops
abbrev pub unregistered : List Change → List RegistryRow → List RegistryRow
unregistered drops rows = filter (λ row. not (list_any (λ drop. is_eq (drop_order row.key row.value drop)) drops)) rows
