-- What holds of registrations and of the lists of groups in other words.
use Rattle.std.specs.Prelude.{◌≡◌, ℕ, ◌+◌, ◌≤◌, List, AllPairs, length, count_by, bytes_eq, true, false}
use Rattle.std.specs.declared.cmp.Ordering.TheVariants.{Less}
use Rattle.std.specs.Ordering.{nat_cmp}
use Rattle.std.specs.Cmp.Lexicographic.{slice_cmp}
use Rattle.job_values.specs.declared.limits.TheConstants.{MOST_OF_KEY}
use Rattle.job_values.specs.declared.words.GroupKind.TheVariants.{Manual}
use Rattle.job_records.specs.declared.group.Group.{Group}
use Rattle.job_records.specs.declared.registry.RegistryRow.{RegistryRow}
use Rattle.job_records.specs.Rules.{RegistryRules}
use Rattle.registry_beats.specs.Registrations.{is_dead, rows_left, values_of, group_swept}

-- a registration lives for ninety seconds after its beat, and not a millisecond longer
pub record LivesNinetySeconds : Type 0 where
  pub lives : (row : RegistryRow) → is_dead (row.beat + 90000) row ≡ false
  pub dies : (row : RegistryRow) → is_dead (row.beat + 90001) row ≡ true

-- addresses rise by their bytes
abbrev pub AreSorted : List (List ℕ) → Type 0
AreSorted addresses = AllPairs (λ address later. slice_cmp nat_cmp address later ≡ Less) addresses

-- the list of an automatic group after a sweep: sorted by bytes, each address once, and no more than a key may have
pub record IsList (addresses : List (List ℕ)) : Type 0 where
  pub sorted : AreSorted addresses
  pub once : (address : List ℕ) → count_by (bytes_eq address) addresses ≤ 1
  pub few : length addresses ≤ MOST_OF_KEY

-- so at each moment, of registrations that keep their rules
abbrev pub SweepsToLists : Type 0
SweepsToLists = (at : ℕ) (rows : List RegistryRow) → RegistryRules rows → (app : List ℕ) → IsList (values_of app (rows_left at rows))

-- a sweep leaves a manual group as it is
abbrev pub KeepsManual : Type 0
KeepsManual = (rows : List RegistryRow) (group : Group) → group.kind ≡ Manual → group_swept rows group ≡ group
