-- The registrations, and the lists of the automatic groups.
use Rattle.std.specs.Prelude.{ℕ, ◌+◌, List, map, filter, not, Bool, bytes_eq, nat_lt}
use Rattle.job_values.specs.declared.limits.TheConstants.{DEAD_AFTER}
use Rattle.job_values.specs.declared.words.GroupKind.{GroupKind}
use Rattle.job_values.specs.declared.words.GroupKind.TheVariants.{Auto, Manual}
use Rattle.job_records.specs.declared.group.Group.{Group}
use Rattle.job_records.specs.declared.registry.RegistryRow.{RegistryRow}
use Rattle.job_records.specs.Changes.{put_by}
use Rattle.job_records.specs.Order.{key_order, is_registered}

-- a registration is dead at a moment where its last beat is more than ninety seconds ago
abbrev pub is_dead : ℕ → RegistryRow → Bool
is_dead at row = nat_lt (row.beat + DEAD_AFTER) at

-- the registrations that a sweep leaves
abbrev pub rows_left : ℕ → List RegistryRow → List RegistryRow
rows_left at rows = filter (λ row. not (is_dead at row)) rows

-- the registrations with this one added or renewed, in order of key and value
abbrev pub registered : List ℕ → List ℕ → ℕ → List RegistryRow → List RegistryRow
registered key value at rows = put_by (key_order key value) (record { key = key; value = value; beat = at }) rows

-- the registrations without this one
abbrev pub unregistered : List ℕ → List ℕ → List RegistryRow → List RegistryRow
unregistered key value rows = filter (λ row. not (is_registered key value row)) rows

-- the addresses that are registered for an app, in order
abbrev pub values_of : List ℕ → List RegistryRow → List (List ℕ)
values_of app rows = map (λ row. row.value) (filter (λ row. bytes_eq row.key app) rows)

-- the list of a group after a sweep that left these registrations
abbrev pub list_by : GroupKind → List ℕ → List (List ℕ) → List RegistryRow → List (List ℕ)
list_by Auto app addresses rows = values_of app rows
list_by Manual app addresses rows = addresses

-- a group after it
abbrev pub group_swept : List RegistryRow → Group → Group
group_swept rows group = record group { addresses = list_by group.kind group.app group.addresses rows }

-- the groups after a sweep at a moment, by the registrations before it
abbrev pub groups_swept : ℕ → List RegistryRow → List Group → List Group
groups_swept at rows groups = map (group_swept (rows_left at rows)) groups
