-- The groups.
use Rattle.std.specs.Prelude.{ℕ, ◌+◌, List, [], ◌∷◌, ◌++◌, Option, Some, None}
use Rattle.job_events.specs.declared.cluster.ClusterEvent.TheVariants.{AddGroup, SetGroup, Sweep}
use Rattle.job_values.specs.declared.words.GroupKind.{GroupKind}
use Rattle.job_records.specs.declared.group.Group.{Group}
use Rattle.job_records.specs.Rows.{row_with, changed}
use Rattle.cluster_history.specs.History.{History, Begin, After}
use Rattle.cluster_history.specs.Registrations.{registry_of, groups_swept}

-- the id of the last group that was added
abbrev pub last_group : History → ℕ
last_group (Begin o) = o.tables.last.group
last_group (After h (AddGroup app kind addresses) r) = last_group h + 1
last_group (After h _ r) = last_group h

-- a group with another kind and other addresses
abbrev pub group_set : GroupKind → List (List ℕ) → Group → Group
group_set kind addresses group = record { id = group.id; app = group.app; kind = kind; addresses = addresses }

-- the groups, in order of their adding, each with the kind and the addresses that it was given last; a sweep gives the automatic ones what is registered
abbrev pub groups_of : History → List Group
groups_of (Begin o) = o.tables.groups
groups_of (After h (AddGroup app kind addresses) r) =
    groups_of h ++ record { id = last_group h + 1; app = app; kind = kind; addresses = addresses } ∷ []
groups_of (After h (SetGroup id kind addresses) r) = changed (λ group. group.id) id (group_set kind addresses) (groups_of h)
groups_of (After h (Sweep at) r) = groups_swept at (registry_of h) (groups_of h)
groups_of (After h _ r) = groups_of h

-- the group with this id, if it is there
abbrev pub group_with : ℕ → List Group → Option Group
group_with id groups = row_with (λ group. group.id) id groups

-- the addresses of a group; a group that is not there has none
abbrev pub addresses_in : Option Group → List (List ℕ)
addresses_in None = []
addresses_in (Some group) = group.addresses
