-- What beats, removals and sweeps change of the rows.
use Rattle.std.specs.Prelude.{◌≡◌, ℕ, List, [], ◌∷◌, ◌++◌, map, filter, length, count_by, Bool, not, bytes_eq, nat_lt, Option, Some, None, if◌then◌else◌}
use Rattle.std.specs.Cmp.Lexicographic.{pointwise}
use Rattle.std.specs.List.{list_any}
use Rattle.job_values.specs.declared.limits.TheConstants.{MOST_OF_KEY, MOST_REGISTRATIONS}
use Rattle.job_records.specs.declared.change.Change.{Change}
use Rattle.job_records.specs.declared.change.Change.TheVariants as change
use Rattle.job_records.specs.declared.group.Group.{Group}
use Rattle.job_records.specs.declared.registry.RegistryRow.{RegistryRow}
use Rattle.job_records.specs.Changes.{applied_all, AreAllowed}
use Rattle.job_records.specs.Order.{is_registered}
use Rattle.job_records.specs.Rules.{count_of_key}
use Rattle.job_records.specs.Tables.{Tables}
use Rattle.registry_beats.specs.declared.beats.BeatFault.{BeatFault}
use Rattle.registry_beats.specs.declared.beats.BeatFault.TheVariants as fault
use Rattle.registry_beats.specs.declared.sweeps.Swept.{Swept}
use Rattle.registry_beats.specs.Registrations.{is_dead, rows_left, registered, unregistered, group_swept, groups_swept}

-- the limit that a new registration would pass: that of its key before that of all; none where there is place for it, or it is there
abbrev pub limit_passed : List ℕ → List ℕ → List RegistryRow → Option ℕ
limit_passed key value rows =
    if list_any (is_registered key value) rows then None
    else if nat_lt (count_of_key key rows) MOST_OF_KEY
    then (if nat_lt (length rows) MOST_REGISTRATIONS then None else Some MOST_REGISTRATIONS)
    else Some MOST_OF_KEY

-- a beat: there is place, and one change adds or renews the registration
pub record Beats (key value : List ℕ) (at : ℕ) (t : Tables) (changes : List Change) : Type 0 where
  pub place : limit_passed key value t.registry ≡ None
  pub put : changes ≡ change.PutRegistry (record { key = key; value = value; beat = at }) ∷ []
  pub allowed : AreAllowed t changes
  pub after : applied_all t changes ≡ record t { registry = registered key value at t.registry }

-- why a beat is refused: the limit that it would pass
abbrev pub IsRefused : List ℕ → List ℕ → List RegistryRow → BeatFault → Type 0
IsRefused key value rows (fault.TooMany limit) = limit_passed key value rows ≡ Some limit
IsRefused key value rows fault.NoMemory = Unit {0}

-- a removal: one change drops the registration, if it is there
pub record Removes (key value : List ℕ) (t : Tables) (changes : List Change) : Type 0 where
  pub drop : changes ≡ change.DropRegistry key value ∷ []
  pub allowed : AreAllowed t changes
  pub after : applied_all t changes ≡ record t { registry = unregistered key value t.registry }

-- the drop of a registration
abbrev pub drop_of : RegistryRow → Change
drop_of row = change.DropRegistry row.key row.value

-- whether a sweep that leaves these registrations gives a group another list
abbrev pub gets_list : List RegistryRow → Group → Bool
gets_list rows group = not (pointwise bytes_eq (group_swept rows group).addresses group.addresses)

-- the groups that get another list, as they are with it
abbrev pub groups_put : List RegistryRow → List Group → List Group
groups_put rows groups = map (group_swept rows) (filter (gets_list rows) groups)

-- a sweep: it drops the dead registrations in order, then puts the groups that get another list; it tells how many it drops
pub record Sweeps (at : ℕ) (t : Tables) (swept : Swept) : Type 0 where
  pub changes : swept.changes.items ≡ map drop_of (filter (is_dead at) t.registry) ++ map change.PutGroup (groups_put (rows_left at t.registry) t.groups)
  pub count : swept.dropped ≡ count_by (is_dead at) t.registry
  pub allowed : AreAllowed t swept.changes.items
  pub after : applied_all t swept.changes.items ≡ record t { registry = rows_left at t.registry; groups = groups_swept at t.registry t.groups }
