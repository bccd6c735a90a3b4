-- The address lists of the groups, by the entries.
use Rattle.std.specs.Prelude.{◌≡◌, ℕ, ◌+◌, ◌==◌, List, bytes_eq, Bool, true, false, nat_lt, is_some, Option, Some, None, if◌then◌else◌}
use Rattle.std.specs.List.{list_any}
use Rattle.job_values.specs.declared.words.GroupKind.{GroupKind}
use Rattle.job_values.specs.declared.words.GroupKind.TheVariants.{Auto, Manual}
use Rattle.job_events.specs.declared.cluster.ClusterEvent.TheVariants.{AddGroup, SetGroup, Sweep}
use Rattle.job_events.specs.declared.cluster.ClusterReply.TheVariants.{Group as GroupReply}
use Rattle.job_records.specs.declared.group.Group.{Group}
use Rattle.registry_beats.specs.Laws.{IsList}
use Rattle.cluster_history.specs.History.{History, Begin, After, places, before, accepted}
use Rattle.cluster_history.specs.Groups.{groups_of, group_with}
use Rattle.cluster_history.specs.Runs.{IsLegal}
use Rattle.cluster_laws.specs.Registered.{standing}

-- the entry that gave a group its kind and its list last: its place, which is 0 for the opening, and what the group has of it
pub record GivenAt : Type 0 where
  pub place : ℕ
  pub app : List ℕ
  pub kind : GroupKind
  pub addresses : List (List ℕ)

-- a group of the opening
abbrev pub given_opened : Option Group → Option GivenAt
given_opened None = None
given_opened (Some group) = Some (record { place = 0; app = group.app; kind = group.kind; addresses = group.addresses })

-- a group that is set keeps its app
abbrev pub given_anew : ℕ → GroupKind → List (List ℕ) → Option GivenAt → Option GivenAt
given_anew place kind addresses None = None
given_anew place kind addresses (Some earlier) = Some (record { place = place; app = earlier.app; kind = kind; addresses = addresses })

-- the last entry that gave a group its kind and its list: its adding, of which the reply tells the id, or a setting
abbrev pub given_in : History → ℕ → Option GivenAt
given_in (Begin o) id = given_opened (group_with id o.tables.groups)
given_in (After h (AddGroup app kind addresses) (GroupReply group)) id =
    if group == id then Some (record { place = places h + 1; app = app; kind = kind; addresses = addresses }) else given_in h id
given_in (After h (SetGroup group kind addresses) r) id = if group == id then given_anew (places h + 1) kind addresses (given_in h id) else given_in h id
given_in (After h _ r) id = given_in h id

-- the place of the last sweep; 0 where there was none
abbrev pub last_sweep : History → ℕ
last_sweep (Begin o) = 0
last_sweep (After h (Sweep at) r) = places h + 1
last_sweep (After h _ r) = last_sweep h

-- the entries up to the last sweep, with it
abbrev pub up_to_sweep : History → History
up_to_sweep h = before h (last_sweep h + 1)

-- the addresses that stand under an app: sorted by bytes, each once, and just those whose registrations stand
pub record AreStanding (h : History) (app : List ℕ) (addresses : List (List ℕ)) : Type 0 where
  pub list : IsList addresses
  pub each : (address : List ℕ) → list_any (bytes_eq address) addresses ≡ is_some (standing h app address)

-- the list of an automatic group that was swept since is what stood then under its app; any other list is the given one
abbrev pub HasList : History → GivenAt → GroupKind → Bool → List (List ℕ) → Type 0
HasList swept given Auto true addresses = AreStanding swept given.app addresses
HasList swept given Auto false addresses = addresses ≡ given.addresses
HasList swept given Manual since addresses = addresses ≡ given.addresses

-- a group has the app and the kind that it was given, and the list by its last sweep
pub record IsGiven (h : History) (given : GivenAt) (group : Group) : Type 0 where
  pub app : group.app ≡ given.app
  pub kind : group.kind ≡ given.kind
  pub list : HasList (up_to_sweep h) given given.kind (nat_lt given.place (last_sweep h)) group.addresses

-- a group is there where it was given
abbrev pub IsByEntries : History → Option GivenAt → Option Group → Type 0
IsByEntries h None None = Unit {0}
IsByEntries h (Some given) (Some group) = IsGiven h given group
IsByEntries h _ _ = ⊥

-- so in every legal history
abbrev pub ListsByEntries : Type 0
ListsByEntries = (h : History) → IsLegal h → (id : ℕ) → IsByEntries (accepted h) (given_in (accepted h) id) (group_with id (groups_of (accepted h)))
