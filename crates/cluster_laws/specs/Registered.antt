-- The registrations, by the calls and the sweeps.
use Rattle.std.specs.Prelude.{◌≡◌, ℕ, ◌+◌, List, find, bytes_eq, option_map, Bool, false, ◌&&◌, ◌||◌, nat_lt, Option, Some, None, if◌then◌else◌}
use Rattle.job_values.specs.declared.limits.TheConstants.{DEAD_AFTER}
use Rattle.job_events.specs.declared.cluster.ClusterEvent.{ClusterEvent}
use Rattle.job_events.specs.declared.cluster.ClusterEvent.TheVariants.{Registry, RegistryRemove, Sweep}
use Rattle.job_records.specs.declared.registry.RegistryRow.{RegistryRow}
use Rattle.job_records.specs.Order.{is_registered}
use Rattle.cluster_history.specs.History.{History, Begin, After, places, accepted}
use Rattle.cluster_history.specs.Registrations.{registry_of}
use Rattle.cluster_history.specs.Runs.{IsLegal}

-- the row of a registration, if it is there
abbrev pub registration : List ℕ → List ℕ → List RegistryRow → Option RegistryRow
registration key value rows = find (is_registered key value) rows

-- a beat of a registration: the place of its entry, and its moment
pub record BeatAt : Type 0 where
  pub place : ℕ
  pub at : ℕ

-- a row of the opening is a beat at its moment, before all entries
abbrev pub beat_opened : Option RegistryRow → Option BeatAt
beat_opened None = None
beat_opened (Some row) = Some (record { place = 0; at = row.beat })

-- whether a call names this key and this value
abbrev pub names : List ℕ → List ℕ → List ℕ → List ℕ → Bool
names key value called_key called_value = bytes_eq called_key key && bytes_eq called_value value

-- the last beat of a registration, if there is one
abbrev pub last_beat : History → List ℕ → List ℕ → Option BeatAt
last_beat (Begin o) key value = beat_opened (registration key value o.tables.registry)
last_beat (After h (Registry at group k v) r) key value =
    if names key value k v then Some (record { place = places h + 1; at = at }) else last_beat h key value
last_beat (After h _ r) key value = last_beat h key value

-- whether an event ends a registration that has its beat at a moment: as its removal, or as a sweep more than ninety seconds behind the beat
abbrev pub ends : ClusterEvent → List ℕ → List ℕ → ℕ → Bool
ends (RegistryRemove group k v) key value beat = names key value k v
ends (Sweep at) key value beat = nat_lt (beat + DEAD_AFTER) at
ends _ key value beat = false

-- whether an entry behind a place ends it
abbrev pub ended_since : History → ℕ → List ℕ → List ℕ → ℕ → Bool
ended_since (Begin o) place key value beat = false
ended_since (After h e r) place key value beat = (nat_lt place (places h + 1) && ends e key value beat) || ended_since h place key value beat

-- a registration stands with its last beat, unless an entry since ended it
abbrev pub standing_by : History → List ℕ → List ℕ → Option BeatAt → Option ℕ
standing_by h key value None = None
standing_by h key value (Some last) = if ended_since h last.place key value last.at then None else Some last.at

-- the beat that a registration stands with, if it stands
abbrev pub standing : History → List ℕ → List ℕ → Option ℕ
standing h key value = standing_by h key value (last_beat h key value)

-- the rows of every legal history are those that stand by its entries, each with its beat
abbrev pub RegistrationsStand : Type 0
RegistrationsStand =
    (h : History) → IsLegal h → (key value : List ℕ) → option_map (λ row. row.beat) (registration key value (registry_of (accepted h))) ≡ standing (accepted h) key value
