-- The registrations.
use Rattle.std.specs.Prelude.{List}
use Rattle.job_events.specs.declared.cluster.ClusterEvent.TheVariants.{Registry, RegistryRemove, Sweep}
use Rattle.job_records.specs.declared.registry.RegistryRow.{RegistryRow}
use Rattle.cluster_history.specs.History.{History, Begin, After}
pub use Rattle.registry_beats.specs.Registrations.{is_dead, rows_left, registered, unregistered, values_of, group_swept, groups_swept}
pub use Rattle.registry_beats.specs.Beats.{limit_passed}

-- the rows of the registrations, in order of key and value
abbrev pub registry_of : History → List RegistryRow
registry_of (Begin o) = o.tables.registry
registry_of (After h (Registry at group key value) r) = registered key value at (registry_of h)
registry_of (After h (RegistryRemove group key value) r) = unregistered key value (registry_of h)
registry_of (After h (Sweep at) r) = rows_left at (registry_of h)
registry_of (After h _ r) = registry_of h
