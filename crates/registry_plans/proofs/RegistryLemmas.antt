-- Plans for the registrations.
use Rattle.std.proofs.Common.{◌≡◌, ℕ, List, [], ◌∷◌, ◌++◌, true, false, cond, map, refl, sym, ap, ◌∙◌, subst}
use Rattle.std.specs.List.{list_any, filter, count_by}
use Rattle.job_events.specs.declared.cluster.ClusterEvent.TheVariants.{Registry, RegistryRemove, Sweep}
use Rattle.job_events.specs.declared.cluster.ClusterRefusal.TheVariants.{BadRegistry}
use Rattle.job_events.specs.declared.cluster.ClusterReply.TheVariants.{Done, Swept}
use Rattle.job_records.specs.declared.change.Change.{Change}
use Rattle.job_records.specs.declared.change.Change.TheVariants as change
use Rattle.job_records.specs.declared.group.Group.{Group}
use Rattle.job_records.specs.declared.registry.RegistryRow.{RegistryRow}
use Rattle.job_records.specs.Tables.{Tables}
use Rattle.job_records.specs.Changes.{applied_all}
use Rattle.registry_beats.specs.declared.sweeps.Swept.{Swept as SweptRows}
use Rattle.registry_beats.specs.Registrations.{is_dead, rows_left, registered, unregistered, groups_swept}
use Rattle.registry_beats.specs.Beats.{limit_passed, Beats, Removes, Sweeps, drop_of, groups_put}
use Rattle.cluster_history.specs.History.{History, accepted}
use Rattle.cluster_history.specs.Registrations.{registry_of}
use Rattle.cluster_history.specs.Records.{records_of}
use Rattle.cluster_history.specs.Replies.{reply_of, is_named, place_reply, refused}
use Rattle.cluster_plan.specs.declared.prepared.NodeChange.TheVariants as node
use Rattle.cluster_plan.specs.Kept.{Kept}
use Rattle.cluster_plan.specs.Plans.{IsPlanned, HasIdsFirst, gives_ids}
use Rattle.cluster_plan.specs.Stands.{Stands}
use Rattle.cluster_plan.proofs.PlanLemmas.{no-ids-first}
use Rattle.cluster_plan.proofs.RowPlans.{planned-rows}

-- the reply to a beat that is named
named-reply : (kept : Kept) (h : History) (at : ℕ) (group key value : List ℕ) → is_named group key value ≡ true → Stands kept (accepted h)
    → reply_of h (Registry at group key value) ≡ place_reply (limit_passed key value kept.tables.registry)
named-reply kept h at group key value named s =
    ap (λ b. cond b (place_reply (limit_passed key value (registry_of (accepted h)))) (refused BadRegistry)) named
    ∙ sym (ap (λ (t : Tables). place_reply (limit_passed key value t.registry)) s.keeps.tables)

-- what changes make of the rows that are stood for
rows-after : (kept : Kept) (h : History) (changes : List Change) (after : Tables → Tables) → Stands kept h → applied_all kept.tables changes ≡ after kept.tables
    → applied_all (records_of h) changes ≡ after (records_of h)
rows-after kept h changes after s is = subst (λ (t : Tables). applied_all t changes ≡ after t) s.keeps.tables is

-- a beat
pub beat-planned : (kept : Kept) (at : ℕ) (group key value : List ℕ) (changes : List Change) → is_named group key value ≡ true → Beats key value at kept.tables changes
    → IsPlanned kept (Registry at group key value) (record { reply = Done; changes = changes; node = node.Nothing })
beat-planned kept at group key value changes named beats =
    planned-rows kept (Registry at group key value) Done changes beats.allowed (subst HasIdsFirst (sym beats.put) refl) tt refl
    (λ h. record { scan = refl; taken = refl; nodes = refl })
    (λ h s. named-reply kept h at group key value named s ∙ ap place_reply beats.place)
    (λ h s. rows-after kept h changes (λ t. record t { registry = registered key value at t.registry }) s beats.after)

-- a removal
pub remove-planned : (kept : Kept) (group key value : List ℕ) (changes : List Change) → is_named group key value ≡ true → Removes key value kept.tables changes
    → IsPlanned kept (RegistryRemove group key value) (record { reply = Done; changes = changes; node = node.Nothing })
remove-planned kept group key value changes named removes =
    planned-rows kept (RegistryRemove group key value) Done changes removes.allowed (subst HasIdsFirst (sym removes.drop) refl) tt refl
    (λ h. record { scan = refl; taken = refl; nodes = refl })
    (λ h s. ap (λ b. cond b Done (refused BadRegistry)) named)
    (λ h s. rows-after kept h changes (λ t. record t { registry = unregistered key value t.registry }) s removes.after)

-- a sweep gives no last ids
groups-no_ids : (groups : List Group) → list_any gives_ids (map change.PutGroup groups) ≡ false
groups-no_ids [] = refl
groups-no_ids (group ∷ groups) = groups-no_ids groups

sweep-no_ids : (rows : List RegistryRow) (groups : List Group) → list_any gives_ids (map drop_of rows ++ map change.PutGroup groups) ≡ false
sweep-no_ids [] groups = groups-no_ids groups
sweep-no_ids (row ∷ rows) groups = sweep-no_ids rows groups

sweep-ids : (at : ℕ) (t : Tables) (changes : List Change) → changes ≡ map drop_of (filter (is_dead at) t.registry) ++ map change.PutGroup (groups_put (rows_left at t.registry) t.groups) → HasIdsFirst changes
sweep-ids at t changes is =
    subst HasIdsFirst (sym is) (no-ids-first (map drop_of (filter (is_dead at) t.registry) ++ map change.PutGroup (groups_put (rows_left at t.registry) t.groups)) (sweep-no_ids (filter (is_dead at) t.registry) (groups_put (rows_left at t.registry) t.groups)))

-- a sweep
pub sweep-planned : (kept : Kept) (at : ℕ) (swept : SweptRows) → Sweeps at kept.tables swept
    → IsPlanned kept (Sweep at) (record { reply = Swept swept.dropped; changes = swept.changes.items; node = node.Nothing })
sweep-planned kept at swept sweeps =
    planned-rows kept (Sweep at) (Swept swept.dropped) swept.changes.items sweeps.allowed (sweep-ids at kept.tables swept.changes.items sweeps.changes) tt refl
    (λ h. record { scan = refl; taken = refl; nodes = refl })
    (λ h s. sym (ap (λ (t : Tables). Swept (count_by (is_dead at) t.registry)) s.keeps.tables) ∙ ap (λ n. Swept n) (sym sweeps.count))
    (λ h s. rows-after kept h swept.changes.items (λ t. record t { registry = rows_left at t.registry; groups = groups_swept at t.registry t.groups }) s sweeps.after)
