-- Plans for the groups.
use Rattle.std.proofs.Common.{◌≡◌, ℕ, ◌+◌, ◌<◌, List, [], ◌∷◌, ◌++◌, true, cond, nat_lt, Some, is_some, length, inl, inr, refl, sym, ap, ◌∙◌, subst, arith}
use Rattle.std.proofs.lemmas.Bool.Decides.{nat_tests}
use Rattle.job_values.specs.declared.limits.TheConstants.{LAST_JOB_ID}
use Rattle.job_values.specs.declared.words.GroupKind.{GroupKind}
use Rattle.job_events.specs.declared.cluster.ClusterEvent.TheVariants.{AddGroup, SetGroup}
use Rattle.job_events.specs.declared.cluster.ClusterRefusal.TheVariants.{NoGroup, TooMany}
use Rattle.job_events.specs.declared.cluster.ClusterReply.TheVariants.{Done, Group as GroupReply}
use Rattle.job_records.specs.declared.change.Change.{Change}
use Rattle.job_records.specs.declared.change.Change.TheVariants as change
use Rattle.job_records.specs.declared.group.Group.{Group}
use Rattle.job_records.specs.declared.last_ids.LastIds.{LastIds}
use Rattle.job_values.specs.declared.limits.TheConstants.{MOST_GROUPS}
use Rattle.job_records.specs.Rows.{changed}
use Rattle.job_records.specs.Rules.{KeepsRules}
use Rattle.job_records.specs.Tables.{Tables}
use Rattle.job_records.specs.Changes.{applied, AreAllowed}
use Rattle.job_records.proofs.RowLemmas.{rises-from_rising}
use Rattle.job_records.proofs.PutLemmas.{put_behind}
use Rattle.job_records.proofs.Keeping.{keeps_last, keeps_group}
use Rattle.cluster_history.specs.History.{History, accepted}
use Rattle.cluster_history.specs.Groups.{groups_of, last_group, group_with, group_set}
use Rattle.cluster_history.specs.Replies.{reply_of, group_reply, done_if, refused}
use Rattle.cluster_history.proofs.RowIds.{groups_rise}
use Rattle.cluster_plan.specs.declared.prepared.NodeChange.TheVariants as node
use Rattle.cluster_plan.specs.Kept.{Kept}
use Rattle.cluster_plan.specs.Plans.{IsPlanned}
use Rattle.cluster_plan.specs.Stands.{Stands}
use Rattle.cluster_history.specs.Records.{records_of}
use Rattle.cluster_plan.proofs.PutLemmas.{put-changed, found-id, found-within}
use Rattle.cluster_plan.proofs.RowPlans.{planned-rows}

-- the last ids with that of a new group
abbrev pub with_last_group : ℕ → LastIds → LastIds
with_last_group id last = record last { group = id }

add-reply : (kept : Kept) (h : History) (app : List ℕ) (kind : GroupKind) (addresses : List (List ℕ)) → Stands kept (accepted h) → reply_of h (AddGroup app kind addresses) ≡ group_reply (length kept.tables.groups) kept.tables.last.group
add-reply kept h app kind addresses s = sym (ap (λ (t : Tables). group_reply (length t.groups) t.last.group) s.keeps.tables)

group-room : (count last : ℕ) → count < MOST_GROUPS → last < LAST_JOB_ID → group_reply count last ≡ GroupReply (last + 1)
group-room count last room ids =
    let test : nat_lt count 10000 ≡ true = let lt : count < 10000 = room in grind (arith, nat_tests) in
    let below : nat_lt last 2147483647 ≡ true = let lt : last < 2147483647 = ids in grind (arith, nat_tests) in
    ap (λ b. cond b (cond (nat_lt last 2147483647) (GroupReply (last + 1)) (refused (TooMany 2147483647))) (refused (TooMany 10000))) test
    ∙ ap (λ b. cond b (GroupReply (last + 1)) (refused (TooMany 2147483647))) below

-- the changes that add a group
abbrev pub adding_group : LastIds → Group → List Change
adding_group last new = change.LastIds last ∷ change.PutGroup new ∷ []

add-allowed : (t : Tables) (new : Group) (last : LastIds) → KeepsRules t → length t.groups < MOST_GROUPS → t.last.group < LAST_JOB_ID → new.id ≡ t.last.group + 1 → last ≡ with_last_group new.id t.last → AreAllowed t (adding_group last new)
add-allowed t new last rules room ids here is =
    let group : last.group ≡ new.id = ap (λ (x : LastIds). x.group) is in
    let job : last.job ≡ t.last.job = ap (λ (x : LastIds). x.job) is in
    let log : last.log ≡ t.last.log = ap (λ (x : LastIds). x.log) is in
    let most : t.last.group < 2147483647 = ids in
    let raised = keeps_last t last rules (omega arith) (omega arith) (omega arith) (omega arith) (omega (arith, rules.jobs.last_id)) (omega (arith, rules.logs.last_id)) in
    (raised, (keeps_group (applied t (change.LastIds last)) new raised (omega arith) (omega arith) (inr room), tt))

-- the rows and the last ids with other groups
abbrev with_groups : History → List Group → LastIds → Tables
with_groups h groups last = record (records_of h) { groups = groups; last = last }

-- a group is added
pub add_group-planned : (kept : Kept) (app copied : List ℕ) (kind : GroupKind) (addresses list : List (List ℕ)) (id : ℕ) (last : LastIds) → KeepsRules kept.tables → length kept.tables.groups < MOST_GROUPS → kept.tables.last.group < LAST_JOB_ID → id ≡ kept.tables.last.group + 1
    → copied ≡ app → list ≡ addresses → last ≡ with_last_group id kept.tables.last
    → IsPlanned kept (AddGroup app kind addresses) (record { reply = GroupReply id; changes = adding_group last (record { id = id; app = copied; kind = kind; addresses = list }); node = node.Nothing })
add_group-planned kept app copied kind addresses list id last rules room ids here same equal is =
    let new : Group = record { id = id; app = copied; kind = kind; addresses = list } in
    planned-rows kept (AddGroup app kind addresses) (GroupReply id) (adding_group last new) (add-allowed kept.tables new last rules room ids here is) refl tt refl
    (λ h. record { scan = refl; taken = refl; nodes = refl })
    (λ h s. add-reply kept h app kind addresses s ∙ group-room (length kept.tables.groups) kept.tables.last.group room ids ∙ ap (λ n. GroupReply n) (sym here))
    (λ h s.
    let number : id ≡ last_group h + 1 = here ∙ ap (λ (t : Tables). t.last.group + 1) s.keeps.tables in
    let lasts : last ≡ with_last_group (last_group h + 1) (records_of h).last = is ∙ ap (λ n. with_last_group n kept.tables.last) number ∙ ap (λ (t : Tables). with_last_group (last_group h + 1) t.last) s.keeps.tables in
    let row : new ≡ record { id = last_group h + 1; app = app; kind = kind; addresses = addresses } = (cc) in
    let behind = put_behind (λ (g : Group). g.id) 0 (last_group h) new (groups_of h) (groups_rise h s.opens) (omega arith) in
    ap (λ gs. with_groups h gs last) behind
    ∙ ap (λ g. with_groups h (groups_of h ++ g ∷ []) last) row
    ∙ ap (λ l. with_groups h (groups_of h ++ record { id = last_group h + 1; app = app; kind = kind; addresses = addresses } ∷ []) l) lasts)

set-reply : (kept : Kept) (h : History) (group : ℕ) (kind : GroupKind) (addresses : List (List ℕ)) → Stands kept (accepted h) → reply_of h (SetGroup group kind addresses) ≡ done_if (is_some (group_with group kept.tables.groups)) NoGroup
set-reply kept h group kind addresses s = sym (ap (λ (t : Tables). done_if (is_some (group_with group t.groups)) NoGroup) s.keeps.tables)

-- a group gets another kind and other addresses
pub set_group-planned : (kept : Kept) (group : ℕ) (kind : GroupKind) (addresses : List (List ℕ)) (row new : Group) → KeepsRules kept.tables → group_with group kept.tables.groups ≡ Some row → new ≡ group_set kind addresses row
    → IsPlanned kept (SetGroup group kind addresses) (record { reply = Done; changes = change.PutGroup new ∷ []; node = node.Nothing })
set_group-planned kept group kind addresses row new rules found made =
    let id : new.id ≡ group = ap (λ (x : Group). x.id) made ∙ found-id (λ (x : Group). x.id) group kept.tables.groups row found in
    let present : group_with new.id kept.tables.groups ≡ Some row = subst (λ n. group_with n kept.tables.groups ≡ Some row) (sym id) found in
    let within = found-within (λ (x : Group). x.id) 0 kept.tables.last.group new.id kept.tables.groups row rules.groups.rising present in
    planned-rows kept (SetGroup group kind addresses) Done (change.PutGroup new ∷ []) (keeps_group kept.tables new rules (omega (arith, within.0)) within.1 (inl (ap is_some present)), tt) refl tt refl
    (λ h. record { scan = refl; taken = refl; nodes = refl })
    (λ h s. set-reply kept h group kind addresses s ∙ ap (λ o. done_if (is_some o) NoGroup) found)
    (λ h s.
    let there : group_with group (groups_of h) ≡ Some row = subst (λ (t : Tables). group_with group t.groups ≡ Some row) s.keeps.tables found in
    let rises = rises-from_rising (λ (g : Group). g.id) 0 (last_group h) (groups_of h) (groups_rise h s.opens) in
    let put = put-changed (λ (g : Group). g.id) (group_set kind addresses) 0 row new (groups_of h) rises (subst (λ n. group_with n (groups_of h) ≡ Some row) (sym id) there) made in
    ap (λ gs. with_groups h gs (records_of h).last) (put ∙ ap (λ n. changed (λ (g : Group). g.id) n (group_set kind addresses) (groups_of h)) id))
