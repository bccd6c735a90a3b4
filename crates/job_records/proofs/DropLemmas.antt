-- Lemmas on batches of drops, and on changes one after another.
use Rattle.std.proofs.Common.{◌≡◌, ℕ, suc, ◌+◌, List, [], ◌∷◌, ◌++◌, Bool, true, false, cond, not, ◌&&◌, ◌||◌, eqb, Option, Some, is_some, take, drop, refl, sym, ap, ◌∙◌, arith}
use Rattle.std.specs.declared.cmp.Ordering.{Ordering}
use Rattle.std.specs.declared.cmp.Ordering.TheVariants.{Less, Equal, Greater}
use Rattle.std.specs.List.{filter, count_by, list_any, AllPass}
use Rattle.std.specs.Ordering.{ordering_reverse, is_eq}
use Rattle.std.proofs.lemmas.Bool.Decides.{nat_tests}
use Rattle.std.proofs.lemmas.List.{take-append-drop}
use Rattle.std.proofs.lemmas.List.Elements.{filter_agree}
use Rattle.std.proofs.lemmas.List.Sums.{sum_by-append}
use Rattle.job_records.specs.declared.change.Change.{Change}
use Rattle.job_records.specs.declared.change.Change.TheVariants as change
use Rattle.job_records.specs.declared.drops.Dropped.TheVariants as dropped
use Rattle.job_records.specs.declared.job.Job.{Job}
use Rattle.job_records.specs.declared.log.Log.{Log}
use Rattle.job_records.specs.Room.{Room, HasRoom, KeepsRoom, puts_group, puts_job, puts_log, puts_registration}
use Rattle.job_records.specs.Tables.{Tables}
use Rattle.rising_rows.specs.Rising.{row_with, without, without_all}
use Rattle.job_records.specs.Changes.{applied, applied_all, AreAllowed}
use Rattle.job_records.specs.declared.registry.RegistryRow.{RegistryRow}
use Rattle.job_records.specs.Order.{is_registered}
use Rattle.job_records.specs.DropBatches.{dropped_id, is_drop_of, drops_registration, drop_order, unregistered}
use Rattle.job_records.proofs.OrderLemmas.{row_cmp, row_cmp-total, row_of_key, registered-order}
use Rattle.job_records.proofs.Keeping.{applied_append}

filter-step : {R : Type 0} (p : R → Bool) (row : R) (inner both : List R) (b : Bool) → filter p inner ≡ both → filter p (cond b (row ∷ inner) inner) ≡ cond (b && p row) (row ∷ both) both
filter-step p row inner both false e = e
filter-step p row inner both true e = ap (λ xs. cond (p row) (row ∷ xs) xs) e

filter-filter : {R : Type 0} (p q : R → Bool) (rows : List R) → filter p (filter q rows) ≡ filter (λ row. q row && p row) rows
filter-filter p q [] = refl
filter-filter p q (row ∷ rows) = filter-step p row (filter q rows) (filter (λ r. q r && p r) rows) (q row) (filter-filter p q rows)

filter-all : {R : Type 0} (rows : List R) → filter (λ row. true) rows ≡ rows
filter-all [] = refl
filter-all (row ∷ rows) = ap (λ xs. row ∷ xs) (filter-all rows)

unkept : (a b : ℕ) (c : Change) (found : Option Change) → (not (eqb a b) && not (is_some found)) ≡ not (is_some (cond (eqb b a) (Some c) found))
unkept a b c found = grind (arith, nat_tests)

-- the rows that a first drop and then the others leave
undropped-cons : {R : Type 0} (id_of : R → ℕ) (c : Change) (drops : List Change) (rows : List R) → without_all id_of dropped_id drops (without id_of (dropped_id c) rows) ≡ without_all id_of dropped_id (c ∷ drops) rows
undropped-cons id_of c drops rows =
    filter-filter (λ row. not (is_some (row_with dropped_id (id_of row) drops))) (λ row. not (eqb (id_of row) (dropped_id c))) rows
    ∙ filter_agree _ _ (λ row. unkept (id_of row) (dropped_id c) c (row_with dropped_id (id_of row) drops)) rows

neither : (a b : Bool) → (not a && not b) ≡ not (a || b)
neither true b = refl
neither false b = refl

-- a registration is equal to one that a change drops, either way
turned : (a b : RegistryRow) → is_eq (row_cmp a b) ≡ is_eq (row_cmp b a)
turned a b = ap is_eq (row_cmp-total.antisymm a b) ∙ reversed (row_cmp b a)
  where
    reversed : (o : Ordering) → is_eq (ordering_reverse o) ≡ is_eq o
    reversed Less = refl
    reversed Equal = refl
    reversed Greater = refl

-- the registrations that a first drop and then the others leave
unregistered-cons : (key value : List ℕ) (drops : List Change) (rows : List RegistryRow) → unregistered drops (filter (λ row. not (is_registered key value row)) rows) ≡ unregistered (change.DropRegistry key value ∷ drops) rows
unregistered-cons key value drops rows =
    let others : RegistryRow → Bool = λ row. list_any (λ drop. is_eq (drop_order row.key row.value drop)) drops in
    filter-filter (λ row. not (others row)) (λ row. not (is_registered key value row)) rows
    ∙ filter_agree _ _ (λ row.
    neither (is_registered key value row) (others row)
    ∙ ap (λ b. not (b || others row)) (sym (registered-order key value row) ∙ turned row (row_of_key key value))) rows

-- what drops of jobs do
pub drops-jobs : (t : Tables) (drops : List Change) → AllPass (is_drop_of dropped.Job) drops → applied_all t drops ≡ record t { jobs = without_all (λ job. job.id) dropped_id drops t.jobs }
drops-jobs t [] all = ap (λ rows. record t { jobs = rows }) (sym (filter-all t.jobs))
drops-jobs t (change.DropJob id ∷ drops) all =
    drops-jobs (applied t (change.DropJob id)) drops (λ k d lt. all (suc k) d (omega arith))
    ∙ ap (λ rows. record t { jobs = rows }) (undropped-cons (λ job. job.id) (change.DropJob id) drops t.jobs)
drops-jobs t (c ∷ drops) all = absurd (let e : false ≡ true = all 0 c (omega arith) in cc)

-- what drops of logs do
pub drops-logs : (t : Tables) (drops : List Change) → AllPass (is_drop_of dropped.Log) drops → applied_all t drops ≡ record t { logs = without_all (λ log. log.id) dropped_id drops t.logs }
drops-logs t [] all = ap (λ rows. record t { logs = rows }) (sym (filter-all t.logs))
drops-logs t (change.DropLog id ∷ drops) all =
    drops-logs (applied t (change.DropLog id)) drops (λ k d lt. all (suc k) d (omega arith))
    ∙ ap (λ rows. record t { logs = rows }) (undropped-cons (λ log. log.id) (change.DropLog id) drops t.logs)
drops-logs t (c ∷ drops) all = absurd (let e : false ≡ true = all 0 c (omega arith) in cc)

-- what drops of registrations do
pub drops-registry : (t : Tables) (drops : List Change) → AllPass drops_registration drops → applied_all t drops ≡ record t { registry = unregistered drops t.registry }
drops-registry t [] all = ap (λ rows. record t { registry = rows }) (sym (filter-all t.registry))
drops-registry t (change.DropRegistry key value ∷ drops) all =
    drops-registry (applied t (change.DropRegistry key value)) drops (λ k d lt. all (suc k) d (omega arith))
    ∙ ap (λ rows. record t { registry = rows }) (unregistered-cons key value drops t.registry)
drops-registry t (c ∷ drops) all = absurd (let e : false ≡ true = all 0 c (omega arith) in cc)

-- registrations dropped in one pass
pub pass-registry : (t kept : Tables) (drops : List Change) (rows : List RegistryRow) → t ≡ kept → AllPass drops_registration drops → rows ≡ unregistered drops t.registry → record t { registry = rows } ≡ applied_all kept drops
pass-registry t kept drops rows same all is =
    ap (λ r. record t { registry = r }) is ∙ sym (drops-registry t drops all) ∙ ap (λ u. applied_all u drops) same

-- the later changes are allowed after the earlier ones
pub allowed-after : (t : Tables) (cs ds : List Change) → AreAllowed t (cs ++ ds) → AreAllowed (applied_all t cs) ds
allowed-after t [] ds h = h
allowed-after t (c ∷ cs) ds h = allowed-after (applied t c) cs ds h.1

-- the earlier changes are allowed
pub allowed-before : (t : Tables) (cs ds : List Change) → AreAllowed t (cs ++ ds) → AreAllowed t cs
allowed-before t [] ds h = tt
allowed-before t (c ∷ cs) ds h = (h.0, allowed-before (applied t c) cs ds h.1)

-- the first of allowed changes are allowed
pub allowed-take : (t : Tables) (n : ℕ) (cs : List Change) → AreAllowed t cs → AreAllowed t (take n cs)
allowed-take t n cs h = allowed-before t (take n cs) (drop n cs) (rw (take-append-drop n cs) h)

-- jobs dropped in one pass
pub pass-jobs : (t kept : Tables) (drops : List Change) (rows : List Job) → t ≡ kept → AllPass (is_drop_of dropped.Job) drops → rows ≡ without_all (λ job. job.id) dropped_id drops t.jobs → record t { jobs = rows } ≡ applied_all kept drops
pass-jobs t kept drops rows same all is =
    ap (λ r. record t { jobs = r }) is ∙ sym (drops-jobs t drops all) ∙ ap (λ u. applied_all u drops) same

-- logs dropped in one pass
pub pass-logs : (t kept : Tables) (drops : List Change) (rows : List Log) → t ≡ kept → AllPass (is_drop_of dropped.Log) drops → rows ≡ without_all (λ log. log.id) dropped_id drops t.logs → record t { logs = rows } ≡ applied_all kept drops
pass-logs t kept drops rows same all is =
    ap (λ r. record t { logs = r }) is ∙ sym (drops-logs t drops all) ∙ ap (λ u. applied_all u drops) same

-- the rest of the changes, after the first ones
pub applied_all-rest : (t u : Tables) (n : ℕ) (cs : List Change) → u ≡ applied_all t (take n cs) → applied_all u (drop n cs) ≡ applied_all t cs
applied_all-rest t u n cs is =
    ap (λ s. applied_all s (drop n cs)) is ∙ sym (applied_append t (take n cs) (drop n cs)) ∙ ap (applied_all t) (take-append-drop n cs)

pub allowed-rest : (t u : Tables) (n : ℕ) (cs : List Change) → u ≡ applied_all t (take n cs) → AreAllowed t cs → AreAllowed u (drop n cs)
allowed-rest t u n cs is h = rw is (allowed-after t (take n cs) (drop n cs) (rw (take-append-drop n cs) h))

-- the room for the rest of the changes, after the first ones
pub room-rest : (old new : Room) (n : ℕ) (cs : List Change) → KeepsRoom old new (take n cs) → HasRoom old cs → HasRoom new (drop n cs)
room-rest old new n cs keeps has =
    let parts : (p : Change → Bool) → count_by p cs ≡ count_by p (take n cs) + count_by p (drop n cs) =
    λ p. ap (count_by p) (sym (take-append-drop n cs)) ∙ sum_by-append (λ c. cond (p c) 1 0) (take n cs) (drop n cs) in
    record {
      groups = omega (arith, parts puts_group, keeps.groups, has.groups);
      jobs = omega (arith, parts puts_job, keeps.jobs, has.jobs);
      logs = omega (arith, parts puts_log, keeps.logs, has.logs);
      registry = omega (arith, parts puts_registration, keeps.registry, has.registry);
    }
