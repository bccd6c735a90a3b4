-- What the changes of a sweep make of the rows, one after another.
use Rattle.std.proofs.Common.{◌≡◌, ℕ, zero, suc, ◌<◌, ◌≤◌, inl, List, [], ◌∷◌, ◌++◌, Bool, true, false, cond, eqb, not, ◌&&◌, Option, Some, IsSome, is_some, map, length, get_or, refl, sym, ap, ◌∙◌, subst, arith}
use Rattle.std.specs.declared.cmp.Ordering.TheVariants.{Less, Equal, Greater}
use Rattle.std.specs.Cmp.Lexicographic.{pointwise}
use Rattle.std.specs.List.{filter, count_by, All}
use Rattle.std.specs.Ordering.{nat_cmp, match_ordering, ordering_reverse, is_eq}
use Rattle.std.specs.Prelude.{bytes_eq}
use Rattle.std.proofs.lemmas.Bool.Decides.{nat_tests}
use Rattle.std.proofs.lemmas.List.{length-map}
use Rattle.std.proofs.lemmas.List.Elements.{All-filter, All-map, All-tail}
use Rattle.std.proofs.lemmas.List.Sums.{length-filter}
use Rattle.std.proofs.lemmas.Slice.Eq.{bytes_eq-Decides, slice_eq-Decides}
use Rattle.job_records.specs.declared.change.Change.{Change}
use Rattle.job_records.specs.declared.change.Change.TheVariants as change
use Rattle.job_records.specs.declared.group.Group.{Group}
use Rattle.job_records.specs.declared.registry.RegistryRow.{RegistryRow}
use Rattle.job_records.specs.Changes.{put_row, applied, applied_all, AreAllowed}
use Rattle.job_records.specs.Order.{key_order, RisesByKey, is_registered}
use Rattle.job_records.specs.Rows.{row_with, IsRising}
use Rattle.job_records.specs.Rules.{KeepsRules}
use Rattle.job_records.specs.Tables.{Tables}
use Rattle.job_records.proofs.Keeping.{keeps_group, keeps_drop_registration, applied_append, allowed_append, all_keep}
use Rattle.job_records.proofs.OrderLemmas.{row_cmp, row_cmp-total, registered-order}
use Rattle.rising_rows.proofs.PutLemmas.{rising-filter, rising-lower, row_with-put}
use Rattle.rising_rows.proofs.RowLemmas.{rises-from_rising, rises-above, rising-all}
use Rattle.rising_rows.proofs.SeatLemmas.{less-nat}
use Rattle.registry_beats.specs.declared.sweeps.Swept.{Swept}
use Rattle.registry_beats.specs.Registrations.{is_dead, rows_left, unregistered, group_swept, groups_swept}
use Rattle.registry_beats.specs.Beats.{drop_of, gets_list, groups_put, Sweeps}

-- registrations without these, one after another
abbrev undropped : List RegistryRow → List RegistryRow → List RegistryRow
undropped [] rows = rows
undropped (one ∷ others) rows = undropped others (unregistered one.key one.value rows)

applied-drops : (t : Tables) (drops : List RegistryRow) → applied_all t (map drop_of drops) ≡ record t { registry = undropped drops t.registry }
applied-drops t [] = refl
applied-drops t (one ∷ others) = applied-drops (applied t (drop_of one)) others

allowed-drops : (t : Tables) (drops : List RegistryRow) → KeepsRules t → AreAllowed t (map drop_of drops)
allowed-drops t [] h = tt
allowed-drops t (one ∷ others) h =
    let kept : KeepsRules (applied t (drop_of one)) = keeps_drop_registration t one.key one.value h in
    (kept, allowed-drops (applied t (drop_of one)) others kept)

-- a drop leaves the registrations above its own, and those below
later-stays : (row later : RegistryRow) → row_cmp row later ≡ Less → is_registered row.key row.value later ≡ false
later-stays row later below =
    let above : row_cmp later row ≡ Greater = row_cmp-total.antisymm later row ∙ ap ordering_reverse below in
    sym (registered-order row.key row.value later) ∙ ap is_eq above

earlier-stays : (row later : RegistryRow) → row_cmp row later ≡ Less → is_registered later.key later.value row ≡ false
earlier-stays row later below = sym (registered-order later.key later.value row) ∙ ap is_eq below

own-goes : (row : RegistryRow) → is_registered row.key row.value row ≡ true
own-goes row =
    ap (λ b. b && bytes_eq row.value row.value) ((bytes_eq-Decides row.key row.key).1 refl)
    ∙ ap (λ b. true && b) ((bytes_eq-Decides row.value row.value).1 refl)

undropped-higher : (row : RegistryRow) (rows : List RegistryRow) → All (λ later. row_cmp row later ≡ Less) rows → unregistered row.key row.value rows ≡ rows
undropped-higher row [] above = refl
undropped-higher row (first ∷ rows) above =
    ap (λ b. cond (not b) (first ∷ unregistered row.key row.value rows) (unregistered row.key row.value rows)) (later-stays row first (above 0 first (omega arith)))
    ∙ ap (λ xs. first ∷ xs) (undropped-higher row rows (All-tail (λ later. row_cmp row later ≡ Less) first rows above))

-- a first registration that is below all that are dropped stays
undropped-first : (drops : List RegistryRow) (row : RegistryRow) (rows : List RegistryRow) → All (λ later. row_cmp row later ≡ Less) drops → undropped drops (row ∷ rows) ≡ row ∷ undropped drops rows
undropped-first [] row rows above = refl
undropped-first (one ∷ others) row rows above =
    ap (λ b. undropped others (cond (not b) (row ∷ unregistered one.key one.value rows) (unregistered one.key one.value rows))) (earlier-stays row one (above 0 one (omega arith)))
    ∙ undropped-first others row (unregistered one.key one.value rows) (All-tail (λ later. row_cmp row later ≡ Less) one others above)

-- what is dropped one after another is what passes
undropped-where : (test : RegistryRow → Bool) (rows : List RegistryRow) → RisesByKey rows → undropped (filter test rows) rows ≡ filter (λ row. not (test row)) rows
undropped-where test [] rises = refl
undropped-where test (row ∷ rows) rises =
    let above : All (λ later. row_cmp row later ≡ Less) rows = λ k d lt. rises 0 (suc k) d (omega arith) (omega arith) in
    by above (test row) (undropped-where test rows (λ i j d before within. rises (suc i) (suc j) d (omega arith) (omega arith)))
  where
    by : All (λ later. row_cmp row later ≡ Less) rows → (b : Bool) → undropped (filter test rows) rows ≡ filter (λ r. not (test r)) rows
        → undropped (cond b (row ∷ filter test rows) (filter test rows)) (row ∷ rows) ≡ cond (not b) (row ∷ filter (λ r. not (test r)) rows) (filter (λ r. not (test r)) rows)
    by above true rest =
        ap (λ b. undropped (filter test rows) (cond (not b) (row ∷ unregistered row.key row.value rows) (unregistered row.key row.value rows))) (own-goes row)
        ∙ ap (undropped (filter test rows)) (undropped-higher row rows above) ∙ rest
    by above false rest =
        undropped-first (filter test rows) row rows (All-filter test (λ later. row_cmp row later ≡ Less) rows above)
        ∙ ap (λ xs. row ∷ xs) rest

-- groups with these put, one after another
abbrev all_put : List Group → List Group → List Group
all_put [] groups = groups
all_put (one ∷ others) groups = all_put others (put_row (λ g. g.id) one groups)

applied-puts : (t : Tables) (puts : List Group) → applied_all t (map change.PutGroup puts) ≡ record t { groups = all_put puts t.groups }
applied-puts t [] = refl
applied-puts t (one ∷ others) = applied-puts (applied t (change.PutGroup one)) others

put-above : (one first : Group) (groups : List Group) → first.id < one.id → put_row (λ g. g.id) one (first ∷ groups) ≡ first ∷ put_row (λ g. g.id) one groups
put-above one first groups h =
    ap (λ o. match_ordering o (first ∷ put_row (λ (g : Group). g.id) one groups) (one ∷ groups) (one ∷ first ∷ groups)) (less-nat first.id one.id h)

same-order : (n : ℕ) → nat_cmp n n ≡ Equal
same-order n = grind (arith, nat_tests)

-- a group with another list takes its place
put-swept : (rows : List RegistryRow) (first : Group) (groups : List Group) → put_row (λ g. g.id) (group_swept rows first) (first ∷ groups) ≡ group_swept rows first ∷ groups
put-swept rows first groups =
    ap (λ o. match_ordering o (first ∷ put_row (λ (g : Group). g.id) (group_swept rows first) groups) (group_swept rows first ∷ groups) (group_swept rows first ∷ first ∷ groups)) (same-order first.id)

-- a first group that is below all that are put stays
all_put-first : (last : ℕ) (puts : List Group) (group : Group) (groups : List Group) → IsRising (λ g. g.id) group.id puts last → all_put puts (group ∷ groups) ≡ group ∷ all_put puts groups
all_put-first last [] group groups rises = refl
all_put-first last (one ∷ others) group groups rises =
    let first : group.id < one.id = rises.0 in
    ap (all_put others) (put-above one group groups first)
    ∙ all_put-first last others group (put_row (λ g. g.id) one groups) (rising-lower (λ (g : Group). g.id) one.id group.id last others rises.1 (omega arith))

rising-swept : (rows : List RegistryRow) (low last : ℕ) (groups : List Group) → IsRising (λ g. g.id) low groups last → IsRising (λ g. g.id) low (map (group_swept rows) groups) last
rising-swept rows low last [] rises = rises
rising-swept rows low last (group ∷ groups) rises = (rises.0, rising-swept rows group.id last groups rises.1)

rising-puts : (rows : List RegistryRow) (low last : ℕ) (groups : List Group) → IsRising (λ g. g.id) low groups last → IsRising (λ g. g.id) low (groups_put rows groups) last
rising-puts rows low last groups rises =
    rising-swept rows low last (filter (gets_list rows) groups) (rising-filter (λ (g : Group). g.id) low last (gets_list rows) groups rises)

-- a group that gets no other list is as it was
kept-list : (rows : List RegistryRow) (group : Group) → gets_list rows group ≡ false → group_swept rows group ≡ group
kept-list rows group is =
    let same : (group_swept rows group).addresses ≡ group.addresses =
    (slice_eq-Decides bytes_eq-Decides (group_swept rows group).addresses group.addresses (pointwise bytes_eq (group_swept rows group).addresses group.addresses) refl).0 (unnot (pointwise bytes_eq (group_swept rows group).addresses group.addresses) is) in
    ap (λ list. record group { addresses = list }) same
  where
    unnot : (b : Bool) → not b ≡ false → b ≡ true
    unnot true h = refl
    unnot false h = (cc)

-- the groups that are put are those that get another list
all_put-swept : (rows : List RegistryRow) (low last : ℕ) (groups : List Group) → IsRising (λ g. g.id) low groups last → all_put (groups_put rows groups) groups ≡ map (group_swept rows) groups
all_put-swept rows low last [] rises = refl
all_put-swept rows low last (group ∷ groups) rises =
    by (gets_list rows group) refl (all_put-swept rows group.id last groups rises.1)
  where
    by : (b : Bool) → gets_list rows group ≡ b → all_put (groups_put rows groups) groups ≡ map (group_swept rows) groups
        → all_put (map (group_swept rows) (cond b (group ∷ filter (gets_list rows) groups) (filter (gets_list rows) groups))) (group ∷ groups) ≡ group_swept rows group ∷ map (group_swept rows) groups
    by true is rest =
        ap (all_put (groups_put rows groups)) (put-swept rows group groups)
        ∙ all_put-first last (groups_put rows groups) (group_swept rows group) groups (rising-puts rows group.id last groups rises.1)
        ∙ ap (λ gs. group_swept rows group ∷ gs) rest
    by false is rest =
        all_put-first last (groups_put rows groups) group groups (rising-puts rows group.id last groups rises.1)
        ∙ ap (λ gs. group ∷ gs) rest
        ∙ ap (λ g. g ∷ map (group_swept rows) groups) (sym (kept-list rows group is))

some-cond : {R : Type 0} (b : Bool) (x : R) (o : Option R) → IsSome o → IsSome (cond b (Some x) o)
some-cond true x o h = refl
some-cond false x o h = h

-- each row of a list is found by its id
found-own : (groups : List Group) (k : ℕ) (d : Group) → k < length groups → IsSome (row_with (λ g. g.id) (get_or groups k d).id groups)
found-own [] k d lt = absurd (omega arith)
found-own (group ∷ groups) zero d lt =
    let own : eqb group.id group.id ≡ true = grind (arith, nat_tests) in
    ap (λ b. is_some (cond b (Some group) (row_with (λ (g : Group). g.id) group.id groups))) own
found-own (group ∷ groups) (suc k) d lt =
    some-cond (eqb group.id (get_or groups k d).id) group (row_with (λ (g : Group). g.id) (get_or groups k d).id groups) (found-own groups k d (omega arith))

-- a group may be put where its id was given and it is there
abbrev HasSeat : List Group → ℕ → ℕ → Type 0
HasSeat groups last id = (1 ≤ id) × (id ≤ last) × IsSome (row_with (λ g. g.id) id groups)

seat-put : (one : Group) (groups : List Group) (last id : ℕ) → HasSeat groups last id → HasSeat (put_row (λ g. g.id) one groups) last id
seat-put one groups last id h = (
  h.0,
  h.1,
  subst IsSome (sym (row_with-put (λ (g : Group). g.id) id one groups)) (some-cond (eqb one.id id) one (row_with (λ (g : Group). g.id) id groups) h.2),
)

allowed-puts : (t : Tables) (puts : List Group) → KeepsRules t → All (λ g. HasSeat t.groups t.last.group g.id) puts → AreAllowed t (map change.PutGroup puts)
allowed-puts t [] h seats = tt
allowed-puts t (one ∷ others) h seats =
    let own : HasSeat t.groups t.last.group one.id = seats 0 one (omega arith) in
    let kept : KeepsRules (applied t (change.PutGroup one)) = keeps_group t one h own.0 own.1 (inl own.2) in
    (kept, allowed-puts (applied t (change.PutGroup one)) others kept (λ k d lt. seat-put one t.groups t.last.group (get_or others k d).id (seats (suc k) d (omega arith))))

seats-of : (t : Tables) (rows : List RegistryRow) → KeepsRules t → All (λ g. HasSeat t.groups t.last.group g.id) (groups_put rows t.groups)
seats-of t rows h =
    All-map (λ (g : Group). HasSeat t.groups t.last.group g.id) (group_swept rows) (filter (gets_list rows) t.groups)
    (All-filter (gets_list rows) (λ (g : Group). HasSeat t.groups t.last.group g.id) t.groups
    (λ k d lt.
    let above : 0 < (get_or t.groups k d).id = rises-above (λ (g : Group). g.id) 0 t.groups k d (rises-from_rising (λ (g : Group). g.id) 0 t.last.group t.groups h.groups.rising) lt in
    (omega arith, rising-all (λ (g : Group). g.id) 0 t.last.group t.groups h.groups.rising k d lt, found-own t.groups k d lt)))

-- dropping the dead registrations, then putting the groups that get another list, is a sweep
pub changes-sweep : (at : ℕ) (t : Tables) (swept : Swept) → KeepsRules t → swept.changes.items ≡ map drop_of (filter (is_dead at) t.registry) ++ map change.PutGroup (groups_put (rows_left at t.registry) t.groups) → swept.dropped ≡ length (map drop_of (filter (is_dead at) t.registry)) → Sweeps at t swept
changes-sweep at t swept h is counted =
    let dead : List RegistryRow = filter (is_dead at) t.registry in
    let rows : List RegistryRow = rows_left at t.registry in
    let puts : List Change = map change.PutGroup (groups_put rows t.groups) in
    let u : Tables = record t { registry = rows } in
    let dropped : applied_all t (map drop_of dead) ≡ u = applied-drops t dead ∙ ap (λ rs. record t { registry = rs }) (undropped-where (is_dead at) t.registry h.registry.rising) in
    let drops_allowed : AreAllowed t (map drop_of dead) = allowed-drops t dead h in
    let kept : KeepsRules u = subst KeepsRules dropped (all_keep t (map drop_of dead) h drops_allowed) in
    let puts_allowed : AreAllowed u puts = allowed-puts u (groups_put rows t.groups) kept (seats-of u rows kept) in
    record {
      changes = is;
      count = counted ∙ length-map dead drop_of ∙ length-filter (is_dead at) t.registry;
      allowed = subst (AreAllowed t) (sym is) (allowed_append t (map drop_of dead) puts drops_allowed (subst (λ s. AreAllowed s puts) (sym dropped) puts_allowed));
      after =
          ap (applied_all t) is ∙ applied_append t (map drop_of dead) puts
          ∙ ap (λ s. applied_all s puts) dropped
          ∙ applied-puts u (groups_put rows t.groups)
          ∙ ap (λ gs. record u { groups = gs }) (all_put-swept rows 0 t.last.group t.groups h.groups.rising);
    }
