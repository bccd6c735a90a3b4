-- What the values of one key are like.
use Rattle.std.proofs.Common.{◌≡◌, ℕ, zero, suc, ◌+◌, ◌<◌, ◌≤◌, List, [], ◌∷◌, ◌++◌, Bool, true, false, cond, not, Option, Some, None, map, length, get_or, take, refl, sym, ap, ◌∙◌, subst, arith}
use Rattle.std.specs.declared.cmp.Ordering.{Ordering}
use Rattle.std.specs.declared.cmp.Ordering.TheVariants.{Less, Equal, Greater}
use Rattle.std.specs.Cmp.Lexicographic.{slice_cmp, pointwise}
use Rattle.std.specs.List.{filter, count_by, All, AllPairs}
use Rattle.std.specs.Ordering.{nat_cmp, ordering_then, is_eq}
use Rattle.std.specs.Prelude.{bytes_eq}
use Rattle.std.proofs.lemmas.List.{get_or-map, get_or_default, length-map, length-take, take_more, ext_get_or, map-append}
use Rattle.std.proofs.lemmas.List.Elements.{All-cons, All-filter, filter-append}
use Rattle.std.proofs.lemmas.List.Sums.{length-filter, count_by-le-length}
use Rattle.std.proofs.lemmas.Map.Text.{is_eq-slice_cmp}
use Rattle.std.proofs.lemmas.Slice.Eq.{bytes_eq-Decides, slice_eq-Decides}
use Rattle.job_values.specs.declared.limits.TheConstants.{MOST_ADDRESSES}
use Rattle.job_values.specs.declared.words.GroupKind.{GroupKind}
use Rattle.job_values.specs.declared.words.GroupKind.TheVariants.{Auto, Manual}
use Rattle.job_records.specs.declared.change.Change.{Change}
use Rattle.job_records.specs.declared.change.Change.TheVariants.{PutGroup}
use Rattle.job_records.specs.declared.group.Group.{Group}
use Rattle.job_records.specs.declared.registry.RegistryRow.{RegistryRow}
use Rattle.job_records.specs.Order.{RisesByKey}
use Rattle.job_records.specs.Rules.{RegistryRules, IsNamed}
use Rattle.job_records.proofs.RegistryLemmas.{registry-filter_rises, registration_filter, count-cons}
use Rattle.registry_beats.specs.Registrations.{is_dead, rows_left, values_of, list_by, group_swept}
use Rattle.registry_beats.specs.Beats.{gets_list, groups_put}
use Rattle.registry_beats.specs.Laws.{AreSorted, IsList}
use Rattle.registry_beats.proofs.KeyRows.{filter-step}

passes-filter : {R : Type 0} (p : R → Bool) (rows : List R) → All (λ row. p row ≡ true) (filter p rows)
passes-filter p [] = λ k d lt. absurd (omega arith)
passes-filter p (row ∷ rows) = by (p row) refl (passes-filter p rows)
  where
    by : (b : Bool) → p row ≡ b → All (λ r. p r ≡ true) (filter p rows) → All (λ r. p r ≡ true) (cond b (row ∷ filter p rows) (filter p rows))
    by true is rest = All-cons (λ r. p r ≡ true) row (filter p rows) is rest
    by false is rest = rest

after-equal : (a b : Ordering) → is_eq a ≡ true → ordering_then a b ≡ Less → b ≡ Less
after-equal Less b e h = (cc)
after-equal Equal b e h = h
after-equal Greater b e h = (cc)

-- of two registrations of one key the lower has the lower value
value-below : (app : List ℕ) (row later : RegistryRow) → bytes_eq row.key app ≡ true → bytes_eq later.key app ≡ true → ordering_then (slice_cmp nat_cmp row.key later.key) (slice_cmp nat_cmp row.value later.value) ≡ Less → slice_cmp nat_cmp row.value later.value ≡ Less
value-below app row later own other less =
    let same : row.key ≡ later.key = (bytes_eq-Decides row.key app).0 own ∙ sym ((bytes_eq-Decides later.key app).0 other) in
    let tied : is_eq (slice_cmp nat_cmp row.key later.key) ≡ true = is_eq-slice_cmp row.key later.key ∙ (bytes_eq-Decides row.key later.key).1 same in
    after-equal (slice_cmp nat_cmp row.key later.key) (slice_cmp nat_cmp row.value later.value) tied less

values-rise : (app : List ℕ) (rows : List RegistryRow) → RisesByKey rows → AreSorted (values_of app rows)
values-rise app rows rises i j d before within =
    let own : List RegistryRow = filter (λ row. bytes_eq row.key app) rows in
    let few : j < length own = omega (arith, length-map own (λ (row : RegistryRow). row.value)) in
    let e : RegistryRow = record { key = []; value = []; beat = 0 } in
    rw (get_or-map (λ (row : RegistryRow). row.value) own i e d (omega arith), get_or-map (λ (row : RegistryRow). row.value) own j e d few)
    (value-below app (get_or own i e) (get_or own j e) (passes-filter (λ (row : RegistryRow). bytes_eq row.key app) rows i e (omega arith)) (passes-filter (λ (row : RegistryRow). bytes_eq row.key app) rows j e few)
    (registry-filter_rises (λ (row : RegistryRow). bytes_eq row.key app) rows rises i j e before few))

-- an address that is below another is not equal to it
apart : (address later : List ℕ) → slice_cmp nat_cmp address later ≡ Less → bytes_eq address later ≡ false
apart address later less = sym (is_eq-slice_cmp address later) ∙ ap is_eq less

none-equal : (address : List ℕ) (addresses : List (List ℕ)) → All (λ later. slice_cmp nat_cmp address later ≡ Less) addresses → count_by (bytes_eq address) addresses ≡ 0
none-equal address [] above = refl
none-equal address (first ∷ addresses) above =
    let other : ◌≡◌ {A = ℕ} (cond (bytes_eq address first) 1 0) 0 = ap (λ (b : Bool). cond b 1 0) (apart address first (above 0 first (omega arith))) in
    let rest : count_by (bytes_eq address) addresses ≡ 0 = none-equal address addresses (λ k d lt. above (suc k) d (omega arith)) in
    omega (arith, count-cons (bytes_eq address) first addresses)

-- no address stands twice in a sorted list
sorted-once : (addresses : List (List ℕ)) → AreSorted addresses → (address : List ℕ) → count_by (bytes_eq address) addresses ≤ 1
sorted-once [] sorted address = omega arith
sorted-once (first ∷ addresses) sorted address =
    by (bytes_eq address first) refl (sorted-once addresses (λ i j d before within. sorted (suc i) (suc j) d (omega arith) (omega arith)) address)
  where
    by : (b : Bool) → bytes_eq address first ≡ b → count_by (bytes_eq address) addresses ≤ 1 → count_by (bytes_eq address) (first ∷ addresses) ≤ 1
    by true is rest =
        let same : address ≡ first = (bytes_eq-Decides address first).0 is in
        let none : count_by (bytes_eq address) addresses ≡ 0 =
        ap (λ (a : List ℕ). count_by (bytes_eq a) addresses) same ∙ none-equal first addresses (λ k d lt. sorted 0 (suc k) d (omega arith) (omega arith)) in
        let one : ◌≡◌ {A = ℕ} (cond (bytes_eq address first) 1 0) 1 = ap (λ (b : Bool). cond b 1 0) is in
        omega (arith, count-cons (bytes_eq address) first addresses)
    by false is rest =
        let none : ◌≡◌ {A = ℕ} (cond (bytes_eq address first) 1 0) 0 = ap (λ (b : Bool). cond b 1 0) is in
        omega (arith, count-cons (bytes_eq address) first addresses)

-- what a sweep leaves of an app is a list of a group
pub swept-list : (at : ℕ) (rows : List RegistryRow) → RegistryRules rows → (app : List ℕ) → IsList (values_of app (rows_left at rows))
swept-list at rows rules app =
    let left : RegistryRules (rows_left at rows) = registration_filter (λ row. not (is_dead at row)) rows rules in
    let sorted : AreSorted (values_of app (rows_left at rows)) = values-rise app (rows_left at rows) left.rising in
    let own : List RegistryRow = filter (λ row. bytes_eq row.key app) (rows_left at rows) in
    record {
      sorted = sorted;
      once = sorted-once (values_of app (rows_left at rows)) sorted;
      few = omega (arith, length-map own (λ (row : RegistryRow). row.value), length-filter (λ (row : RegistryRow). bytes_eq row.key app) (rows_left at rows), left.few_of_key app);
    }

-- the living values of so many registrations are no more than these
pub few-values : (at : ℕ) (count : ℕ) (rows : List RegistryRow) (values : List (List ℕ)) → values ≡ map (λ row. row.value) (rows_left at (take count rows)) → length rows ≤ MOST_ADDRESSES → length values ≤ MOST_ADDRESSES
few-values at count rows values is few =
    let left : List RegistryRow = rows_left at (take count rows) in
    omega (
      arith,
      ap length is,
      length-map left (λ (row : RegistryRow). row.value),
      length-filter (λ row. not (is_dead at row)) (take count rows),
      count_by-le-length (λ row. not (is_dead at row)) (take count rows),
      length-take count rows,
    )

-- two tests may be made in either order
filter-swap : {R : Type 0} (p q : R → Bool) (rows : List R) → filter p (filter q rows) ≡ filter q (filter p rows)
filter-swap p q [] = refl
filter-swap p q (row ∷ rows) = by (p row) refl (q row) refl (filter-swap p q rows)
  where
    by : (b : Bool) → p row ≡ b → (c : Bool) → q row ≡ c → filter p (filter q rows) ≡ filter q (filter p rows) → filter p (cond c (row ∷ filter q rows) (filter q rows)) ≡ filter q (cond b (row ∷ filter p rows) (filter p rows))
    by true e true f rest = filter-step p row (filter q rows) true e ∙ ap (λ xs. row ∷ xs) rest ∙ sym (filter-step q row (filter p rows) true f)
    by true e false f rest = rest ∙ sym (filter-step q row (filter p rows) false f)
    by false e true f rest = filter-step p row (filter q rows) false e ∙ rest
    by false e false f rest = rest

-- the living values of the registrations of an app are the values of those of the living that are of the app
pub values-living : (at : ℕ) (app : List ℕ) (rows : List RegistryRow) → map (λ row. row.value) (rows_left at (filter (λ row. bytes_eq row.key app) rows)) ≡ values_of app (rows_left at rows)
values-living at app rows =
    ap (map (λ (row : RegistryRow). row.value)) (filter-swap (λ row. not (is_dead at row)) (λ (row : RegistryRow). bytes_eq row.key app) rows)

-- the registrations of an app are few, and each is named
pub few-of_app : (app : List ℕ) (rows : List RegistryRow) → RegistryRules rows → length (filter (λ row. bytes_eq row.key app) rows) ≤ MOST_ADDRESSES
few-of_app app rows rules = omega (arith, length-filter (λ (row : RegistryRow). bytes_eq row.key app) rows, rules.few_of_key app)

pub named-of_app : (app : List ℕ) (rows : List RegistryRow) → RegistryRules rows → All IsNamed (filter (λ row. bytes_eq row.key app) rows)
named-of_app app rows rules = All-filter (λ (row : RegistryRow). bytes_eq row.key app) IsNamed rows rules.named

-- what `==` says of two lists of addresses
decided : (xs ys : List (List ℕ)) → (pointwise bytes_eq xs ys ≡ true → xs ≡ ys) × (xs ≡ ys → pointwise bytes_eq xs ys ≡ true)
decided xs ys =
    let d = slice_eq-Decides bytes_eq-Decides xs ys (pointwise bytes_eq xs ys) refl in
    (λ is. d.0 is, λ same. d.1 same)

pub unlike : (xs ys : List (List ℕ)) → (xs ≡ ys → ⊥) → false ≡ pointwise bytes_eq xs ys
unlike xs ys other = by (pointwise bytes_eq xs ys) refl
  where
    by : (b : Bool) → pointwise bytes_eq xs ys ≡ b → false ≡ pointwise bytes_eq xs ys
    by true is = absurd (other ((decided xs ys).0 is))
    by false is = sym is

-- lists of one length with the same address at each place are the same
pub alike : (xs ys : List (List ℕ)) → length xs ≡ length ys → ((k : ℕ) (d : List ℕ) → k < length xs → get_or xs k d ≡ get_or ys k d) → true ≡ pointwise bytes_eq xs ys
alike xs ys long same = sym ((decided xs ys).1 (ext_get_or [] xs ys long (λ k lt. same k [] lt)))

-- a manual group gets no other list
pub manual-stays : (rows : List RegistryRow) (group : Group) → group.kind ≡ Manual → gets_list rows group ≡ false
manual-stays rows group is =
    let own : (group_swept rows group).addresses ≡ group.addresses = ap (λ k. list_by k group.app group.addresses rows) is in
    ap not ((decided (group_swept rows group).addresses group.addresses).1 own)

-- an automatic group gets the list of its app, if it has another
pub auto-swept : (rows : List RegistryRow) (group : Group) (list : List (List ℕ)) (swept : Option Group) → group.kind ≡ Auto → list ≡ values_of group.app rows → swept ≡ cond (pointwise bytes_eq list group.addresses) None (Some (record group { addresses = list }))
    → swept ≡ cond (gets_list rows group) (Some (group_swept rows group)) None
auto-swept rows group list swept auto is made =
    let own : (group_swept rows group).addresses ≡ list = ap (λ k. list_by k group.app group.addresses rows) auto ∙ sym is in
    made ∙ turned (pointwise bytes_eq list group.addresses) (Some (record group { addresses = list })) ∙ ap (λ (l : List (List ℕ)). cond (not (pointwise bytes_eq l group.addresses)) (Some (record group { addresses = l })) None) (sym own)
  where
    turned : (b : Bool) (some : Option Group) → cond b None some ≡ cond (not b) some None
    turned true some = refl
    turned false some = refl

-- what is put of one group
abbrev pub puts_of : Option Group → List Change
puts_of None = []
puts_of (Some group) = PutGroup group ∷ []

pub put-one : (rows : List RegistryRow) (group : Group) (swept : Option Group) → swept ≡ cond (gets_list rows group) (Some (group_swept rows group)) None → puts_of swept ≡ map PutGroup (groups_put rows (group ∷ []))
put-one rows group swept is = ap puts_of is ∙ by (gets_list rows group)
  where
    by : (b : Bool) → puts_of (cond b (Some (group_swept rows group)) None) ≡ map PutGroup (map (group_swept rows) (cond b (group ∷ []) []))
    by true = refl
    by false = refl

-- what is put of one group more
pub puts-more : (rows : List RegistryRow) (groups : List Group) (count : ℕ) (group : Group) → count < length groups → group ≡ get_or groups count group → map PutGroup (groups_put rows (take (count + 1) groups)) ≡ map PutGroup (groups_put rows (take count groups)) ++ map PutGroup (groups_put rows (group ∷ []))
puts-more rows groups count group lt is =
    let more : take (count + 1) groups ≡ take count groups ++ group ∷ [] = take_more groups count group lt ∙ ap (λ g. take count groups ++ g ∷ []) (sym is) in
    ap (λ gs. map PutGroup (groups_put rows gs)) more
    ∙ ap (λ gs. map PutGroup (map (group_swept rows) gs)) (filter-append (gets_list rows) (take count groups) (group ∷ []))
    ∙ ap (map PutGroup) (map-append (group_swept rows) (filter (gets_list rows) (take count groups)) (filter (gets_list rows) (group ∷ [])))
    ∙ map-append PutGroup (groups_put rows (take count groups)) (groups_put rows (group ∷ []))

-- lists with different addresses at a place are not the same
pub apart-at : (xs ys : List (List ℕ)) (place : ℕ) (x y : List ℕ) → place < length xs → x ≡ get_or xs place x → y ≡ get_or ys place y → (x ≡ y → ⊥) → false ≡ pointwise bytes_eq xs ys
apart-at xs ys place x y lt here there other =
    unlike xs ys (λ same. other (here ∙ get_or_default xs place x y lt ∙ ap (λ (l : List (List ℕ)). get_or l place y) same ∙ sym there))
