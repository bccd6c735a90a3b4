-- The lists of the groups are those that the entries tell.
use Rattle.std.proofs.Common.{◌≡◌, ℕ, ◌+◌, ◌<◌, ◌≤◌, inl, inr, List, [], ◌∷◌, ◌++◌, Bool, true, false, cond, eqb, nat_lt, ◌&&◌, ◌||◌, not, is_some, Option, Some, None, length, map, option_map, codes, refl, sym, ap, ◌∙◌, subst, arith}
use Rattle.std.specs.List.{list_any, filter}
use Rattle.std.specs.Prelude.{bytes_eq}
use Rattle.std.proofs.lemmas.Bool.{true≢false, and_parts}
use Rattle.std.proofs.lemmas.Bool.Decides.{nat_tests}
use Rattle.job_values.specs.declared.limits.TheConstants.{MOST_OF_KEY, MOST_REGISTRATIONS}
use Rattle.job_values.specs.declared.words.GroupKind.{GroupKind}
use Rattle.job_values.specs.declared.words.GroupKind.TheVariants.{Auto, Manual}
use Rattle.job_events.specs.declared.cluster.ClusterEvent.{ClusterEvent}
use Rattle.job_events.specs.declared.cluster.ClusterEvent.TheVariants.{AddGroup, SetGroup, Registry, RegistryRemove, Sweep}
use Rattle.job_events.specs.declared.cluster.ClusterReply.{ClusterReply}
use Rattle.job_events.specs.declared.cluster.ClusterReply.TheVariants.{Group as GroupReply}
use Rattle.job_records.specs.declared.group.Group.{Group}
use Rattle.job_records.specs.declared.registry.RegistryRow.{RegistryRow}
use Rattle.job_records.specs.Order.{is_registered}
use Rattle.job_records.specs.Rows.{changed}
use Rattle.job_records.specs.Rules.{RegistryRules, HasKeyPlace, count_of_key}
use Rattle.job_records.proofs.RegistryLemmas.{registration_put, registration_filter}
use Rattle.job_records.proofs.RowLemmas.{find-skip, find-here}
use Rattle.registry_beats.specs.Registrations.{list_by}
use Rattle.registry_beats.proofs.ListLemmas.{swept-list}
use Rattle.cluster_history.specs.History.{History, Opening, Begin, After, places, before, opening_of, accepted, is_refusal}
use Rattle.cluster_history.specs.Registrations.{registry_of, is_dead, rows_left, limit_passed, values_of, group_swept}
use Rattle.cluster_history.specs.Groups.{groups_of, last_group, group_with, group_set}
use Rattle.cluster_history.specs.Replies.{is_named, place_reply}
use Rattle.cluster_history.specs.Runs.{OpensWell, IsAnswered}
use Rattle.cluster_history.proofs.Places.{before-all, before-last}
use Rattle.cluster_history.proofs.RowIds.{groups_rise}
use Rattle.cluster_history.proofs.Answered.{legal_answered, accepted_opens}
use Rattle.cluster_laws.specs.Registered.{registration}
use Rattle.cluster_laws.specs.Lists.{GivenAt, given_opened, given_anew, given_in, last_sweep, up_to_sweep, AreStanding, HasList, IsGiven, IsByEntries, ListsByEntries}
use Rattle.cluster_laws.proofs.FoundRows.{absent-above}
use Rattle.cluster_laws.proofs.RegisteredLemmas.{bytes-turned, rows-stand}

-- an accepted beat is of a call that names an app and an address, and passes no limit
call-facts : (named : Bool) (limit : Option ℕ) (r refusal : ClusterReply) → is_refusal refusal ≡ true → r ≡ cond named (place_reply limit) refusal → is_refusal r ≡ false → (named ≡ true) × (limit ≡ None)
call-facts false limit r refusal refuses is ok = absurd (true≢false (sym refuses ∙ sym (ap is_refusal is) ∙ ok))
call-facts true None r refusal refuses is ok = (refl, refl)
call-facts true (Some limit) r refusal refuses is ok = absurd (true≢false (sym (ap is_refusal is) ∙ ok))

named-facts : (group key value : List ℕ) → is_named group key value ≡ true → (0 < length key) × (0 < length value)
named-facts group key value named =
    let both = and_parts (bytes_eq group (codes "EXECUTOR")) (nat_lt 0 (length key) && nat_lt 0 (length value)) named in
    let texts = and_parts (nat_lt 0 (length key)) (nat_lt 0 (length value)) both.1 in
    let key_test : nat_lt 0 (length key) ≡ true = texts.0 in
    let value_test : nat_lt 0 (length value) ≡ true = texts.1 in
    (grind (arith, nat_tests), grind (arith, nat_tests))

place-free : (row : RegistryRow) (rows : List RegistryRow) → limit_passed row.key row.value rows ≡ None → HasKeyPlace row rows
place-free row rows free = by (list_any (is_registered row.key row.value) rows) refl (nat_lt (count_of_key row.key rows) MOST_OF_KEY) refl (nat_lt (length rows) MOST_REGISTRATIONS) refl free
  where
    by : (there : Bool) → list_any (is_registered row.key row.value) rows ≡ there → (few_of_key : Bool) → nat_lt (count_of_key row.key rows) MOST_OF_KEY ≡ few_of_key → (few : Bool) → nat_lt (length rows) MOST_REGISTRATIONS ≡ few
        → ◌≡◌ {A = Option ℕ} (cond there None (cond few_of_key (cond few None (Some MOST_REGISTRATIONS)) (Some MOST_OF_KEY))) None → HasKeyPlace row rows
    by true some few_of_key k few f e = inl some
    by false none true k true f e = inr (grind (arith, nat_tests), grind (arith, nat_tests))
    by false none true k false f e = (cc)
    by false none false k few f e = (cc)

-- the registrations keep their rules
registry-rules : (h : History) → OpensWell (opening_of h) → IsAnswered h → RegistryRules (registry_of h)
registry-rules (Begin o) well answered = well.rules.registry
registry-rules (After h (Registry at group key value) r) well answered =
    let facts = call-facts (is_named group key value) (limit_passed key value (registry_of h)) r _ refl answered.1 answered.2 in
    registration_put (record { key = key; value = value; beat = at }) (registry_of h) (registry-rules h well answered.0) (named-facts group key value facts.0) (place-free (record { key = key; value = value; beat = at }) (registry_of h) facts.1)
registry-rules (After h (RegistryRemove group key value) r) well answered = registration_filter (λ row. not (is_registered key value row)) (registry_of h) (registry-rules h well answered.0)
registry-rules (After h (Sweep at) r) well answered = registration_filter (λ row. not (is_dead at row)) (registry_of h) (registry-rules h well answered.0)
registry-rules (After h _ r) well answered = registry-rules h well answered.0

-- the addresses of an app are those of its registrations
has-value : (app address : List ℕ) (rows : List RegistryRow) → list_any (bytes_eq address) (values_of app rows) ≡ is_some (registration app address rows)
has-value app address [] = refl
has-value app address (row ∷ rows) = by (bytes_eq row.key app) (has-value app address rows)
  where
    found : (b : Bool) (rest : Bool) (others : Option RegistryRow) → rest ≡ is_some others → (b || rest) ≡ is_some (cond b (Some row) others)
    found true rest others same = refl
    found false rest others same = same

    by : (b : Bool) → list_any (bytes_eq address) (values_of app rows) ≡ is_some (registration app address rows)
        → list_any (bytes_eq address) (map (λ (r : RegistryRow). r.value) (cond b (row ∷ filter (λ r. bytes_eq r.key app) rows) (filter (λ r. bytes_eq r.key app) rows)))
        ≡ is_some (cond (b && bytes_eq row.value address) (Some row) (registration app address rows))
    by true rest =
        ap (λ b. b || list_any (bytes_eq address) (values_of app rows)) (bytes-turned address row.value)
        ∙ found (bytes_eq row.value address) (list_any (bytes_eq address) (values_of app rows)) (registration app address rows) rest
    by false rest = rest

some-beat : (row : Option RegistryRow) → is_some (option_map (λ (one : RegistryRow). one.beat) row) ≡ is_some row
some-beat None = refl
some-beat (Some row) = refl

-- what a sweep leaves under an app is what stands then
swept-stands : (h : History) (at : ℕ) (r : ClusterReply) → OpensWell (opening_of h) → IsAnswered h → (app : List ℕ) → AreStanding (After h (Sweep at) r) app (values_of app (rows_left at (registry_of h)))
swept-stands h at r well answered app = record {
  list = swept-list at (registry_of h) (registry-rules h well answered) app;
  each = λ address.
      has-value app address (rows_left at (registry_of h)) ∙ sym (some-beat (registration app address (rows_left at (registry_of h)))) ∙ ap is_some (rows-stand (After h (Sweep at) r) well app address);
}

-- the last sweep is not behind the last place, nor is what gave a group its list
sweep-within : (h : History) → last_sweep h ≤ places h
sweep-within (Begin o) = omega arith
sweep-within (After h (Sweep at) r) = omega arith
sweep-within (After h _ r) = omega (arith, sweep-within h)

opened-first : (row : Option Group) (given : GivenAt) → given_opened row ≡ Some given → given.place ≤ 0
opened-first None given is = (cc)
opened-first (Some row) given is = let same : 0 ≡ given.place = (cc) in omega arith

anew-within : (place : ℕ) (kind : GroupKind) (addresses : List (List ℕ)) (earlier : Option GivenAt) (given : GivenAt) → given_anew place kind addresses earlier ≡ Some given → given.place ≤ place
anew-within place kind addresses None given is = (cc)
anew-within place kind addresses (Some earlier) given is = let same : place ≡ given.place = (cc) in omega arith

given-within : (h : History) (id : ℕ) (given : GivenAt) → given_in h id ≡ Some given → given.place ≤ places h
given-within (Begin o) id given is = opened-first (group_with id o.tables.groups) given is
given-within (After h (AddGroup app kind addresses) (GroupReply group)) id given is = by (eqb group id) (given-within h id given) is
  where
    by : (b : Bool) → (given_in h id ≡ Some given → given.place ≤ places h) → cond b (Some (record { place = places h + 1; app = app; kind = kind; addresses = addresses })) (given_in h id) ≡ Some given → given.place ≤ places h + 1
    by true earlier e = let same : places h + 1 ≡ given.place = (cc) in omega arith
    by false earlier e = omega (arith, earlier e)
given-within (After h (SetGroup group kind addresses) r) id given is = by (eqb group id) (given-within h id given) is
  where
    by : (b : Bool) → (given_in h id ≡ Some given → given.place ≤ places h) → cond b (given_anew (places h + 1) kind addresses (given_in h id)) (given_in h id) ≡ Some given → given.place ≤ places h + 1
    by true earlier e = anew-within (places h + 1) kind addresses (given_in h id) given e
    by false earlier e = omega (arith, earlier e)
given-within (After h _ r) id given is = omega (arith, given-within h id given is)

-- a list that was given and not swept since
unswept : (swept : History) (given : GivenAt) (kind : GroupKind) (since : Bool) (addresses : List (List ℕ)) → since ≡ false → addresses ≡ given.addresses → HasList swept given kind since addresses
unswept swept given Auto true addresses none same = absurd (true≢false none)
unswept swept given Auto false addresses none same = same
unswept swept given Manual since addresses none same = same

not-since : (h : History) (place : ℕ) → places h ≤ place → nat_lt place (last_sweep h) ≡ false
not-since h place last = let low : last_sweep h ≤ places h = sweep-within h in grind (arith, nat_tests)

-- an entry that is no sweep leaves the lists as they were given and swept
carry-one : (h : History) (e : ClusterEvent) (r : ClusterReply) (given : GivenAt) (group : Group) → last_sweep (After h e r) ≡ last_sweep h → IsGiven h given group → IsGiven (After h e r) given group
carry-one h e r given group same is =
    let low : last_sweep h ≤ places h = sweep-within h in
    let upto : up_to_sweep (After h e r) ≡ up_to_sweep h = ap (λ n. before (After h e r) (n + 1)) same ∙ before-last h e r (last_sweep h + 1) (omega arith) in
    record {
      app = is.app;
      kind = is.kind;
      list = subst (λ swept. HasList swept given given.kind (nat_lt given.place (last_sweep (After h e r))) group.addresses) (sym upto)
          (subst (λ n. HasList (up_to_sweep h) given given.kind (nat_lt given.place n) group.addresses) (sym same) is.list);
    }

carry : (h : History) (e : ClusterEvent) (r : ClusterReply) (given : Option GivenAt) (group : Option Group) → last_sweep (After h e r) ≡ last_sweep h → IsByEntries h given group → IsByEntries (After h e r) given group
carry h e r None None same is = tt
carry h e r None (Some group) same is = absurd is
carry h e r (Some given) None same is = absurd is
carry h e r (Some given) (Some group) same is = carry-one h e r given group same is

-- groups by their ids, with one more
push-other : (id : ℕ) (new : Group) (groups : List Group) → eqb new.id id ≡ false → group_with id (groups ++ new ∷ []) ≡ group_with id groups
push-other id new [] other = find-skip (λ (g : Group). eqb g.id id) new [] other
push-other id new (first ∷ groups) other = ap (λ found. cond (eqb first.id id) (Some first) found) (push-other id new groups other)

push-here : (id : ℕ) (new : Group) (groups : List Group) → eqb new.id id ≡ true → group_with id groups ≡ None → group_with id (groups ++ new ∷ []) ≡ Some new
push-here id new [] here none = find-here (λ (g : Group). eqb g.id id) new [] here
push-here id new (first ∷ groups) here none = by (eqb first.id id) (push-here id new groups here) none
  where
    by : (b : Bool) → (group_with id groups ≡ None → group_with id (groups ++ new ∷ []) ≡ Some new) → cond b (Some first) (group_with id groups) ≡ None → cond b (Some first) (group_with id (groups ++ new ∷ [])) ≡ Some new
    by true rest e = (cc)
    by false rest e = rest e

-- with each changed, or one of them
mapped-found : (id : ℕ) (f : Group → Group) → ((g : Group) → (f g).id ≡ g.id) → (groups : List Group) → group_with id (map f groups) ≡ option_map f (group_with id groups)
mapped-found id f keeps [] = refl
mapped-found id f keeps (first ∷ groups) =
    ap (λ n. cond (eqb n id) (Some (f first)) (group_with id (map f groups))) (keeps first)
    ∙ ap (λ found. cond (eqb first.id id) (Some (f first)) found) (mapped-found id f keeps groups)
    ∙ by (eqb first.id id)
  where
    by : (b : Bool) → cond b (Some (f first)) (option_map f (group_with id groups)) ≡ option_map f (cond b (Some first) (group_with id groups))
    by true = refl
    by false = refl

set-keeps : (f : Group → Group) → ((g : Group) → (f g).id ≡ g.id) → (g : Group) (b : Bool) → (cond b (f g) g).id ≡ g.id
set-keeps f keeps g true = keeps g
set-keeps f keeps g false = refl

changed-here : (id : ℕ) (f : Group → Group) → ((g : Group) → (f g).id ≡ g.id) → (groups : List Group) → group_with id (changed (λ g. g.id) id f groups) ≡ option_map f (group_with id groups)
changed-here id f keeps [] = refl
changed-here id f keeps (first ∷ groups) =
    ap (λ n. cond (eqb n id) (Some (cond (eqb first.id id) (f first) first)) (group_with id (changed (λ (g : Group). g.id) id f groups))) (set-keeps f keeps first (eqb first.id id))
    ∙ ap (λ found. cond (eqb first.id id) (Some (cond (eqb first.id id) (f first) first)) found) (changed-here id f keeps groups)
    ∙ by (eqb first.id id)
  where
    by : (b : Bool) → cond b (Some (cond b (f first) first)) (option_map f (group_with id groups)) ≡ option_map f (cond b (Some first) (group_with id groups))
    by true = refl
    by false = refl

changed-other : (id other : ℕ) (f : Group → Group) → eqb other id ≡ false → ((g : Group) → (f g).id ≡ g.id) → (groups : List Group) → group_with id (changed (λ g. g.id) other f groups) ≡ group_with id groups
changed-other id other f apart keeps [] = refl
changed-other id other f apart keeps (first ∷ groups) =
    ap (λ n. cond (eqb n id) (Some (cond (eqb first.id other) (f first) first)) (group_with id (changed (λ (g : Group). g.id) other f groups))) (set-keeps f keeps first (eqb first.id other))
    ∙ ap (λ found. cond (eqb first.id id) (Some (cond (eqb first.id other) (f first) first)) found) (changed-other id other f apart keeps groups)
    ∙ by (eqb first.id id) refl (eqb first.id other) refl
  where
    by : (b : Bool) → eqb first.id id ≡ b → (c : Bool) → eqb first.id other ≡ c → cond b (Some (cond c (f first) first)) (group_with id groups) ≡ cond b (Some first) (group_with id groups)
    by true here true its =
        let a : first.id ≡ id = grind (arith, nat_tests) in
        let b : first.id ≡ other = grind (arith, nat_tests) in
        let never : eqb other id ≡ true = grind (arith, nat_tests) in absurd (true≢false (sym never ∙ apart))
    by true here false its = refl
    by false here c its = refl

-- the reply to an adding tells the id
id-told : (few below : Bool) (count last : ℕ) (r much spent : ClusterReply) → is_refusal much ≡ true → is_refusal spent ≡ true → r ≡ cond few (cond below (GroupReply (last + 1)) spent) much → is_refusal r ≡ false → r ≡ GroupReply (last + 1)
id-told false below count last r much spent m s is ok = absurd (true≢false (sym m ∙ sym (ap is_refusal is) ∙ ok))
id-told true false count last r much spent m s is ok = absurd (true≢false (sym s ∙ sym (ap is_refusal is) ∙ ok))
id-told true true count last r much spent m s is ok = is

-- a group that is added
added-by : (h : History) (app : List ℕ) (kind : GroupKind) (addresses : List (List ℕ)) (id : ℕ) → OpensWell (opening_of h) → IsByEntries h (given_in h id) (group_with id (groups_of h))
    → IsByEntries (After h (AddGroup app kind addresses) (GroupReply (last_group h + 1))) (given_in (After h (AddGroup app kind addresses) (GroupReply (last_group h + 1))) id)
    (group_with id (groups_of (After h (AddGroup app kind addresses) (GroupReply (last_group h + 1)))))
added-by h app kind addresses id well earlier = by (eqb (last_group h + 1) id) refl
  where
    new : Group
    new = record { id = last_group h + 1; app = app; kind = kind; addresses = addresses }

    gives : GivenAt
    gives = record { place = places h + 1; app = app; kind = kind; addresses = addresses }

    after : History
    after = After h (AddGroup app kind addresses) (GroupReply (last_group h + 1))

    by : (b : Bool) → eqb (last_group h + 1) id ≡ b → IsByEntries after (cond b (Some gives) (given_in h id)) (group_with id (groups_of h ++ new ∷ []))
    by true here =
        let same : last_group h + 1 ≡ id = grind (arith, nat_tests) in
        let none : group_with id (groups_of h) ≡ None = absent-above (λ (g : Group). g.id) 0 (last_group h) id (groups_of h) (groups_rise h well) (omega arith) in
        subst (IsByEntries after (Some gives)) (sym (push-here id new (groups_of h) here none))
        (record { app = refl; kind = refl; list = unswept (up_to_sweep after) gives kind (nat_lt (places h + 1) (last_sweep h)) addresses (not-since h (places h + 1) (omega arith)) refl })
    by false other =
        subst (IsByEntries after (given_in h id)) (sym (push-other id new (groups_of h) other))
        (carry h (AddGroup app kind addresses) (GroupReply (last_group h + 1)) (given_in h id) (group_with id (groups_of h)) refl earlier)

-- one that is set
set-one : (h : History) (group : ℕ) (kind : GroupKind) (addresses : List (List ℕ)) (r : ClusterReply) (given : Option GivenAt) (row : Option Group) → IsByEntries h given row
    → IsByEntries (After h (SetGroup group kind addresses) r) (given_anew (places h + 1) kind addresses given) (option_map (group_set kind addresses) row)
set-one h group kind addresses r None None is = tt
set-one h group kind addresses r None (Some row) is = absurd is
set-one h group kind addresses r (Some given) None is = absurd is
set-one h group kind addresses r (Some given) (Some row) is = record {
  app = is.app;
  kind = refl;
  list = unswept (up_to_sweep (After h (SetGroup group kind addresses) r)) (record { place = places h + 1; app = given.app; kind = kind; addresses = addresses }) kind (nat_lt (places h + 1) (last_sweep h)) addresses (not-since h (places h + 1) (omega arith)) refl;
}

set-by : (h : History) (group : ℕ) (kind : GroupKind) (addresses : List (List ℕ)) (r : ClusterReply) (id : ℕ) (b : Bool) → eqb group id ≡ b → IsByEntries h (given_in h id) (group_with id (groups_of h))
    → IsByEntries (After h (SetGroup group kind addresses) r) (cond b (given_anew (places h + 1) kind addresses (given_in h id)) (given_in h id)) (group_with id (changed (λ g. g.id) group (group_set kind addresses) (groups_of h)))
set-by h group kind addresses r id true here earlier =
    let same : group ≡ id = grind (arith, nat_tests) in
    let row : group_with id (changed (λ g. g.id) group (group_set kind addresses) (groups_of h)) ≡ option_map (group_set kind addresses) (group_with id (groups_of h)) =
    ap (λ n. group_with id (changed (λ (g : Group). g.id) n (group_set kind addresses) (groups_of h))) same ∙ changed-here id (group_set kind addresses) (λ g. refl) (groups_of h) in
    subst (IsByEntries (After h (SetGroup group kind addresses) r) (given_anew (places h + 1) kind addresses (given_in h id))) (sym row)
    (set-one h group kind addresses r (given_in h id) (group_with id (groups_of h)) earlier)
set-by h group kind addresses r id false other earlier =
    subst (IsByEntries (After h (SetGroup group kind addresses) r) (given_in h id)) (sym (changed-other id group (group_set kind addresses) other (λ g. refl) (groups_of h)))
    (carry h (SetGroup group kind addresses) r (given_in h id) (group_with id (groups_of h)) refl earlier)

-- a sweep
swept-list_of : (h : History) (at : ℕ) (r : ClusterReply) (given : GivenAt) (group : Group) (kind : GroupKind) (since : Bool) (swept : History) → OpensWell (opening_of h) → IsAnswered h
    → group.app ≡ given.app → group.kind ≡ kind → HasList swept given kind since group.addresses → HasList (After h (Sweep at) r) given kind true (group_swept (rows_left at (registry_of h)) group).addresses
swept-list_of h at r given group Auto since swept well answered app is list =
    let own : (group_swept (rows_left at (registry_of h)) group).addresses ≡ values_of given.app (rows_left at (registry_of h)) =
    ap (λ k. list_by k group.app group.addresses (rows_left at (registry_of h))) is ∙ ap (λ (a : List ℕ). values_of a (rows_left at (registry_of h))) app in
    subst (AreStanding (After h (Sweep at) r) given.app) (sym own) (swept-stands h at r well answered given.app)
swept-list_of h at r given group Manual since swept well answered app is list =
    ap (λ k. list_by k group.app group.addresses (rows_left at (registry_of h))) is ∙ list

swept-one : (h : History) (at : ℕ) (r : ClusterReply) (given : Option GivenAt) (group : Option Group) → OpensWell (opening_of h) → IsAnswered h → ((one : GivenAt) → given ≡ Some one → one.place ≤ places h) → IsByEntries h given group
    → IsByEntries (After h (Sweep at) r) given (option_map (group_swept (rows_left at (registry_of h))) group)
swept-one h at r None None well answered within is = tt
swept-one h at r None (Some group) well answered within is = absurd is
swept-one h at r (Some given) None well answered within is = absurd is
swept-one h at r (Some given) (Some group) well answered within is =
    let low : given.place ≤ places h = within given refl in
    let since : nat_lt given.place (places h + 1) ≡ true = grind (arith, nat_tests) in
    let swept = swept-list_of h at r given group given.kind (nat_lt given.place (last_sweep h)) (up_to_sweep h) well answered is.app is.kind is.list in
    record {
      app = is.app;
      kind = is.kind;
      list = subst (λ upto. HasList upto given given.kind (nat_lt given.place (places h + 1)) (group_swept (rows_left at (registry_of h)) group).addresses) (sym (before-all (After h (Sweep at) r) ((places h + 1) + 1) (omega arith)))
          (subst (λ b. HasList (After h (Sweep at) r) given given.kind b (group_swept (rows_left at (registry_of h)) group).addresses) (sym since) swept);
    }

-- a group of the opening
opened-by : (o : Opening) (row : Option Group) → IsByEntries (Begin o) (given_opened row) row
opened-by o None = tt
opened-by o (Some group) = record {
  app = refl;
  kind = refl;
  list = unswept (up_to_sweep (Begin o)) (record { place = 0; app = group.app; kind = group.kind; addresses = group.addresses }) group.kind false group.addresses refl refl;
}

lists-given : (h : History) → OpensWell (opening_of h) → IsAnswered h → (id : ℕ) → IsByEntries h (given_in h id) (group_with id (groups_of h))
lists-given (Begin o) well answered id = opened-by o (group_with id o.tables.groups)
lists-given (After h (AddGroup app kind addresses) r) well answered id =
    let told : r ≡ GroupReply (last_group h + 1) = id-told (nat_lt (length (groups_of h)) _) (nat_lt (last_group h) _) (length (groups_of h)) (last_group h) r _ _ refl refl answered.1 answered.2 in
    subst (λ reply. IsByEntries (After h (AddGroup app kind addresses) reply) (given_in (After h (AddGroup app kind addresses) reply) id) (group_with id (groups_of (After h (AddGroup app kind addresses) reply)))) (sym told)
    (added-by h app kind addresses id well (lists-given h well answered.0 id))
lists-given (After h (SetGroup group kind addresses) r) well answered id = set-by h group kind addresses r id (eqb group id) refl (lists-given h well answered.0 id)
lists-given (After h (Sweep at) r) well answered id =
    subst (IsByEntries (After h (Sweep at) r) (given_in h id)) (sym (mapped-found id (group_swept (rows_left at (registry_of h))) (λ g. refl) (groups_of h)))
    (swept-one h at r (given_in h id) (group_with id (groups_of h)) well answered.0 (λ one is. given-within h id one is) (lists-given h well answered.0 id))
lists-given (After h e r) well answered id = carry h e r (given_in h id) (group_with id (groups_of h)) refl (lists-given h well answered.0 id)

pub lists-by_entries : ListsByEntries
lists-by_entries h legal id = lists-given (accepted h) (accepted_opens h legal) (legal_answered h legal) id
