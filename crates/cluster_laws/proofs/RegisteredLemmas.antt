-- The registrations are those that stand by the entries.
use Rattle.std.proofs.Common.{◌≡◌, ℕ, suc, ◌+◌, ◌<◌, ◌≤◌, List, [], ◌∷◌, Bool, true, false, cond, ltb, ◌&&◌, ◌||◌, not, Option, Some, None, length, get_or, find, option_map, refl, sym, ap, ◌∙◌, arith}
use Rattle.std.specs.declared.cmp.Ordering.{Ordering}
use Rattle.std.specs.declared.cmp.Ordering.TheVariants.{Less, Equal, Greater}
use Rattle.std.specs.List.{filter}
use Rattle.std.specs.Ordering.{match_ordering, is_eq}
use Rattle.std.specs.Prelude.{bytes_eq}
use Rattle.std.proofs.lemmas.Bool.{false≢true, and_parts, and_right}
use Rattle.std.proofs.lemmas.Bool.Decides.{nat_tests}
use Rattle.std.proofs.lemmas.Slice.Eq.{bytes_eq-Decides}
use Rattle.job_events.specs.declared.cluster.ClusterEvent.{ClusterEvent}
use Rattle.job_events.specs.declared.cluster.ClusterEvent.TheVariants.{Registry, RegistryRemove, Sweep}
use Rattle.job_events.specs.declared.cluster.ClusterReply.{ClusterReply}
use Rattle.job_records.specs.declared.registry.RegistryRow.{RegistryRow}
use Rattle.job_records.specs.Changes.{put_by}
use Rattle.job_records.specs.Order.{key_order, RisesByKey, is_registered}
use Rattle.job_records.proofs.OrderLemmas.{registered-order}
use Rattle.job_records.proofs.RegistryLemmas.{registry-put_rises, registry-filter_rises}
use Rattle.cluster_history.specs.History.{History, Begin, After, places, opening_of, accepted}
use Rattle.cluster_history.specs.Registrations.{registry_of, is_dead}
use Rattle.cluster_history.specs.Runs.{OpensWell}
use Rattle.cluster_history.proofs.Answered.{accepted_opens}
use Rattle.cluster_laws.proofs.FoundRows.{found-passes}
use Rattle.cluster_laws.specs.Registered.{registration, BeatAt, beat_opened, names, last_beat, ends, ended_since, standing_by, standing, RegistrationsStand}

-- the rows rise by key and value
pub registry-rises : (h : History) → OpensWell (opening_of h) → RisesByKey (registry_of h)
registry-rises (Begin o) well = well.rules.registry.rising
registry-rises (After h (Registry at group key value) r) well = registry-put_rises (record { key = key; value = value; beat = at }) (registry_of h) (registry-rises h well)
registry-rises (After h (RegistryRemove group key value) r) well = registry-filter_rises (λ row. not (is_registered key value row)) (registry_of h) (registry-rises h well)
registry-rises (After h (Sweep at) r) well = registry-filter_rises (λ row. not (is_dead at row)) (registry_of h) (registry-rises h well)
registry-rises (After h _ r) well = registry-rises h well

-- a row that is registered under a key and a value has them
has-key : (key value : List ℕ) (row : RegistryRow) → is_registered key value row ≡ true → (row.key ≡ key) × (row.value ≡ value)
has-key key value row is =
    let both = and_parts (bytes_eq row.key key) (bytes_eq row.value value) is in
    ((bytes_eq-Decides row.key key).0 both.0, (bytes_eq-Decides row.value value).0 both.1)

-- what passes a test stands once
abbrev Sole : (RegistryRow → Bool) → List RegistryRow → Type 0
Sole p [] = Unit {0}
Sole p (row ∷ rows) = (p row ≡ true → find p rows ≡ None) × Sole p rows

none-later : (key value : List ℕ) (row : RegistryRow) (rows : List RegistryRow) → is_registered key value row ≡ true → ((k : ℕ) (d : RegistryRow) → k < length rows → key_order (get_or rows k d).key (get_or rows k d).value row ≡ Less) → find (is_registered key value) rows ≡ None
none-later key value row [] is above = refl
none-later key value row (first ∷ rows) is above = by (is_registered key value first) refl (none-later key value row rows is (λ k d lt. above (suc k) d (omega arith)))
  where
    by : (b : Bool) → is_registered key value first ≡ b → find (is_registered key value) rows ≡ None → cond b (Some first) (find (is_registered key value) rows) ≡ None
    by true other rest =
        let own = has-key key value row is in
        let its = has-key key value first other in
        let less : is_registered first.key first.value row ≡ false = sym (registered-order first.key first.value row) ∙ ap is_eq (above 0 first (omega arith)) in
        let same : is_registered first.key first.value row ≡ true =
        ap (λ (k : List ℕ). is_registered k first.value row) its.0 ∙ ap (λ (v : List ℕ). is_registered key v row) its.1 ∙ is in
        absurd (false≢true (sym less ∙ same))
    by false other rest = rest

sole : (key value : List ℕ) (rows : List RegistryRow) → RisesByKey rows → Sole (is_registered key value) rows
sole key value [] rises = tt
sole key value (row ∷ rows) rises =
    (λ is. none-later key value row rows is (λ k d lt. rises 0 (suc k) d (omega arith) (omega arith)), sole key value rows (λ i j d before within. rises (suc i) (suc j) d (omega arith) (omega arith)))

-- a row that is found is found where some are left out, if it is kept
abbrev kept_by : (RegistryRow → Bool) → Option RegistryRow → Option RegistryRow
kept_by q None = None
kept_by q (Some row) = cond (q row) (Some row) None

none-kept : (p q : RegistryRow → Bool) (rows : List RegistryRow) → find p rows ≡ None → find p (filter q rows) ≡ None
none-kept p q [] none = refl
none-kept p q (row ∷ rows) none = by (p row) refl (q row) (none-kept p q rows) none
  where
    by : (b : Bool) → p row ≡ b → (c : Bool) → (find p rows ≡ None → find p (filter q rows) ≡ None) → cond b (Some row) (find p rows) ≡ None → find p (cond c (row ∷ filter q rows) (filter q rows)) ≡ None
    by true test c rest e = (cc)
    by false test true rest e = ap (λ b. cond b (Some row) (find p (filter q rows))) test ∙ rest e
    by false test false rest e = rest e

find-kept : (p q : RegistryRow → Bool) (rows : List RegistryRow) → Sole p rows → find p (filter q rows) ≡ kept_by q (find p rows)
find-kept p q [] once = refl
find-kept p q (row ∷ rows) once = by (p row) refl (q row) refl (find-kept p q rows once.1)
  where
    by : (b : Bool) → p row ≡ b → (c : Bool) → q row ≡ c → find p (filter q rows) ≡ kept_by q (find p rows) → find p (cond c (row ∷ filter q rows) (filter q rows)) ≡ kept_by q (cond b (Some row) (find p rows))
    by true test true keeps rest = ap (λ b. cond b (Some row) (find p (filter q rows))) test ∙ sym (ap (λ c. cond c (Some row) None) keeps)
    by true test false keeps rest = none-kept p q rows (once.0 test) ∙ sym (ap (λ c. cond c (Some row) None) keeps)
    by false test true keeps rest = ap (λ b. cond b (Some row) (find p (filter q rows))) test ∙ rest
    by false test false keeps rest = rest

-- a row that is put is found, and the others as before
put-found : (key value : List ℕ) (new : RegistryRow) (rows : List RegistryRow) → registration key value (put_by (key_order new.key new.value) new rows) ≡ cond (is_registered key value new) (Some new) (registration key value rows)
put-found key value new [] = refl
put-found key value new (first ∷ rows) = by (key_order new.key new.value first) refl (put-found key value new rows)
  where
    apart : is_registered new.key new.value first ≡ false → is_registered key value first ≡ true → is_registered key value new ≡ true → ⊥
    apart other own its =
        let a = has-key key value first own in
        let b = has-key key value new its in
        let same : is_registered new.key new.value first ≡ true = ap (λ (k : List ℕ). is_registered k new.value first) b.0 ∙ ap (λ (v : List ℕ). is_registered key v first) b.1 ∙ own in
        false≢true (sym other ∙ same)

    skip : (b c : Bool) → is_registered key value first ≡ b → is_registered key value new ≡ c → is_registered new.key new.value first ≡ false
        → cond b (Some first) (cond c (Some new) (registration key value rows)) ≡ cond c (Some new) (cond b (Some first) (registration key value rows))
    skip true true own its other = absurd (apart other own its)
    skip true false own its other = refl
    skip false c own its other = refl

    twice : (b : Bool) → cond b (Some new) (registration key value rows) ≡ cond b (Some new) (cond b (Some first) (registration key value rows))
    twice true = refl
    twice false = refl

    by : (o : Ordering) → key_order new.key new.value first ≡ o → registration key value (put_by (key_order new.key new.value) new rows) ≡ cond (is_registered key value new) (Some new) (registration key value rows)
        → registration key value (match_ordering o (first ∷ put_by (key_order new.key new.value) new rows) (new ∷ rows) (new ∷ first ∷ rows)) ≡ cond (is_registered key value new) (Some new) (registration key value (first ∷ rows))
    by Less is rest =
        ap (λ found. cond (is_registered key value first) (Some first) found) rest
        ∙ skip (is_registered key value first) (is_registered key value new) refl refl (sym (registered-order new.key new.value first) ∙ ap is_eq is)
    by Equal is rest =
        let own = has-key new.key new.value first (sym (registered-order new.key new.value first) ∙ ap is_eq is) in
        let same : is_registered key value first ≡ is_registered key value new = ap (λ (k : List ℕ). bytes_eq k key && bytes_eq first.value value) own.0 ∙ ap (λ (v : List ℕ). bytes_eq new.key key && bytes_eq v value) own.1 in
        twice (is_registered key value new) ∙ sym (ap (λ b. cond (is_registered key value new) (Some new) (cond b (Some first) (registration key value rows))) same)
    by Greater is rest = refl

-- no entry stands behind the last place
ended-none : (h : History) (place : ℕ) (key value : List ℕ) (beat : ℕ) → places h ≤ place → ended_since h place key value beat ≡ false
ended-none (Begin o) place key value beat last = refl
ended-none (After h e r) place key value beat last =
    let test : ltb place (places h + 1) ≡ false = grind (arith, nat_tests) in
    ap (λ b. (b && ends e key value beat) || ended_since h place key value beat) test ∙ ended-none h place key value beat (omega arith)

-- the last beat is not behind the last place
opened-within : (row : Option RegistryRow) (last : BeatAt) → beat_opened row ≡ Some last → last.place ≤ 0
opened-within None last is = (cc)
opened-within (Some row) last is = let same : 0 ≡ last.place = (cc) in omega arith

beat-within : (h : History) (key value : List ℕ) (last : BeatAt) → last_beat h key value ≡ Some last → last.place ≤ places h
beat-within (Begin o) key value last is = opened-within (registration key value o.tables.registry) last is
beat-within (After h (Registry at group k v) r) key value last is = by (names key value k v) (beat-within h key value last) is
  where
    by : (b : Bool) → (last_beat h key value ≡ Some last → last.place ≤ places h) → cond b (Some (record { place = places h + 1; at = at })) (last_beat h key value) ≡ Some last → last.place ≤ places h + 1
    by true earlier e = let same : places h + 1 ≡ last.place = (cc) in omega arith
    by false earlier e = omega (arith, earlier e)
beat-within (After h _ r) key value last is = omega (arith, beat-within h key value last is)

-- the beat of a row
abbrev beat_in : Option RegistryRow → Option ℕ
beat_in row = option_map (λ (one : RegistryRow). one.beat) row

-- an entry that ends nothing
quiet-since : (h : History) (e : ClusterEvent) (r : ClusterReply) (key value : List ℕ) (last : Option BeatAt) → ((beat : ℕ) → ends e key value beat ≡ false) → standing_by (After h e r) key value last ≡ standing_by h key value last
quiet-since h e r key value None none = refl
quiet-since h e r key value (Some last) none =
    ap (λ b. cond ((ltb last.place (places h + 1) && b) || ended_since h last.place key value last.at) None (Some last.at)) (none last.at)
    ∙ ap (λ b. cond (b || ended_since h last.place key value last.at) None (Some last.at)) (and_right (ltb last.place (places h + 1)) false refl)

-- a beat
put-stands : (h : History) (at : ℕ) (group k v key value : List ℕ) (r : ClusterReply) (b : Bool) → beat_in (registration key value (registry_of h)) ≡ standing h key value
    → beat_in (cond b (Some (record { key = k; value = v; beat = at })) (registration key value (registry_of h)))
    ≡ standing_by (After h (Registry at group k v) r) key value (cond b (Some (record { place = places h + 1; at = at })) (last_beat h key value))
put-stands h at group k v key value r true earlier = sym (ap (λ b. cond b None (Some at)) (ended-none (After h (Registry at group k v) r) (places h + 1) key value at (omega arith)))
put-stands h at group k v key value r false earlier = earlier ∙ sym (quiet-since h (Registry at group k v) r key value (last_beat h key value) (λ beat. refl))

-- an entry that leaves out the rows that it ends
plain : (q early over : Bool) (a b : ℕ) → early ≡ true → q ≡ not over → a ≡ b → ◌≡◌ {A = Option ℕ} (cond q (Some a) None) (cond ((early && over) || false) None (Some b))
plain q false over a b here keeps same = (cc)
plain true true true a b here keeps same = (cc)
plain true true false a b here keeps same = ap (λ n. Some n) same
plain false true true a b here keeps same = refl
plain false true false a b here keeps same = (cc)

both-stand : (over : ℕ → Bool) (q early ended : Bool) (a b : ℕ) → early ≡ true → q ≡ not (over a) → ◌≡◌ {A = Option ℕ} (Some a) (cond ended None (Some b)) → ◌≡◌ {A = Option ℕ} (cond q (Some a) None) (cond ((early && over b) || ended) None (Some b))
both-stand over q early true a b here keeps is = absurd (let never : ⊥ = cc in never)
both-stand over q early false a b here keeps is = let same : a ≡ b = (cc) in plain q early (over b) a b here (keeps ∙ ap (λ n. not (over n)) same) same

none-stands : (over ended : Bool) (b : ℕ) → ◌≡◌ {A = Option ℕ} None (cond ended None (Some b)) → ◌≡◌ {A = Option ℕ} None (cond (over || ended) None (Some b))
none-stands true ended b is = refl
none-stands false ended b is = is

cond-beat : (q : Bool) (row : RegistryRow) → beat_in (cond q (Some row) None) ≡ cond q (Some row.beat) None
cond-beat true row = refl
cond-beat false row = refl

kept-stands : (h : History) (e : ClusterEvent) (r : ClusterReply) (key value : List ℕ) (q : RegistryRow → Bool) (row : Option RegistryRow) (last : Option BeatAt)
    → ((one : RegistryRow) → row ≡ Some one → q one ≡ not (ends e key value one.beat)) → ((one : BeatAt) → last ≡ Some one → one.place ≤ places h)
    → beat_in row ≡ standing_by h key value last → beat_in (kept_by q row) ≡ standing_by (After h e r) key value last
kept-stands h e r key value q None None keeps within is = refl
kept-stands h e r key value q None (Some last) keeps within is = none-stands (ltb last.place (places h + 1) && ends e key value last.at) (ended_since h last.place key value last.at) last.at is
kept-stands h e r key value q (Some row) None keeps within is = (cc)
kept-stands h e r key value q (Some row) (Some last) keeps within is =
    let low : last.place ≤ places h = within last refl in
    let early : ltb last.place (places h + 1) ≡ true = grind (arith, nat_tests) in
    cond-beat (q row) row
    ∙ both-stand (ends e key value) (q row) (ltb last.place (places h + 1)) (ended_since h last.place key value last.at) row.beat last.at early (keeps row refl) is

pub bytes-turned : (a b : List ℕ) → bytes_eq a b ≡ bytes_eq b a
bytes-turned a b = by (bytes_eq a b) refl (bytes_eq b a) refl
  where
    by : (c : Bool) → bytes_eq a b ≡ c → (d : Bool) → bytes_eq b a ≡ d → c ≡ d
    by true p true q = refl
    by true p false q = sym ((bytes_eq-Decides b a).1 (sym ((bytes_eq-Decides a b).0 p))) ∙ q
    by false p true q = sym p ∙ (bytes_eq-Decides a b).1 (sym ((bytes_eq-Decides b a).0 q))
    by false p false q = refl

-- the row that is found goes where the removal names it
removed-row : (k v key value : List ℕ) (rows : List RegistryRow) (one : RegistryRow) → registration key value rows ≡ Some one → not (is_registered k v one) ≡ not (names key value k v)
removed-row k v key value rows one found =
    let own = has-key key value one (found-passes (is_registered key value) rows one found) in
    ap (λ (n : List ℕ). not (bytes_eq n k && bytes_eq one.value v)) own.0
    ∙ ap (λ (n : List ℕ). not (bytes_eq key k && bytes_eq n v)) own.1
    ∙ ap (λ b. not (b && bytes_eq value v)) (bytes-turned key k)
    ∙ ap (λ b. not (bytes_eq k key && b)) (bytes-turned value v)

pub rows-stand : (h : History) → OpensWell (opening_of h) → (key value : List ℕ) → option_map (λ row. row.beat) (registration key value (registry_of h)) ≡ standing h key value
rows-stand (Begin o) well key value = by (registration key value o.tables.registry)
  where
    by : (row : Option RegistryRow) → beat_in row ≡ standing_by (Begin o) key value (beat_opened row)
    by None = refl
    by (Some row) = refl
rows-stand (After h (Registry at group k v) r) well key value =
    ap beat_in (put-found key value (record { key = k; value = v; beat = at }) (registry_of h)) ∙ put-stands h at group k v key value r (names key value k v) (rows-stand h well key value)
rows-stand (After h (RegistryRemove group k v) r) well key value =
    ap beat_in (find-kept (is_registered key value) (λ row. not (is_registered k v row)) (registry_of h) (sole key value (registry_of h) (registry-rises h well)))
    ∙ kept-stands h (RegistryRemove group k v) r key value (λ row. not (is_registered k v row)) (registration key value (registry_of h)) (last_beat h key value)
    (λ one found. removed-row k v key value (registry_of h) one found) (λ one last. beat-within h key value one last) (rows-stand h well key value)
rows-stand (After h (Sweep at) r) well key value =
    ap beat_in (find-kept (is_registered key value) (λ row. not (is_dead at row)) (registry_of h) (sole key value (registry_of h) (registry-rises h well)))
    ∙ kept-stands h (Sweep at) r key value (λ row. not (is_dead at row)) (registration key value (registry_of h)) (last_beat h key value)
    (λ one found. refl) (λ one last. beat-within h key value one last) (rows-stand h well key value)
rows-stand (After h e r) well key value = rows-stand h well key value ∙ sym (quiet-since h e r key value (last_beat h key value) (λ beat. refl))

pub registrations-stand : RegistrationsStand
registrations-stand h legal key value = rows-stand (accepted h) (accepted_opens h legal) key value
