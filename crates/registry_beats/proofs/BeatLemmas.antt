-- When a registration has its place, and which limit it would pass.
use Rattle.std.proofs.Common.{◌≡◌, ℕ, ◌<◌, ◌≤◌, inl, inr, ⊎_elim, List, [], ◌∷◌, Bool, true, false, cond, Option, Some, None, length, refl, sym, ap, ◌∙◌, subst, arith}
use Rattle.std.specs.List.{list_any}
use Rattle.std.specs.Prelude.{nat_lt}
use Rattle.std.proofs.lemmas.Bool.{cases_lt}
use Rattle.std.proofs.lemmas.Bool.Decides.{nat_tests}
use Rattle.job_values.specs.declared.limits.TheConstants.{MOST_REGISTRATIONS, MOST_OF_KEY}
use Rattle.job_records.specs.declared.change.Change.{Change}
use Rattle.job_records.specs.declared.change.Change.TheVariants as change
use Rattle.job_records.specs.declared.registry.RegistryRow.{RegistryRow}
use Rattle.job_records.specs.Changes.{applied, applied_all, AreAllowed}
use Rattle.job_records.specs.Order.{is_registered}
use Rattle.job_records.specs.Rules.{IsNamed, HasKeyPlace, KeepsRules, count_of_key}
use Rattle.job_records.specs.Tables.{Tables}
use Rattle.job_records.proofs.AllowLemmas.{registration_allowed}
use Rattle.job_records.proofs.Keeping.{keeps_drop_registration}
use Rattle.registry_beats.specs.Beats.{limit_passed, Beats, Removes}

below : (m n : ℕ) → m < n → nat_lt m n ≡ true
below m n h = grind (arith, nat_tests)

not-below : (m n : ℕ) → n ≤ m → nat_lt m n ≡ false
not-below m n h = grind (arith, nat_tests)

-- the limit that is passed, by the three tests
passed-by : (key value : List ℕ) (rows : List RegistryRow) (there few_of_key few : Bool) → list_any (is_registered key value) rows ≡ there → nat_lt (count_of_key key rows) MOST_OF_KEY ≡ few_of_key → nat_lt (length rows) MOST_REGISTRATIONS ≡ few
    → limit_passed key value rows ≡ cond there None (cond few_of_key (cond few None (Some MOST_REGISTRATIONS)) (Some MOST_OF_KEY))
passed-by key value rows there few_of_key few e f g = rw (e, f, g) refl

-- a registration that has its place passes no limit
pub place-passes : (row : RegistryRow) (rows : List RegistryRow) → HasKeyPlace row rows → limit_passed row.key row.value rows ≡ None
place-passes row rows place = by (list_any (is_registered row.key row.value) rows) refl
  where
    by : (there : Bool) → list_any (is_registered row.key row.value) rows ≡ there → limit_passed row.key row.value rows ≡ None
    by true some = rw some refl
    by false none =
        ⊎_elim (λ (some : list_any (is_registered row.key row.value) rows ≡ true). absurd (let never : true ≡ false = sym some ∙ none in cc))
        (λ (fewer : (length rows < MOST_REGISTRATIONS) × (count_of_key row.key rows < MOST_OF_KEY)).
        passed-by row.key row.value rows false true true none (below (count_of_key row.key rows) MOST_OF_KEY fewer.1) (below (length rows) MOST_REGISTRATIONS fewer.0)) place

-- one that has none passes the limit of its key, or else that of all
pub no-place-passes : (row : RegistryRow) (rows : List RegistryRow) → (HasKeyPlace row rows → ⊥) → limit_passed row.key row.value rows ≡ Some (cond (nat_lt (count_of_key row.key rows) MOST_OF_KEY) MOST_REGISTRATIONS MOST_OF_KEY)
no-place-passes row rows none = there (list_any (is_registered row.key row.value) rows) refl
  where
    there : (b : Bool) → list_any (is_registered row.key row.value) rows ≡ b → limit_passed row.key row.value rows ≡ Some (cond (nat_lt (count_of_key row.key rows) MOST_OF_KEY) MOST_REGISTRATIONS MOST_OF_KEY)
    there true some = absurd (none (inl some))
    there false absent =
        ⊎_elim (λ (fewer : count_of_key row.key rows < MOST_OF_KEY).
        let few_of_key : nat_lt (count_of_key row.key rows) MOST_OF_KEY ≡ true = below (count_of_key row.key rows) MOST_OF_KEY fewer in
        let full : nat_lt (length rows) MOST_REGISTRATIONS ≡ false =
        ⊎_elim (λ (few : length rows < MOST_REGISTRATIONS). absurd (none (inr (few, fewer)))) (λ (many : MOST_REGISTRATIONS ≤ length rows). not-below (length rows) MOST_REGISTRATIONS many) (cases_lt (length rows) MOST_REGISTRATIONS) in
        passed-by row.key row.value rows false true false absent few_of_key full
        ∙ sym (ap (λ (b : Bool). Some (cond b MOST_REGISTRATIONS MOST_OF_KEY)) few_of_key))
        (λ (many : MOST_OF_KEY ≤ count_of_key row.key rows).
        let full : nat_lt (count_of_key row.key rows) MOST_OF_KEY ≡ false = not-below (count_of_key row.key rows) MOST_OF_KEY many in
        passed-by row.key row.value rows false false (nat_lt (length rows) MOST_REGISTRATIONS) absent full refl
        ∙ sym (ap (λ (b : Bool). Some (cond b MOST_REGISTRATIONS MOST_OF_KEY)) full))
        (cases_lt (count_of_key row.key rows) MOST_OF_KEY)

-- the row of a beat
abbrev beat_of : List ℕ → List ℕ → ℕ → RegistryRow
beat_of key value at = record { key = key; value = value; beat = at }

-- a put that is allowed is a beat
pub put-beats : (t : Tables) (key value : List ℕ) (at : ℕ) (row : RegistryRow) (changes : List Change) → KeepsRules t → row ≡ beat_of key value at → KeepsRules (applied t (change.PutRegistry row)) → changes ≡ change.PutRegistry row ∷ [] → Beats key value at t changes
put-beats t key value at row changes h made after is =
    let put : changes ≡ change.PutRegistry (beat_of key value at) ∷ [] = is ∙ ap (λ r. change.PutRegistry r ∷ []) made in
    let kept : KeepsRules (applied t (change.PutRegistry (beat_of key value at))) = subst (λ r. KeepsRules (applied t (change.PutRegistry r))) made after in
    record {
      place = place-passes (beat_of key value at) t.registry ((registration_allowed t (beat_of key value at) h).1 kept).1;
      put = put;
      allowed = subst (AreAllowed t) (sym put) (kept, tt);
      after = ap (applied_all t) put;
    }

-- a put that is not allowed passes a limit
pub refused-passes : (t : Tables) (key value : List ℕ) (at : ℕ) (row : RegistryRow) → KeepsRules t → 0 < length key → 0 < length value → row ≡ beat_of key value at → (KeepsRules (applied t (change.PutRegistry row)) → ⊥)
    → limit_passed key value t.registry ≡ Some (cond (nat_lt (count_of_key key t.registry) MOST_OF_KEY) MOST_REGISTRATIONS MOST_OF_KEY)
refused-passes t key value at row h named valued made unkept =
    no-place-passes (beat_of key value at) t.registry
    (λ place. unkept (subst (λ r. KeepsRules (applied t (change.PutRegistry r))) (sym made) ((registration_allowed t (beat_of key value at) h).0 ((named, valued), place))))

-- a drop is a removal
pub drop-removes : (t : Tables) (key value : List ℕ) (changes : List Change) → KeepsRules t → changes ≡ change.DropRegistry key value ∷ [] → Removes key value t changes
drop-removes t key value changes h is =
    record {
      drop = is;
      allowed = subst (AreAllowed t) (sym is) (keeps_drop_registration t key value h, tt);
      after = ap (applied_all t) is;
    }
