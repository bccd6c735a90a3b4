-- Which single change keeps the rules, both ways.
use Rattle.std.proofs.Common.{◌≡◌, ℕ, ◌<◌, ◌≤◌, ⊎_elim, inl, inr, List, true, false, Option, Some, None, Ok, Err, IsSome, length, refl, sym, ◌∙◌, subst, arith}
use Rattle.std.specs.List.{list_any}
use Rattle.std.specs.Prelude.{◌↔◌}
use Rattle.job_values.specs.declared.limits.TheConstants.{MOST_GROUPS, MOST_JOBS, MOST_REGISTRATIONS, MOST_OF_KEY}
use Rattle.job_records.specs.declared.change.Change.TheVariants.{PutGroup, PutJob, PutLog, PutRegistry, LastIds as SetLast}
use Rattle.job_records.specs.declared.group.Group.{Group}
use Rattle.job_records.specs.declared.job.Job.{Job}
use Rattle.job_records.specs.declared.last_ids.LastIds.{LastIds}
use Rattle.job_records.specs.declared.log.Log.{Log}
use Rattle.job_records.specs.declared.registry.RegistryRow.{RegistryRow}
use Rattle.rising_rows.specs.Rising.{row_with, put_row, IsRising}
use Rattle.job_records.specs.Rules.{RunsByNext, HasItsSchedule, HasItsZone, HasGroup, HasAddress, HasPlace, IsNamed, HasKeyPlace, count_of_key, AreLast, KeepsRules}
use Rattle.job_records.specs.Tables.{Tables}
use Rattle.job_records.specs.Order.{key_order, is_registered}
use Rattle.rising_rows.specs.Seats.{IsSeat}
use Rattle.job_records.specs.Changes.{applied}
use Rattle.rising_rows.proofs.RowLemmas.{rising-all, row_has}
use Rattle.rising_rows.proofs.PutLemmas.{row_with-put_same, length-put_absent}
use Rattle.job_records.proofs.Keeping.{keeps_group, keeps_job, keeps_log, keeps_registration}
use Rattle.job_records.proofs.RegistryLemmas.{registration_put_only, any-registered}
use Rattle.rising_rows.proofs.SeatLemmas.{any-found, any-absent}

-- a row that was put where the ids rise up to a last one has an id up to it
id-within : {R : Type 0} (id_of : R → ℕ) (low last : ℕ) (row : R) (rows : List R) → IsRising id_of low (put_row id_of row rows) last → id_of row ≤ last
id-within id_of low last row rows h =
    row_has (λ r. id_of r ≤ last) id_of (id_of row) (put_row id_of row rows) row (row_with-put_same id_of row rows) (rising-all id_of low last (put_row id_of row rows) h)

-- there was place for a row that was put
place-found : {R : Type 0} (id_of : R → ℕ) (most : ℕ) (row : R) (rows : List R) → length (put_row id_of row rows) ≤ most → HasPlace id_of (id_of row) rows most
place-found id_of most row rows few = by (row_with id_of (id_of row) rows) refl
  where
    by : (o : Option _) → row_with id_of (id_of row) rows ≡ o → HasPlace id_of (id_of row) rows most
    by (Some found) is = inl (subst IsSome (sym is) refl)
    by None is = inr (omega (arith, length-put_absent id_of row rows is))

-- a group may be put exactly where its id was given and there is place for it
pub group_allowed : (t : Tables) (group : Group) → KeepsRules t → 1 ≤ group.id → ((group.id ≤ t.last.group) × HasPlace (λ g. g.id) group.id t.groups MOST_GROUPS) ↔ KeepsRules (applied t (PutGroup group))
group_allowed t group h least = (
  λ fits. keeps_group t group h least fits.0 fits.1,
  λ after. (id-within (λ (g : Group). g.id) 0 t.last.group group t.groups after.groups.rising, place-found (λ (g : Group). g.id) MOST_GROUPS group t.groups after.groups.few),
)

-- a job may be put exactly where its id was given, there is place for it, and it is as it must be
pub job_allowed : (t : Tables) (job : Job) → KeepsRules t → 1 ≤ job.id → ((job.id ≤ t.last.job) × HasPlace (λ j. j.id) job.id t.jobs MOST_JOBS × RunsByNext job × HasGroup t.groups job × HasItsZone job × HasItsSchedule job) ↔ KeepsRules (applied t (PutJob job))
job_allowed t job h least =
    let there = row_with-put_same (λ (j : Job). j.id) job t.jobs in (
      λ fits. keeps_job t job h least fits.0 fits.2 fits.5 fits.4 fits.3 fits.1,
      λ after. (
        id-within (λ (j : Job). j.id) 0 t.last.job job t.jobs after.jobs.rising,
        place-found (λ (j : Job). j.id) MOST_JOBS job t.jobs after.jobs.few,
        row_has RunsByNext (λ j. j.id) job.id (put_row (λ j. j.id) job t.jobs) job there after.jobs.running,
        row_has (HasGroup t.groups) (λ j. j.id) job.id (put_row (λ j. j.id) job t.jobs) job there after.jobs.groups_exist,
        row_has HasItsZone (λ j. j.id) job.id (put_row (λ j. j.id) job t.jobs) job there after.jobs.zones,
        row_has HasItsSchedule (λ j. j.id) job.id (put_row (λ j. j.id) job t.jobs) job there after.jobs.schedules,
      ),
    )

-- a log may be put exactly where its id was given and it has an address if it was sent
pub log_allowed : (t : Tables) (log : Log) → KeepsRules t → 1 ≤ log.id → ((log.id ≤ t.last.log) × HasAddress log) ↔ KeepsRules (applied t (PutLog log))
log_allowed t log h least =
    let there = row_with-put_same (λ (l : Log). l.id) log t.logs in (
      λ fits. keeps_log t log h least fits.0 fits.1,
      λ after. (
        id-within (λ (l : Log). l.id) 0 t.last.log log t.logs after.logs.rising,
        row_has HasAddress (λ l. l.id) log.id (put_row (λ l. l.id) log t.logs) log there after.logs.addresses,
      ),
    )

-- last ids may be set exactly where the rows' ids rise up to them and they are within the greatest ids
pub last_allowed : (t : Tables) (last : LastIds) → KeepsRules t → AreLast t.groups t.jobs t.logs last ↔ KeepsRules (applied t (SetLast last))
last_allowed t last h = (
  λ fits. record {
    groups = record { rising = fits.groups; last_id = fits.group_ids; few = h.groups.few };
    jobs = record {
      rising = fits.jobs;
      last_id = fits.job_ids;
      running = h.jobs.running;
      schedules = h.jobs.schedules;
      zones = h.jobs.zones;
      groups_exist = h.jobs.groups_exist;
      few = h.jobs.few;
    };
    logs = record { rising = fits.logs; last_id = fits.log_ids; addresses = h.logs.addresses };
    registry = h.registry;
  },
  λ after. record {
    groups = after.groups.rising;
    jobs = after.jobs.rising;
    logs = after.logs.rising;
    group_ids = after.groups.last_id;
    job_ids = after.jobs.last_id;
    log_ids = after.logs.last_id;
  },
)

-- a registration may be put exactly where it is not empty and there is place for it
pub registration_allowed : (t : Tables) (row : RegistryRow) → KeepsRules t → (IsNamed row × HasKeyPlace row t.registry) ↔ KeepsRules (applied t (PutRegistry row))
registration_allowed t row h =
    (λ fits. keeps_registration t row h fits.0 fits.1, λ after. registration_put_only row t.registry after.registry)

-- what follows from each other, through a third
pub both : {A B C : Type 0} → A ↔ B → B ↔ C → A ↔ C
both f g = (λ a. g.0 (f.0 a), λ c. f.1 (g.1 c))

-- where there is an equal registration there is one with its key and value
pub found-registered : (key value : List ℕ) (rows : List RegistryRow) (at : ℕ) → IsSeat (key_order key value) rows (Ok at) → list_any (is_registered key value) rows ≡ true
found-registered key value rows at seat = sym (any-registered key value rows) ∙ any-found (key_order key value) rows at seat

-- where there is none, a registration has place only below the limits
pub absent-place : (row : RegistryRow) (rows : List RegistryRow) (at : ℕ) → IsSeat (key_order row.key row.value) rows (Err at) → HasKeyPlace row rows → (length rows < MOST_REGISTRATIONS) × (count_of_key row.key rows < MOST_OF_KEY)
absent-place row rows at seat place =
    let none : list_any (is_registered row.key row.value) rows ≡ false = sym (any-registered row.key row.value rows) ∙ any-absent (key_order row.key row.value) rows at seat.1 in
    ⊎_elim (λ (some : list_any (is_registered row.key row.value) rows ≡ true). absurd (let never : true ≡ false = sym some ∙ none in cc)) (λ fewer. fewer) place
