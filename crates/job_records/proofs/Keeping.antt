-- Which changes keep the rules.
use Rattle.std.proofs.Common.{◌≡◌, ℕ, suc, ◌<◌, ◌≤◌, List, [], ◌∷◌, ◌++◌, Bool, true, false, cond, not, eqb, Option, Some, None, IsSome, length, get_or, map, refl, sym, ap, ◌∙◌, subst, ⊎_elim, arith}
use Rattle.std.specs.List.{filter, All}
use Rattle.std.proofs.lemmas.List.{append-nil, append_assoc}
use Rattle.std.proofs.lemmas.List.Elements.{All-filter}
use Rattle.std.proofs.lemmas.List.Sums.{length-filter, count_by-le-length}
use Rattle.job_values.specs.declared.limits.TheConstants.{LAST_JOB_ID, LAST_LOG_ID}
use Rattle.job_values.specs.declared.limits.TheConstants.{MOST_GROUPS, MOST_JOBS}
use Rattle.job_records.specs.declared.change.Change.{Change}
use Rattle.job_records.specs.declared.change.Change.TheVariants.{PutGroup, PutJob, DropJob, PutLog, DropLog, PutRegistry, DropRegistry, LastIds as SetLast}
use Rattle.job_records.specs.declared.group.Group.{Group}
use Rattle.job_records.specs.declared.job.Job.{Job}
use Rattle.job_records.specs.declared.last_ids.LastIds.{LastIds}
use Rattle.job_records.specs.declared.log.Log.{Log}
use Rattle.job_records.specs.declared.registry.RegistryRow.{RegistryRow}
use Rattle.rising_rows.specs.Rising.{row_with, put_row, IsRising}
use Rattle.rising_rows.specs.Seats.{key_order}
use Rattle.job_records.specs.Order.{is_registered}
pub use Rattle.job_records.specs.Rules.{HasPlace}
use Rattle.job_records.specs.Rules.{IsNamed, HasKeyPlace, RunsByNext, HasItsSchedule, HasItsZone, HasGroup, HasAddress, JobRules, LogRules, KeepsRules}
use Rattle.job_records.specs.Tables.{Tables}
use Rattle.job_records.specs.Changes.{applied, applied_all, AreAllowed}
use Rattle.rising_rows.proofs.RowLemmas.{rises-from_rising, rising-more, rising-push, rising-ends, row_has}
use Rattle.rising_rows.proofs.PutLemmas.{put_behind, rising-put, rising-filter, row_with-put, length-put_present, length-put_absent, All-put}
use Rattle.job_records.proofs.RegistryLemmas.{registration_put, registration_filter}

-- a row that is put where there is place for it leaves no more rows than the limit
pub few-put : {R : Type 0} (id_of : R → ℕ) (low last most : ℕ) (row : R) (rows : List R) → IsRising id_of low rows last → length rows ≤ most → HasPlace id_of (id_of row) rows most → length (put_row id_of row rows) ≤ most
few-put id_of low last most row rows rising few place =
    by (row_with id_of (id_of row) rows) refl
  where
    by : (o : Option _) → row_with id_of (id_of row) rows ≡ o → length (put_row id_of row rows) ≤ most
    by (Some found) is = omega (arith, length-put_present id_of low row found rows (rises-from_rising id_of low last rows rising) is)
    by None is =
        ⊎_elim (λ (some : IsSome (row_with id_of (id_of row) rows)). cc)
        (λ (fewer : length rows < most). omega (arith, length-put_absent id_of row rows is)) place

some-cond : {R : Type 0} (b : Bool) (x : R) (o : Option R) → IsSome o → IsSome (cond b (Some x) o)
some-cond true x o h = refl
some-cond false x o h = h

-- a job's group is still there where a group is put
pub HasGroup-put : (group : Group) (groups : List Group) (job : Job) → HasGroup groups job → HasGroup (put_row (λ g. g.id) group groups) job
HasGroup-put group groups job h =
    subst IsSome (sym (row_with-put (λ (g : Group). g.id) job.spec.group group groups))
    (some-cond (eqb group.id job.spec.group) group (row_with (λ (g : Group). g.id) job.spec.group groups) h)

shorter : {R : Type 0} (test : R → Bool) (rows : List R) (most : ℕ) → length rows ≤ most → length (filter test rows) ≤ most
shorter test rows most few = omega (arith, length-filter test rows, count_by-le-length test rows)

-- higher last ids, within the greatest ones
pub keeps_last : (t : Tables) (last : LastIds) → KeepsRules t → t.last.group ≤ last.group → t.last.job ≤ last.job → t.last.log ≤ last.log → last.group ≤ LAST_JOB_ID → last.job ≤ LAST_JOB_ID → last.log ≤ LAST_LOG_ID → KeepsRules (applied t (SetLast last))
keeps_last t last h groups jobs logs most_group most_job most_log =
    record {
      groups = record { rising = rising-more _ 0 t.last.group last.group t.groups h.groups.rising groups; last_id = most_group; few = h.groups.few };
      jobs = record {
        rising = rising-more _ 0 t.last.job last.job t.jobs h.jobs.rising jobs;
        last_id = most_job;
        running = h.jobs.running;
        schedules = h.jobs.schedules;
        zones = h.jobs.zones;
        groups_exist = h.jobs.groups_exist;
        few = h.jobs.few;
      };
      logs = record { rising = rising-more _ 0 t.last.log last.log t.logs h.logs.rising logs; last_id = most_log; addresses = h.logs.addresses };
      registry = h.registry;
    }

-- a group whose id was given, where there is place
pub keeps_group : (t : Tables) (group : Group) → KeepsRules t → 1 ≤ group.id → group.id ≤ t.last.group → HasPlace (λ g. g.id) group.id t.groups MOST_GROUPS → KeepsRules (applied t (PutGroup group))
keeps_group t group h least within place =
    record {
      groups = record {
        rising = rising-put (λ (g : Group). g.id) 0 t.last.group group t.groups h.groups.rising (omega arith) within;
        last_id = h.groups.last_id;
        few = few-put (λ (g : Group). g.id) 0 t.last.group MOST_GROUPS group t.groups h.groups.rising h.groups.few place;
      };
      jobs = record {
        rising = h.jobs.rising;
        last_id = h.jobs.last_id;
        running = h.jobs.running;
        schedules = h.jobs.schedules;
        zones = h.jobs.zones;
        groups_exist = λ k d lt. HasGroup-put group t.groups (get_or t.jobs k d) (h.jobs.groups_exist k d lt);
        few = h.jobs.few;
      };
      logs = h.logs;
      registry = h.registry;
    }

-- a job whose id was given and that is as it must be, where there is place
pub keeps_job : (t : Tables) (job : Job) → KeepsRules t → 1 ≤ job.id → job.id ≤ t.last.job → RunsByNext job → HasItsSchedule job → HasItsZone job → HasGroup t.groups job → HasPlace (λ j. j.id) job.id t.jobs MOST_JOBS → KeepsRules (applied t (PutJob job))
keeps_job t job h least within running schedule zone group place =
    record {
      groups = h.groups;
      jobs = record {
        rising = rising-put (λ (j : Job). j.id) 0 t.last.job job t.jobs h.jobs.rising (omega arith) within;
        last_id = h.jobs.last_id;
        running = All-put RunsByNext (key_order (λ j. j.id) job.id) job t.jobs h.jobs.running running;
        schedules = All-put HasItsSchedule (key_order (λ j. j.id) job.id) job t.jobs h.jobs.schedules schedule;
        zones = All-put HasItsZone (key_order (λ j. j.id) job.id) job t.jobs h.jobs.zones zone;
        groups_exist = All-put (HasGroup t.groups) (key_order (λ j. j.id) job.id) job t.jobs h.jobs.groups_exist group;
        few = few-put (λ (j : Job). j.id) 0 t.last.job MOST_JOBS job t.jobs h.jobs.rising h.jobs.few place;
      };
      logs = h.logs;
      registry = h.registry;
    }

-- a log whose id was given, with an address if it was sent
pub keeps_log : (t : Tables) (log : Log) → KeepsRules t → 1 ≤ log.id → log.id ≤ t.last.log → HasAddress log → KeepsRules (applied t (PutLog log))
keeps_log t log h least within address =
    record {
      groups = h.groups;
      jobs = h.jobs;
      logs = record {
        rising = rising-put (λ (l : Log). l.id) 0 t.last.log log t.logs h.logs.rising (omega arith) within;
        last_id = h.logs.last_id;
        addresses = All-put HasAddress (key_order (λ l. l.id) log.id) log t.logs h.logs.addresses address;
      };
      registry = h.registry;
    }

-- a job that is dropped
pub keeps_drop_job : (t : Tables) (id : ℕ) → KeepsRules t → KeepsRules (applied t (DropJob id))
keeps_drop_job t id h =
    let test : Job → Bool = λ job. not (eqb job.id id) in
    record {
      groups = h.groups;
      jobs = record {
        rising = rising-filter (λ (j : Job). j.id) 0 t.last.job test t.jobs h.jobs.rising;
        last_id = h.jobs.last_id;
        running = All-filter test RunsByNext t.jobs h.jobs.running;
        schedules = All-filter test HasItsSchedule t.jobs h.jobs.schedules;
        zones = All-filter test HasItsZone t.jobs h.jobs.zones;
        groups_exist = All-filter test (HasGroup t.groups) t.jobs h.jobs.groups_exist;
        few = shorter test t.jobs MOST_JOBS h.jobs.few;
      };
      logs = h.logs;
      registry = h.registry;
    }

-- a log that is dropped
pub keeps_drop_log : (t : Tables) (id : ℕ) → KeepsRules t → KeepsRules (applied t (DropLog id))
keeps_drop_log t id h =
    let test : Log → Bool = λ log. not (eqb log.id id) in
    record {
      groups = h.groups;
      jobs = h.jobs;
      logs = record {
        rising = rising-filter (λ (l : Log). l.id) 0 t.last.log test t.logs h.logs.rising;
        last_id = h.logs.last_id;
        addresses = All-filter test HasAddress t.logs h.logs.addresses;
      };
      registry = h.registry;
    }

-- a registration that is not empty, where there is place
pub keeps_registration : (t : Tables) (row : RegistryRow) → KeepsRules t → IsNamed row → HasKeyPlace row t.registry → KeepsRules (applied t (PutRegistry row))
keeps_registration t row h named place =
    record { groups = h.groups; jobs = h.jobs; logs = h.logs; registry = registration_put row t.registry h.registry named place }

-- a registration that is dropped
pub keeps_drop_registration : (t : Tables) (key value : List ℕ) → KeepsRules t → KeepsRules (applied t (DropRegistry key value))
keeps_drop_registration t key value h =
    record { groups = h.groups; jobs = h.jobs; logs = h.logs; registry = registration_filter (λ (row : RegistryRow). not (is_registered key value row)) t.registry h.registry }

-- changes after changes are the changes of both lists
pub applied_append : (t : Tables) (cs ds : List Change) → applied_all t (cs ++ ds) ≡ applied_all (applied_all t cs) ds
applied_append t [] ds = refl
applied_append t (c ∷ cs) ds = applied_append (applied t c) cs ds

-- allowed changes after allowed changes are allowed
pub allowed_append : (t : Tables) (cs ds : List Change) → AreAllowed t cs → AreAllowed (applied_all t cs) ds → AreAllowed t (cs ++ ds)
allowed_append t [] ds h i = i
allowed_append t (c ∷ cs) ds h i = (h.0, allowed_append (applied t c) cs ds h.1 i)

-- allowed changes keep the rules
pub all_keep : (t : Tables) (cs : List Change) → KeepsRules t → AreAllowed t cs → KeepsRules (applied_all t cs)
all_keep t [] kept h = kept
all_keep t (c ∷ cs) kept h = all_keep (applied t c) cs h.0 h.1

-- a job that is there is as it must be
pub job_has_rules : (groups : List Group) (jobs : List Job) (last id : ℕ) (job : Job) → JobRules groups jobs last → row_with (λ j. j.id) id jobs ≡ Some job → RunsByNext job × HasItsSchedule job × HasItsZone job × HasGroup groups job
job_has_rules groups jobs last id job h is = (
  row_has RunsByNext (λ j. j.id) id jobs job is h.running,
  row_has HasItsSchedule (λ j. j.id) id jobs job is h.schedules,
  row_has HasItsZone (λ j. j.id) id jobs job is h.zones,
  row_has (HasGroup groups) (λ j. j.id) id jobs job is h.groups_exist,
)

-- a log that is there and was sent has an address
pub log_has_rules : (logs : List Log) (last id : ℕ) (log : Log) → LogRules logs last → row_with (λ l. l.id) id logs ≡ Some log → HasAddress log
log_has_rules logs last id log h is = row_has HasAddress (λ l. l.id) id logs log is h.addresses

-- logs with ids above all others go behind them
pub put_logs_behind : (t : Tables) (low high : ℕ) (logs : List Log) → IsRising (λ l. l.id) 0 t.logs low → IsRising (λ l. l.id) low logs high → applied_all t (map PutLog logs) ≡ record t { logs = t.logs ++ logs }
put_logs_behind t low high [] rises more = ap (λ ls. record t { logs = ls }) (sym (append-nil t.logs))
put_logs_behind t low high (log ∷ logs) rises more =
    let behind : put_row (λ (l : Log). l.id) log t.logs ≡ t.logs ++ log ∷ [] = put_behind (λ (l : Log). l.id) 0 low log t.logs rises more.0 in
    let u : Tables = record t { logs = t.logs ++ log ∷ [] } in
    ap (λ ls. applied_all (record t { logs = ls }) (map PutLog logs)) behind
    ∙ put_logs_behind u log.id high logs (rising-push (λ (l : Log). l.id) 0 low t.logs log rises more.0) more.1
    ∙ ap (λ ls. record t { logs = ls }) (append_assoc t.logs (log ∷ []) logs)

-- such logs may be put where their ids were given
pub put_logs_allowed : (t : Tables) (low high : ℕ) (logs : List Log) → KeepsRules t → IsRising (λ l. l.id) 0 t.logs low → IsRising (λ l. l.id) low logs high → high ≤ t.last.log → All HasAddress logs → AreAllowed t (map PutLog logs)
put_logs_allowed t low high [] h rises more within all = tt
put_logs_allowed t low high (log ∷ logs) h rises more within all =
    let above : low < log.id = more.0 in
    let below : log.id ≤ high = rising-ends (λ (l : Log). l.id) log.id high logs more.1 in
    let behind : put_row (λ (l : Log). l.id) log t.logs ≡ t.logs ++ log ∷ [] = put_behind (λ (l : Log). l.id) 0 low log t.logs rises above in
    let kept : KeepsRules (applied t (PutLog log)) = keeps_log t log h (omega arith) (omega arith) (all 0 log (omega arith)) in (
      kept,
      put_logs_allowed (applied t (PutLog log)) log.id high logs kept
          (subst (λ ls. IsRising (λ (l : Log). l.id) 0 ls log.id) (sym behind) (rising-push (λ (l : Log). l.id) 0 low t.logs log rises above))
          more.1 within (λ k d lt. all (suc k) d (omega arith)),
    )

-- drops of logs are allowed
pub drop_logs_allowed : (t : Tables) (ids : List ℕ) → KeepsRules t → AreAllowed t (map DropLog ids)
drop_logs_allowed t [] h = tt
drop_logs_allowed t (id ∷ ids) h =
    let kept : KeepsRules (applied t (DropLog id)) = keeps_drop_log t id h in
    (kept, drop_logs_allowed (applied t (DropLog id)) ids kept)
