-- The ids of a history's rows rise up to the last ids that were given.
use Rattle.std.proofs.Common.{◌≡◌, ℕ, ◌+◌, ◌<◌, ◌≤◌, List, [], ◌∷◌, ◌++◌, Bool, true, false, cond, eqb, Option, Some, None, length, map, refl, sym, ap, ◌∙◌, subst, arith}
use Rattle.std.specs.List.{filter}
use Rattle.job_events.specs.declared.cluster.ClusterEvent.TheVariants.{NodeStop, AddGroup, SetGroup, AddJob, RemoveJob, TriggerJob, ScanStep, Turn, Sent, Callback, Sweep, Monitor, Lost, Clean, Reopen}
use Rattle.job_records.specs.declared.job.Job.{Job}
use Rattle.job_records.specs.declared.group.Group.{Group}
use Rattle.job_records.specs.declared.log.Log.{Log}
use Rattle.job_records.specs.Rows.{IsRising}
use Rattle.job_records.proofs.RowLemmas.{rising-push}
use Rattle.cluster_history.specs.History.{History, Begin, After, opening_of}
use Rattle.job_values.specs.declared.limits.TheConstants.{FAILURE}
use Rattle.cluster_history.specs.Registrations.{registry_of, rows_left, group_swept}
use Rattle.cluster_history.specs.Groups.{groups_of, last_group}
use Rattle.cluster_history.specs.Jobs.{ids_of, jobs_of, last_job, row_of}
use Rattle.cluster_history.specs.Firings.{Shot, shots_stepped, shots_turned, shots_asked}
use Rattle.cluster_history.specs.Openings.{Pools, Placed, placed_from, pool_of, one_more, pools_after, rows_of}
use Rattle.cluster_history.specs.Settling.{log_changed, sent_log, ended_where, ended_log, settled_log, first_failed, marked_log, logs_marked, first_lost, lost_text, logs_lost}
use Rattle.cluster_history.specs.Logs.{is_open_of, is_open_of_any, logs_of, last_log, pools_of, shots_called, shots_watched}
use Rattle.cluster_history.specs.Runs.{OpensWell}

-- rows that keep their ids keep their order
pub rising-mapped : {R : Type 0} (id_of : R → ℕ) (change : R → R) (keeps : (row : R) → id_of (change row) ≡ id_of row) (low last : ℕ) (rows : List R) → IsRising id_of low rows last → IsRising id_of low (map change rows) last
rising-mapped id_of change keeps low last [] h = h
rising-mapped id_of change keeps low last (row ∷ rows) h = (
  subst (λ n. low < n) (sym (keeps row)) h.0,
  subst (λ n. IsRising id_of n (map change rows) last) (sym (keeps row)) (rising-mapped id_of change keeps (id_of row) last rows h.1),
)

-- rows of which some are left out rise from any lower bound
rising-lower : {R : Type 0} (id_of : R → ℕ) (low more last : ℕ) (rows : List R) → IsRising id_of more rows last → low ≤ more → IsRising id_of low rows last
rising-lower id_of low more last [] h below = let end : more ≤ last = h in omega arith
rising-lower id_of low more last (row ∷ rows) h below = let first : more < id_of row = h.0 in (omega arith, h.1)

rising-kept_one : {R : Type 0} (id_of : R → ℕ) (low last : ℕ) (row : R) (rows : List R) (b : Bool) → low < id_of row → IsRising id_of (id_of row) rows last → IsRising id_of low (cond b (row ∷ rows) rows) last
rising-kept_one id_of low last row rows true first h = (first, h)
rising-kept_one id_of low last row rows false first h = rising-lower id_of low (id_of row) last rows h (omega arith)

pub rising-kept : {R : Type 0} (id_of : R → ℕ) (test : R → Bool) (low last : ℕ) (rows : List R) → IsRising id_of low rows last → IsRising id_of low (filter test rows) last
rising-kept id_of test low last [] h = h
rising-kept id_of test low last (row ∷ rows) h =
    rising-kept_one id_of low last row (filter test rows) (test row) h.0 (rising-kept id_of test (id_of row) last rows h.1)

-- the ids of rows rise as the rows do
pub rising-ids : {R : Type 0} (id_of : R → ℕ) (low last : ℕ) (rows : List R) → IsRising id_of low rows last → IsRising (λ id. id) low (map id_of rows) last
rising-ids id_of low last [] h = h
rising-ids id_of low last (row ∷ rows) h = (h.0, rising-ids id_of (id_of row) last rows h.1)

-- and rows made of ids, as these do
pub rising-rows : {R : Type 0} (id_of : R → ℕ) (made : ℕ → R) (keeps : (id : ℕ) → id_of (made id) ≡ id) (low last : ℕ) (ids : List ℕ) → IsRising (λ id. id) low ids last → IsRising id_of low (map made ids) last
rising-rows id_of made keeps low last [] h = h
rising-rows id_of made keeps low last (id ∷ ids) h = (
  subst (λ n. low < n) (sym (keeps id)) h.0,
  subst (λ n. IsRising id_of n (map made ids) last) (sym (keeps id)) (rising-rows id_of made keeps id last ids h.1),
)

-- rows behind rows
rising-behind : {R : Type 0} (id_of : R → ℕ) (low last end : ℕ) (rows more : List R) → IsRising id_of low rows last → IsRising id_of last more end → IsRising id_of low (rows ++ more) end
rising-behind id_of low last end [] more h h2 = rising-lower id_of low last end more h2 h
rising-behind id_of low last end (row ∷ rows) more h h2 = (h.0, rising-behind id_of (id_of row) last end rows more h.1 h2)

change-keeps : (id : ℕ) (group : Group) (set : Group → Group) (b : Bool) → (set group).id ≡ group.id → (cond b (set group) group).id ≡ group.id
change-keeps id group set true keeps = keeps
change-keeps id group set false keeps = refl

-- the ids of the groups rise up to the last one
pub groups_rise : (h : History) → OpensWell (opening_of h) → IsRising (λ group. group.id) 0 (groups_of h) (last_group h)
groups_rise (Begin o) well = well.rules.groups.rising
groups_rise (After h (AddGroup app kind addresses) r) well =
    rising-push (λ (group : Group). group.id) 0 (last_group h) (groups_of h) (record { id = last_group h + 1; app = app; kind = kind; addresses = addresses }) (groups_rise h well) (omega arith)
groups_rise (After h (SetGroup id kind addresses) r) well =
    rising-mapped (λ (group : Group). group.id) _ (λ (group : Group). change-keeps id group (λ (g : Group). record { id = g.id; app = g.app; kind = kind; addresses = addresses }) (eqb group.id id) refl) 0 (last_group h) (groups_of h) (groups_rise h well)
groups_rise (After h (Sweep at) r) well = rising-mapped (λ (group : Group). group.id) (group_swept (rows_left at (registry_of h))) (λ (group : Group). refl) 0 (last_group h) (groups_of h) (groups_rise h well)
groups_rise (After h _ r) well = groups_rise h well

-- the ids of the present jobs rise up to the last one
pub ids_rise : (h : History) → OpensWell (opening_of h) → IsRising (λ id. id) 0 (ids_of h) (last_job h)
ids_rise (Begin o) well = rising-ids (λ (job : Job). job.id) 0 o.tables.last.job o.tables.jobs well.rules.jobs.rising
ids_rise (After h (AddJob spec) r) well = rising-push (λ (id : ℕ). id) 0 (last_job h) (ids_of h) (last_job h + 1) (ids_rise h well) (omega arith)
ids_rise (After h (RemoveJob job) r) well = rising-kept (λ (id : ℕ). id) _ 0 (last_job h) (ids_of h) (ids_rise h well)
ids_rise (After h _ r) well = ids_rise h well

pub jobs_rise : (h : History) → OpensWell (opening_of h) → IsRising (λ job. job.id) 0 (jobs_of h) (last_job h)
jobs_rise h well = rising-rows (λ (job : Job). job.id) (row_of h) (λ id. refl) 0 (last_job h) (ids_of h) (ids_rise h well)

-- logs that are opened for some shots and then for others
pub placed-append : (last : ℕ) (pools : Pools) (xs ys : List Shot) → placed_from last pools (xs ++ ys) ≡ placed_from last pools xs ++ placed_from (last + length xs) (pools_after pools xs) ys
placed-append last pools [] ys = let same : last ≡ last + 0 = omega arith in ap (λ n. placed_from n pools ys) same
placed-append last pools (x ∷ xs) ys =
    let same : (last + 1) + length xs ≡ last + length (x ∷ xs) = omega arith in
    ap (λ (placed : List Placed). record { shot = x; log = last + 1; pool = pool_of pools x } ∷ placed)
    (placed-append (last + 1) (one_more (pool_of pools x) pools) xs ys
    ∙ ap (λ n. placed_from (last + 1) (one_more (pool_of pools x) pools) xs ++ placed_from n (pools_after (one_more (pool_of pools x) pools) xs) ys) same)

-- opened logs rise from the last one, one for each shot
pub placed-rise : (last : ℕ) (pools : Pools) (shots : List Shot) → IsRising (λ log. log.id) last (rows_of (placed_from last pools shots)) (last + length shots)
placed-rise last pools [] = omega arith
placed-rise last pools (shot ∷ shots) =
    (omega arith, subst (λ n. IsRising (λ (log : Log). log.id) (last + 1) (rows_of (placed_from (last + 1) (one_more (pool_of pools shot) pools) shots)) n) (omega arith) (placed-rise (last + 1) (one_more (pool_of pools shot) pools) shots))

end-keeps : (log : Log) (b : Bool) → (cond b (ended_log log) log).id ≡ log.id
end-keeps log true = refl
end-keeps log false = refl

ended-rise : (is_open : Log → Bool) (low last : ℕ) (logs : List Log) → IsRising (λ log. log.id) low logs last → IsRising (λ log. log.id) low (ended_where is_open logs) last
ended-rise is_open low last logs h = rising-mapped (λ (log : Log). log.id) (λ (log : Log). cond (is_open log) (ended_log log) log) (λ (log : Log). end-keeps log (is_open log)) low last logs h

one-keeps : (f : Log → Log) → ((log : Log) → (f log).id ≡ log.id) → (log : Log) (b : Bool) → (cond b (f log) log).id ≡ log.id
one-keeps f keeps log true = keeps log
one-keeps f keeps log false = refl

-- a change of one row that keeps its id
pub changed-rise : (id : ℕ) (f : Log → Log) → ((log : Log) → (f log).id ≡ log.id) → (low last : ℕ) (logs : List Log) → IsRising (λ log. log.id) low logs last → IsRising (λ log. log.id) low (log_changed id f logs) last
changed-rise id f keeps low last logs h = rising-mapped (λ (log : Log). log.id) (λ (log : Log). cond (eqb log.id id) (f log) log) (λ (log : Log). one-keeps f keeps log (eqb log.id id)) low last logs h

pub marked-rise : (chosen : Option Log) (low last : ℕ) (logs : List Log) → IsRising (λ log. log.id) low logs last → IsRising (λ log. log.id) low (logs_marked chosen logs) last
marked-rise None low last logs h = h
marked-rise (Some log) low last logs h = changed-rise log.id marked_log (λ log. refl) low last logs h

pub lost-rise : (at : ℕ) (chosen : Option Log) (low last : ℕ) (logs : List Log) → IsRising (λ log. log.id) low logs last → IsRising (λ log. log.id) low (logs_lost at chosen logs) last
lost-rise at None low last logs h = h
lost-rise at (Some log) low last logs h = changed-rise log.id (settled_log at FAILURE lost_text) (λ log. refl) low last logs h

-- the ids of the logs rise up to the last one
pub logs_rise : (h : History) → OpensWell (opening_of h) → IsRising (λ log. log.id) 0 (logs_of h) (last_log h)
logs_rise (Begin o) well = well.rules.logs.rising
logs_rise (After h (NodeStop admin) r) well = ended-rise (is_open_of h admin) 0 (last_log h) (logs_of h) (logs_rise h well)
logs_rise (After h Reopen r) well = ended-rise (is_open_of_any h) 0 (last_log h) (logs_of h) (logs_rise h well)
logs_rise (After h (ScanStep admin) r) well =
    rising-behind (λ (log : Log). log.id) 0 (last_log h) (last_log h + length (shots_stepped h)) (logs_of h) _ (logs_rise h well) (placed-rise (last_log h) (pools_of h admin) (shots_stepped h))
logs_rise (After h (Turn admin at) r) well =
    rising-behind (λ (log : Log). log.id) 0 (last_log h) (last_log h + length (shots_turned h admin at)) (logs_of h) _ (logs_rise h well) (placed-rise (last_log h) (pools_of h admin) (shots_turned h admin at))
logs_rise (After h (TriggerJob admin at job param) r) well =
    rising-behind (λ (log : Log). log.id) 0 (last_log h) (last_log h + length (shots_asked h at job param)) (logs_of h) _ (logs_rise h well) (placed-rise (last_log h) (pools_of h admin) (shots_asked h at job param))
logs_rise (After h (Callback admin at item) r) well =
    rising-behind (λ (log : Log). log.id) 0 (last_log h) (last_log h + length (shots_called h at item.code item.log)) (log_changed item.log (settled_log at item.code item.msg) (logs_of h)) _
    (changed-rise item.log (settled_log at item.code item.msg) (λ log. refl) 0 (last_log h) (logs_of h) (logs_rise h well)) (placed-rise (last_log h) (pools_of h admin) (shots_called h at item.code item.log))
logs_rise (After h (Monitor admin at) r) well =
    rising-behind (λ (log : Log). log.id) 0 (last_log h) (last_log h + length (shots_watched h at)) (logs_marked (first_failed (logs_of h)) (logs_of h)) _
    (marked-rise (first_failed (logs_of h)) 0 (last_log h) (logs_of h) (logs_rise h well)) (placed-rise (last_log h) (pools_of h admin) (shots_watched h at))
logs_rise (After h (Sent log address code start end) r) well = changed-rise log (sent_log address code) (λ log. refl) 0 (last_log h) (logs_of h) (logs_rise h well)
logs_rise (After h (Lost at) r) well = lost-rise at (first_lost at (registry_of h) (logs_of h)) 0 (last_log h) (logs_of h) (logs_rise h well)
logs_rise (After h (Clean at) r) well = rising-kept (λ (log : Log). log.id) _ 0 (last_log h) (logs_of h) (logs_rise h well)
logs_rise (After h _ r) well = logs_rise h well
