-- Children are started by results of success alone, and once.
use Rattle.std.proofs.Common.{◌≡◌, ℕ, ◌+◌, ◌<◌, ◌≤◌, ℤ, List, [], ◌∷◌, ◌++◌, Bool, true, false, cond, eqb, ltb, nat_lt, ◌||◌, Option, Some, None, map, length, refl, ap, ◌∙◌, subst, arith, int_eq, unwrap_or}
use Rattle.std.specs.List.{AllByRecursion, range_with_len, list_any, flat_map}
use Rattle.std.proofs.lemmas.List.Elements.{All-from_recursion}
use Rattle.std.proofs.lemmas.Bool.Decides.{nat_tests, Decides-int_eq}
use Rattle.job_values.specs.declared.limits.TheConstants.{LAST_LOG_ID, SUCCESS}
use Rattle.job_values.specs.declared.run.CallbackItem.{CallbackItem}
use Rattle.job_values.specs.declared.words.TriggerKind.{TriggerKind}
use Rattle.job_values.specs.declared.words.TriggerKind.TheVariants as kind
use Rattle.job_values.specs.declared.words.Case.{Case}
use Rattle.job_values.specs.declared.words.Case.TheVariants as case
use Rattle.job_events.specs.declared.cluster.ClusterEvent.{ClusterEvent}
use Rattle.job_events.specs.declared.cluster.ClusterEvent.TheVariants as event
use Rattle.job_events.specs.declared.cluster.ClusterReply.{ClusterReply}
use Rattle.job_events.specs.declared.cluster.ClusterReply.TheVariants as reply
use Rattle.job_events.specs.declared.cluster.ClusterRefusal.TheVariants as refusal
use Rattle.job_events.specs.declared.opened.FiredChild.{FiredChild}
use Rattle.job_records.specs.declared.group.Group.{Group}
use Rattle.job_records.specs.declared.job.Job.{Job}
use Rattle.job_records.specs.declared.log.Log.{Log}
use Rattle.job_records.specs.Rows.{IsRising}
use Rattle.job_records.proofs.RowLemmas.{found-id}
use Rattle.cluster_history.specs.declared.scan.Scan.{Scan}
use Rattle.cluster_history.specs.History.{History, Begin, After, accepted, opening_of, is_refusal}
use Rattle.cluster_history.specs.Nodes.{runs}
use Rattle.cluster_history.specs.Groups.{groups_of, group_with, addresses_in}
use Rattle.cluster_history.specs.Looks.{Looked, job_with}
use Rattle.cluster_history.specs.Jobs.{jobs_of, scan_of, look_of}
use Rattle.cluster_history.specs.Tickets.{Waiting, waiting, taken, second_of}
use Rattle.cluster_history.specs.Firings.{Shot, shards, shot_for, shots_of, shots_if, shots_by_hand, kind_of, shots_looked, shots_scanned, shots_stepped, shots_turned, shots_asked, shots_taken, shots_for, shots_each, shots_again, shots_marked}
use Rattle.cluster_history.specs.Openings.{Pools, placed_from, pool_of, one_more, pools_after, rows_of}
use Rattle.cluster_history.specs.Settling.{log_with, log_changed, is_positive, is_settled, children_of, children_in, first_failed, logs_marked, settled_log}
use Rattle.cluster_history.specs.Logs.{logs_of, last_log, pools_of, shots_called, shots_watched}
use Rattle.cluster_history.specs.Replies.{refused, if_running, settle_reply, children_from, reply_after}
use Rattle.cluster_history.specs.Runs.{OpensWell}
use Rattle.cluster_history.proofs.RowIds.{logs_rise, changed-rise, marked-rise}
use Rattle.cluster_history.proofs.Answered.{accepted_opens}
use Rattle.cluster_laws.specs.Settles.{settled_by, one_if, times_settled}
use Rattle.cluster_laws.specs.Children.{children_by, IsChildOf, IsOfParent, told_children, children_started, started_of, times_started, OpensChildren, ChildrenOnce}
use Rattle.cluster_laws.proofs.OnceRows.{Low, low-rising}
use Rattle.cluster_laws.proofs.SettleLemmas.{each_settled_once}

-- what is so of the job of every shot whose kind is that of a child
abbrev Fits : (ℕ → Type 0) → List Shot → Type 0
Fits P shots = AllByRecursion (λ shot. shot.kind ≡ kind.Parent → P shot.row.id) shots

fits-made : (P : ℕ → Type 0) (row : Job) (param : List ℕ) (why : TriggerKind) (time total : ℕ) → (why ≡ kind.Parent → P row.id) → (indexes : List ℕ) → Fits P (map (λ index. shot_for row param why time total index) indexes)
fits-made P row param why time total fits [] = tt
fits-made P row param why time total fits (index ∷ indexes) = (fits, fits-made P row param why time total fits indexes)

fits-if : (P : ℕ → Type 0) (groups : List Group) (why : TriggerKind) (time : ℕ) (row : Option Job) → ((found : Job) → row ≡ Some found → why ≡ kind.Parent → P found.id) → Fits P (shots_if groups why time row)
fits-if P groups why time None fits = tt
fits-if P groups why time (Some row) fits = fits-made P row row.spec.param why time (shards row.spec.route (addresses_in (group_with row.spec.group groups))) (fits row refl) (range_with_len 0 (shards row.spec.route (addresses_in (group_with row.spec.group groups))))

fits-both : (P : ℕ → Type 0) (xs ys : List Shot) → Fits P xs → Fits P ys → Fits P (xs ++ ys)
fits-both P [] ys f g = g
fits-both P (x ∷ xs) ys f g = (f.0, fits-both P xs ys f.1 g)

no-cron : (P : ℕ → Type 0) (found : Job) → kind.Cron ≡ kind.Parent → P found.id
no-cron P found e = absurd (let never : ⊥ = cc in never)

fits-for : (P : ℕ → Type 0) (groups : List Group) (jobs : List Job) (time : ℕ) (ones : List Waiting) → Fits P (shots_for groups jobs time ones)
fits-for P groups jobs time [] = tt
fits-for P groups jobs time (one ∷ ones) =
    fits-both P (shots_taken groups jobs time one) (shots_for groups jobs time ones) (fits-if P groups kind.Cron time (job_with one.ticket.job jobs) (λ found is. no-cron P found)) (fits-for P groups jobs time ones)

no-child : (P : ℕ → Type 0) (found : Job) (c : Case) → kind_of c ≡ kind.Parent → P found.id
no-child P found case.Misfire e = absurd (let never : ⊥ = cc in never)
no-child P found case.Late e = absurd (let never : ⊥ = cc in never)
no-child P found case.Early e = absurd (let never : ⊥ = cc in never)

fits-looked : (P : ℕ → Type 0) (groups : List Group) (time : ℕ) (look : Option Looked) → Fits P (shots_looked groups time look)
fits-looked P groups time None = tt
fits-looked P groups time (Some look) = by look.decision.fire_now
  where
    by : (b : Bool) → Fits P (cond b (shots_of groups (kind_of look.decision.case) time look.row) [])
    by true = fits-made P look.row look.row.spec.param (kind_of look.decision.case) time _ (no-child P look.row look.decision.case) (range_with_len 0 _)
    by false = tt

fits-scanned : (P : ℕ → Type 0) (groups : List Group) (scan : Option Scan) (look : Option Looked) → Fits P (shots_scanned groups scan look)
fits-scanned P groups None look = tt
fits-scanned P groups (Some scan) look = fits-looked P groups scan.at look

fits-asked : (P : ℕ → Type 0) (groups : List Group) (param : Option (List ℕ)) (time : ℕ) (row : Option Job) → Fits P (shots_by_hand groups param time row)
fits-asked P groups param time None = tt
fits-asked P groups param time (Some row) = fits-made P row (unwrap_or param row.spec.param) kind.Manual time _ (λ e. absurd (let never : ⊥ = cc in never)) (range_with_len 0 _)

fits-marked : (P : ℕ → Type 0) (jobs : List Job) (time : ℕ) (log : Option Log) → Fits P (shots_marked jobs time log)
fits-marked P jobs time None = tt
fits-marked P jobs time (Some log) = by (ltb 0 log.retries)
  where
    again : (row : Option Job) → Fits P (shots_again time log row)
    again None = tt
    again (Some row) = ((λ e. absurd (let never : ⊥ = cc in never)), tt)

    by : (b : Bool) → Fits P (cond b (shots_again time log (job_with log.job jobs)) [])
    by true = again (job_with log.job jobs)
    by false = tt

-- the logs of some ids are of jobs with these ids
fits-each : (P : ℕ → Type 0) (groups : List Group) (jobs : List Job) (time : ℕ) (ids : List ℕ) → ((job : ℕ) → list_any (λ id. eqb id job) ids ≡ true → P job) → Fits P (shots_each groups jobs kind.Parent time ids)
fits-each P groups jobs time [] fits = tt
fits-each P groups jobs time (id ∷ ids) fits =
    fits-both P (shots_if groups kind.Parent time (job_with id jobs)) (shots_each groups jobs kind.Parent time ids)
    (fits-if P groups kind.Parent time (job_with id jobs) (λ found is e. fits found.id (first found is)))
    (fits-each P groups jobs time ids (λ job has. fits job (later job has (eqb id job))))
  where
    first : (found : Job) → job_with id jobs ≡ Some found → (eqb id found.id || list_any (λ n. eqb n found.id) ids) ≡ true
    first found is =
        let same : found.id ≡ id = found-id (λ (job : Job). job.id) id jobs found is in
        let test : eqb id found.id ≡ true = grind (arith, nat_tests) in
        ap (λ b. b || list_any (λ n. eqb n found.id) ids) test

    later : (job : ℕ) → list_any (λ n. eqb n job) ids ≡ true → (b : Bool) → (b || list_any (λ n. eqb n job) ids) ≡ true
    later job has true = refl
    later job has false = has

-- a result that is no success has no children
fits-called : (groups : List Group) (h : History) (time log : ℕ) (code : ℤ) (row : Option Log) → log_with log (logs_of h) ≡ row → Fits (IsChildOf h log code) (shots_each groups (jobs_of h) kind.Parent time (children_of (jobs_of h) code row))
fits-called groups h time log code None is = tt
fits-called groups h time log code (Some row) is = by (int_eq code SUCCESS) refl
  where
    by : (b : Bool) → int_eq code SUCCESS ≡ b → Fits (IsChildOf h log code) (shots_each groups (jobs_of h) kind.Parent time (cond b (children_in (job_with row.job (jobs_of h))) []))
    by true test =
        fits-each (IsChildOf h log code) groups (jobs_of h) time (children_in (job_with row.job (jobs_of h)))
        (λ job has. record {
          success = (Decides-int_eq code SUCCESS).0 test;
          child = ap (λ found. list_any (λ id. eqb id job) (children_by (jobs_of h) found)) is ∙ has;
        })
    by false test = tt

-- the logs that are opened fit as their shots do
placed-fits : (P : ℕ → Type 0) (low last : ℕ) (pools : Pools) (shots : List Shot) → Fits P shots → AllByRecursion (λ log. low < log.id → log.kind ≡ kind.Parent → P log.job) (rows_of (placed_from last pools shots))
placed-fits P low last pools [] fits = tt
placed-fits P low last pools (shot ∷ shots) fits = (λ above is. fits.0 is, placed-fits P low (last + 1) (one_more (pool_of pools shot) pools) shots fits.1)

-- the logs that were there fit
old-fits : (P : ℕ → Type 0) (last : ℕ) (logs : List Log) → Low last logs → AllByRecursion (λ log. last < log.id → log.kind ≡ kind.Parent → P log.job) logs
old-fits P last [] low = tt
old-fits P last (log ∷ logs) low = (λ above is. absurd (let within : log.id ≤ last = low.0 in let never : ⊥ = omega arith in never), old-fits P last logs low.1)

both-fit : (P : Log → Type 0) (xs ys : List Log) → AllByRecursion P xs → AllByRecursion P ys → AllByRecursion P (xs ++ ys)
both-fit P [] ys all more = more
both-fit P (x ∷ xs) ys all more = (all.0, both-fit P xs ys all.1 more)

-- an admin opens logs behind others
opened-fit : (P : ℕ → Type 0) (h : History) (admin : ℕ) (shots : List Shot) (logs : List Log) → IsRising (λ log. log.id) 0 logs (last_log h) → Fits P shots
    → AllByRecursion (λ log. last_log h < log.id → log.kind ≡ kind.Parent → P log.job) (logs ++ rows_of (placed_from (last_log h) (pools_of h admin) shots))
opened-fit P h admin shots logs rising fits =
    both-fit (λ log. last_log h < log.id → log.kind ≡ kind.Parent → P log.job) logs (rows_of (placed_from (last_log h) (pools_of h admin) shots))
    (old-fits P (last_log h) logs (low-rising 0 (last_log h) logs rising)) (placed-fits P (last_log h) (last_log h) (pools_of h admin) shots fits)

-- an entry that opens none
none-fit : (P : ℕ → Type 0) (h : History) (e : ClusterEvent) (r : ClusterReply) → OpensWell (opening_of h) → last_log (After h e r) ≡ last_log h
    → AllByRecursion (λ log. last_log h < log.id → log.kind ≡ kind.Parent → P log.job) (logs_of (After h e r))
none-fit P h e r well same = old-fits P (last_log h) (logs_of (After h e r)) (subst (λ n. Low n (logs_of (After h e r))) same (low-rising 0 (last_log (After h e r)) (logs_of (After h e r)) (logs_rise (After h e r) well)))

children-opened : (h : History) (e : ClusterEvent) (r : ClusterReply) → OpensWell (opening_of h) → AllByRecursion (IsOfParent h e) (logs_of (After h e r))
children-opened h (event.ScanStep admin) r well = opened-fit (λ job. ⊥) h admin (shots_stepped h) (logs_of h) (logs_rise h well) (fits-scanned (λ job. ⊥) (groups_of h) (scan_of h) (look_of h))
children-opened h (event.Turn admin at) r well = opened-fit (λ job. ⊥) h admin (shots_turned h admin at) (logs_of h) (logs_rise h well) (fits-for (λ job. ⊥) (groups_of h) (jobs_of h) at (taken admin (second_of at) (waiting h)))
children-opened h (event.TriggerJob admin at job param) r well = opened-fit (λ j. ⊥) h admin (shots_asked h at job param) (logs_of h) (logs_rise h well) (fits-asked (λ j. ⊥) (groups_of h) param at (job_with job (jobs_of h)))
children-opened h (event.Callback admin at item) r well =
    opened-fit (IsChildOf h item.log item.code) h admin (shots_called h at item.code item.log) (log_changed item.log (settled_log at item.code item.msg) (logs_of h))
    (changed-rise item.log (settled_log at item.code item.msg) (λ log. refl) 0 (last_log h) (logs_of h) (logs_rise h well))
    (fits-called (groups_of h) h at item.log item.code (log_with item.log (logs_of h)) refl)
children-opened h (event.Monitor admin at) r well =
    opened-fit (λ job. ⊥) h admin (shots_watched h at) (logs_marked (first_failed (logs_of h)) (logs_of h)) (marked-rise (first_failed (logs_of h)) 0 (last_log h) (logs_of h) (logs_rise h well)) (fits-marked (λ job. ⊥) (jobs_of h) at (first_failed (logs_of h)))
children-opened h e r well = none-fit (λ job. ⊥) h e r well refl

-- the reply tells the children, in order
from-jobs : (groups : List Group) (jobs : List Job) (at last : ℕ) (pools : Pools) (ids : List ℕ) → map (λ (child : FiredChild). child.job) (children_from groups jobs at last pools ids) ≡ ids
from-jobs groups jobs at last pools [] = refl
from-jobs groups jobs at last pools (id ∷ ids) =
    let shots : List Shot = shots_if groups kind.Parent at (job_with id jobs) in
    ap (λ more. id ∷ more) (from-jobs groups jobs at (last + length shots) (pools_after pools shots) ids)

started-by : (jobs : List Job) (code : ℤ) (row : Option Log) → children_of jobs code row ≡ cond (int_eq code SUCCESS) (children_by jobs row) []
started-by jobs code None = by (int_eq code SUCCESS)
  where
    by : (b : Bool) → ◌≡◌ {A = List ℕ} [] (cond b [] [])
    by true = refl
    by false = refl
started-by jobs code (Some row) = refl

-- each child opens its logs, in order
each-opens : (groups : List Group) (jobs : List Job) (time : ℕ) (ids : List ℕ) → shots_each groups jobs kind.Parent time ids ≡ flat_map (λ job. shots_if groups kind.Parent time (job_with job jobs)) ids
each-opens groups jobs time [] = refl
each-opens groups jobs time (id ∷ ids) = ap (λ more. shots_if groups kind.Parent time (job_with id jobs) ++ more) (each-opens groups jobs time ids)

opens-children : (h : History) (e : ClusterEvent) → OpensChildren h e
opens-children h (event.Callback admin at item) =
    ap (shots_each (groups_of h) (jobs_of h) kind.Parent at) (started-by (jobs_of h) item.code (log_with item.log (logs_of h)))
    ∙ each-opens (groups_of h) (jobs_of h) at (children_started h (event.Callback admin at item))
opens-children h e = tt

settled-told : (settled spent : Bool) (admin at : ℕ) (item : CallbackItem) (kept code : ℤ) (children : List FiredChild) (ids : List ℕ) (r : ClusterReply) → map (λ (child : FiredChild). child.job) children ≡ ids
    → r ≡ cond settled (refused (refusal.Repeat kept)) (cond spent (refused refusal.IdsSpent) (reply.Settled code children)) → is_refusal r ≡ false → told_children (event.Callback admin at item) r ≡ ids
settled-told true spent admin at item kept code children ids r tells is ok = (cc)
settled-told false true admin at item kept code children ids r tells is ok = (cc)
settled-told false false admin at item kept code children ids r tells is ok = ap (told_children (event.Callback admin at item)) is ∙ tells

row-told : (groups : List Group) (jobs : List Job) (last : ℕ) (pools : Pools) (shots : List Shot) (admin at : ℕ) (item : CallbackItem) (row : Option Log) (r : ClusterReply)
    → r ≡ settle_reply groups jobs last pools shots at item.code row → is_refusal r ≡ false → told_children (event.Callback admin at item) r ≡ children_of jobs item.code row
row-told groups jobs last pools shots admin at item None r is ok = (cc)
row-told groups jobs last pools shots admin at item (Some log) r is ok =
    settled-told (is_settled log) (nat_lt LAST_LOG_ID (last + length shots)) admin at item log.result_code item.code (children_from groups jobs at last pools (children_of jobs item.code (Some log))) (children_of jobs item.code (Some log)) r
    (from-jobs groups jobs at last pools (children_of jobs item.code (Some log))) is ok

call-told : (running positive : Bool) (admin : ℕ) (e : ClusterEvent) (answer r : ClusterReply) (ids : List ℕ) → (r ≡ answer → is_refusal r ≡ false → told_children e r ≡ ids)
    → r ≡ if_running running admin (cond positive answer (refused refusal.BadCode)) → is_refusal r ≡ false → told_children e r ≡ ids
call-told false positive admin e answer r ids tells is ok = (cc)
call-told true false admin e answer r ids tells is ok = (cc)
call-told true true admin e answer r ids tells is ok = tells is ok

children-told : (h : History) (e : ClusterEvent) (r : ClusterReply) → r ≡ reply_after h e → is_refusal r ≡ false → told_children e r ≡ children_started h e
children-told h (event.Callback admin at item) r is ok =
    call-told (runs h admin) (is_positive item.code) admin (event.Callback admin at item)
    (settle_reply (groups_of h) (jobs_of h) (last_log h) (pools_of h admin) (shots_called h at item.code item.log) at item.code (log_with item.log (logs_of h))) r (children_of (jobs_of h) item.code (log_with item.log (logs_of h)))
    (row-told (groups_of h) (jobs_of h) (last_log h) (pools_of h admin) (shots_called h at item.code item.log) admin at item (log_with item.log (logs_of h)) r) is ok
    ∙ started-by (jobs_of h) item.code (log_with item.log (logs_of h))
children-told h e r is ok = refl

-- a log whose children start gets a result
started-less : (id : ℕ) (e : ClusterEvent) (r : ClusterReply) → one_if id (started_of e) ≤ one_if id (settled_by e r)
started-less id (event.Callback admin at item) r = by (int_eq item.code SUCCESS)
  where
    by : (b : Bool) → one_if id (cond b (Some item.log) None) ≤ one_if id (Some item.log)
    by true = omega arith
    by false = omega arith
started-less id e r = omega arith

started-once : (h : History) (id : ℕ) → times_started h id ≤ times_settled h id
started-once (Begin o) id = omega arith
started-once (After h e r) id = omega (arith, started-once h id, started-less id e r)

pub children-once : ChildrenOnce
children-once = record {
  entry = λ h e r legal ok. record {
    opened = All-from_recursion (IsOfParent (accepted h) e) (logs_of (After (accepted h) e r)) (children-opened (accepted h) e r (accepted_opens h legal.0));
    opens = opens-children (accepted h) e;
    told = children-told (accepted h) e r legal.2 ok;
  };
  once = λ h legal log. let more = (each_settled_once h legal log).settled in omega (arith, started-once (accepted h) log, more);
}
