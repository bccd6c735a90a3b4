-- A log gets its result at most once, and is marked at most once.
use Rattle.std.proofs.Common.{◌≡◌, ℕ, ◌+◌, ◌≤◌, ℤ, pos, List, [], ◌∷◌, ◌++◌, Bool, true, false, cond, eqb, ◌&&◌, not, Option, Some, None, length, find, option_map, refl, sym, ap, map, ◌∙◌, subst, arith, int_eq}
use Rattle.std.specs.List.{AllByRecursion}
use Rattle.std.proofs.lemmas.Bool.{false≢true, true≢false, and_parts}
use Rattle.std.proofs.lemmas.Bool.Decides.{Decides-int_eq}
use Rattle.job_values.specs.declared.limits.TheConstants.{FAILURE, SUCCESS}
use Rattle.job_events.specs.declared.cluster.ClusterEvent.TheVariants.{NodeStop, ScanStep, Turn, TriggerJob, Sent, Callback, Monitor, Lost, Clean, Reopen}
use Rattle.job_events.specs.declared.cluster.ClusterReply.{ClusterReply}
use Rattle.job_events.specs.declared.cluster.ClusterReply.TheVariants as reply
use Rattle.job_events.specs.declared.cluster.ClusterRefusal.TheVariants.{BadCode, Repeat, IdsSpent}
use Rattle.job_records.specs.declared.group.Group.{Group}
use Rattle.job_records.specs.declared.job.Job.{Job}
use Rattle.job_records.specs.declared.log.Log.{Log}
use Rattle.job_records.specs.Rows.{IsRising}
use Rattle.job_records.proofs.RowLemmas.{found-id}
use Rattle.cluster_history.specs.History.{History, Begin, After, opening_of, accepted, is_refusal}
use Rattle.cluster_history.specs.Nodes.{runs}
use Rattle.cluster_history.specs.Registrations.{registry_of}
use Rattle.cluster_history.specs.Groups.{groups_of}
use Rattle.cluster_history.specs.Jobs.{jobs_of}
use Rattle.cluster_history.specs.Firings.{Shot, shots_stepped, shots_turned, shots_asked}
use Rattle.cluster_history.specs.Openings.{Pools, placed_from, opened_of, rows_of}
use Rattle.cluster_history.specs.Settling.{log_with, is_positive, is_settled, is_unmarked, is_failed, is_lost, sent_log, ended_log, settled_log, marked_log, logs_marked, logs_lost, first_failed, first_lost, lost_text, children_of}
use Rattle.cluster_history.specs.Logs.{is_open_at, is_open_at_any, opener_of, logs_of, last_log, pools_of, shots_called, shots_watched}
use Rattle.cluster_history.specs.Replies.{refused, if_running, if_positive, settle_reply, if_ids, children_from, mark_reply, lost_reply}
use Rattle.cluster_history.specs.Runs.{OpensWell, IsAnswered}
use Rattle.cluster_history.proofs.RowIds.{logs_rise, placed-rise}
use Rattle.cluster_history.proofs.Answered.{legal_answered, accepted_opens}
use Rattle.cluster_history.proofs.Openings.{found-all}
use Rattle.cluster_laws.specs.Settles.{settled_by, marked_by, one_if, one_where, times_settled, times_marked, EachSettledOnce}
use Rattle.cluster_laws.proofs.FoundRows.{found-passes, all-found, absent-above}
use Rattle.cluster_laws.proofs.OnceRows.{Once, Low, low-rising, once-changed, once-where, once-kept, once-behind, once-done}

-- what an entry has of the settled logs, and of the marked ones
abbrev SettledOf : History → ℕ → Type 0
SettledOf h id = Once is_settled (times_settled h id) id (last_log h) (logs_of h)

abbrev MarkedOf : History → ℕ → Type 0
MarkedOf h id = Once (λ log. log.marked) (times_marked h id) id (last_log h) (logs_of h)

-- with nothing more counted
plus-none : (done : Log → Bool) (count id last : ℕ) (logs : List Log) → Once done count id last logs → Once done (count + 0) id last logs
plus-none done count id last logs once = let e : count ≡ count + 0 = omega arith in subst (λ n. Once done n id last logs) e once

-- logs that an admin opens
behind : (done : Log → Bool) (count id admin : ℕ) (h : History) (shots : List Shot) (logs : List Log) → Once done count id (last_log h) logs → Once done count id (last_log h + length shots) (logs ++ rows_of (placed_from (last_log h) (pools_of h admin) shots))
behind done count id admin h shots logs once =
    once-behind done count id (last_log h) (last_log h + length shots) logs (rows_of (placed_from (last_log h) (pools_of h admin) shots)) (omega arith) (placed-rise (last_log h) (pools_of h admin) shots) once

-- an accepted callback is of a log without a result, and has a positive code
pub callback-facts : (running : Bool) (admin : ℕ) (groups : List Group) (jobs : List Job) (last : ℕ) (pools : Pools) (shots : List Shot) (at : ℕ) (code : ℤ) (row : Option Log) (r : ClusterReply)
    → r ≡ if_running running admin (if_positive code (settle_reply groups jobs last pools shots at code row)) → is_refusal r ≡ false → (is_positive code ≡ true) × ((log : Log) × (row ≡ Some log) × (is_settled log ≡ false))
callback-facts running admin groups jobs last pools shots at code row r is ok = ran running (sym (ap is_refusal is) ∙ ok)
  where
    fresh : (b : Bool) (log : Log) (answer : ClusterReply) → is_settled log ≡ b → is_refusal (cond b (refused (Repeat log.result_code)) answer) ≡ false → is_settled log ≡ false
    fresh true log answer test e = absurd (true≢false e)
    fresh false log answer test e = test

    of-row : (row : Option Log) → is_refusal (settle_reply groups jobs last pools shots at code row) ≡ false → (log : Log) × (row ≡ Some log) × (is_settled log ≡ false)
    of-row None e = absurd (true≢false e)
    of-row (Some log) e = (log, refl, fresh (is_settled log) log (if_ids last (length shots) (reply.Settled code (children_from groups jobs at last pools (children_of jobs code (Some log))))) refl e)

    coded : (b : Bool) → is_positive code ≡ b → is_refusal (cond b (settle_reply groups jobs last pools shots at code row) (refused BadCode)) ≡ false → (is_positive code ≡ true) × ((log : Log) × (row ≡ Some log) × (is_settled log ≡ false))
    coded true test e = (test, of-row row e)
    coded false test e = absurd (true≢false e)

    ran : (b : Bool) → is_refusal (if_running b admin (if_positive code (settle_reply groups jobs last pools shots at code row))) ≡ false → (is_positive code ≡ true) × ((log : Log) × (row ≡ Some log) × (is_settled log ≡ false))
    ran true e = coded (is_positive code) refl e
    ran false e = absurd (true≢false e)

-- the reply tells the log that is lost, or marked
pub lost-told : (at : ℕ) (chosen : Option Log) (r : ClusterReply) → r ≡ lost_reply chosen → is_refusal r ≡ false → settled_by (Lost at) r ≡ option_map (λ log. log.id) chosen
lost-told at None r is ok = (cc)
lost-told at (Some log) r is ok = ap (settled_by (Lost at)) is

mark-told_by : (spent : Bool) (admin at : ℕ) (log : Log) (answer r : ClusterReply) → marked_by (Monitor admin at) answer ≡ Some log.id → r ≡ cond spent (refused IdsSpent) answer → is_refusal r ≡ false → marked_by (Monitor admin at) r ≡ Some log.id
mark-told_by true admin at log answer r tells is ok = (cc)
mark-told_by false admin at log answer r tells is ok = ap (marked_by (Monitor admin at)) is ∙ tells

pub mark-told : (running : Bool) (admin at last : ℕ) (pools : Pools) (shots : List Shot) (chosen : Option Log) (r : ClusterReply) → r ≡ if_running running admin (mark_reply last pools shots chosen) → is_refusal r ≡ false
    → marked_by (Monitor admin at) r ≡ option_map (λ log. log.id) chosen
mark-told false admin at last pools shots chosen r is ok = (cc)
mark-told true admin at last pools shots None r is ok = (cc)
mark-told true admin at last pools shots (Some log) r is ok = mark-told_by _ admin at log (reply.Marked log.id (map opened_of (placed_from last pools shots))) r refl is ok

positive-set : (code : ℤ) → is_positive code ≡ true → not (int_eq code (pos 0)) ≡ true
positive-set code positive = by (int_eq code (pos 0)) refl
  where
    by : (b : Bool) → int_eq code (pos 0) ≡ b → not b ≡ true
    by false is = refl
    by true is = let zero_ : code ≡ pos 0 = (Decides-int_eq code (pos 0)).0 is in absurd (false≢true (sym (ap is_positive zero_) ∙ positive))

two : (P Q : Log → Type 0) (logs : List Log) → AllByRecursion P logs → AllByRecursion Q logs → AllByRecursion (λ log. P log × Q log) logs
two P Q [] p q = tt
two P Q (log ∷ logs) p q = ((p.0, q.0), two P Q logs p.1 q.1)

low : (h : History) → OpensWell (opening_of h) → Low (last_log h) (logs_of h)
low h well = low-rising 0 (last_log h) (logs_of h) (logs_rise h well)

-- a row that is found, and what it tells
found : (done : Log → Bool) (count id : ℕ) (h : History) (test : Log → Bool) (log : Log) → OpensWell (opening_of h) → Once done count id (last_log h) (logs_of h) → find test (logs_of h) ≡ Some log → done log ≡ false
    → (log.id ≤ last_log h) × (log.id ≡ id → count ≡ 0)
found done count id h test log well once is fresh =
    let both = all-found _ test (logs_of h) log (two _ _ (logs_of h) (low h well) once.rows) is in
    (both.0, λ here. both.1 here fresh)

not-true : (b : Bool) → not b ≡ true → b ≡ false
not-true true e = absurd (false≢true e)
not-true false e = refl

lost-fresh : (sent result old : Bool) (gone : Bool) → (((sent && result) && old) && gone) ≡ true → not result ≡ false
lost-fresh sent result old gone e = ap not (and_parts sent result (and_parts (sent && result) old (and_parts ((sent && result) && old) gone e).0).0).1

lost-once : (h : History) (at id : ℕ) (chosen : Option Log) → OpensWell (opening_of h) → first_lost at (registry_of h) (logs_of h) ≡ chosen → SettledOf h id
    → Once is_settled (times_settled h id + one_if id (option_map (λ log. log.id) chosen)) id (last_log h) (logs_lost at chosen (logs_of h))
lost-once h at id None well is once = plus-none is_settled (times_settled h id) id (last_log h) (logs_of h) once
lost-once h at id (Some log) well is once =
    let passes = found-passes (is_lost at (registry_of h)) (logs_of h) log is in
    let fresh : is_settled log ≡ false = lost-fresh (int_eq log.trigger_code SUCCESS) (int_eq log.result_code (pos 0)) _ _ passes in
    let facts = found is_settled (times_settled h id) id h (is_lost at (registry_of h)) log well once is fresh in
    once-done is_settled (times_settled h id) id (last_log h) log.id (logs_of h) (settled_log at FAILURE lost_text) (λ l. refl) (λ l. refl) facts.0 facts.1 once

marked-once : (h : History) (id : ℕ) (chosen : Option Log) → OpensWell (opening_of h) → first_failed (logs_of h) ≡ chosen → MarkedOf h id
    → Once (λ log. log.marked) (times_marked h id + one_if id (option_map (λ log. log.id) chosen)) id (last_log h) (logs_marked chosen (logs_of h))
marked-once h id None well is once = plus-none (λ log. log.marked) (times_marked h id) id (last_log h) (logs_of h) once
marked-once h id (Some log) well is once =
    let passes = found-passes is_unmarked (logs_of h) log is in
    let fresh : log.marked ≡ false = not-true log.marked (and_parts (is_failed log) (not log.marked) passes).1 in
    let facts = found (λ l. l.marked) (times_marked h id) id h is_unmarked log well once is fresh in
    once-done (λ l. l.marked) (times_marked h id) id (last_log h) log.id (logs_of h) marked_log (λ l. refl) (λ l. refl) facts.0 facts.1 once

-- marking keeps the results, and losing keeps the marks
marked-keeps : (h : History) (id : ℕ) (chosen : Option Log) → SettledOf h id → Once is_settled (times_settled h id) id (last_log h) (logs_marked chosen (logs_of h))
marked-keeps h id None once = once
marked-keeps h id (Some log) once = once-changed is_settled (times_settled h id) id (last_log h) log.id (logs_of h) marked_log (λ l. refl) (λ l is. is) once

lost-keeps : (h : History) (at id : ℕ) (chosen : Option Log) → MarkedOf h id → Once (λ log. log.marked) (times_marked h id) id (last_log h) (logs_lost at chosen (logs_of h))
lost-keeps h at id None once = once
lost-keeps h at id (Some log) once = once-changed (λ l. l.marked) (times_marked h id) id (last_log h) log.id (logs_of h) (settled_log at FAILURE lost_text) (λ l. refl) (λ l is. is) once

-- the logs of an opening
where-most : (done : Log → Bool) (row : Option Log) → one_where done row ≤ 1
where-most done None = omega arith
where-most done (Some log) = by (done log)
  where
    by : (b : Bool) → cond {A = ℕ} b 1 0 ≤ 1
    by true = omega arith
    by false = omega arith

opened-rows : (done : Log → Bool) (id : ℕ) (all rows : List Log) → AllByRecursion (λ log. log_with log.id all ≡ Some log) rows → AllByRecursion (λ log. log.id ≡ id → done log ≡ false → one_where done (log_with id all) ≡ 0) rows
opened-rows done id all [] found = tt
opened-rows done id all (log ∷ logs) found = (
  λ here not. ap (λ n. one_where done (log_with n all)) (sym here) ∙ ap (one_where done) found.0 ∙ ap (λ b. cond {A = ℕ} b 1 0) not,
  opened-rows done id all logs found.1,
)

once-opened : (done : Log → Bool) (id last : ℕ) (logs : List Log) → IsRising (λ log. log.id) 0 logs last → Once done (one_where done (log_with id logs)) id last logs
once-opened done id last logs rising = record {
  unborn = λ above. ap (one_where done) (absent-above (λ (log : Log). log.id) 0 last id logs rising above);
  most = where-most done (log_with id logs);
  rows = opened-rows done id logs logs (found-all (λ (log : Log). log.id) 0 last logs rising);
}

pub settled-once : (h : History) → OpensWell (opening_of h) → IsAnswered h → (id : ℕ) → SettledOf h id
settled-once (Begin o) well answered id = once-opened is_settled id o.tables.last.log o.tables.logs well.rules.logs.rising
settled-once (After h (ScanStep admin) r) well answered id = plus-none _ _ _ _ _ (behind is_settled (times_settled h id) id admin h (shots_stepped h) (logs_of h) (settled-once h well answered.0 id))
settled-once (After h (Turn admin at) r) well answered id = plus-none _ _ _ _ _ (behind is_settled (times_settled h id) id admin h (shots_turned h admin at) (logs_of h) (settled-once h well answered.0 id))
settled-once (After h (TriggerJob admin at job param) r) well answered id = plus-none _ _ _ _ _ (behind is_settled (times_settled h id) id admin h (shots_asked h at job param) (logs_of h) (settled-once h well answered.0 id))
settled-once (After h (Callback admin at item) r) well answered id =
    let facts = callback-facts (runs h admin) admin (groups_of h) (jobs_of h) (last_log h) (pools_of h admin) (shots_called h at item.code item.log) at item.code (log_with item.log (logs_of h)) r answered.1 answered.2 in
    let once = settled-once h well answered.0 id in
    let row = found is_settled (times_settled h id) id h (λ log. eqb log.id item.log) facts.1.0 well once facts.1.1 facts.1.2 in
    let same : facts.1.0.id ≡ item.log = found-id (λ (log : Log). log.id) item.log (logs_of h) facts.1.0 facts.1.1 in
    behind is_settled (times_settled h id + cond (eqb item.log id) 1 0) id admin h (shots_called h at item.code item.log) _
    (once-done is_settled (times_settled h id) id (last_log h) item.log (logs_of h) (settled_log at item.code item.msg) (λ l. refl) (λ l. positive-set item.code facts.0)
    (let within : facts.1.0.id ≤ last_log h = row.0 in omega (arith, same)) (λ here. row.1 (same ∙ here)) once)
settled-once (After h (Monitor admin at) r) well answered id = plus-none _ _ _ _ _ (behind is_settled (times_settled h id) id admin h (shots_watched h at) _ (marked-keeps h id (first_failed (logs_of h)) (settled-once h well answered.0 id)))
settled-once (After h (Lost at) r) well answered id =
    let lost : Option Log = first_lost at (registry_of h) (logs_of h) in
    subst (λ one. Once is_settled (times_settled h id + one_if id one) id (last_log h) (logs_lost at lost (logs_of h))) (sym (lost-told at lost r answered.1 answered.2)) (lost-once h at id lost well refl (settled-once h well answered.0 id))
settled-once (After h (Sent log address code start end) r) well answered id = plus-none _ _ _ _ _ (once-changed is_settled (times_settled h id) id (last_log h) log (logs_of h) (sent_log address code) (λ l. refl) (λ l is. is) (settled-once h well answered.0 id))
settled-once (After h (Clean at) r) well answered id = plus-none _ _ _ _ _ (once-kept is_settled (times_settled h id) id (last_log h) (logs_of h) _ (settled-once h well answered.0 id))
settled-once (After h (NodeStop admin) r) well answered id = plus-none _ _ _ _ _ (once-where is_settled (times_settled h id) id (last_log h) (logs_of h) (λ log. is_open_at (opener_of h log.id) admin log) ended_log (λ l. refl) (λ l is. is) (settled-once h well answered.0 id))
settled-once (After h Reopen r) well answered id = plus-none _ _ _ _ _ (once-where is_settled (times_settled h id) id (last_log h) (logs_of h) (λ log. is_open_at_any (opener_of h log.id) log) ended_log (λ l. refl) (λ l is. is) (settled-once h well answered.0 id))
settled-once (After h _ r) well answered id = plus-none _ _ _ _ _ (settled-once h well answered.0 id)

pub marks-once : (h : History) → OpensWell (opening_of h) → IsAnswered h → (id : ℕ) → MarkedOf h id
marks-once (Begin o) well answered id = once-opened (λ log. log.marked) id o.tables.last.log o.tables.logs well.rules.logs.rising
marks-once (After h (ScanStep admin) r) well answered id = plus-none _ _ _ _ _ (behind (λ l. l.marked) (times_marked h id) id admin h (shots_stepped h) (logs_of h) (marks-once h well answered.0 id))
marks-once (After h (Turn admin at) r) well answered id = plus-none _ _ _ _ _ (behind (λ l. l.marked) (times_marked h id) id admin h (shots_turned h admin at) (logs_of h) (marks-once h well answered.0 id))
marks-once (After h (TriggerJob admin at job param) r) well answered id = plus-none _ _ _ _ _ (behind (λ l. l.marked) (times_marked h id) id admin h (shots_asked h at job param) (logs_of h) (marks-once h well answered.0 id))
marks-once (After h (Callback admin at item) r) well answered id =
    plus-none _ _ _ _ _ (behind (λ l. l.marked) (times_marked h id) id admin h (shots_called h at item.code item.log) _
    (once-changed (λ l. l.marked) (times_marked h id) id (last_log h) item.log (logs_of h) (settled_log at item.code item.msg) (λ l. refl) (λ l is. is) (marks-once h well answered.0 id)))
marks-once (After h (Monitor admin at) r) well answered id =
    let failed : Option Log = first_failed (logs_of h) in
    let told = mark-told (runs h admin) admin at (last_log h) (pools_of h admin) (shots_watched h at) failed r answered.1 answered.2 in
    behind (λ l. l.marked) (times_marked h id + one_if id (marked_by (Monitor admin at) r)) id admin h (shots_watched h at) (logs_marked failed (logs_of h))
    (subst (λ one. Once (λ l. l.marked) (times_marked h id + one_if id one) id (last_log h) (logs_marked failed (logs_of h))) (sym told) (marked-once h id failed well refl (marks-once h well answered.0 id)))
marks-once (After h (Lost at) r) well answered id = plus-none _ _ _ _ _ (lost-keeps h at id (first_lost at (registry_of h) (logs_of h)) (marks-once h well answered.0 id))
marks-once (After h (Sent log address code start end) r) well answered id = plus-none _ _ _ _ _ (once-changed (λ l. l.marked) (times_marked h id) id (last_log h) log (logs_of h) (sent_log address code) (λ l. refl) (λ l is. is) (marks-once h well answered.0 id))
marks-once (After h (Clean at) r) well answered id = plus-none _ _ _ _ _ (once-kept (λ l. l.marked) (times_marked h id) id (last_log h) (logs_of h) _ (marks-once h well answered.0 id))
marks-once (After h (NodeStop admin) r) well answered id = plus-none _ _ _ _ _ (once-where (λ l. l.marked) (times_marked h id) id (last_log h) (logs_of h) (λ log. is_open_at (opener_of h log.id) admin log) ended_log (λ l. refl) (λ l is. is) (marks-once h well answered.0 id))
marks-once (After h Reopen r) well answered id = plus-none _ _ _ _ _ (once-where (λ l. l.marked) (times_marked h id) id (last_log h) (logs_of h) (λ log. is_open_at_any (opener_of h log.id) log) ended_log (λ l. refl) (λ l is. is) (marks-once h well answered.0 id))
marks-once (After h _ r) well answered id = plus-none _ _ _ _ _ (marks-once h well answered.0 id)

pub each_settled_once : EachSettledOnce
each_settled_once h legal id =
    let well = accepted_opens h legal in
    let answered = legal_answered h legal in
    record { settled = (settled-once (accepted h) well answered id).most; marked = (marks-once (accepted h) well answered id).most }
