-- The results and the marks of the rows are those that the entries tell.
use Rattle.std.proofs.Common.{◌≡◌, ℕ, ◌+◌, ◌<◌, ◌≤◌, List, [], ◌∷◌, Bool, true, false, cond, eqb, nat_lt, not, Option, Some, None, option_map, refl, sym, ap, ◌∙◌, subst, arith}
use Rattle.std.specs.List.{AllByRecursion}
use Rattle.std.proofs.lemmas.List.Elements.{All-from_recursion}
use Rattle.std.proofs.lemmas.Bool.Decides.{nat_tests}
use Rattle.job_values.specs.declared.limits.TheConstants.{FAILURE}
use Rattle.job_values.specs.declared.run.CallbackItem.{CallbackItem}
use Rattle.job_events.specs.declared.cluster.ClusterEvent.{ClusterEvent}
use Rattle.job_events.specs.declared.cluster.ClusterEvent.TheVariants.{NodeStop, ScanStep, Turn, TriggerJob, Sent, Callback, Monitor, Lost, Clean, Reopen}
use Rattle.job_events.specs.declared.cluster.ClusterReply.{ClusterReply}
use Rattle.job_records.specs.declared.log.Log.{Log}
use Rattle.job_records.proofs.RowLemmas.{found-within}
use Rattle.cluster_history.specs.History.{History, Begin, After, opening_of, accepted}
use Rattle.cluster_history.specs.Nodes.{runs}
use Rattle.cluster_history.specs.Registrations.{registry_of}
use Rattle.cluster_history.specs.Groups.{groups_of}
use Rattle.cluster_history.specs.Jobs.{jobs_of}
use Rattle.cluster_history.specs.Firings.{shots_stepped, shots_turned, shots_asked}
use Rattle.cluster_history.specs.Settling.{log_with, log_changed, sent_log, ended_log, settled_log, is_unmarked, first_failed, marked_log, logs_marked, first_lost, lost_text, logs_lost, is_old}
use Rattle.cluster_history.specs.Logs.{is_open_of, is_open_of_any, logs_of, last_log, pools_of, shots_called, shots_watched}
use Rattle.cluster_history.specs.Runs.{OpensWell, IsAnswered}
use Rattle.cluster_history.proofs.Answered.{legal_answered, accepted_opens}
use Rattle.cluster_history.proofs.Openings.{found-all}
use Rattle.cluster_history.proofs.RowIds.{logs_rise}
use Rattle.cluster_laws.specs.Settles.{settled_by, marked_by, one_if, one_where, times_settled, times_marked}
use Rattle.cluster_laws.specs.Results.{LogResult, no_result, result_in, result_row, result_given, result_after, result_told, IsToldBy, ResultsByEntries}
use Rattle.cluster_laws.proofs.FoundRows.{all-found, absent-above}
use Rattle.cluster_laws.proofs.RowsTold.{Told, told-as, told-where, told-marked, told-lost, told-kept, told-behind, told-given}
use Rattle.cluster_laws.proofs.OnceRows.{low-rising}
use Rattle.cluster_laws.proofs.SettleLemmas.{callback-facts, settled-once, marks-once, lost-told, mark-told}

-- a log that was never settled has the result of the opening
never-after : (id : ℕ) (settled : Option ℕ) (given earlier : LogResult) → one_if id settled ≡ 0 → result_after id settled given earlier ≡ earlier
never-after id None given earlier none = refl
never-after id (Some log) given earlier none = by (eqb log id) none
  where
    by : (b : Bool) → cond {A = ℕ} b 1 0 ≡ 0 → cond b given earlier ≡ earlier
    by true e = absurd (let never : ⊥ = omega (arith, e) in never)
    by false e = refl

never-settled : (h : History) (id : ℕ) → times_settled h id ≡ 0 → result_told h id ≡ result_row (log_with id (opening_of h).tables.logs)
never-settled (Begin o) id none = refl
never-settled (After h e r) id none =
    let sum : times_settled h id + one_if id (settled_by e r) ≡ 0 = none in
    never-after id (settled_by e r) (result_given e) (result_told h id) (omega (arith, sum)) ∙ never-settled h id (omega (arith, sum))

-- the last id is not below that of the opening
last-grows : (h : History) → (opening_of h).tables.last.log ≤ last_log h
last-grows (Begin o) = omega arith
last-grows (After h (ScanStep admin) r) = omega (arith, last-grows h)
last-grows (After h (Turn admin at) r) = omega (arith, last-grows h)
last-grows (After h (TriggerJob admin at job param) r) = omega (arith, last-grows h)
last-grows (After h (Callback admin at item) r) = omega (arith, last-grows h)
last-grows (After h (Monitor admin at) r) = omega (arith, last-grows h)
last-grows (After h _ r) = last-grows h

-- a log that is not opened yet has none
unborn-result : (h : History) → OpensWell (opening_of h) → IsAnswered h → (id : ℕ) → last_log h < id → result_told h id ≡ no_result
unborn-result h well answered id above =
    let first : (opening_of h).tables.last.log < id = omega (arith, last-grows h) in
    never-settled h id ((settled-once h well answered id).unborn above)
    ∙ ap result_row (absent-above (λ (log : Log). log.id) 0 (opening_of h).tables.last.log id (opening_of h).tables.logs well.rules.logs.rising first)

-- nor a mark
abbrev is_told : History → ℕ → Bool
is_told h id = nat_lt 0 (times_marked h id)

unborn-mark : (h : History) → OpensWell (opening_of h) → IsAnswered h → (id : ℕ) → last_log h < id → is_told h id ≡ false
unborn-mark h well answered id above = ap (nat_lt 0) ((marks-once h well answered id).unborn above)

-- the rows of an opening
opened-results : (all rows : List Log) → AllByRecursion (λ log. log_with log.id all ≡ Some log) rows → Told result_in (λ id. result_row (log_with id all)) rows
opened-results all [] found = tt
opened-results all (log ∷ logs) found = (ap result_row found.0, opened-results all logs found.1)

opened-mark : (b : Bool) → nat_lt 0 (cond {A = ℕ} b 1 0) ≡ b
opened-mark true = refl
opened-mark false = refl

opened-marks : (all rows : List Log) → AllByRecursion (λ log. log_with log.id all ≡ Some log) rows → Told (λ log. log.marked) (λ id. nat_lt 0 (one_where (λ log. log.marked) (log_with id all))) rows
opened-marks all [] found = tt
opened-marks all (log ∷ logs) found = (ap (λ row. nat_lt 0 (one_where (λ (l : Log). l.marked) row)) found.0 ∙ opened-mark log.marked, opened-marks all logs found.1)

-- a log that is lost
lost-result : (h : History) (at : ℕ) (chosen : Option Log) (logs : List Log) → Told result_in (result_told h) logs
    → Told result_in (λ id. result_after id (option_map (λ log. log.id) chosen) (result_given (Lost at)) (result_told h id)) (logs_lost at chosen logs)
lost-result h at None logs all = all
lost-result h at (Some log) logs all = told-given result_in (result_told h) (result_given (Lost at)) log.id (settled_log at FAILURE lost_text) (λ l. refl) (λ l. refl) logs all

-- one that is marked
mark-one : (count : ℕ) (b : Bool) → nat_lt 0 (count + cond {A = ℕ} b 1 0) ≡ cond b true (nat_lt 0 count)
mark-one count true = grind (arith, nat_tests)
mark-one count false = let same : count + 0 ≡ count = omega arith in ap (nat_lt 0) same

mark-mark : (h : History) (chosen : Option Log) (logs : List Log) → Told (λ log. log.marked) (is_told h) logs
    → Told (λ log. log.marked) (λ id. nat_lt 0 (times_marked h id + one_if id (option_map (λ log. log.id) chosen))) (logs_marked chosen logs)
mark-mark h None logs all =
    told-as (λ l. l.marked) (is_told h) (λ id. nat_lt 0 (times_marked h id + 0)) (λ id. let same : times_marked h id + 0 ≡ times_marked h id = omega arith in ap (nat_lt 0) same) logs all
mark-mark h (Some log) logs all =
    told-as (λ l. l.marked) (λ id. cond (eqb log.id id) true (is_told h id)) (λ id. nat_lt 0 (times_marked h id + cond {A = ℕ} (eqb log.id id) 1 0)) (λ id. mark-one (times_marked h id) (eqb log.id id)) (log_changed log.id marked_log logs)
    (told-given (λ l. l.marked) (is_told h) true log.id marked_log (λ l. refl) (λ l. refl) logs all)

-- a callback settles a log that was opened before
call-within : (h : History) (admin at : ℕ) (item : CallbackItem) (r : ClusterReply) → OpensWell (opening_of h) → IsAnswered (After h (Callback admin at item) r) → item.log ≤ last_log h
call-within h admin at item r well answered =
    let facts = callback-facts (runs h admin) admin (groups_of h) (jobs_of h) (last_log h) (pools_of h admin) (shots_called h at item.code item.log) at item.code (log_with item.log (logs_of h)) r answered.1 answered.2 in
    (found-within (λ (log : Log). log.id) 0 (last_log h) item.log (logs_of h) facts.1.0 (logs_rise h well) facts.1.1).1

called-unborn : (h : History) (admin at : ℕ) (item : CallbackItem) (r : ClusterReply) → OpensWell (opening_of h) → IsAnswered (After h (Callback admin at item) r) → (id : ℕ) → last_log h < id → result_told (After h (Callback admin at item) r) id ≡ no_result
called-unborn h admin at item r well answered id above =
    let low : item.log ≤ last_log h = call-within h admin at item r well answered in
    let other : eqb item.log id ≡ false = grind (arith, nat_tests) in
    ap (λ b. cond b (result_given (Callback admin at item)) (result_told h id)) other ∙ unborn-result h well answered.0 id above

results-told : (h : History) → OpensWell (opening_of h) → IsAnswered h → Told result_in (result_told h) (logs_of h)
results-told (Begin o) well answered = opened-results o.tables.logs o.tables.logs (found-all (λ (log : Log). log.id) 0 o.tables.last.log o.tables.logs well.rules.logs.rising)
results-told (After h (ScanStep admin) r) well answered =
    told-behind result_in (result_told h) no_result h admin (shots_stepped h) (logs_of h) (λ p. refl) (unborn-result h well answered.0) (results-told h well answered.0)
results-told (After h (Turn admin at) r) well answered =
    told-behind result_in (result_told h) no_result h admin (shots_turned h admin at) (logs_of h) (λ p. refl) (unborn-result h well answered.0) (results-told h well answered.0)
results-told (After h (TriggerJob admin at job param) r) well answered =
    told-behind result_in (result_told h) no_result h admin (shots_asked h at job param) (logs_of h) (λ p. refl) (unborn-result h well answered.0) (results-told h well answered.0)
results-told (After h (Callback admin at item) r) well answered =
    told-behind result_in (result_told (After h (Callback admin at item) r)) no_result h admin (shots_called h at item.code item.log) (log_changed item.log (settled_log at item.code item.msg) (logs_of h)) (λ p. refl) (called-unborn h admin at item r well answered)
    (told-given result_in (result_told h) (result_given (Callback admin at item)) item.log (settled_log at item.code item.msg) (λ l. refl) (λ l. refl) (logs_of h) (results-told h well answered.0))
results-told (After h (Monitor admin at) r) well answered =
    told-behind result_in (result_told h) no_result h admin (shots_watched h at) (logs_marked (first_failed (logs_of h)) (logs_of h)) (λ p. refl) (unborn-result h well answered.0)
    (told-marked result_in (result_told h) (λ l. refl) (first_failed (logs_of h)) (logs_of h) (results-told h well answered.0))
results-told (After h (Lost at) r) well answered =
    let lost : Option Log = first_lost at (registry_of h) (logs_of h) in
    subst (λ one. Told result_in (λ id. result_after id one (result_given (Lost at)) (result_told h id)) (logs_lost at lost (logs_of h))) (sym (lost-told at lost r answered.1 answered.2)) (lost-result h at lost (logs_of h) (results-told h well answered.0))
results-told (After h (Sent log address code start end) r) well answered = told-where result_in (result_told h) (λ l. eqb l.id log) (sent_log address code) (λ l. refl) (λ l. refl) (logs_of h) (results-told h well answered.0)
results-told (After h (Clean at) r) well answered = told-kept result_in (result_told h) (λ log. not (is_old at log)) (logs_of h) (results-told h well answered.0)
results-told (After h (NodeStop admin) r) well answered = told-where result_in (result_told h) (is_open_of h admin) ended_log (λ l. refl) (λ l. refl) (logs_of h) (results-told h well answered.0)
results-told (After h Reopen r) well answered = told-where result_in (result_told h) (is_open_of_any h) ended_log (λ l. refl) (λ l. refl) (logs_of h) (results-told h well answered.0)
results-told (After h _ r) well answered = results-told h well answered.0

-- an entry that marks none
same-marks : (h : History) (e : ClusterEvent) (r : ClusterReply) → marked_by e r ≡ None → (logs : List Log) → Told (λ log. log.marked) (is_told h) logs → Told (λ log. log.marked) (is_told (After h e r)) logs
same-marks h e r none logs all =
    told-as (λ l. l.marked) (is_told h) (is_told (After h e r))
    (λ id.
    let same : times_marked h id + 0 ≡ times_marked h id = omega arith in
    ap (λ one. nat_lt 0 (times_marked h id + one_if id one)) none ∙ ap (nat_lt 0) same) logs all

-- one that marks a log marks none that it opens
watched-unborn : (h : History) (admin at : ℕ) (r : ClusterReply) → OpensWell (opening_of h) → IsAnswered (After h (Monitor admin at) r) → (id : ℕ) → last_log h < id → is_told (After h (Monitor admin at) r) id ≡ false
watched-unborn h admin at r well answered id above =
    let told = mark-told (runs h admin) admin at (last_log h) (pools_of h admin) (shots_watched h at) (first_failed (logs_of h)) r answered.1 answered.2 in
    ap (λ one. nat_lt 0 (times_marked h id + one_if id one)) told ∙ by (first_failed (logs_of h)) refl
  where
    none : times_marked h id ≡ 0
    none = (marks-once h well answered.0 id).unborn above

    by : (chosen : Option Log) → first_failed (logs_of h) ≡ chosen → nat_lt 0 (times_marked h id + one_if id (option_map (λ (log : Log). log.id) chosen)) ≡ false
    by None is = ap (λ n. nat_lt 0 (n + 0)) none
    by (Some log) is =
        let low : log.id ≤ last_log h = (all-found (λ l. l.id ≤ last_log h) is_unmarked (logs_of h) log (low-rising 0 (last_log h) (logs_of h) (logs_rise h well)) is) in
        let other : eqb log.id id ≡ false = grind (arith, nat_tests) in
        ap (λ n. nat_lt 0 (n + cond {A = ℕ} (eqb log.id id) 1 0)) none ∙ ap (λ b. nat_lt 0 (0 + cond {A = ℕ} b 1 0)) other

marks-told : (h : History) → OpensWell (opening_of h) → IsAnswered h → Told (λ log. log.marked) (is_told h) (logs_of h)
marks-told (Begin o) well answered = opened-marks o.tables.logs o.tables.logs (found-all (λ (log : Log). log.id) 0 o.tables.last.log o.tables.logs well.rules.logs.rising)
marks-told (After h (ScanStep admin) r) well answered =
    same-marks h (ScanStep admin) r refl _ (told-behind (λ l. l.marked) (is_told h) false h admin (shots_stepped h) (logs_of h) (λ p. refl) (unborn-mark h well answered.0) (marks-told h well answered.0))
marks-told (After h (Turn admin at) r) well answered =
    same-marks h (Turn admin at) r refl _ (told-behind (λ l. l.marked) (is_told h) false h admin (shots_turned h admin at) (logs_of h) (λ p. refl) (unborn-mark h well answered.0) (marks-told h well answered.0))
marks-told (After h (TriggerJob admin at job param) r) well answered =
    same-marks h (TriggerJob admin at job param) r refl _ (told-behind (λ l. l.marked) (is_told h) false h admin (shots_asked h at job param) (logs_of h) (λ p. refl) (unborn-mark h well answered.0) (marks-told h well answered.0))
marks-told (After h (Callback admin at item) r) well answered =
    same-marks h (Callback admin at item) r refl _
    (told-behind (λ l. l.marked) (is_told h) false h admin (shots_called h at item.code item.log) (log_changed item.log (settled_log at item.code item.msg) (logs_of h)) (λ p. refl) (unborn-mark h well answered.0)
    (told-where (λ l. l.marked) (is_told h) (λ l. eqb l.id item.log) (settled_log at item.code item.msg) (λ l. refl) (λ l. refl) (logs_of h) (marks-told h well answered.0)))
marks-told (After h (Monitor admin at) r) well answered =
    let failed : Option Log = first_failed (logs_of h) in
    let told = mark-told (runs h admin) admin at (last_log h) (pools_of h admin) (shots_watched h at) failed r answered.1 answered.2 in
    told-behind (λ l. l.marked) (is_told (After h (Monitor admin at) r)) false h admin (shots_watched h at) (logs_marked failed (logs_of h)) (λ p. refl) (watched-unborn h admin at r well answered)
    (subst (λ one. Told (λ l. l.marked) (λ id. nat_lt 0 (times_marked h id + one_if id one)) (logs_marked failed (logs_of h))) (sym told) (mark-mark h failed (logs_of h) (marks-told h well answered.0)))
marks-told (After h (Lost at) r) well answered = same-marks h (Lost at) r refl _ (told-lost (λ l. l.marked) (is_told h) at (λ l. refl) (first_lost at (registry_of h) (logs_of h)) (logs_of h) (marks-told h well answered.0))
marks-told (After h (Sent log address code start end) r) well answered =
    same-marks h (Sent log address code start end) r refl _ (told-where (λ l. l.marked) (is_told h) (λ l. eqb l.id log) (sent_log address code) (λ l. refl) (λ l. refl) (logs_of h) (marks-told h well answered.0))
marks-told (After h (Clean at) r) well answered = same-marks h (Clean at) r refl _ (told-kept (λ l. l.marked) (is_told h) (λ log. not (is_old at log)) (logs_of h) (marks-told h well answered.0))
marks-told (After h (NodeStop admin) r) well answered = same-marks h (NodeStop admin) r refl _ (told-where (λ l. l.marked) (is_told h) (is_open_of h admin) ended_log (λ l. refl) (λ l. refl) (logs_of h) (marks-told h well answered.0))
marks-told (After h Reopen r) well answered = same-marks h Reopen r refl _ (told-where (λ l. l.marked) (is_told h) (is_open_of_any h) ended_log (λ l. refl) (λ l. refl) (logs_of h) (marks-told h well answered.0))
marks-told (After h e r) well answered = same-marks h e r refl (logs_of h) (marks-told h well answered.0)

both-told : (h : History) (logs : List Log) → Told result_in (result_told h) logs → Told (λ log. log.marked) (is_told h) logs → AllByRecursion (IsToldBy h) logs
both-told h [] results marks = tt
both-told h (log ∷ logs) results marks = (record { result = results.0; marked = marks.0 }, both-told h logs results.1 marks.1)

pub results-by_entries : ResultsByEntries
results-by_entries h legal =
    let well = accepted_opens h legal in
    let answered = legal_answered h legal in
    All-from_recursion (IsToldBy (accepted h)) (logs_of (accepted h)) (both-told (accepted h) (logs_of (accepted h)) (results-told (accepted h) well answered) (marks-told (accepted h) well answered))
