-- Logs that an opening ends: those that have no trigger code.
use Rattle.std.proofs.Common.{◌≡◌, ℕ, ◌+◌, ◌<◌, ◌≤◌, List, [], ◌∷◌, ◌++◌, Bool, true, false, not, cond, eqb, ltb, leb, ◌&&◌, is_some, ℤ, pos, int_eq, Option, Some, None, length, map, take, get_or, refl, sym, ap, ◌∙◌, subst, arith}
use Rattle.std.specs.List.{filter, All, AllByRecursion}
use Rattle.std.proofs.lemmas.Bool.Decides.{nat_tests}
use Rattle.std.proofs.lemmas.List.{map-append, take_more}
use Rattle.std.proofs.lemmas.List.Elements.{filter-append, recursion_from_All, All-from_recursion}
use Rattle.job_values.specs.declared.limits.TheConstants.{FAILURE}
use Rattle.job_events.specs.declared.cluster.ClusterEvent.TheVariants.{NodeStop, ScanStep, Turn, TriggerJob, Sent, Callback, Monitor, Lost, Clean, Reopen}
use Rattle.job_records.specs.declared.change.Change.TheVariants.{PutLog}
use Rattle.job_records.specs.declared.log.Log.{Log}
use Rattle.job_records.specs.Changes.{applied_all, AreAllowed}
use Rattle.job_records.specs.Rows.{IsRising}
use Rattle.job_records.specs.Rules.{KeepsRules}
use Rattle.job_records.specs.Tables.{Tables}
use Rattle.job_records.proofs.Keeping.{all_keep}
use Rattle.job_records.proofs.RowLemmas.{rising-ends}
use Rattle.cluster_history.specs.History.{History, Begin, After, opening_of}
use Rattle.cluster_history.specs.Firings.{Shot, shots_stepped, shots_turned, shots_asked}
use Rattle.cluster_history.specs.Openings.{rows_of}
use Rattle.cluster_history.specs.Registrations.{registry_of}
use Rattle.cluster_history.specs.Settling.{log_with, log_changed, is_unsent, is_positive, ended_log, ended_where, sent_log, settled_log, marked_log, logs_marked, first_failed, first_lost, lost_text, logs_lost, is_old}
use Rattle.cluster_history.specs.Logs.{opener_after, opener_of, is_open_at_any, is_open_of, is_open_of_any, logs_of, last_log, pools_of, placed_at, shots_called, shots_watched}
use Rattle.cluster_history.specs.Orders.{taken_of, taken_log}
use Rattle.cluster_history.specs.Runs.{OpensWell, IsAnswered}
use Rattle.cluster_history.proofs.Marks.{marked, changed-marked}
use Rattle.cluster_history.proofs.Openings.{found-all}
use Rattle.cluster_history.proofs.Balance.{positive-not, sent-facts}
use Rattle.cluster_history.proofs.RowIds.{logs_rise, placed-rise, changed-rise, marked-rise}
use Rattle.node_plans.specs.Endings.{ending_of, endings, ended_in, unsent_endings, unsent_ended}
use Rattle.node_plans.proofs.EndingLemmas.{EndsLogs, ends-logs}

-- one log more
one-unsent : (b : Bool) (log : Log) → map (λ l. PutLog (ended_log l)) (cond b (log ∷ []) []) ≡ cond b (PutLog (ended_log log) ∷ []) []
one-unsent true log = refl
one-unsent false log = refl

pub unsent-more : (logs : List Log) (i : ℕ) (log : Log) → i < length logs → log ≡ get_or logs i log → unsent_endings (take (i + 1) logs) ≡ unsent_endings (take i logs) ++ cond (is_unsent log) (PutLog (ended_log log) ∷ []) []
unsent-more logs i log within is =
    ap unsent_endings (take_more logs i log within ∙ ap (λ x. take i logs ++ x ∷ []) (sym is))
    ∙ ap (map (λ l. PutLog (ended_log l))) (filter-append is_unsent (take i logs) (log ∷ []))
    ∙ map-append (λ l. PutLog (ended_log l)) (filter is_unsent (take i logs)) (cond (is_unsent log) (log ∷ []) [])
    ∙ ap (λ cs. unsent_endings (take i logs) ++ cs) (one-unsent (is_unsent log) log)

-- the ids of the logs that have no trigger code
abbrev unsent_ids : List Log → List ℕ
unsent_ids logs = map (λ log. log.id) (filter is_unsent logs)

-- their ends, by their ids
by-one : (b : Bool) (all : List Log) (log : Log) (rest : List Log) → log_with log.id all ≡ Some log → endings all (map (λ l. l.id) rest) ≡ map (λ l. PutLog (ended_log l)) rest
    → endings all (map (λ l. l.id) (cond b (log ∷ rest) rest)) ≡ map (λ l. PutLog (ended_log l)) (cond b (log ∷ rest) rest)
by-one true all log rest found same = ap (λ o. ending_of o ++ endings all (map (λ l. l.id) rest)) found ∙ ap (λ cs. PutLog (ended_log log) ∷ cs) same
by-one false all log rest found same = same

by-ids : (all logs : List Log) → AllByRecursion (λ log. log_with log.id all ≡ Some log) logs → endings all (unsent_ids logs) ≡ unsent_endings logs
by-ids all [] found = refl
by-ids all (log ∷ logs) found = by-one (is_unsent log) all log (filter is_unsent logs) found.0 (by-ids all logs found.1)

-- the changes of an opening are allowed, and end each log that has no trigger code
pub record EndsUnsent (t : Tables) : Type 0 where
  pub allowed : AreAllowed t (unsent_endings t.logs)
  pub gives : applied_all t (unsent_endings t.logs) ≡ unsent_ended t
  pub rules : KeepsRules (unsent_ended t)

pub ends-unsent : (t : Tables) → KeepsRules t → EndsUnsent t
ends-unsent t rules =
    let ids : List ℕ = unsent_ids t.logs in
    let ends : EndsLogs t (endings t.logs (unsent_ids t.logs)) (unsent_ids t.logs) = ends-logs t (unsent_ids t.logs) rules in
    let same : endings t.logs (unsent_ids t.logs) ≡ unsent_endings t.logs = by-ids t.logs t.logs (found-all (λ (log : Log). log.id) 0 t.last.log t.logs rules.logs.rising) in
    let marks : ended_where is_unsent t.logs ≡ ended_in (unsent_ids t.logs) t.logs = changed-marked (λ (log : Log). log.id) is_unsent ended_log (unsent_ids t.logs) t.logs (marked (λ (log : Log). log.id) is_unsent 0 t.last.log t.logs rules.logs.rising) in
    let allowed : AreAllowed t (unsent_endings t.logs) = subst (AreAllowed t) same ends.allowed in
    let gives : applied_all t (unsent_endings t.logs) ≡ unsent_ended t = ap (applied_all t) (sym same) ∙ ends.gives ∙ ap (λ ls. record t { logs = ls }) (sym marks) in record {
      allowed = allowed;
      gives = gives;
      rules = subst KeepsRules gives (all_keep t (unsent_endings t.logs) rules allowed);
    }

-- then each log has a trigger code
sent-one : (b : Bool) (log : Log) → is_unsent log ≡ b → is_unsent (cond b (ended_log log) log) ≡ false
sent-one true log is = refl
sent-one false log is = is

sent-each : (logs : List Log) → AllByRecursion (λ log. is_unsent log ≡ false) (ended_where is_unsent logs)
sent-each [] = tt
sent-each (log ∷ logs) = (sent-one (is_unsent log) log refl, sent-each logs)

pub all-sent : (logs : List Log) → All (λ log. is_unsent log ≡ false) (ended_where is_unsent logs)
all-sent logs = All-from_recursion (λ (log : Log). is_unsent log ≡ false) (ended_where is_unsent logs) (sent-each logs)

-- in a history each log without a trigger code was opened in it
abbrev Opened : (ℕ → Option ℕ) → List Log → Type 0
Opened opener logs = AllByRecursion (λ log. is_open_at_any (opener log.id) log ≡ is_unsent log) logs

and-false : (b : Bool) → (b && false) ≡ false
and-false true = refl
and-false false = refl

opened-first : (opener : ℕ → Option ℕ) (logs : List Log) → AllByRecursion (λ log. is_unsent log ≡ false) logs → Opened opener logs
opened-first opener [] sent = tt
opened-first opener (log ∷ logs) sent = (ap (λ b. is_some (opener log.id) && b) sent.0 ∙ and-false (is_some (opener log.id)) ∙ sym sent.0, opened-first opener logs sent.1)

-- logs that are ended
opened-ended_one : (opener : ℕ → Option ℕ) (b : Bool) (log : Log) → is_open_at_any (opener log.id) log ≡ is_unsent log → is_open_at_any (opener (cond b (ended_log log) log).id) (cond b (ended_log log) log) ≡ is_unsent (cond b (ended_log log) log)
opened-ended_one opener true log is = and-false (is_some (opener log.id))
opened-ended_one opener false log is = is

opened-ended : (opener : ℕ → Option ℕ) (passes : Log → Bool) (logs : List Log) → Opened opener logs → Opened opener (ended_where passes logs)
opened-ended opener passes [] opened = tt
opened-ended opener passes (log ∷ logs) opened = (opened-ended_one opener (passes log) log opened.0, opened-ended opener passes logs opened.1)

-- logs that are opened behind the last one
opened-behind : (opener : ℕ → Option ℕ) (logs more : List Log) → Opened opener logs → Opened opener more → Opened opener (logs ++ more)
opened-behind opener [] more first second = second
opened-behind opener (log ∷ logs) more first second = (first.0, opened-behind opener logs more first.1 second)

opened-old : (opener : ℕ → Option ℕ) (last count admin low : ℕ) (logs : List Log) → IsRising (λ log. log.id) low logs last → Opened opener logs → Opened (λ id. opener_after last count admin id (opener id)) logs
opened-old opener last count admin low [] rising opened = tt
opened-old opener last count admin low (log ∷ logs) rising opened =
    let ends : log.id ≤ last = rising-ends (λ (l : Log). l.id) log.id last logs rising.1 in
    let test : ltb last log.id ≡ false = grind (arith, nat_tests) in
    let same : opener_after last count admin log.id (opener log.id) ≡ opener log.id = ap (λ b. cond (b && leb log.id (last + count)) (Some admin) (opener log.id)) test in
    (ap (λ o. is_open_at_any o log) same ∙ opened.0, opened-old opener last count admin log.id logs rising.1 opened.1)

opened-new : (opener : ℕ → Option ℕ) (last count admin low : ℕ) (logs : List Log) → last ≤ low → IsRising (λ log. log.id) low logs (last + count) → Opened (λ id. opener_after last count admin id (opener id)) logs
opened-new opener last count admin low [] above rising = tt
opened-new opener last count admin low (log ∷ logs) above rising =
    let first : low < log.id = rising.0 in
    let ends : log.id ≤ last + count = rising-ends (λ (l : Log). l.id) log.id (last + count) logs rising.1 in
    let high : ltb last log.id ≡ true = grind (arith, nat_tests) in
    let within : leb log.id (last + count) ≡ true = grind (arith, nat_tests) in
    let here : opener_after last count admin log.id (opener log.id) ≡ Some admin = ap (λ b. cond (ltb last log.id && b) (Some admin) (opener log.id)) within ∙ ap (λ b. cond (b && true) (Some admin) (opener log.id)) high in
    let rest : last ≤ log.id = omega arith in
    (ap (λ o. is_open_at_any o log) here, opened-new opener last count admin log.id logs rest rising.1)

opened-more : (h : History) (admin : ℕ) (shots : List Shot) (logs : List Log) → IsRising (λ log. log.id) 0 logs (last_log h) → Opened (opener_of h) logs → Opened (λ id. opener_after (last_log h) (length shots) admin id (opener_of h id)) (logs ++ rows_of (placed_at h admin shots))
opened-more h admin shots logs rising opened =
    opened-behind _ logs (rows_of (placed_at h admin shots))
    (opened-old (opener_of h) (last_log h) (length shots) admin 0 logs rising opened)
    (opened-new (opener_of h) (last_log h) (length shots) admin (last_log h) (rows_of (placed_at h admin shots)) (omega arith) (placed-rise (last_log h) (pools_of h admin) shots))

-- a log that is changed
opened-changed : (opener : ℕ → Option ℕ) (id : ℕ) (change : Log → Log) → ((log : Log) → is_open_at_any (opener log.id) log ≡ is_unsent log → is_open_at_any (opener (change log).id) (change log) ≡ is_unsent (change log))
    → (logs : List Log) → Opened opener logs → Opened opener (log_changed id change logs)
opened-changed opener id change keeps [] opened = tt
opened-changed opener id change keeps (log ∷ logs) opened = (by (eqb log.id id), opened-changed opener id change keeps logs opened.1)
  where
    by : (b : Bool) → is_open_at_any (opener (cond b (change log) log).id) (cond b (change log) log) ≡ is_unsent (cond b (change log) log)
    by true = keeps log opened.0
    by false = opened.0

opened-marked : (opener : ℕ → Option ℕ) (chosen : Option Log) (logs : List Log) → Opened opener logs → Opened opener (logs_marked chosen logs)
opened-marked opener None logs opened = opened
opened-marked opener (Some log) logs opened = opened-changed opener log.id marked_log (λ l is. is) logs opened

opened-lost : (opener : ℕ → Option ℕ) (at : ℕ) (chosen : Option Log) (logs : List Log) → Opened opener logs → Opened opener (logs_lost at chosen logs)
opened-lost opener at None logs opened = opened
opened-lost opener at (Some log) logs opened = opened-changed opener log.id (settled_log at FAILURE lost_text) (λ l is. is) logs opened

opened-left : (opener : ℕ → Option ℕ) (passes : Log → Bool) (logs : List Log) → Opened opener logs → Opened opener (filter passes logs)
opened-left opener passes [] opened = tt
opened-left opener passes (log ∷ logs) opened = by (passes log) (opened-left opener passes logs opened.1)
  where
    by : (b : Bool) → Opened opener (filter passes logs) → Opened opener (cond b (log ∷ filter passes logs) (filter passes logs))
    by true rest = (opened.0, rest)
    by false rest = rest

-- a log that is sent
opened-sent : (opener : ℕ → Option ℕ) (id : ℕ) (address : Option (List ℕ)) (code : ℤ) (logs : List Log) → is_positive code ≡ true → Opened opener logs → Opened opener (log_changed id (sent_log address code) logs)
opened-sent opener id address code logs positive opened =
    let sent : int_eq code (pos 0) ≡ false = positive-not code positive in
    opened-changed opener id (sent_log address code) (λ l is. ap (λ b. is_some (opener l.id) && b) sent ∙ and-false (is_some (opener l.id)) ∙ sym sent) logs opened

unsent-opened : (h : History) → OpensWell (opening_of h) → IsAnswered h → Opened (opener_of h) (logs_of h)
unsent-opened (Begin o) well answered = opened-first (λ id. None) o.tables.logs (recursion_from_All (λ (log : Log). is_unsent log ≡ false) o.tables.logs well.sent)
unsent-opened (After h (ScanStep admin) r) well answered = opened-more h admin (shots_stepped h) (logs_of h) (logs_rise h well) (unsent-opened h well answered.0)
unsent-opened (After h (Turn admin at) r) well answered = opened-more h admin (shots_turned h admin at) (logs_of h) (logs_rise h well) (unsent-opened h well answered.0)
unsent-opened (After h (TriggerJob admin at job param) r) well answered = opened-more h admin (shots_asked h at job param) (logs_of h) (logs_rise h well) (unsent-opened h well answered.0)
unsent-opened (After h (Callback admin at item) r) well answered =
    opened-more h admin (shots_called h at item.code item.log) (log_changed item.log (settled_log at item.code item.msg) (logs_of h))
    (changed-rise item.log (settled_log at item.code item.msg) (λ l. refl) 0 (last_log h) (logs_of h) (logs_rise h well))
    (opened-changed (opener_of h) item.log (settled_log at item.code item.msg) (λ l is. is) (logs_of h) (unsent-opened h well answered.0))
unsent-opened (After h (Monitor admin at) r) well answered =
    opened-more h admin (shots_watched h at) (logs_marked (first_failed (logs_of h)) (logs_of h))
    (marked-rise (first_failed (logs_of h)) 0 (last_log h) (logs_of h) (logs_rise h well))
    (opened-marked (opener_of h) (first_failed (logs_of h)) (logs_of h) (unsent-opened h well answered.0))
unsent-opened (After h (Sent log address code start end) r) well answered =
    opened-sent (opener_of h) log address code (logs_of h) (sent-facts address code (taken_log log (taken_of h)) (log_with log (logs_of h)) r answered.1 answered.2).0 (unsent-opened h well answered.0)
unsent-opened (After h (Lost at) r) well answered = opened-lost (opener_of h) at (first_lost at (registry_of h) (logs_of h)) (logs_of h) (unsent-opened h well answered.0)
unsent-opened (After h (Clean at) r) well answered = opened-left (opener_of h) (λ log. not (is_old at log)) (logs_of h) (unsent-opened h well answered.0)
unsent-opened (After h (NodeStop admin) r) well answered = opened-ended (opener_of h) (is_open_of h admin) (logs_of h) (unsent-opened h well answered.0)
unsent-opened (After h Reopen r) well answered = opened-ended (opener_of h) (is_open_of_any h) (logs_of h) (unsent-opened h well answered.0)
unsent-opened (After h _ r) well answered = unsent-opened h well answered.0

ended-same : (p q : Log → Bool) (logs : List Log) → AllByRecursion (λ log. p log ≡ q log) logs → ended_where p logs ≡ ended_where q logs
ended-same p q [] same = refl
ended-same p q (log ∷ logs) same = ap (λ b. cond b (ended_log log) log ∷ ended_where p logs) same.0 ∙ ap (λ ls. cond (q log) (ended_log log) log ∷ ls) (ended-same p q logs same.1)

-- so a stop of all ends just the logs that have no trigger code
pub ended-unsent : (h : History) → OpensWell (opening_of h) → IsAnswered h → ended_where (is_open_of_any h) (logs_of h) ≡ ended_where is_unsent (logs_of h)
ended-unsent h well answered = ended-same (is_open_of_any h) is_unsent (logs_of h) (unsent-opened h well answered)
