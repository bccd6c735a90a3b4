-- The trigger codes are those that the entries tell.
use Rattle.std.proofs.Common.{◌≡◌, ℕ, ◌+◌, ◌<◌, ◌≤◌, ℤ, pos, List, [], ◌∷◌, ◌++◌, Bool, true, false, cond, eqb, ltb, ◌&&◌, ◌||◌, not, is_some, Option, Some, None, length, map, ⊎_elim, refl, sym, ap, ◌∙◌, arith, int_eq}
use Rattle.std.specs.List.{AllByRecursion}
use Rattle.std.proofs.lemmas.Bool.{false≢true, true≢false, cases_lt}
use Rattle.std.proofs.lemmas.List.Elements.{All-from_recursion, recursion_from_All}
use Rattle.std.proofs.lemmas.Bool.Decides.{nat_tests, Decides-int_eq}
use Rattle.job_values.specs.declared.limits.TheConstants.{FAILURE}
use Rattle.job_values.specs.declared.words.PoolAnswer.{PoolAnswer}
use Rattle.job_values.specs.declared.words.PoolAnswer.TheVariants.{Fast, Slow, Full}
use Rattle.job_events.specs.declared.cluster.ClusterEvent.{ClusterEvent}
use Rattle.job_events.specs.declared.cluster.ClusterEvent.TheVariants.{NodeStop, ScanStep, Turn, TriggerJob, Sent, Callback, Monitor, Lost, Clean, Reopen}
use Rattle.job_events.specs.declared.cluster.ClusterReply.{ClusterReply}
use Rattle.job_events.specs.declared.cluster.ClusterRefusal.TheVariants.{BadCode, AlreadySent}
use Rattle.job_records.specs.declared.log.Log.{Log}
use Rattle.job_records.specs.Rows.{IsRising}
use Rattle.job_records.proofs.RowLemmas.{rising-ends}
use Rattle.rising_rows.proofs.RowLemmas.{found-id}
use Rattle.cluster_history.specs.declared.taken.TakenLog.{TakenLog}
use Rattle.cluster_history.specs.History.{History, Begin, After, places, accepted, opening_of, is_refusal}
use Rattle.cluster_history.specs.Orders.{taken_of, taken_log}
use Rattle.cluster_history.specs.Replies.{refused, if_positive, sent_reply, taken_reply}
use Rattle.cluster_history.specs.Registrations.{registry_of}
use Rattle.cluster_history.specs.Firings.{Shot, shots_stepped, shots_turned, shots_asked}
use Rattle.cluster_history.specs.Openings.{Placed, opened_code, opened_of, rows_of}
use Rattle.cluster_history.specs.Settling.{log_with, log_changed, is_positive, is_unsent, sent_log, ended_log, ended_where, settled_log, first_failed, logs_marked, first_lost, is_old}
use Rattle.cluster_history.specs.Logs.{is_own, opener_of, logs_of, last_log, pools_of, placed_at, shots_called, shots_watched}
use Rattle.cluster_history.specs.Runs.{OpensWell, IsAnswered}
use Rattle.cluster_history.proofs.Answered.{legal_answered, accepted_opens}
use Rattle.cluster_history.proofs.Openings.{found-all}
use Rattle.cluster_history.proofs.RowIds.{logs_rise, changed-rise, marked-rise}
use Rattle.cluster_laws.specs.Opened.{told_opened, pool_told, OpenedAt, opened_at, opened_in}
use Rattle.cluster_laws.specs.Ends.{stops, stopped_since}
use Rattle.cluster_laws.specs.Codes.{is_full, sent_code, code_from, code_in, code_by, code_told, CodesByEntries}
use Rattle.cluster_laws.proofs.FoundRows.{all-found}
use Rattle.cluster_laws.proofs.OnceRows.{low-rising}
use Rattle.cluster_laws.proofs.RowsTold.{Told, told-both, told-where, told-marked, told-lost, told-kept}
use Rattle.cluster_laws.proofs.OpenedLemmas.{Tells, step-tells, turn-tells, fire-tells, call-tells, watch-tells, told-none, told-all, admin_at, opener-told, opened-within}

and-false : (b : Bool) → (b && false) ≡ false
and-false true = refl
and-false false = refl

-- no stop stands behind the last place
pub stopped-none : (h : History) (place a : ℕ) → places h ≤ place → stopped_since h place a ≡ false
stopped-none (Begin o) place a last = refl
stopped-none (After h e r) place a last =
    let test : ltb place (places h + 1) ≡ false = grind (arith, nat_tests) in
    ap (λ b. (b && stops e a) || stopped_since h place a) test ∙ stopped-none h place a (omega arith)

-- an entry that stops no admin
quiet-since : (h : History) (e : ClusterEvent) (r : ClusterReply) (place a : ℕ) → stops e a ≡ false → stopped_since (After h e r) place a ≡ stopped_since h place a
quiet-since h e r place a quiet =
    ap (λ b. (ltb place (places h + 1) && b) || stopped_since h place a) quiet ∙ ap (λ b. b || stopped_since h place a) (and-false (ltb place (places h + 1)))

-- the same where nothing was sent either
quiet : (h : History) (e : ClusterEvent) (r : ClusterReply) (id : ℕ) (x : Option OpenedAt) → ((a : ℕ) → stops e a ≡ false) → sent_code (After h e r) id ≡ sent_code h id → code_by (After h e r) id x ≡ code_by h id x
quiet h e r id None none same = refl
quiet h e r id (Some opened) none same =
    ap (λ b. Some (cond (is_full opened.pool) FAILURE (code_from (sent_code (After h e r) id) b))) (quiet-since h e r opened.place opened.admin (none opened.admin))
    ∙ ap (λ s. Some (cond (is_full opened.pool) FAILURE (code_from s (stopped_since h opened.place opened.admin)))) same

-- a sending is of a log that is there and has no code, with a code that is positive
sent-row : (address : Option (List ℕ)) (code : ℤ) (taken : Option TakenLog) (row : Option Log) (r : ClusterReply) → r ≡ if_positive code (sent_reply address code taken row) → is_refusal r ≡ false
    → (is_positive code ≡ true) × ((log : Log) × (row ≡ Some log) × (is_unsent log ≡ true))
sent-row address code taken row r is ok = by (is_positive code) refl (sym (ap is_refusal is) ∙ ok)
  where
    open_ : (log : Log) (u : Bool) → is_unsent log ≡ u → is_refusal (cond u (taken_reply address code taken) (refused (AlreadySent log.trigger_code))) ≡ false → (one : Log) × (◌≡◌ {A = Option Log} (Some log) (Some one)) × (is_unsent one ≡ true)
    open_ log true test e = (log, refl, test)
    open_ log false test e = absurd (true≢false e)

    of-row : (row : Option Log) → is_refusal (sent_reply address code taken row) ≡ false → (log : Log) × (row ≡ Some log) × (is_unsent log ≡ true)
    of-row None e = absurd (true≢false e)
    of-row (Some log) e = open_ log (is_unsent log) refl e

    by : (b : Bool) → is_positive code ≡ b → is_refusal (cond b (sent_reply address code taken row) (refused BadCode)) ≡ false → (is_positive code ≡ true) × ((log : Log) × (row ≡ Some log) × (is_unsent log ≡ true))
    by true test e = (test, of-row row e)
    by false test e = absurd (true≢false e)

-- so a log that is not opened yet was not sent
sent-none : (h : History) → OpensWell (opening_of h) → IsAnswered h → (id : ℕ) → last_log h < id → sent_code h id ≡ None
sent-none (Begin o) well answered id above = refl
sent-none (After h (ScanStep admin) r) well answered id above = let more : last_log h + length (shots_stepped h) < id = above in sent-none h well answered.0 id (omega arith)
sent-none (After h (Turn admin at) r) well answered id above = let more : last_log h + length (shots_turned h admin at) < id = above in sent-none h well answered.0 id (omega arith)
sent-none (After h (TriggerJob admin at job param) r) well answered id above = let more : last_log h + length (shots_asked h at job param) < id = above in sent-none h well answered.0 id (omega arith)
sent-none (After h (Callback admin at item) r) well answered id above = let more : last_log h + length (shots_called h at item.code item.log) < id = above in sent-none h well answered.0 id (omega arith)
sent-none (After h (Monitor admin at) r) well answered id above = let more : last_log h + length (shots_watched h at) < id = above in sent-none h well answered.0 id (omega arith)
sent-none (After h (Sent log address code start end) r) well answered id above = by (eqb log id) refl (sent-none h well answered.0 id above)
  where
    facts : (is_positive code ≡ true) × ((row : Log) × (log_with log (logs_of h) ≡ Some row) × (is_unsent row ≡ true))
    facts = sent-row address code (taken_log log (taken_of h)) (log_with log (logs_of h)) r answered.1 answered.2

    low : facts.1.0.id ≤ last_log h
    low = all-found (λ row. row.id ≤ last_log h) (λ (row : Log). eqb row.id log) (logs_of h) facts.1.0 (low-rising 0 (last_log h) (logs_of h) (logs_rise h well)) facts.1.1

    by : (b : Bool) → eqb log id ≡ b → sent_code h id ≡ None → cond b (Some code) (sent_code h id) ≡ None
    by true test rest =
        let same : log ≡ id = grind (arith, nat_tests) in
        let here : facts.1.0.id ≡ log = found-id (λ (row : Log). row.id) log (logs_of h) facts.1.0 facts.1.1 in
        let within : facts.1.0.id ≤ last_log h = low in
        let higher : last_log h < id = above in
        let never : ⊥ = omega arith in absurd never
    by false test rest = rest
sent-none (After h _ r) well answered id above = sent-none h well answered.0 id above

-- a positive code is not 0, and so the code of a sending
positive-not : (code : ℤ) → is_positive code ≡ true → int_eq code (pos 0) ≡ false
positive-not code positive = by (int_eq code (pos 0)) refl
  where
    by : (b : Bool) → int_eq code (pos 0) ≡ b → b ≡ false
    by false is = refl
    by true is = let none : code ≡ pos 0 = (Decides-int_eq code (pos 0)).0 is in absurd (false≢true (sym (ap is_positive none) ∙ positive))

sent-not : (h : History) → IsAnswered h → (id : ℕ) (c : ℤ) → sent_code h id ≡ Some c → int_eq c (pos 0) ≡ false
sent-not (Begin o) answered id c is = absurd (let never : ⊥ = cc in never)
sent-not (After h (Sent log address code start end) r) answered id c is = by (eqb log id) is (sent-not h answered.0 id c)
  where
    by : (b : Bool) → cond b (Some code) (sent_code h id) ≡ Some c → (sent_code h id ≡ Some c → int_eq c (pos 0) ≡ false) → int_eq c (pos 0) ≡ false
    by true here rest =
        let same : code ≡ c = (cc) in
        ap (λ x. int_eq x (pos 0)) (sym same) ∙ positive-not code (sent-row address code (taken_log log (taken_of h)) (log_with log (logs_of h)) r answered.1 answered.2).0
    by false here rest = rest here
sent-not (After h _ r) answered id c is = sent-not h answered.0 id c is

-- logs with the codes that are told of them
abbrev code_of : Log → Option ℤ
code_of log = Some log.trigger_code

abbrev CodesTold : (ℕ → Option ℤ) → List Log → Type 0
CodesTold told logs = Told code_of told logs

-- the same is told of those up to the last one
told-same : (f g : ℕ → Option ℤ) (low last : ℕ) (logs : List Log) → ((id : ℕ) → id ≤ last → g id ≡ f id) → IsRising (λ log. log.id) low logs last → CodesTold f logs → CodesTold g logs
told-same f g low last [] same rising told = tt
told-same f g low last (log ∷ logs) same rising told = (
  same log.id (rising-ends (λ (l : Log). l.id) log.id last logs rising.1) ∙ told.0,
  told-same f g log.id last logs same rising.1 told.1,
)

-- a new log
new-code : (pool : PoolAnswer) → cond (is_full pool) FAILURE (code_from None false) ≡ opened_code pool
new-code Fast = refl
new-code Slow = refl
new-code Full = refl

new-told : (g : ℕ → Option ℤ) (opened : ℕ → Option PoolAnswer) (placed : List Placed) → ((id : ℕ) (pool : PoolAnswer) → opened id ≡ Some pool → g id ≡ Some (opened_code pool)) → AllByRecursion (λ p. opened p.log ≡ Some p.pool) placed
    → CodesTold g (rows_of placed)
new-told g opened [] codes told = tt
new-told g opened (p ∷ placed) codes told = (codes p.log p.pool told.0, new-told g opened placed codes told.1)

-- an admin opens logs
opened-codes : (h : History) (e : ClusterEvent) (r : ClusterReply) (admin : ℕ) (shots : List Shot) (logs : List Log) → OpensWell (opening_of h) → IsAnswered h → IsRising (λ log. log.id) 0 logs (last_log h)
    → ((a : ℕ) → stops e a ≡ false) → ((id : ℕ) → sent_code (After h e r) id ≡ sent_code h id) → Tells r (placed_at h admin shots)
    → CodesTold (code_told h) logs
    → CodesTold (λ id. code_by (After h e r) id (opened_at (places h + 1) admin (pool_told id (told_opened r)) (opened_in h id))) (logs ++ rows_of (placed_at h admin shots))
opened-codes h e r admin shots logs well answered rising none same tells earlier =
    told-both code_of g logs (rows_of (placed_at h admin shots))
    (told-same (code_told h) g 0 (last_log h) logs old rising earlier)
    (new-told g (λ id. pool_told id (map opened_of (placed_at h admin shots))) (placed_at h admin shots) new (told-all (last_log h) (pools_of h admin) shots))
  where
    g : ℕ → Option ℤ
    g id = code_by (After h e r) id (opened_at (places h + 1) admin (pool_told id (told_opened r)) (opened_in h id))

    old : (id : ℕ) → id ≤ last_log h → g id ≡ code_told h id
    old id low =
        ap (λ opened. code_by (After h e r) id (opened_at (places h + 1) admin (pool_told id opened) (opened_in h id))) tells
        ∙ ap (λ told. code_by (After h e r) id (opened_at (places h + 1) admin told (opened_in h id))) (told-none id (last_log h) (pools_of h admin) shots low)
        ∙ quiet h e r id (opened_in h id) none (same id)

    unsent : (id : ℕ) (pool : PoolAnswer) → pool_told id (map opened_of (placed_at h admin shots)) ≡ Some pool → sent_code h id ≡ None
    unsent id pool is =
        ⊎_elim (λ (above : last_log h < id). sent-none h well answered id above)
        (λ (low : id ≤ last_log h). let none_told = told-none id (last_log h) (pools_of h admin) shots low in absurd (let never : ⊥ = cc in never)) (cases_lt (last_log h) id)

    new : (id : ℕ) (pool : PoolAnswer) → pool_told id (map opened_of (placed_at h admin shots)) ≡ Some pool → g id ≡ Some (opened_code pool)
    new id pool is =
        ap (λ opened. code_by (After h e r) id (opened_at (places h + 1) admin (pool_told id opened) (opened_in h id))) tells
        ∙ ap (λ told. code_by (After h e r) id (opened_at (places h + 1) admin told (opened_in h id))) is
        ∙ ap (λ s. Some (cond (is_full pool) FAILURE (code_from s (stopped_since (After h e r) (places h + 1) admin)))) (same id ∙ unsent id pool is)
        ∙ ap (λ b. Some (cond (is_full pool) FAILURE (code_from None b))) (stopped-none (After h e r) (places h + 1) admin (omega arith))
        ∙ ap (λ code. Some code) (new-code pool)

-- a stop
abbrev CodeAs : History → ℕ → Option OpenedAt → Log → Type 0
CodeAs h id x log = code_by h id x ≡ Some log.trigger_code

some-code : (x y : ℤ) → ◌≡◌ {A = Option ℤ} (Some x) (Some y) → x ≡ y
some-code x y e = (cc)

stop-told : (full st u : Bool) (s : Option ℤ) (code : ℤ) → ((c : ℤ) → s ≡ Some c → int_eq c (pos 0) ≡ false) → int_eq code (pos 0) ≡ u → cond full FAILURE (code_from s st) ≡ code → cond full FAILURE (code_from s true) ≡ cond u FAILURE code
stop-told true st true s code sent test is = refl
stop-told true st false s code sent test is = is
stop-told false st true (Some c) code sent test is = absurd (false≢true (sym (sent c refl) ∙ ap (λ x. int_eq x (pos 0)) is ∙ test))
stop-told false st false (Some c) code sent test is = is
stop-told false st true None code sent test is = refl
stop-told false true false None code sent test is = is
stop-told false false false None code sent test is = absurd (true≢false (ap (λ x. int_eq x (pos 0)) is ∙ test))

end-code : (u : Bool) (log : Log) → cond u FAILURE log.trigger_code ≡ (cond u (ended_log log) log).trigger_code
end-code true log = refl
end-code false log = refl

stop-code : (h : History) (e : ClusterEvent) (r : ClusterReply) (log : Log) (opened : OpenedAt) (s : Bool) → IsAnswered h → sent_code (After h e r) log.id ≡ sent_code h log.id → stops e opened.admin ≡ s → opened.place ≤ places h
    → CodeAs h log.id (Some opened) log → CodeAs (After h e r) log.id (Some opened) (cond (s && is_unsent log) (ended_log log) log)
stop-code h e r log opened false answered same stopped within is =
    ap (λ b. Some (cond (is_full opened.pool) FAILURE (code_from (sent_code (After h e r) log.id) b))) (quiet-since h e r opened.place opened.admin stopped)
    ∙ ap (λ s. Some (cond (is_full opened.pool) FAILURE (code_from s (stopped_since h opened.place opened.admin)))) same ∙ is
stop-code h e r log opened true answered same stopped within is =
    let test : ltb opened.place (places h + 1) ≡ true = grind (arith, nat_tests) in
    let before : cond (is_full opened.pool) FAILURE (code_from (sent_code h log.id) (stopped_since h opened.place opened.admin)) ≡ log.trigger_code = some-code _ _ is in
    ap (λ b. Some (cond (is_full opened.pool) FAILURE (code_from (sent_code (After h e r) log.id) ((b && stops e opened.admin) || stopped_since h opened.place opened.admin)))) test
    ∙ ap (λ b. Some (cond (is_full opened.pool) FAILURE (code_from (sent_code (After h e r) log.id) (b || stopped_since h opened.place opened.admin)))) stopped
    ∙ ap (λ s. Some (cond (is_full opened.pool) FAILURE (code_from s true))) same
    ∙ ap (λ code. Some code) (stop-told (is_full opened.pool) (stopped_since h opened.place opened.admin) (is_unsent log) (sent_code h log.id) log.trigger_code (sent-not h answered log.id) refl before ∙ end-code (is_unsent log) log)

stop-one : (h : History) (e : ClusterEvent) (r : ClusterReply) (own : Option ℕ → Bool) (log : Log) (x : Option OpenedAt) → IsAnswered h → sent_code (After h e r) log.id ≡ sent_code h log.id → own None ≡ false → ((a : ℕ) → own (Some a) ≡ stops e a)
    → ((opened : OpenedAt) → x ≡ Some opened → opened.place ≤ places h) → CodeAs h log.id x log → CodeAs (After h e r) log.id x (cond (own (admin_at x) && is_unsent log) (ended_log log) log)
stop-one h e r own log None answered sent none same within is = is ∙ sym (ap (λ b. Some (cond (b && is_unsent log) (ended_log log) log).trigger_code) none)
stop-one h e r own log (Some opened) answered sent none same within is =
    stop-code h e r log opened (stops e opened.admin) answered sent refl (within opened refl) is
    ∙ sym (ap (λ b. Some (cond (b && is_unsent log) (ended_log log) log).trigger_code) (same opened.admin))

end-keeps : (log : Log) (b : Bool) → (cond b (ended_log log) log).id ≡ log.id
end-keeps log true = refl
end-keeps log false = refl

stop-codes : (h : History) (e : ClusterEvent) (r : ClusterReply) (own : Option ℕ → Bool) (logs : List Log) → IsAnswered h → ((id : ℕ) → sent_code (After h e r) id ≡ sent_code h id) → own None ≡ false → ((a : ℕ) → own (Some a) ≡ stops e a)
    → ((id : ℕ) → opener_of h id ≡ admin_at (opened_in h id)) → CodesTold (code_told h) logs → CodesTold (λ id. code_by (After h e r) id (opened_in h id)) (ended_where (λ log. own (opener_of h log.id) && is_unsent log) logs)
stop-codes h e r own [] answered sent none same openers told = tt
stop-codes h e r own (log ∷ logs) answered sent none same openers told = (
  ap (λ id. code_by (After h e r) id (opened_in h id)) (end-keeps log (own (opener_of h log.id) && is_unsent log))
      ∙ stop-one h e r own log (opened_in h log.id) answered (sent log.id) none same (λ opened is. opened-within h log.id opened is) told.0
      ∙ sym (ap (λ o. Some (cond (own o && is_unsent log) (ended_log log) log).trigger_code) (openers log.id)),
  stop-codes h e r own logs answered sent none same openers told.1,
)

-- the logs of an opening
opened-rows : (all rows : List Log) → AllByRecursion (λ log. log_with log.id all ≡ Some log) rows → CodesTold (λ id. code_in (log_with id all)) rows
opened-rows all [] found = tt
opened-rows all (log ∷ logs) found = (ap code_in found.0, opened-rows all logs found.1)

quiet-codes : (h : History) (e : ClusterEvent) (r : ClusterReply) (logs : List Log) → ((a : ℕ) → stops e a ≡ false) → ((id : ℕ) → sent_code (After h e r) id ≡ sent_code h id) → CodesTold (code_told h) logs → CodesTold (λ id. code_by (After h e r) id (opened_in h id)) logs
quiet-codes h e r [] none same told = tt
quiet-codes h e r (log ∷ logs) none same told = (quiet h e r log.id (opened_in h log.id) none (same log.id) ∙ told.0, quiet-codes h e r logs none same told.1)

-- a row that keeps its id
one-id : (f : Log → Log) → ((log : Log) → (f log).id ≡ log.id) → (log : Log) (b : Bool) → (cond b (f log) log).id ≡ log.id
one-id f keeps log true = keeps log
one-id f keeps log false = refl

-- a log of the opening has a code
opening-sent : (h : History) (id : ℕ) (code : ℤ) → OpensWell (opening_of h) → int_eq code (pos 0) ≡ true → code_in (log_with id (opening_of h).tables.logs) ≡ Some code → ⊥
opening-sent h id code well none is = by (log_with id (opening_of h).tables.logs) refl is
  where
    by : (row : Option Log) → log_with id (opening_of h).tables.logs ≡ row → code_in row ≡ Some code → ⊥
    by None found e = (cc)
    by (Some row) found e =
        let sent = (all-found (λ log. is_unsent log ≡ false) (λ (log : Log). eqb log.id id) (opening_of h).tables.logs row (recursion_from_All (λ log. is_unsent log ≡ false) (opening_of h).tables.logs well.sent) found) in
        let same : row.trigger_code ≡ code = some-code _ _ e in
        true≢false (sym none ∙ ap (λ x. int_eq x (pos 0)) (sym same) ∙ sent)

-- the log that is sent had no code, and so it had room and was not stopped
sent-told : (full : Bool) (code : ℤ) (s : Option ℤ) (st : Bool) (had : ℤ) → int_eq had (pos 0) ≡ true → cond full FAILURE (code_from s st) ≡ had → cond full FAILURE code ≡ code
sent-told true code s st had none is = absurd (false≢true (ap (λ x. int_eq x (pos 0)) is ∙ none))
sent-told false code s st had none is = refl

sent-one : (h : History) (n : ℕ) (address : Option (List ℕ)) (code : ℤ) (start end : ℕ) (r : ClusterReply) (log : Log) (x : Option OpenedAt) → (is_positive code ≡ true) × ((row : Log) × (log_with n (logs_of h) ≡ Some row) × (is_unsent row ≡ true)) → OpensWell (opening_of h)
    → log_with log.id (logs_of h) ≡ Some log → code_by h log.id x ≡ Some log.trigger_code
    → (b : Bool) → eqb log.id n ≡ b → code_by (After h (Sent n address code start end) r) (cond b (sent_log address code log) log).id x ≡ Some (cond b (sent_log address code log) log).trigger_code
sent-one h n address code start end r log None facts well found is true test =
    let same : log.id ≡ n = grind (arith, nat_tests) in
    let row : log ≡ facts.1.0 = some-row _ _ (sym found ∙ ap (λ i. log_with i (logs_of h)) same ∙ facts.1.1) in
    absurd (opening-sent h log.id log.trigger_code well (ap is_unsent row ∙ facts.1.2) is)
  where
    some-row : (y z : Log) → ◌≡◌ {A = Option Log} (Some y) (Some z) → y ≡ z
    some-row y z e = (cc)
sent-one h n address code start end r log (Some opened) facts well found is true test =
    let same : log.id ≡ n = grind (arith, nat_tests) in
    let row : log ≡ facts.1.0 = some-row _ _ (sym found ∙ ap (λ i. log_with i (logs_of h)) same ∙ facts.1.1) in
    let here : eqb n log.id ≡ true = grind (arith, nat_tests) in
    ap (λ c. Some (cond (is_full opened.pool) FAILURE (code_from (cond c (Some code) (sent_code h log.id)) (stopped_since (After h (Sent n address code start end) r) opened.place opened.admin)))) here
    ∙ ap (λ c. Some c) (sent-told (is_full opened.pool) code (sent_code h log.id) (stopped_since h opened.place opened.admin) log.trigger_code (ap is_unsent row ∙ facts.1.2) (some-code _ _ is))
  where
    some-row : (y z : Log) → ◌≡◌ {A = Option Log} (Some y) (Some z) → y ≡ z
    some-row y z e = (cc)
sent-one h n address code start end r log x facts well found is false test =
    let other : eqb n log.id ≡ false = grind (arith, nat_tests) in
    quiet h (Sent n address code start end) r log.id x (λ a. refl) (ap (λ c. cond c (Some code) (sent_code h log.id)) other) ∙ is

sent-codes : (h : History) (n : ℕ) (address : Option (List ℕ)) (code : ℤ) (start end : ℕ) (r : ClusterReply) (logs : List Log) → (is_positive code ≡ true) × ((row : Log) × (log_with n (logs_of h) ≡ Some row) × (is_unsent row ≡ true)) → OpensWell (opening_of h)
    → AllByRecursion (λ log. log_with log.id (logs_of h) ≡ Some log) logs → CodesTold (code_told h) logs → CodesTold (λ id. code_by (After h (Sent n address code start end) r) id (opened_in h id)) (log_changed n (sent_log address code) logs)
sent-codes h n address code start end r [] facts well found told = tt
sent-codes h n address code start end r (log ∷ logs) facts well found told = (
  ap (λ id. code_by (After h (Sent n address code start end) r) (cond (eqb log.id n) (sent_log address code log) log).id (opened_in h id)) (one-id (sent_log address code) (λ l. refl) log (eqb log.id n))
      ∙ sent-one h n address code start end r log (opened_in h log.id) facts well found.0 told.0 (eqb log.id n) refl,
  sent-codes h n address code start end r logs facts well found.1 told.1,
)

codes-told : (h : History) → OpensWell (opening_of h) → IsAnswered h → CodesTold (code_told h) (logs_of h)
codes-told (Begin o) well answered = opened-rows o.tables.logs o.tables.logs (found-all (λ (log : Log). log.id) 0 o.tables.last.log o.tables.logs well.rules.logs.rising)
codes-told (After h (ScanStep admin) r) well answered = opened-codes h (ScanStep admin) r admin (shots_stepped h) (logs_of h) well answered.0 (logs_rise h well) (λ a. refl) (λ id. refl) (step-tells h admin r answered) (codes-told h well answered.0)
codes-told (After h (Turn admin at) r) well answered = opened-codes h (Turn admin at) r admin (shots_turned h admin at) (logs_of h) well answered.0 (logs_rise h well) (λ a. refl) (λ id. refl) (turn-tells h admin at r answered) (codes-told h well answered.0)
codes-told (After h (TriggerJob admin at job param) r) well answered =
    opened-codes h (TriggerJob admin at job param) r admin (shots_asked h at job param) (logs_of h) well answered.0 (logs_rise h well) (λ a. refl) (λ id. refl) (fire-tells h admin at job param r answered) (codes-told h well answered.0)
codes-told (After h (Callback admin at item) r) well answered =
    opened-codes h (Callback admin at item) r admin (shots_called h at item.code item.log) (log_changed item.log (settled_log at item.code item.msg) (logs_of h)) well answered.0
    (changed-rise item.log (settled_log at item.code item.msg) (λ log. refl) 0 (last_log h) (logs_of h) (logs_rise h well)) (λ a. refl) (λ id. refl) (call-tells h admin at item r answered)
    (told-where code_of (code_told h) (λ log. eqb log.id item.log) (settled_log at item.code item.msg) (λ log. refl) (λ log. refl) (logs_of h) (codes-told h well answered.0))
codes-told (After h (Monitor admin at) r) well answered =
    opened-codes h (Monitor admin at) r admin (shots_watched h at) (logs_marked (first_failed (logs_of h)) (logs_of h)) well answered.0
    (marked-rise (first_failed (logs_of h)) 0 (last_log h) (logs_of h) (logs_rise h well)) (λ a. refl) (λ id. refl) (watch-tells h admin at r answered)
    (told-marked code_of (code_told h) (λ log. refl) (first_failed (logs_of h)) (logs_of h) (codes-told h well answered.0))
codes-told (After h (Sent log address code start end) r) well answered =
    sent-codes h log address code start end r (logs_of h) (sent-row address code (taken_log log (taken_of h)) (log_with log (logs_of h)) r answered.1 answered.2) well
    (found-all (λ (row : Log). row.id) 0 (last_log h) (logs_of h) (logs_rise h well)) (codes-told h well answered.0)
codes-told (After h (Lost at) r) well answered =
    told-lost code_of (λ id. code_by (After h (Lost at) r) id (opened_in h id)) at (λ log. refl) (first_lost at (registry_of h) (logs_of h)) (logs_of h) (quiet-codes h (Lost at) r (logs_of h) (λ a. refl) (λ id. refl) (codes-told h well answered.0))
codes-told (After h (Clean at) r) well answered =
    told-kept code_of (λ id. code_by (After h (Clean at) r) id (opened_in h id)) (λ log. not (is_old at log)) (logs_of h) (quiet-codes h (Clean at) r (logs_of h) (λ a. refl) (λ id. refl) (codes-told h well answered.0))
codes-told (After h (NodeStop admin) r) well answered = stop-codes h (NodeStop admin) r (λ opener. is_own opener admin) (logs_of h) answered.0 (λ id. refl) refl (λ a. refl) (opener-told h answered.0) (codes-told h well answered.0)
codes-told (After h Reopen r) well answered = stop-codes h Reopen r is_some (logs_of h) answered.0 (λ id. refl) refl (λ a. refl) (opener-told h answered.0) (codes-told h well answered.0)
codes-told (After h e r) well answered = quiet-codes h e r (logs_of h) (λ a. refl) (λ id. refl) (codes-told h well answered.0)

pub codes-by_entries : CodesByEntries
codes-by_entries h legal =
    All-from_recursion (λ (log : Log). code_told (accepted h) log.id ≡ Some log.trigger_code) (logs_of (accepted h)) (codes-told (accepted h) (accepted_opens h legal) (legal_answered h legal))
