-- The row of a log that is put in place of the log, behind logs that were opened.
use Rattle.std.proofs.Common.{◌≡◌, ℕ, ◌+◌, ◌<◌, ◌≤◌, List, [], ◌∷◌, ◌++◌, Bool, true, false, cond, eqb, Option, Some, length, map, sym, ap, ◌∙◌, subst, arith}
use Rattle.std.specs.Prelude.{find, IsSome}
use Rattle.std.proofs.lemmas.Bool.Decides.{nat_tests}
use Rattle.std.proofs.lemmas.List.{map-append}
use Rattle.job_records.specs.declared.change.Change.{Change}
use Rattle.job_records.specs.declared.change.Change.TheVariants.{PutLog}
use Rattle.job_records.specs.declared.log.Log.{Log}
use Rattle.job_records.specs.Changes.{applied_all, AreAllowed}
use Rattle.job_records.specs.Rows.{changed, IsRising}
use Rattle.job_records.specs.Rules.{KeepsRules, HasAddress}
use Rattle.job_records.specs.Tables.{Tables}
use Rattle.job_records.proofs.Keeping.{allowed_append, all_keep, keeps_log, log_has_rules}
use Rattle.job_records.proofs.RowLemmas.{rises-from_rising, changed-none, find-skip, find-here}
use Rattle.cluster_history.specs.Firings.{Shot}
use Rattle.cluster_history.specs.Openings.{Pools, placed_from}
use Rattle.cluster_history.specs.Settling.{log_with, log_changed}
use Rattle.cluster_plan.proofs.PutLemmas.{put-changed, found-within}
use Rattle.log_opening.specs.Openings.{put_of, opening_changes}
use Rattle.log_opening.proofs.FiringLemmas.{with_logs, rows_from, fired-rows, fired-allowed}

-- a row that is found among some is found among these and others behind them
found-front : {R : Type 0} (test : R → Bool) (xs ys : List R) (x : R) → find test xs ≡ Some x → find test (xs ++ ys) ≡ Some x
found-front test [] ys x e = (cc)
found-front test (first ∷ xs) ys x e = by (test first) (found-front test xs ys x) e
  where
    by : (b : Bool) → (find test xs ≡ Some x → find test (xs ++ ys) ≡ Some x) → cond b (Some first) (find test xs) ≡ Some x → cond b (Some first) (find test (xs ++ ys)) ≡ Some x
    by true more is = is
    by false more is = more is

-- the first log that passes a test is the one with its id
pub chosen-found : (test : Log → Bool) (low last : ℕ) (logs : List Log) (log : Log) → IsRising (λ l. l.id) low logs last → find test logs ≡ Some log → (low < log.id) × (log_with log.id logs ≡ Some log)
chosen-found test low last [] log rises e = (cc)
chosen-found test low last (first ∷ logs) log rises e = by (test first) (chosen-found test first.id last logs log rises.1) e
  where
    self : eqb log.id log.id ≡ true
    self = grind (arith, nat_tests)

    by : (b : Bool) → (find test logs ≡ Some log → (first.id < log.id) × (log_with log.id logs ≡ Some log)) → cond b (Some first) (find test logs) ≡ Some log → (low < log.id) × (log_with log.id (first ∷ logs) ≡ Some log)
    by true more is =
        let same : first ≡ log = (cc) in
        let above : low < first.id = rises.0 in
        let found : log_with log.id (log ∷ logs) ≡ Some log = find-here (λ (l : Log). eqb l.id log.id) log logs self in
        (subst (λ (l : Log). low < l.id) same above, subst (λ (l : Log). log_with log.id (l ∷ logs) ≡ Some log) (sym same) found)
    by false more is =
        let rest = more is in
        let above : low < first.id = rises.0 in
        let below : first.id < log.id = rest.0 in
        let apart : eqb first.id log.id ≡ false = grind (arith, nat_tests) in
        (omega arith, find-skip (λ (l : Log). eqb l.id log.id) first logs apart ∙ rest.1)

-- a row that is put in place of its log: the rows with this log changed
pub put-log : (t : Tables) (last : ℕ) (change : Log → Log) (log row : Log) (rows : List Log) → KeepsRules t → KeepsRules (with_logs t last rows) → IsRising (λ l. l.id) t.last.log rows last → log_with row.id t.logs ≡ Some log → row ≡ change log
    → applied_all (with_logs t last rows) (PutLog row ∷ []) ≡ with_logs (record t { logs = log_changed row.id change t.logs }) last rows
put-log t last change log row rows rules after behind found made =
    let within = found-within (λ (l : Log). l.id) 0 t.last.log row.id t.logs log rules.logs.rising found in
    let all = rises-from_rising (λ (l : Log). l.id) 0 last (t.logs ++ rows) after.logs.rising in
    let later = rises-from_rising (λ (l : Log). l.id) t.last.log last rows behind in
    let same : changed (λ (l : Log). l.id) row.id change rows ≡ rows = changed-none (λ (l : Log). l.id) t.last.log row.id change rows later within.1 in
    ap (λ ls. record (with_logs t last rows) { logs = ls })
    (put-changed (λ (l : Log). l.id) change 0 log row (t.logs ++ rows) all (found-front (λ (l : Log). eqb l.id row.id) t.logs rows log found) made
    ∙ map-append (λ (l : Log). cond (eqb l.id row.id) (change l) l) t.logs rows
    ∙ ap (λ ls. log_changed row.id change t.logs ++ ls) same)

-- a row with the trigger code and the address of its log
pub record KeepsSending (log row : Log) : Type 0 where
  pub code : row.trigger_code ≡ log.trigger_code
  pub address : row.address ≡ log.address

-- has its address where the log has
keeps-address : (log row : Log) → KeepsSending log row → HasAddress log → HasAddress row
keeps-address log row keeps has = λ sent. subst (λ (a : Option (List ℕ)). IsSome a) (sym keeps.address) (has (sym keeps.code ∙ sent))

-- a put of it is allowed
pub put-allowed : (t : Tables) (log row : Log) → KeepsRules t → log_with row.id t.logs ≡ Some log → KeepsSending log row → AreAllowed t (PutLog row ∷ [])
put-allowed t log row rules found keeps =
    let within = found-within (λ (l : Log). l.id) 0 t.last.log row.id t.logs log rules.logs.rising found in
    (keeps_log t row rules (omega (arith, within.0)) within.1 (keeps-address log row keeps (log_has_rules t.logs t.last.log row.id log rules.logs found)), tt)

-- also behind logs that were opened
pub opened-allowed : (t : Tables) (pools : Pools) (shots : List Shot) (log row : Log) → KeepsRules t → t.last.log + length shots ≤ 9223372036854775807 → log_with row.id t.logs ≡ Some log → KeepsSending log row
    → AreAllowed t (opening_changes t.last (t.last.log + length shots) (map put_of (placed_from t.last.log pools shots)) ++ PutLog row ∷ [])
opened-allowed t pools shots log row rules room found keeps =
    let cs : List Change = opening_changes t.last (t.last.log + length shots) (map put_of (placed_from t.last.log pools shots)) in
    let opened = fired-allowed t pools shots rules room in
    let middle = fired-rows t pools shots rules room in
    let there : log_with row.id (applied_all t (opening_changes t.last (t.last.log + length shots) (map put_of (placed_from t.last.log pools shots)))).logs ≡ Some log =
    ap (λ (u : Tables). log_with row.id u.logs) middle ∙ found-front (λ (l : Log). eqb l.id row.id) t.logs (rows_from t.last.log pools shots) log found in
    allowed_append t (opening_changes t.last (t.last.log + length shots) (map put_of (placed_from t.last.log pools shots))) (PutLog row ∷ []) opened
    (put-allowed _ log row (all_keep t (opening_changes t.last (t.last.log + length shots) (map put_of (placed_from t.last.log pools shots))) rules opened) there keeps)
