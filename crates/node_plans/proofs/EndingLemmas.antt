-- Logs that are ended: the changes are allowed, and end the rows with these ids.
use Rattle.std.proofs.Common.{◌≡◌, ℕ, ◌+◌, ◌<◌, ◌≤◌, length-append, List, [], ◌∷◌, ◌++◌, Bool, true, false, ◌||◌, cond, eqb, Option, Some, None, length, map, take, get_or, refl, sym, ap, ◌∙◌, subst, append-nil, arith}
use Rattle.std.specs.Prelude.{ℤ, pos, negsuc}
use Rattle.std.specs.List.{list_any}
use Rattle.std.proofs.lemmas.Bool.Decides.{nat_tests}
use Rattle.std.proofs.lemmas.List.{append_assoc, map-id, take_more}
use Rattle.job_records.specs.declared.change.Change.{Change}
use Rattle.job_records.specs.declared.change.Change.TheVariants.{PutLog}
use Rattle.job_records.specs.declared.log.Log.{Log}
use Rattle.job_records.specs.Changes.{put_row, applied, applied_all, AreAllowed}
use Rattle.job_records.specs.Rows.{changed}
use Rattle.job_records.specs.Rules.{HasAddress, KeepsRules}
use Rattle.job_records.specs.Tables.{Tables}
use Rattle.job_records.proofs.Keeping.{keeps_log}
use Rattle.job_records.proofs.RowLemmas.{rises-from_rising}
use Rattle.cluster_history.specs.Settling.{ended_log, log_with}
use Rattle.cluster_plan.specs.Plans.{gives_ids}
use Rattle.node_plans.specs.Endings.{ending_of, endings, ended_in}
use Rattle.cluster_plan.proofs.PutLemmas.{found-id, found-within, put-changed}

-- one id more
pub endings-append : (logs : List Log) (xs ys : List ℕ) → endings logs (xs ++ ys) ≡ endings logs xs ++ endings logs ys
endings-append logs [] ys = refl
endings-append logs (x ∷ xs) ys =
    ap (λ cs. ending_of (log_with x logs) ++ cs) (endings-append logs xs ys)
    ∙ sym (append_assoc (ending_of (log_with x logs)) (endings logs xs) (endings logs ys))

pub endings-more : (logs : List Log) (ids : List ℕ) (i id : ℕ) → i < length ids → id ≡ get_or ids i id → endings logs (take (i + 1) ids) ≡ endings logs (take i ids) ++ ending_of (log_with id logs)
endings-more logs ids i id within is =
    ap (endings logs) (take_more ids i id within ∙ ap (λ x. take i ids ++ x ∷ []) (sym is))
    ∙ endings-append logs (take i ids) (id ∷ [])
    ∙ ap (λ cs. endings logs (take i ids) ++ cs) (append-nil (ending_of (log_with id logs)))

-- the end of a log gives no last ids
ending-gives_none : (o : Option Log) (rest : List Change) → list_any gives_ids rest ≡ false → list_any gives_ids (ending_of o ++ rest) ≡ false
ending-gives_none None rest none = none
ending-gives_none (Some log) rest none = none

pub endings-give_none : (logs : List Log) (ids : List ℕ) → list_any gives_ids (endings logs ids) ≡ false
endings-give_none logs [] = refl
endings-give_none logs (id ∷ ids) = ending-gives_none (log_with id logs) (endings logs ids) (endings-give_none logs ids)

-- a log that is ended already is ended alike
ending-changed : (b c : Bool) (log : Log) (rest before : Option Log) → ending_of rest ≡ ending_of before → ending_of (cond c (Some (cond b (ended_log log) log)) rest) ≡ ending_of (cond c (Some log) before)
ending-changed true true log rest before same = refl
ending-changed false true log rest before same = refl
ending-changed b false log rest before same = same

ending-first : (b : Bool) (id : ℕ) (log : Log) (rest before : Option Log) → ending_of rest ≡ ending_of before
    → ending_of (cond (eqb (cond b (ended_log log) log).id id) (Some (cond b (ended_log log) log)) rest) ≡ ending_of (cond (eqb log.id id) (Some log) before)
ending-first true id log rest before same = ending-changed true (eqb log.id id) log rest before same
ending-first false id log rest before same = ending-changed false (eqb log.id id) log rest before same

ending-same : (other id : ℕ) (logs : List Log) → ending_of (log_with id (changed (λ l. l.id) other ended_log logs)) ≡ ending_of (log_with id logs)
ending-same other id [] = refl
ending-same other id (log ∷ logs) = ending-first (eqb log.id other) id log (log_with id (changed (λ l. l.id) other ended_log logs)) (log_with id logs) (ending-same other id logs)

endings-same : (other : ℕ) (logs : List Log) (ids : List ℕ) → endings (changed (λ l. l.id) other ended_log logs) ids ≡ endings logs ids
endings-same other logs [] = refl
endings-same other logs (id ∷ ids) =
    ap (λ cs. cs ++ endings (changed (λ l. l.id) other ended_log logs) ids) (ending-same other id logs)
    ∙ ap (λ cs. ending_of (log_with id logs) ++ cs) (endings-same other logs ids)

eqb-turned : (a b : ℕ) → eqb a b ≡ eqb b a
eqb-turned a b = by (eqb a b) (eqb b a) refl refl
  where
    by : (p q : Bool) → eqb a b ≡ p → eqb b a ≡ q → p ≡ q
    by true true here there = refl
    by false false here there = refl
    by true false here there = grind (arith, nat_tests)
    by false true here there = grind (arith, nat_tests)

ended-one : (b any : Bool) (log : Log) → cond any (ended_log (cond b (ended_log log) log)) (cond b (ended_log log) log) ≡ cond (b || any) (ended_log log) log
ended-one true true log = refl
ended-one true false log = refl
ended-one false true log = refl
ended-one false false log = refl

ended-first : (b : Bool) (ids : List ℕ) (log : Log) → cond (list_any (λ id. eqb id (cond b (ended_log log) log).id) ids) (ended_log (cond b (ended_log log) log)) (cond b (ended_log log) log) ≡ cond (b || list_any (λ id. eqb id log.id) ids) (ended_log log) log
ended-first true ids log = ended-one true (list_any (λ id. eqb id log.id) ids) log
ended-first false ids log = ended-one false (list_any (λ id. eqb id log.id) ids) log

-- one log more is ended
ended_in-more : (id : ℕ) (ids : List ℕ) (logs : List Log) → ended_in ids (changed (λ l. l.id) id ended_log logs) ≡ ended_in (id ∷ ids) logs
ended_in-more id ids [] = refl
ended_in-more id ids (log ∷ logs) =
    ap (λ l. l ∷ ended_in ids (changed (λ l. l.id) id ended_log logs))
    (ended-first (eqb log.id id) ids log ∙ ap (λ b. cond (b || list_any (λ i. eqb i log.id) ids) (ended_log log) log) (eqb-turned log.id id))
    ∙ ap (λ ls. cond (list_any (λ i. eqb i log.id) (id ∷ ids)) (ended_log log) log ∷ ls) (ended_in-more id ids logs)

-- a change of a row that is not there changes nothing
absent-first : (b : Bool) (log : Log) (rest : Option Log) → cond b (Some log) rest ≡ None → (cond b (ended_log log) log ≡ log) × (rest ≡ None)
absent-first true log rest none = (cc)
absent-first false log rest none = (refl, none)

changed-absent : (id : ℕ) (logs : List Log) → log_with id logs ≡ None → changed (λ l. l.id) id ended_log logs ≡ logs
changed-absent id [] none = refl
changed-absent id (log ∷ logs) none =
    let first = absent-first (eqb log.id id) log (log_with id logs) none in
    ap (λ l. l ∷ changed (λ l. l.id) id ended_log logs) first.0 ∙ ap (λ ls. log ∷ ls) (changed-absent id logs first.1)

abbrev size-of : ℤ → ℕ
size-of (pos n) = n
size-of (negsuc n) = 0

apart : pos 500 ≡ pos 200 → ⊥
apart h = let never : ◌≡◌ {A = ℕ} 500 200 = ap size-of h in omega arith

-- an ended log was not sent
ended-address : (log : Log) → HasAddress (ended_log log)
ended-address log sent = absurd (apart sent)

-- the changes are allowed, and end the logs with these ids
pub record EndsLogs (t : Tables) (changes : List Change) (ids : List ℕ) : Type 0 where
  pub allowed : AreAllowed t changes
  pub gives : applied_all t changes ≡ record t { logs = ended_in ids t.logs }

ends-first : (t : Tables) (id : ℕ) (ids : List ℕ) (o : Option Log) → log_with id t.logs ≡ o → KeepsRules t → ((u : Tables) → KeepsRules u → EndsLogs u (endings u.logs ids) ids) → EndsLogs t (ending_of o ++ endings t.logs ids) (id ∷ ids)
ends-first t id ids None is rules rest =
    let more = rest t rules in record {
      allowed = more.allowed;
      gives = more.gives ∙ ap (λ ls. record t { logs = ls }) (sym (ap (ended_in ids) (changed-absent id t.logs is)) ∙ ended_in-more id ids t.logs);
    }
ends-first t id ids (Some log) is rules rest =
    let same : log.id ≡ id = found-id (λ (l : Log). l.id) id t.logs log is in
    let put : put_row (λ (l : Log). l.id) (ended_log log) t.logs ≡ changed (λ (l : Log). l.id) id ended_log t.logs = put-changed (λ (l : Log). l.id) ended_log 0 log (ended_log log) t.logs (rises-from_rising (λ (l : Log). l.id) 0 t.last.log t.logs rules.logs.rising) (subst (λ n. log_with n t.logs ≡ Some log) (sym same) is) refl
    ∙ ap (λ n. changed (λ (l : Log). l.id) n ended_log t.logs) same in
    let given = found-within (λ (l : Log). l.id) 0 t.last.log id t.logs log rules.logs.rising is in
    let u : Tables = applied t (PutLog (ended_log log)) in
    let kept : KeepsRules u = keeps_log t (ended_log log) rules (omega arith) (omega arith) (ended-address log) in
    let more = rest u kept in
    let next : endings u.logs ids ≡ endings t.logs ids = ap (λ ls. endings ls ids) put ∙ endings-same id t.logs ids in record {
      allowed = (kept, subst (AreAllowed u) next more.allowed);
      gives = ap (applied_all u) (sym next) ∙ more.gives ∙ ap (λ ls. record t { logs = ended_in ids ls }) put ∙ ap (λ ls. record t { logs = ls }) (ended_in-more id ids t.logs);
    }

-- the ends of any logs are allowed, and end those that are there
pub ends-logs : (t : Tables) (ids : List ℕ) → KeepsRules t → EndsLogs t (endings t.logs ids) ids
ends-logs t [] rules = record { allowed = tt; gives = ap (λ ls. record t { logs = ls }) (sym (map-id t.logs)) }
ends-logs t (id ∷ ids) rules = ends-first t id ids (log_with id t.logs) refl rules (λ u kept. ends-logs u ids kept)
