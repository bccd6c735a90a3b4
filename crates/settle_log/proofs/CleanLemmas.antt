-- Dropping the old logs one after another leaves what a clean leaves.
use Rattle.std.proofs.Common.{◌≡◌, ℕ, ◌<◌, ◌≤◌, List, [], ◌∷◌, Bool, true, false, cond, eqb, not, map, length, refl, ap, ◌∙◌, arith}
use Rattle.std.specs.List.{filter}
use Rattle.std.proofs.lemmas.Bool.Decides.{nat_tests}
use Rattle.std.proofs.lemmas.List.{length-map}
use Rattle.std.proofs.lemmas.List.Sums.{length-filter}
use Rattle.job_records.specs.declared.change.Change.{Change}
use Rattle.job_records.specs.declared.log.Log.{Log}
use Rattle.job_records.specs.Changes.{without, applied, applied_all, AreAllowed}
use Rattle.job_records.specs.Rows.{IsRising}
use Rattle.job_records.specs.Rules.{KeepsRules}
use Rattle.job_records.specs.Tables.{Tables}
use Rattle.job_records.proofs.Keeping.{keeps_drop_log}
use Rattle.rising_rows.proofs.PutLemmas.{rising-filter, rising-lower}
use Rattle.settle_log.specs.Settling.{is_old}
use Rattle.settle_log.specs.Results.{drop_of, Cleans}

-- logs without these, one after another
abbrev undropped : List Log → List Log → List Log
undropped [] logs = logs
undropped (one ∷ others) logs = undropped others (without (λ log. log.id) one.id logs)

applied-drops : (t : Tables) (drops : List Log) → applied_all t (map drop_of drops) ≡ record t { logs = undropped drops t.logs }
applied-drops t [] = refl
applied-drops t (one ∷ others) = applied-drops (applied t (drop_of one)) others

allowed-drops : (t : Tables) (drops : List Log) → KeepsRules t → AreAllowed t (map drop_of drops)
allowed-drops t [] h = tt
allowed-drops t (one ∷ others) h =
    let kept : KeepsRules (applied t (drop_of one)) = keeps_drop_log t one.id h in
    (kept, allowed-drops (applied t (drop_of one)) others kept)

-- logs above an id are not dropped by it
without-high : (id low last : ℕ) (logs : List Log) → IsRising (λ log. log.id) low logs last → id ≤ low → without (λ log. log.id) id logs ≡ logs
without-high id low last [] rises below = refl
without-high id low last (log ∷ logs) rises below =
    let first : low < log.id = rises.0 in
    let apart : eqb log.id id ≡ false = grind (arith, nat_tests) in
    ap (λ b. cond (not b) (log ∷ without (λ l. l.id) id logs) (without (λ l. l.id) id logs)) apart
    ∙ ap (λ (ls : List Log). log ∷ ls) (without-high id log.id last logs rises.1 (omega arith))

-- a first log that is below all that are dropped stays
undropped-first : (last : ℕ) (drops : List Log) (log : Log) (logs : List Log) → IsRising (λ l. l.id) log.id drops last → undropped drops (log ∷ logs) ≡ log ∷ undropped drops logs
undropped-first last [] log logs rises = refl
undropped-first last (one ∷ others) log logs rises =
    let first : log.id < one.id = rises.0 in
    let apart : eqb log.id one.id ≡ false = grind (arith, nat_tests) in
    ap (λ b. undropped others (cond (not b) (log ∷ without (λ l. l.id) one.id logs) (without (λ l. l.id) one.id logs))) apart
    ∙ undropped-first last others log (without (λ l. l.id) one.id logs) (rising-lower (λ (l : Log). l.id) one.id log.id last others rises.1 (omega arith))

-- what is dropped one after another is what passes
undropped-where : (test : Log → Bool) (low last : ℕ) (logs : List Log) → IsRising (λ log. log.id) low logs last → undropped (filter test logs) logs ≡ filter (λ log. not (test log)) logs
undropped-where test low last [] rises = refl
undropped-where test low last (log ∷ logs) rises = by (test log) (undropped-where test log.id last logs rises.1)
  where
    self : eqb log.id log.id ≡ true
    self = grind (arith, nat_tests)

    by : (b : Bool) → undropped (filter test logs) logs ≡ filter (λ l. not (test l)) logs
        → undropped (cond b (log ∷ filter test logs) (filter test logs)) (log ∷ logs) ≡ cond (not b) (log ∷ filter (λ l. not (test l)) logs) (filter (λ l. not (test l)) logs)
    by true rest =
        ap (λ b. undropped (filter test logs) (cond (not b) (log ∷ without (λ l. l.id) log.id logs) (without (λ l. l.id) log.id logs))) self
        ∙ ap (undropped (filter test logs)) (without-high log.id log.id last logs rises.1 (omega arith)) ∙ rest
    by false rest =
        undropped-first last (filter test logs) log logs (rising-filter (λ (l : Log). l.id) log.id last test logs rises.1)
        ∙ ap (λ (ls : List Log). log ∷ ls) rest

-- the drops of the old logs are a clean
pub drops-clean : (at : ℕ) (t : Tables) (changes : List Change) → KeepsRules t → changes ≡ map drop_of (filter (is_old at) t.logs) → Cleans at t changes
drops-clean at t changes h is =
    record {
      drops = is;
      count = ap length is ∙ length-map (filter (is_old at) t.logs) drop_of ∙ length-filter (is_old at) t.logs;
      allowed = rw is (allowed-drops t (filter (is_old at) t.logs) h);
      left =
          ap (applied_all t) is ∙ applied-drops t (filter (is_old at) t.logs)
          ∙ ap (λ ls. record t { logs = ls }) (undropped-where (is_old at) 0 t.last.log t.logs h.logs.rising);
    }
