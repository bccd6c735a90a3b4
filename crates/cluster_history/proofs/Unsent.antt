-- How many logs with an id have no trigger code, after each change of the rows.
use Rattle.std.proofs.Common.{◌≡◌, ℕ, ◌+◌, ◌<◌, ◌≤◌, List, [], ◌∷◌, ◌++◌, Bool, true, false, cond, eqb, ltb, ◌&&◌, not, is_some, Option, map, length, count_by, filter, refl, sym, ap, ◌∙◌, arith}
use Rattle.std.proofs.lemmas.Bool.{false≢true}
use Rattle.std.proofs.lemmas.Bool.Decides.{nat_tests}
use Rattle.job_values.specs.declared.words.PoolAnswer.{PoolAnswer}
use Rattle.job_values.specs.declared.words.PoolAnswer.TheVariants.{Fast, Slow, Full}
use Rattle.job_values.specs.declared.words.PoolKind.TheVariants.{Fast as FastPool, Slow as SlowPool}
use Rattle.job_records.specs.declared.log.Log.{Log}
use Rattle.job_records.specs.Rows.{IsRising}
use Rattle.job_records.proofs.RowLemmas.{rising-ends}
use Rattle.cluster_history.specs.Firings.{Shot}
use Rattle.cluster_history.specs.Openings.{Pools, Placed, placed_from, one_more, pool_of, log_of, rows_of, is_in, added_to}
use Rattle.cluster_history.specs.Settling.{log_changed, is_unsent, ended_log, ended_where, is_old, logs_left}
use Rattle.cluster_history.specs.Logs.{is_own, is_open_at, is_open_at_any}
use Rattle.cluster_history.proofs.Counting.{times, count-cons, count-append, count-map, count-agree, count-none, count-filter}

-- how many of these have an id, and no trigger code
abbrev pub unsent_in : ℕ → List Log → ℕ
unsent_in n logs = count_by (λ log. eqb log.id n && is_unsent log) logs

pub unsent-append : (n : ℕ) (xs ys : List Log) → unsent_in n (xs ++ ys) ≡ unsent_in n xs + unsent_in n ys
unsent-append n xs ys = count-append (λ (log : Log). eqb log.id n && is_unsent log) xs ys

-- a change of a row that keeps its id and its code
pub unsent-changed : (n id : ℕ) (f : Log → Log) → ((log : Log) → (f log).id ≡ log.id) → ((log : Log) → is_unsent (f log) ≡ is_unsent log) → (logs : List Log) → unsent_in n (log_changed id f logs) ≡ unsent_in n logs
unsent-changed n id f keeps codes logs =
    count-map (λ (log : Log). eqb log.id n && is_unsent log) (λ (log : Log). cond (eqb log.id id) (f log) log) logs
    ∙ count-agree _ (λ (log : Log). eqb log.id n && is_unsent log) (λ log. by log (eqb log.id id)) logs
  where
    by : (log : Log) (b : Bool) → (eqb (cond b (f log) log).id n && is_unsent (cond b (f log) log)) ≡ (eqb log.id n && is_unsent log)
    by log true = ap (λ i. eqb i n && is_unsent (f log)) (keeps log) ∙ ap (λ b. eqb log.id n && b) (codes log)
    by log false = refl

-- a log that is sent
pub unsent-sent : (n id : ℕ) (f : Log → Log) → ((log : Log) → (f log).id ≡ log.id) → ((log : Log) → is_unsent (f log) ≡ false) → (logs : List Log) → unsent_in n (log_changed id f logs) ≡ cond (eqb n id) 0 (unsent_in n logs)
unsent-sent n id f keeps codes logs = by (eqb n id) refl
  where
    off : (c : Bool) → (c && false) ≡ false
    off true = refl
    off false = refl

    same : (log : Log) (b : Bool) → eqb log.id id ≡ b → eqb n id ≡ true → (eqb (cond b (f log) log).id n && is_unsent (cond b (f log) log)) ≡ false
    same log true test here = ap (λ i. eqb i n && is_unsent (f log)) (keeps log) ∙ ap (λ c. eqb log.id n && c) (codes log) ∙ off (eqb log.id n)
    same log false test here = let apart : eqb log.id n ≡ false = grind (arith, nat_tests) in ap (λ c. c && is_unsent log) apart

    other : (log : Log) (b : Bool) → eqb log.id id ≡ b → eqb n id ≡ false → (eqb (cond b (f log) log).id n && is_unsent (cond b (f log) log)) ≡ (eqb log.id n && is_unsent log)
    other log true test there =
        let apart : eqb log.id n ≡ false = grind (arith, nat_tests) in
        ap (λ i. eqb i n && is_unsent (f log)) (keeps log) ∙ ap (λ c. c && is_unsent (f log)) apart ∙ sym (ap (λ c. c && is_unsent log) apart)
    other log false test there = refl

    by : (b : Bool) → eqb n id ≡ b → unsent_in n (log_changed id f logs) ≡ cond b 0 (unsent_in n logs)
    by true here =
        count-map (λ (log : Log). eqb log.id n && is_unsent log) (λ (log : Log). cond (eqb log.id id) (f log) log) logs
        ∙ count-none _ (λ log. same log (eqb log.id id) refl here) logs
    by false there =
        count-map (λ (log : Log). eqb log.id n && is_unsent log) (λ (log : Log). cond (eqb log.id id) (f log) log) logs
        ∙ count-agree _ (λ (log : Log). eqb log.id n && is_unsent log) (λ log. other log (eqb log.id id) refl there) logs

-- the logs of an admin are ended
pub unsent-ended : (f : ℕ → Option ℕ) (n admin : ℕ) (logs : List Log) → unsent_in n (ended_where (λ log. is_open_at (f log.id) admin log) logs) ≡ cond (is_own (f n) admin) 0 (unsent_in n logs)
unsent-ended f n admin logs = by (is_own (f n) admin) refl
  where
    is-same : (log : Log) → eqb log.id n ≡ true → log.id ≡ n
    is-same log test = grind (arith, nat_tests)

    -- by whether the row has the id, whether it is the admin's, and whether it is open
    own-one : (log : Log) (c o u : Bool) → eqb log.id n ≡ c → is_own (f log.id) admin ≡ o → is_unsent log ≡ u → is_own (f n) admin ≡ true → (eqb (cond (o && u) (ended_log log) log).id n && is_unsent (cond (o && u) (ended_log log) log)) ≡ false
    own-one log true true true test own u_is all = ap (λ b. b && false) test
    own-one log true false u test own u_is all = absurd (false≢true (sym own ∙ ap (λ i. is_own (f i) admin) (is-same log test) ∙ all))
    own-one log true true false test own u_is all = ap (λ b. b && is_unsent log) test ∙ u_is
    own-one log false true true test own u_is all = ap (λ b. b && false) test
    own-one log false true false test own u_is all = ap (λ b. b && is_unsent log) test
    own-one log false false u test own u_is all = ap (λ b. b && is_unsent log) test

    other-one : (log : Log) (c o u : Bool) → eqb log.id n ≡ c → is_own (f log.id) admin ≡ o → is_unsent log ≡ u → is_own (f n) admin ≡ false → (eqb (cond (o && u) (ended_log log) log).id n && is_unsent (cond (o && u) (ended_log log) log)) ≡ (eqb log.id n && is_unsent log)
    other-one log true true u test own u_is none = absurd (false≢true (sym none ∙ sym (ap (λ i. is_own (f i) admin) (is-same log test)) ∙ own))
    other-one log false true true test own u_is none = ap (λ b. b && false) test ∙ sym (ap (λ b. b && is_unsent log) test)
    other-one log false true false test own u_is none = refl
    other-one log c false u test own u_is none = refl

    by : (b : Bool) → is_own (f n) admin ≡ b → unsent_in n (ended_where (λ log. is_open_at (f log.id) admin log) logs) ≡ cond b 0 (unsent_in n logs)
    by true all =
        count-map (λ (log : Log). eqb log.id n && is_unsent log) (λ (log : Log). cond (is_open_at (f log.id) admin log) (ended_log log) log) logs
        ∙ count-none _ (λ log. own-one log (eqb log.id n) (is_own (f log.id) admin) (is_unsent log) refl refl refl all) logs
    by false none =
        count-map (λ (log : Log). eqb log.id n && is_unsent log) (λ (log : Log). cond (is_open_at (f log.id) admin log) (ended_log log) log) logs
        ∙ count-agree _ (λ (log : Log). eqb log.id n && is_unsent log) (λ log. other-one log (eqb log.id n) (is_own (f log.id) admin) (is_unsent log) refl refl refl none) logs

-- a clean leaves the logs that wait to be sent
pub unsent-left : (n at : ℕ) (logs : List Log) → unsent_in n (logs_left at logs) ≡ unsent_in n logs
unsent-left n at logs =
    count-filter (λ (log : Log). eqb log.id n && is_unsent log) (λ (log : Log). not (is_old at log)) logs
    ∙ count-agree _ (λ (log : Log). eqb log.id n && is_unsent log) (λ log. by (eqb log.id n) (is_unsent log) (ltb log.time at)) logs
  where
    by : (b u o : Bool) → (not (o && not u) && (b && u)) ≡ (b && u)
    by b u false = refl
    by b true true = refl
    by true false true = refl
    by false false true = refl

-- new logs are those that were put in the pools
new-one : (n id : ℕ) (shot : Shot) (pool : PoolAnswer)
    → cond {A = ℕ} (eqb id n && is_unsent (log_of (record { shot = shot; log = id; pool = pool }))) 1 0 ≡ cond {A = ℕ} (is_in FastPool pool && eqb id n) 1 0 + cond {A = ℕ} (is_in SlowPool pool && eqb id n) 1 0
new-one n id shot Fast = by (eqb id n)
  where
    by : (b : Bool) → cond {A = ℕ} (b && true) 1 0 ≡ cond {A = ℕ} (true && b) 1 0 + cond {A = ℕ} (false && b) 1 0
    by true = omega arith
    by false = omega arith
new-one n id shot Slow = by (eqb id n)
  where
    by : (b : Bool) → cond {A = ℕ} (b && true) 1 0 ≡ cond {A = ℕ} (false && b) 1 0 + cond {A = ℕ} (true && b) 1 0
    by true = omega arith
    by false = omega arith
new-one n id shot Full = by (eqb id n)
  where
    by : (b : Bool) → cond {A = ℕ} (b && false) 1 0 ≡ cond {A = ℕ} (false && b) 1 0 + cond {A = ℕ} (false && b) 1 0
    by true = omega arith
    by false = omega arith

added-one : (n id : ℕ) (in_pool : Bool) (ids : List ℕ) → times n (cond in_pool (id ∷ ids) ids) ≡ cond {A = ℕ} (in_pool && eqb id n) 1 0 + times n ids
added-one n id true ids = count-cons (λ i. eqb i n) id ids
added-one n id false ids = omega arith

added-cons : (shot : Shot) (id : ℕ) (pool : PoolAnswer) (n : ℕ) (placed : List Placed) (b : Bool) (passes : Placed → Bool) → passes (record { shot = shot; log = id; pool = pool }) ≡ b
    → times n (map (λ p. p.log) (filter passes (record { shot = shot; log = id; pool = pool } ∷ placed))) ≡ cond {A = ℕ} (b && eqb id n) 1 0 + times n (map (λ p. p.log) (filter passes placed))
added-cons shot id pool n placed true passes is =
    ap (λ c. times n (map (λ (p : Placed). p.log) (cond c (record { shot = shot; log = id; pool = pool } ∷ filter passes placed) (filter passes placed)))) is
    ∙ added-one n id true (map (λ (p : Placed). p.log) (filter passes placed))
added-cons shot id pool n placed false passes is =
    ap (λ c. times n (map (λ (p : Placed). p.log) (cond c (record { shot = shot; log = id; pool = pool } ∷ filter passes placed) (filter passes placed)))) is
    ∙ added-one n id false (map (λ (p : Placed). p.log) (filter passes placed))

pub unsent-new : (n last : ℕ) (pools : Pools) (shots : List Shot) → unsent_in n (rows_of (placed_from last pools shots)) ≡ times n (added_to FastPool (placed_from last pools shots)) + times n (added_to SlowPool (placed_from last pools shots))
unsent-new n last pools [] = refl
unsent-new n last pools (shot ∷ shots) =
    let pool : PoolAnswer = pool_of pools shot in
    let rest : List Placed = placed_from (last + 1) (one_more (pool_of pools shot) pools) shots in
    let one : Placed = record { shot = shot; log = last + 1; pool = pool_of pools shot } in
    let before = unsent-new n (last + 1) (one_more (pool_of pools shot) pools) shots in
    let rows : unsent_in n (rows_of (one ∷ rest)) ≡ cond {A = ℕ} (eqb (last + 1) n && is_unsent (log_of one)) 1 0 + unsent_in n (rows_of rest) = count-cons (λ (log : Log). eqb log.id n && is_unsent log) (log_of one) (rows_of rest) in
    let fast : times n (added_to FastPool (one ∷ rest)) ≡ cond {A = ℕ} (is_in FastPool pool && eqb (last + 1) n) 1 0 + times n (added_to FastPool rest) = added-cons shot (last + 1) pool n rest (is_in FastPool pool) (λ p. is_in FastPool p.pool) refl in
    let slow : times n (added_to SlowPool (one ∷ rest)) ≡ cond {A = ℕ} (is_in SlowPool pool && eqb (last + 1) n) 1 0 + times n (added_to SlowPool rest) = added-cons shot (last + 1) pool n rest (is_in SlowPool pool) (λ p. is_in SlowPool p.pool) refl in
    let first = new-one n (last + 1) shot pool in
    omega (arith, rows, fast, slow, first, before)

-- the ids of new logs are behind the last one, and not above as many more
pub added-apart : (n last : ℕ) (passes : Placed → Bool) (pools : Pools) (shots : List Shot) → (n ≤ last → times n (map (λ p. p.log) (filter passes (placed_from last pools shots))) ≡ 0) × (last + length shots < n → times n (map (λ p. p.log) (filter passes (placed_from last pools shots))) ≡ 0)
added-apart n last passes pools [] = (λ h. refl, λ h. refl)
added-apart n last passes pools (shot ∷ shots) =
    let rest : List Placed = placed_from (last + 1) (one_more (pool_of pools shot) pools) shots in
    let later = added-apart n (last + 1) passes (one_more (pool_of pools shot) pools) shots in
    let here = added-cons shot (last + 1) (pool_of pools shot) n rest (passes (record { shot = shot; log = last + 1; pool = pool_of pools shot })) passes refl in (
      λ low. by (passes (record { shot = shot; log = last + 1; pool = pool_of pools shot })) (eqb (last + 1) n) refl here (later.0 (omega arith)) (λ e. let same : last + 1 ≡ n = grind (arith, nat_tests) in omega arith),
      λ high. by (passes (record { shot = shot; log = last + 1; pool = pool_of pools shot })) (eqb (last + 1) n) refl here (later.1 (omega arith)) (λ e. let same : last + 1 ≡ n = grind (arith, nat_tests) in omega arith),
    )
  where
    off : (q : Bool) (rest : ℕ) → rest ≡ 0 → cond {A = ℕ} (q && false) 1 0 + rest ≡ 0
    off true rest none = omega (arith, none)
    off false rest none = omega (arith, none)

    by : (p b : Bool) → eqb (last + 1) n ≡ b → {total rest : ℕ} → total ≡ cond {A = ℕ} (p && eqb (last + 1) n) 1 0 + rest → rest ≡ 0 → (eqb (last + 1) n ≡ true → ⊥) → total ≡ 0
    by p true test is none never = absurd (never test)
    by p false test {total} {rest} is none never = is ∙ ap (λ c. cond {A = ℕ} (p && c) 1 0 + rest) test ∙ off p rest none

-- rows that rise up to a last id have no row above it
pub unsent-high : (n low last : ℕ) (logs : List Log) → IsRising (λ log. log.id) low logs last → n ≤ low → unsent_in n logs ≡ 0
unsent-high n low last [] rising below = refl
unsent-high n low last (log ∷ logs) rising below =
    let first : low < log.id = rising.0 in
    let apart : eqb log.id n ≡ false = grind (arith, nat_tests) in
    let here = count-cons (λ (l : Log). eqb l.id n && is_unsent l) log logs in
    let none : cond {A = ℕ} (eqb log.id n && is_unsent log) 1 0 ≡ 0 = ap (λ b. cond {A = ℕ} (b && is_unsent log) 1 0) apart in
    omega (arith, here, none, unsent-high n log.id last logs rising.1 (omega arith))

pub unsent-above : (n low last : ℕ) (logs : List Log) → IsRising (λ log. log.id) low logs last → last < n → unsent_in n logs ≡ 0
unsent-above n low last [] rising above = refl
unsent-above n low last (log ∷ logs) rising above =
    let ends : log.id ≤ last = rising-ends (λ (l : Log). l.id) log.id last logs rising.1 in
    let apart : eqb log.id n ≡ false = grind (arith, nat_tests) in
    let here = count-cons (λ (l : Log). eqb l.id n && is_unsent l) log logs in
    let none : cond {A = ℕ} (eqb log.id n && is_unsent log) 1 0 ≡ 0 = ap (λ b. cond {A = ℕ} (b && is_unsent log) 1 0) apart in
    omega (arith, here, none, unsent-above n log.id last logs rising.1 above)

-- and at most one has an id
pub unsent-once : (n low last : ℕ) (logs : List Log) → IsRising (λ log. log.id) low logs last → unsent_in n logs ≤ 1
unsent-once n low last [] rising = omega arith
unsent-once n low last (log ∷ logs) rising =
    let here = count-cons (λ (l : Log). eqb l.id n && is_unsent l) log logs in
    by (eqb log.id n) refl here (unsent-once n log.id last logs rising.1)
  where
    at-most : (c : Bool) → unsent_in n (log ∷ logs) ≡ cond {A = ℕ} c 1 0 + unsent_in n logs → unsent_in n logs ≡ 0 → unsent_in n (log ∷ logs) ≤ 1
    at-most true is none = omega (arith, is, none)
    at-most false is none = omega (arith, is, none)

    by : (b : Bool) → eqb log.id n ≡ b → unsent_in n (log ∷ logs) ≡ cond {A = ℕ} (eqb log.id n && is_unsent log) 1 0 + unsent_in n logs → unsent_in n logs ≤ 1 → unsent_in n (log ∷ logs) ≤ 1
    by true test here later =
        let same : log.id ≡ n = grind (arith, nat_tests) in
        let rest : unsent_in n logs ≡ 0 = unsent-high n log.id last logs rising.1 (omega arith) in
        at-most (eqb log.id n && is_unsent log) here rest
    by false test here later =
        let none : cond {A = ℕ} (eqb log.id n && is_unsent log) 1 0 ≡ 0 = ap (λ c. cond {A = ℕ} (c && is_unsent log) 1 0) test in
        omega (arith, here, none, later)

-- the logs of all admins are ended
pub unsent-ended_all : (f : ℕ → Option ℕ) (n : ℕ) (logs : List Log) → unsent_in n (ended_where (λ log. is_open_at_any (f log.id) log) logs) ≡ cond (is_some (f n)) 0 (unsent_in n logs)
unsent-ended_all f n logs = by (is_some (f n)) refl
  where
    is-same : (log : Log) → eqb log.id n ≡ true → log.id ≡ n
    is-same log test = grind (arith, nat_tests)

    own-one : (log : Log) (c o u : Bool) → eqb log.id n ≡ c → is_some (f log.id) ≡ o → is_unsent log ≡ u → is_some (f n) ≡ true → (eqb (cond (o && u) (ended_log log) log).id n && is_unsent (cond (o && u) (ended_log log) log)) ≡ false
    own-one log true true true test own u_is all = ap (λ b. b && false) test
    own-one log true false u test own u_is all = absurd (false≢true (sym own ∙ ap (λ i. is_some (f i)) (is-same log test) ∙ all))
    own-one log true true false test own u_is all = ap (λ b. b && is_unsent log) test ∙ u_is
    own-one log false true true test own u_is all = ap (λ b. b && false) test
    own-one log false true false test own u_is all = ap (λ b. b && is_unsent log) test
    own-one log false false u test own u_is all = ap (λ b. b && is_unsent log) test

    other-one : (log : Log) (c o u : Bool) → eqb log.id n ≡ c → is_some (f log.id) ≡ o → is_unsent log ≡ u → is_some (f n) ≡ false → (eqb (cond (o && u) (ended_log log) log).id n && is_unsent (cond (o && u) (ended_log log) log)) ≡ (eqb log.id n && is_unsent log)
    other-one log true true u test own u_is none = absurd (false≢true (sym none ∙ sym (ap (λ i. is_some (f i)) (is-same log test)) ∙ own))
    other-one log false true true test own u_is none = ap (λ b. b && false) test ∙ sym (ap (λ b. b && is_unsent log) test)
    other-one log false true false test own u_is none = refl
    other-one log c false u test own u_is none = refl

    by : (b : Bool) → is_some (f n) ≡ b → unsent_in n (ended_where (λ log. is_open_at_any (f log.id) log) logs) ≡ cond b 0 (unsent_in n logs)
    by true all =
        count-map (λ (log : Log). eqb log.id n && is_unsent log) (λ (log : Log). cond (is_open_at_any (f log.id) log) (ended_log log) log) logs
        ∙ count-none _ (λ log. own-one log (eqb log.id n) (is_some (f log.id)) (is_unsent log) refl refl refl all) logs
    by false none =
        count-map (λ (log : Log). eqb log.id n && is_unsent log) (λ (log : Log). cond (is_open_at_any (f log.id) log) (ended_log log) log) logs
        ∙ count-agree _ (λ (log : Log). eqb log.id n && is_unsent log) (λ log. other-one log (eqb log.id n) (is_some (f log.id)) (is_unsent log) refl refl refl none) logs
