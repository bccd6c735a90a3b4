-- What happens to a log at most once: a row that it happened to tells so.
use Rattle.std.proofs.Common.{◌≡◌, ℕ, ◌+◌, ◌<◌, ◌≤◌, List, [], ◌∷◌, ◌++◌, Bool, true, false, cond, eqb, map, filter, refl, sym, ◌∙◌, inl, inr, arith}
use Rattle.std.specs.Prelude.{◌⊎◌}
use Rattle.std.specs.List.{AllByRecursion}
use Rattle.std.proofs.lemmas.Bool.{false≢true}
use Rattle.std.proofs.lemmas.Bool.Decides.{nat_tests}
use Rattle.job_records.specs.declared.log.Log.{Log}
use Rattle.job_records.specs.Rows.{IsRising}
use Rattle.cluster_history.specs.Settling.{log_changed}

-- a log behind the last one was not counted yet, none was counted twice, and one that was counted has a row that tells so
pub record Once (done : Log → Bool) (count id last : ℕ) (logs : List Log) : Type 0 where
  pub unborn : last < id → count ≡ 0
  pub most : count ≤ 1
  pub rows : AllByRecursion (λ log. log.id ≡ id → done log ≡ false → count ≡ 0) logs

-- each row has an id up to the last one
abbrev pub Low : ℕ → List Log → Type 0
Low last logs = AllByRecursion (λ log. log.id ≤ last) logs

ends : (last from : ℕ) (rows : List Log) → IsRising (λ log. log.id) from rows last → from ≤ last
ends last from [] is = is
ends last from (row ∷ rows) is = let first : from < row.id = is.0 in let rest : row.id ≤ last = ends last row.id rows is.1 in omega arith

pub low-rising : (low last : ℕ) (logs : List Log) → IsRising (λ log. log.id) low logs last → Low last logs
low-rising low last [] is = tt
low-rising low last (log ∷ logs) is = (ends last log.id logs is.1, low-rising log.id last logs is.1)

-- rows that keep their ids and what was told
mapped : (done : Log → Bool) (count id : ℕ) (f : Log → Log) → ((log : Log) → (f log).id ≡ log.id) → ((log : Log) → done (f log) ≡ false → done log ≡ false) → (logs : List Log)
    → AllByRecursion (λ log. log.id ≡ id → done log ≡ false → count ≡ 0) logs → AllByRecursion (λ log. log.id ≡ id → done log ≡ false → count ≡ 0) (map f logs)
mapped done count id f keeps tells [] all = tt
mapped done count id f keeps tells (log ∷ logs) all = (λ here not. all.0 (sym (keeps log) ∙ here) (tells log not), mapped done count id f keeps tells logs all.1)

pub once-mapped : (done : Log → Bool) (count id last : ℕ) (logs : List Log) (f : Log → Log) → ((log : Log) → (f log).id ≡ log.id) → ((log : Log) → done (f log) ≡ false → done log ≡ false) → Once done count id last logs → Once done count id last (map f logs)
once-mapped done count id last logs f keeps tells once = record { unborn = once.unborn; most = once.most; rows = mapped done count id f keeps tells logs once.rows }

one-keeps : (f : Log → Log) → ((log : Log) → (f log).id ≡ log.id) → (log : Log) (b : Bool) → (cond b (f log) log).id ≡ log.id
one-keeps f keeps log true = keeps log
one-keeps f keeps log false = refl

one-tells : (done : Log → Bool) (f : Log → Log) → ((log : Log) → done (f log) ≡ false → done log ≡ false) → (log : Log) (b : Bool) → done (cond b (f log) log) ≡ false → done log ≡ false
one-tells done f tells log true is = tells log is
one-tells done f tells log false is = is

pub once-changed : (done : Log → Bool) (count id last x : ℕ) (logs : List Log) (f : Log → Log) → ((log : Log) → (f log).id ≡ log.id) → ((log : Log) → done (f log) ≡ false → done log ≡ false) → Once done count id last logs → Once done count id last (log_changed x f logs)
once-changed done count id last x logs f keeps tells once =
    once-mapped done count id last logs (λ (log : Log). cond (eqb log.id x) (f log) log) (λ log. one-keeps f keeps log (eqb log.id x)) (λ log. one-tells done f tells log (eqb log.id x)) once

pub once-where : (done : Log → Bool) (count id last : ℕ) (logs : List Log) (test : Log → Bool) (f : Log → Log) → ((log : Log) → (f log).id ≡ log.id) → ((log : Log) → done (f log) ≡ false → done log ≡ false) → Once done count id last logs → Once done count id last (map (λ log. cond (test log) (f log) log) logs)
once-where done count id last logs test f keeps tells once =
    once-mapped done count id last logs (λ (log : Log). cond (test log) (f log) log) (λ log. one-keeps f keeps log (test log)) (λ log. one-tells done f tells log (test log)) once

-- fewer rows
kept : (P : Log → Type 0) (test : Log → Bool) (logs : List Log) → AllByRecursion P logs → AllByRecursion P (filter test logs)
kept P test [] all = tt
kept P test (log ∷ logs) all = by (test log) (kept P test logs all.1)
  where
    by : (b : Bool) → AllByRecursion P (filter test logs) → AllByRecursion P (cond b (log ∷ filter test logs) (filter test logs))
    by true rest = (all.0, rest)
    by false rest = rest

pub once-kept : (done : Log → Bool) (count id last : ℕ) (logs : List Log) (test : Log → Bool) → Once done count id last logs → Once done count id last (filter test logs)
once-kept done count id last logs test once = record { unborn = once.unborn; most = once.most; rows = kept _ test logs once.rows }

-- more rows, behind the last one
joined : (P : Log → Type 0) (xs ys : List Log) → AllByRecursion P xs → AllByRecursion P ys → AllByRecursion P (xs ++ ys)
joined P [] ys all more = more
joined P (x ∷ xs) ys all more = (all.0, joined P xs ys all.1 more)

fresh : (done : Log → Bool) (count id last low end : ℕ) (rows : List Log) → (last < id → count ≡ 0) → last ≤ low → IsRising (λ log. log.id) low rows end → AllByRecursion (λ log. log.id ≡ id → done log ≡ false → count ≡ 0) rows
fresh done count id last low end [] unborn above is = tt
fresh done count id last low end (row ∷ rows) unborn above is =
    let first : low < row.id = is.0 in
    (λ here not. unborn (omega (arith, here)), fresh done count id last row.id end rows unborn (omega arith) is.1)

pub once-behind : (done : Log → Bool) (count id last end : ℕ) (logs rows : List Log) → last ≤ end → IsRising (λ log. log.id) last rows end → Once done count id last logs → Once done count id end (logs ++ rows)
once-behind done count id last end logs rows more is once = record {
  unborn = λ above. once.unborn (omega arith);
  most = once.most;
  rows = joined _ logs rows once.rows (fresh done count id last last end rows once.unborn (omega arith) is);
}

-- it happens to a log that it did not happen to
happened : (done : Log → Bool) (count more id x : ℕ) (f : Log → Log) → ((log : Log) → (f log).id ≡ log.id) → ((log : Log) → done (f log) ≡ true) → (x ≡ id → ⊥) ⊎ (x ≡ id) → ((x ≡ id → ⊥) → more ≡ count) → (logs : List Log)
    → AllByRecursion (λ log. log.id ≡ id → done log ≡ false → count ≡ 0) logs → AllByRecursion (λ log. log.id ≡ id → done log ≡ false → more ≡ 0) (log_changed x f logs)
happened done count more id x f keeps did cases same [] all = tt
happened done count more id x f keeps did cases same (log ∷ logs) all = (by (eqb log.id x) refl, happened done count more id x f keeps did cases same logs all.1)
  where
    by : (b : Bool) → eqb log.id x ≡ b → (cond b (f log) log).id ≡ id → done (cond b (f log) log) ≡ false → more ≡ 0
    by true test here not = absurd (false≢true (sym not ∙ did log))
    by false test here not = same (λ e. let e2 : log.id ≡ x = here ∙ sym e in let never : eqb log.id x ≡ true = grind (arith, nat_tests) in false≢true (sym test ∙ never)) ∙ all.0 here not

pub once-done : (done : Log → Bool) (count id last x : ℕ) (logs : List Log) (f : Log → Log) → ((log : Log) → (f log).id ≡ log.id) → ((log : Log) → done (f log) ≡ true) → x ≤ last → (x ≡ id → count ≡ 0) → Once done count id last logs
    → Once done (count + cond (eqb x id) 1 0) id last (log_changed x f logs)
once-done done count id last x logs f keeps did within none once = by (eqb x id) refl
  where
    by : (b : Bool) → eqb x id ≡ b → Once done (count + cond b 1 0) id last (log_changed x f logs)
    by true test =
        let same : x ≡ id = grind (arith, nat_tests) in
        record {
          unborn = λ above. absurd (let never : ⊥ = omega arith in never);
          most = omega (arith, none same);
          rows = happened done count (count + 1) id x f keeps did (inr same) (λ apart. absurd (apart same)) logs once.rows;
        }
    by false test =
        let apart : x ≡ id → ⊥ = λ e. let yes : eqb x id ≡ true = grind (arith, nat_tests) in false≢true (sym test ∙ yes) in
        record {
          unborn = λ above. omega (arith, once.unborn above);
          most = omega (arith, once.most);
          rows = happened done count (count + 0) id x f keeps did (inl apart) (λ a. omega arith) logs once.rows;
        }
