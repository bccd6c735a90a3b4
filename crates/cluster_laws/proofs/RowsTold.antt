-- Rows of logs that have what is told of their logs, and what keeps it so.
use Rattle.std.proofs.Common.{◌≡◌, ℕ, ◌+◌, ◌<◌, ◌≤◌, List, [], ◌∷◌, ◌++◌, Bool, true, false, cond, eqb, Option, Some, None, map, refl, sym, ap, ◌∙◌, arith}
use Rattle.std.specs.List.{AllByRecursion, filter}
use Rattle.std.proofs.lemmas.Bool.Decides.{nat_tests}
use Rattle.job_values.specs.declared.limits.TheConstants.{FAILURE}
use Rattle.job_records.specs.declared.log.Log.{Log}
use Rattle.cluster_history.specs.History.{History}
use Rattle.cluster_history.specs.Firings.{Shot}
use Rattle.cluster_history.specs.Openings.{Pools, Placed, placed_from, pool_of, one_more, log_of, rows_of}
use Rattle.cluster_history.specs.Settling.{log_changed, settled_log, marked_log, logs_marked, lost_text, logs_lost}
use Rattle.cluster_history.specs.Logs.{last_log, pools_of, placed_at}

-- each row has what is told of its log
abbrev pub Told : {A : Type 0} → (Log → A) → (ℕ → A) → List Log → Type 0
Told of told logs = AllByRecursion (λ log. told log.id ≡ of log) logs

-- the same is told in other words
pub told-as : {A : Type 0} (of : Log → A) (f g : ℕ → A) → ((id : ℕ) → g id ≡ f id) → (logs : List Log) → Told of f logs → Told of g logs
told-as of f g same [] all = tt
told-as of f g same (log ∷ logs) all = (same log.id ∙ all.0, told-as of f g same logs all.1)

-- rows that keep their ids and this
told-mapped : {A : Type 0} (of : Log → A) (told : ℕ → A) (f : Log → Log) → ((log : Log) → (f log).id ≡ log.id) → ((log : Log) → of (f log) ≡ of log) → (logs : List Log) → Told of told logs → Told of told (map f logs)
told-mapped of told f ids keeps [] all = tt
told-mapped of told f ids keeps (log ∷ logs) all = (ap told (ids log) ∙ all.0 ∙ sym (keeps log), told-mapped of told f ids keeps logs all.1)

if-same : {A : Type 0} (of : Log → A) (f : Log → Log) → ((log : Log) → of (f log) ≡ of log) → (log : Log) (b : Bool) → of (cond b (f log) log) ≡ of log
if-same of f keeps log true = keeps log
if-same of f keeps log false = refl

pub told-where : {A : Type 0} (of : Log → A) (told : ℕ → A) (test : Log → Bool) (f : Log → Log) → ((log : Log) → (f log).id ≡ log.id) → ((log : Log) → of (f log) ≡ of log) → (logs : List Log) → Told of told logs
    → Told of told (map (λ log. cond (test log) (f log) log) logs)
told-where of told test f ids keeps logs all =
    told-mapped of told (λ (log : Log). cond (test log) (f log) log) (λ log. if-same (λ l. l.id) f ids log (test log)) (λ log. if-same of f keeps log (test log)) logs all

-- the marked log, or the lost one
pub told-marked : {A : Type 0} (of : Log → A) (told : ℕ → A) → ((log : Log) → of (marked_log log) ≡ of log) → (chosen : Option Log) (logs : List Log) → Told of told logs → Told of told (logs_marked chosen logs)
told-marked of told keeps None logs all = all
told-marked of told keeps (Some log) logs all = told-where of told (λ l. eqb l.id log.id) marked_log (λ l. refl) keeps logs all

pub told-lost : {A : Type 0} (of : Log → A) (told : ℕ → A) (at : ℕ) → ((log : Log) → of (settled_log at FAILURE lost_text log) ≡ of log) → (chosen : Option Log) (logs : List Log) → Told of told logs → Told of told (logs_lost at chosen logs)
told-lost of told at keeps None logs all = all
told-lost of told at keeps (Some log) logs all = told-where of told (λ l. eqb l.id log.id) (settled_log at FAILURE lost_text) (λ l. refl) keeps logs all

-- fewer rows
pub told-kept : {A : Type 0} (of : Log → A) (told : ℕ → A) (test : Log → Bool) (logs : List Log) → Told of told logs → Told of told (filter test logs)
told-kept of told test [] all = tt
told-kept of told test (log ∷ logs) all = by (test log) (told-kept of told test logs all.1)
  where
    by : (b : Bool) → Told of told (filter test logs) → Told of told (cond b (log ∷ filter test logs) (filter test logs))
    by true rest = (all.0, rest)
    by false rest = rest

-- more rows
pub told-both : {A : Type 0} (of : Log → A) (told : ℕ → A) (xs ys : List Log) → Told of told xs → Told of told ys → Told of told (xs ++ ys)
told-both of told [] ys all more = more
told-both of told (x ∷ xs) ys all more = (all.0, told-both of told xs ys all.1 more)

-- those of logs of which nothing is told yet
told-placed : {A : Type 0} (of : Log → A) (told : ℕ → A) (fresh : A) (low last : ℕ) (pools : Pools) (shots : List Shot) → ((placed : Placed) → of (log_of placed) ≡ fresh) → ((id : ℕ) → low < id → told id ≡ fresh) → low ≤ last
    → Told of told (rows_of (placed_from last pools shots))
told-placed of told fresh low last pools [] new unborn within = tt
told-placed of told fresh low last pools (shot ∷ shots) new unborn within = (
  unborn (last + 1) (omega arith) ∙ sym (new (record { shot = shot; log = last + 1; pool = pool_of pools shot })),
  told-placed of told fresh low (last + 1) (one_more (pool_of pools shot) pools) shots new unborn (omega arith),
)

pub told-behind : {A : Type 0} (of : Log → A) (told : ℕ → A) (fresh : A) (h : History) (admin : ℕ) (shots : List Shot) (logs : List Log) → ((placed : Placed) → of (log_of placed) ≡ fresh) → ((id : ℕ) → last_log h < id → told id ≡ fresh) → Told of told logs
    → Told of told (logs ++ rows_of (placed_at h admin shots))
told-behind of told fresh h admin shots logs new unborn all =
    told-both of told logs (rows_of (placed_at h admin shots)) all (told-placed of told fresh (last_log h) (last_log h) (pools_of h admin) shots new unborn (omega arith))

-- one row gets something else
pub told-given : {A : Type 0} (of : Log → A) (told : ℕ → A) (given : A) (x : ℕ) (f : Log → Log) → ((log : Log) → (f log).id ≡ log.id) → ((log : Log) → of (f log) ≡ given) → (logs : List Log) → Told of told logs
    → Told of (λ id. cond (eqb x id) given (told id)) (log_changed x f logs)
told-given of told given x f ids gives [] all = tt
told-given {A = A} of told given x f ids gives (log ∷ logs) all = (by (eqb log.id x) refl, told-given of told given x f ids gives logs all.1)
  where
    by : (b : Bool) → eqb log.id x ≡ b → cond (eqb x (cond b (f log) log).id) given (told (cond b (f log) log).id) ≡ of (cond b (f log) log)
    by true test =
        let turned : eqb x log.id ≡ true = grind (arith, nat_tests) in
        ap (λ n. cond (eqb x n) given (told n)) (ids log) ∙ ap (λ b. cond b given (told log.id)) turned ∙ sym (gives log)
    by false test =
        let turned : eqb x log.id ≡ false = grind (arith, nat_tests) in
        ap (λ b. cond b given (told log.id)) turned ∙ all.0
