-- What a stop ends: the logs in the pools, and those that were taken.
use Rattle.std.proofs.Common.{◌≡◌, ℕ, suc, ◌+◌, ◌<◌, List, [], ◌∷◌, Bool, true, false, cond, eqb, ◌&&◌, ◌||◌, Option, Some, None, length, get_or, map, count_by, filter, refl, sym, ap, ◌∙◌, arith}
use Rattle.std.specs.Prelude.{◌==◌, if◌then◌else◌}
use Rattle.std.specs.List.{list_any, concat, AllByRecursion}
use Rattle.std.proofs.lemmas.Bool.{false≢true}
use Rattle.std.proofs.lemmas.Bool.Decides.{nat_tests}
use Rattle.std.proofs.lemmas.List.{length-map}
use Rattle.std.proofs.lemmas.List.Sums.{length-filter}
use Rattle.std.proofs.lemmas.List.Folds.{list_any_at}
use Rattle.std.proofs.lemmas.List.FromFn.{get_or-range_with_len, length-range_with_len}
use Rattle.job_values.specs.declared.limits.TheConstants.{ADMINS}
use Rattle.job_values.specs.declared.words.PoolKind.TheVariants.{Fast as FastPool, Slow as SlowPool}
use Rattle.job_events.specs.declared.cluster.ClusterEvent.TheVariants.{TriggerJob, ScanStep, Turn, Callback, Monitor}
use Rattle.job_records.specs.declared.log.Log.{Log}
use Rattle.cluster_history.specs.History.{History, Begin, After, opening_of}
use Rattle.cluster_history.specs.Nodes.{runs, admins}
use Rattle.cluster_history.specs.Firings.{shots_stepped, shots_turned, shots_asked}
use Rattle.cluster_history.specs.Settling.{is_unsent, ended_log, ended_where}
use Rattle.cluster_history.specs.Logs.{is_behind, is_own, is_open_at, is_open_at_any, opener_after, opener_of, logs_of, last_log, queue_of, queued_at, open_ids, is_open_of, is_open_of_any, open_at, shots_called, shots_watched}
use Rattle.cluster_history.specs.declared.taken.TakenLog.{TakenLog}
use Rattle.cluster_history.specs.Orders.{taken_of, taken_at, held_by}
use Rattle.cluster_history.specs.Runs.{OpensWell, IsAnswered, AreWithin}
use Rattle.cluster_history.proofs.Answered.{running_since}
use Rattle.cluster_history.proofs.Running.{runs_low}
use Rattle.cluster_history.proofs.RowIds.{logs_rise}
use Rattle.cluster_history.proofs.Marks.{has, marked, changed-marked, has-joined}
use Rattle.cluster_history.proofs.Counting.{times, count-cons, count-append, count-map, count-agree, count-none, count-filter}
use Rattle.cluster_history.proofs.Unsent.{unsent_in}
use Rattle.cluster_history.proofs.OpenLogs.{taken_in}
use Rattle.cluster_history.proofs.Balance.{balanced}

-- a log that is open at an admin, by its id
and-true : (b : Bool) → (b && true) ≡ b
and-true true = refl
and-true false = refl

and-false : (b : Bool) → (b && false) ≡ false
and-false true = refl
and-false false = refl

open-one : (f : ℕ → Option ℕ) (a n : ℕ) (log : Log) (c : Bool) → eqb log.id n ≡ c → (is_open_at (f log.id) a log && eqb log.id n) ≡ (is_own (f n) a && (eqb log.id n && is_unsent log))
open-one f a n log true test =
    let same : log.id ≡ n = grind (arith, nat_tests) in
    ap (λ b. is_open_at (f log.id) a log && b) test ∙ and-true (is_open_at (f log.id) a log) ∙ ap (λ i. is_own (f i) a && is_unsent log) same ∙ sym (ap (λ b. is_own (f n) a && (b && is_unsent log)) test)
open-one f a n log false test =
    ap (λ b. is_open_at (f log.id) a log && b) test ∙ and-false (is_open_at (f log.id) a log) ∙ sym (ap (λ b. is_own (f n) a && (b && is_unsent log)) test ∙ and-false (is_own (f n) a))

count-if : (b : Bool) (p : Log → Bool) (logs : List Log) → count_by (λ log. b && p log) logs ≡ cond b (count_by p logs) 0
count-if true p logs = refl
count-if false p logs = count-none (λ log. false) (λ log. refl) logs

times-open : (h : History) (a n : ℕ) → times n (open_ids h a) ≡ cond (is_own (opener_of h n) a) (unsent_in n (logs_of h)) 0
times-open h a n =
    count-map (λ id. eqb id n) (λ (log : Log). log.id) (filter (is_open_of h a) (logs_of h))
    ∙ count-filter (λ (log : Log). eqb log.id n) (is_open_of h a) (logs_of h)
    ∙ count-agree (λ (log : Log). is_open_of h a log && eqb log.id n) (λ (log : Log). is_own (opener_of h n) a && (eqb log.id n && is_unsent log)) (λ log. open-one (opener_of h) a n log (eqb log.id n) refl) (logs_of h)
    ∙ count-if (is_own (opener_of h n) a) (λ (log : Log). eqb log.id n && is_unsent log) (logs_of h)

and-swap : (b c : Bool) → (b && c) ≡ (c && b)
and-swap true true = refl
and-swap true false = refl
and-swap false true = refl
and-swap false false = refl

times-taken : (h : History) (a n : ℕ) → times n (taken_at h a) ≡ taken_in n a (taken_of h)
times-taken h a n =
    count-map (λ id. eqb id n) (λ (t : TakenLog). t.log) (filter (λ (t : TakenLog). eqb t.admin a) (taken_of h))
    ∙ count-filter (λ (t : TakenLog). eqb t.log n) (λ (t : TakenLog). eqb t.admin a) (taken_of h)
    ∙ count-agree (λ (t : TakenLog). eqb t.admin a && eqb t.log n) (λ (t : TakenLog). eqb t.log n && eqb t.admin a) (λ t. and-swap (eqb t.admin a) (eqb t.log n)) (taken_of h)

pub times-held : (h : History) (a n : ℕ) → times n (held_by h a) ≡ (times n (queue_of h a FastPool) + times n (queue_of h a SlowPool)) + taken_in n a (taken_of h)
times-held h a n =
    count-append (λ id. eqb id n) (queued_at h a) (taken_at h a)
    ∙ ap (λ m. m + times n (taken_at h a)) (count-append (λ id. eqb id n) (queue_of h a FastPool) (queue_of h a SlowPool))
    ∙ ap (λ m. (times n (queue_of h a FastPool) + times n (queue_of h a SlowPool)) + m) (times-taken h a n)

-- each id is as often among the open ones as among those that the admin has
pub same-times : (h : History) → OpensWell (opening_of h) → IsAnswered h → (a n : ℕ) → times n (open_ids h a) ≡ times n (held_by h a)
same-times h well answered a n = times-open h a n ∙ balanced h well answered a n ∙ sym (times-held h a n)

-- a list without the first of a number
abbrev less : ℕ → List ℕ → List ℕ
less x [] = []
less x (y ∷ ys) = cond (eqb y x) ys (y ∷ less x ys)

less-times : (x n : ℕ) (ys : List ℕ) → 0 < times x ys → times n ys ≡ cond {A = ℕ} (eqb x n) 1 0 + times n (less x ys)
less-times x n [] some = let never : 0 < 0 = some in let bad : ⊥ = omega arith in absurd bad
less-times x n (y ∷ ys) some = by (eqb y x) refl (less-times x n ys)
  where
    by : (b : Bool) → eqb y x ≡ b → (0 < times x ys → times n ys ≡ cond {A = ℕ} (eqb x n) 1 0 + times n (less x ys)) → times n (y ∷ ys) ≡ cond {A = ℕ} (eqb x n) 1 0 + times n (cond b ys (y ∷ less x ys))
    by true test rest = let same : y ≡ x = grind (arith, nat_tests) in count-cons (λ i. eqb i n) y ys ∙ ap (λ i. cond {A = ℕ} (eqb i n) 1 0 + times n ys) same
    by false test rest =
        let here = count-cons (λ i. eqb i x) y ys in
        let none : cond {A = ℕ} (eqb y x) 1 0 ≡ 0 = ap (λ b. cond {A = ℕ} b 1 0) test in
        let later = rest (omega (arith, here, none, some)) in
        let one = count-cons (λ i. eqb i n) y ys in
        let two = count-cons (λ i. eqb i n) y (less x ys) in
        omega (arith, later, one, two)

less-length : (x : ℕ) (ys : List ℕ) → 0 < times x ys → length ys ≡ suc (length (less x ys))
less-length x [] some = let never : 0 < 0 = some in let bad : ⊥ = omega arith in absurd bad
less-length x (y ∷ ys) some = by (eqb y x) refl (less-length x ys)
  where
    by : (b : Bool) → eqb y x ≡ b → (0 < times x ys → length ys ≡ suc (length (less x ys))) → suc (length ys) ≡ suc (length (cond b ys (y ∷ less x ys)))
    by true test rest = refl
    by false test rest =
        let here = count-cons (λ i. eqb i x) y ys in
        let none : cond {A = ℕ} (eqb y x) 1 0 ≡ 0 = ap (λ b. cond {A = ℕ} b 1 0) test in
        ap suc (rest (omega (arith, here, none, some)))

-- lists that have each number as often are as long
pub same-length : (xs ys : List ℕ) → ((n : ℕ) → times n xs ≡ times n ys) → length xs ≡ length ys
same-length [] [] same = refl
same-length [] (y ∷ ys) same =
    let one = count-cons (λ i. eqb i y) y ys in
    let self : eqb y y ≡ true = grind (arith, nat_tests) in
    let here : cond {A = ℕ} (eqb y y) 1 0 ≡ 1 = ap (λ b. cond {A = ℕ} b 1 0) self in
    let none : 0 ≡ times y (y ∷ ys) = same y in
    let never : ⊥ = omega (arith, one, here, none) in absurd never
same-length (x ∷ xs) ys same =
    let one = count-cons (λ i. eqb i x) x xs in
    let self : eqb x x ≡ true = grind (arith, nat_tests) in
    let here : cond {A = ℕ} (eqb x x) 1 0 ≡ 1 = ap (λ b. cond {A = ℕ} b 1 0) self in
    let some : 0 < times x ys = omega (arith, one, here, same x) in
    ap suc (same-length xs (less x ys) (λ n. omega (arith, same n, count-cons (λ i. eqb i n) x xs, less-times x n ys some)))
    ∙ sym (less-length x ys some)

-- so as many logs are open at an admin as it has
pub open_count : (h : History) → OpensWell (opening_of h) → IsAnswered h → (a : ℕ) → open_at h a ≡ length (held_by h a)
open_count h well answered a =
    sym (length-filter (is_open_of h a) (logs_of h))
    ∙ sym (length-map (filter (is_open_of h a) (logs_of h)) (λ (log : Log). log.id))
    ∙ same-length (open_ids h a) (held_by h a) (same-times h well answered a)

has-times : (n : ℕ) (ids : List ℕ) → (has ids n ≡ true → 0 < times n ids) × (has ids n ≡ false → times n ids ≡ 0)
has-times n [] = (λ e. absurd (false≢true e), λ e. refl)
has-times n (id ∷ ids) = by (eqb id n) refl (count-cons (λ i. eqb i n) id ids) (has-times n ids)
  where
    by : (b : Bool) → eqb id n ≡ b → times n (id ∷ ids) ≡ cond {A = ℕ} (eqb id n) 1 0 + times n ids → (has ids n ≡ true → 0 < times n ids) × (has ids n ≡ false → times n ids ≡ 0)
        → ((b || has ids n) ≡ true → 0 < times n (id ∷ ids)) × ((b || has ids n) ≡ false → times n (id ∷ ids) ≡ 0)
    by true test one rest = let here : cond {A = ℕ} (eqb id n) 1 0 ≡ 1 = ap (λ c. cond {A = ℕ} c 1 0) test in (λ e. omega (arith, one, here), λ e. absurd (false≢true (sym e)))
    by false test one rest =
        let here : cond {A = ℕ} (eqb id n) 1 0 ≡ 0 = ap (λ c. cond {A = ℕ} c 1 0) test in
        (λ e. let some : 0 < times n ids = rest.0 e in omega (arith, one, here), λ e. let none : times n ids ≡ 0 = rest.1 e in omega (arith, one, here))

-- lists that have each number as often have the same numbers
pub same-has : (xs ys : List ℕ) → ((n : ℕ) → times n xs ≡ times n ys) → (n : ℕ) → has xs n ≡ has ys n
same-has xs ys same n = by (has xs n) (has ys n) refl refl
  where
    by : (b c : Bool) → has xs n ≡ b → has ys n ≡ c → b ≡ c
    by true true p q = refl
    by false false p q = refl
    by true false p q = let some : 0 < times n xs = (has-times n xs).0 p in let none : times n ys ≡ 0 = (has-times n ys).1 q in let never : ⊥ = omega (arith, same n) in absurd never
    by false true p q = let some : 0 < times n ys = (has-times n ys).0 q in let none : times n xs ≡ 0 = (has-times n xs).1 p in let never : ⊥ = omega (arith, same n) in absurd never

-- each log is open at an admin where the admin has it
marks-same : (passes : Log → Bool) (xs ys : List ℕ) → ((n : ℕ) → has xs n ≡ has ys n) → (logs : List Log) → AllByRecursion (λ log. passes log ≡ has xs log.id) logs → AllByRecursion (λ log. passes log ≡ has ys log.id) logs
marks-same passes xs ys same [] marks = tt
marks-same passes xs ys same (log ∷ logs) marks = (marks.0 ∙ same log.id, marks-same passes xs ys same logs marks.1)

open-marked : (h : History) → OpensWell (opening_of h) → IsAnswered h → (a : ℕ) → AllByRecursion (λ log. is_open_of h a log ≡ has (held_by h a) log.id) (logs_of h)
open-marked h well answered a =
    marks-same (is_open_of h a) (open_ids h a) (held_by h a) (same-has (open_ids h a) (held_by h a) (same-times h well answered a)) (logs_of h)
    (marked (λ (log : Log). log.id) (is_open_of h a) 0 (last_log h) (logs_of h) (logs_rise h well))

-- the logs that a stop ends are those that the admin has
pub ended_at : (h : History) → OpensWell (opening_of h) → IsAnswered h → (a : ℕ)
    → ended_where (is_open_of h a) (logs_of h) ≡ map (λ log. if list_any (λ id. id == log.id) (held_by h a) then ended_log log else log) (logs_of h)
ended_at h well answered a = changed-marked (λ (log : Log). log.id) (is_open_of h a) ended_log (held_by h a) (logs_of h) (open-marked h well answered a)

-- an admin that opens a log is one of those that there are
low-opened : (last count admin n a : ℕ) (before : Option ℕ) → admin < ADMINS → (before ≡ Some a → a < ADMINS) → opener_after last count admin n before ≡ Some a → a < ADMINS
low-opened last count admin n a before here earlier is = by (is_behind last count n) is
  where
    same : (x y : ℕ) → ◌≡◌ {A = Option ℕ} (Some x) (Some y) → x ≡ y
    same x y e = (cc)

    by : (b : Bool) → cond b (Some admin) before ≡ Some a → a < ADMINS
    by true e = let one : admin ≡ a = same admin a e in omega arith
    by false e = earlier e

pub openers_low : (h : History) → IsAnswered h → AreWithin h → (n a : ℕ) → opener_of h n ≡ Some a → a < ADMINS
openers_low (Begin o) answered within n a is = (cc)
openers_low (After h (ScanStep admin) r) answered within n a is =
    low-opened (last_log h) (length (shots_stepped h)) admin n a (opener_of h n) (runs_low h within.0 admin (running_since (runs h admin) admin _ r answered.1 answered.2)) (openers_low h answered.0 within.0 n a) is
openers_low (After h (Turn admin at) r) answered within n a is =
    low-opened (last_log h) (length (shots_turned h admin at)) admin n a (opener_of h n) (runs_low h within.0 admin (running_since (runs h admin) admin _ r answered.1 answered.2)) (openers_low h answered.0 within.0 n a) is
openers_low (After h (TriggerJob admin at job param) r) answered within n a is =
    low-opened (last_log h) (length (shots_asked h at job param)) admin n a (opener_of h n) (runs_low h within.0 admin (running_since (runs h admin) admin _ r answered.1 answered.2)) (openers_low h answered.0 within.0 n a) is
openers_low (After h (Callback admin at item) r) answered within n a is =
    low-opened (last_log h) (length (shots_called h at item.code item.log)) admin n a (opener_of h n) (runs_low h within.0 admin (running_since (runs h admin) admin _ r answered.1 answered.2)) (openers_low h answered.0 within.0 n a) is
openers_low (After h (Monitor admin at) r) answered within n a is =
    low-opened (last_log h) (length (shots_watched h at)) admin n a (opener_of h n) (runs_low h within.0 admin (running_since (runs h admin) admin _ r answered.1 answered.2)) (openers_low h answered.0 within.0 n a) is
openers_low (After h _ r) answered within n a is = openers_low h answered.0 within.0 n a is

-- so what is open at any admin is open at one of them
any-never : (numbers : List ℕ) → list_any (λ a. false) numbers ≡ false
any-never [] = refl
any-never (a ∷ numbers) = any-never numbers

any-closed : (o : ℕ) (numbers : List ℕ) → list_any (λ a. eqb o a && false) numbers ≡ false
any-closed o [] = refl
any-closed o (a ∷ numbers) = ap (λ b. b || list_any (λ n. eqb o n && false) numbers) (and-false (eqb o a)) ∙ any-closed o numbers

any-own : (o : ℕ) (u : Bool) → o < ADMINS → list_any (λ a. eqb o a && u) admins ≡ u
any-own o false below = any-closed o admins
any-own o true below =
    let many : o < length admins = omega (arith, length-range_with_len 0 ADMINS) in
    let place : get_or admins o 0 ≡ o = omega (arith, get_or-range_with_len 0 ADMINS o 0 below) in
    let self : eqb o (get_or admins o 0) ≡ true = grind (arith, nat_tests) in
    list_any_at (λ a. eqb o a && true) admins o 0 many (ap (λ b. b && true) self)

any-open : (opener : Option ℕ) (log : Log) → ((a : ℕ) → opener ≡ Some a → a < ADMINS) → is_open_at_any opener log ≡ list_any (λ a. is_open_at opener a log) admins
any-open None log low = sym (any-never admins)
any-open (Some o) log low = sym (any-own o (is_unsent log) (low o refl))

-- a log is open at one of some admins where one of them has it
any-marked_one : (h : History) (log : Log) (f : ℕ → Bool) (numbers : List ℕ) → ((number : ℕ) → is_open_of h number log ≡ f number) → list_any (λ number. is_open_of h number log) numbers ≡ list_any f numbers
any-marked_one h log f [] same = refl
any-marked_one h log f (number ∷ numbers) same =
    ap (λ b. b || list_any (λ n. is_open_of h n log) numbers) (same number) ∙ ap (λ b. f number || b) (any-marked_one h log f numbers same)

any-marked : (h : History) (logs : List Log) → ((n a : ℕ) → opener_of h n ≡ Some a → a < ADMINS) → ((number : ℕ) → AllByRecursion (λ log. is_open_of h number log ≡ has (held_by h number) log.id) logs)
    → AllByRecursion (λ log. is_open_of_any h log ≡ has (concat (map (held_by h) admins)) log.id) logs
any-marked h [] low marks = tt
any-marked h (log ∷ logs) low marks = (
  any-open (opener_of h log.id) log (low log.id)
      ∙ any-marked_one h log (λ number. has (held_by h number) log.id) admins (λ number. (marks number).0)
      ∙ sym (has-joined (held_by h) log.id admins),
  any-marked h logs low (λ number. (marks number).1),
)

-- the logs that the stop of all ends are those that some admin has
pub ended_everywhere : (h : History) → OpensWell (opening_of h) → IsAnswered h → AreWithin h
    → ended_where (is_open_of_any h) (logs_of h) ≡ map (λ log. if list_any (λ id. id == log.id) (concat (map (held_by h) admins)) then ended_log log else log) (logs_of h)
ended_everywhere h well answered within =
    changed-marked (λ (log : Log). log.id) (is_open_of_any h) ended_log (concat (map (held_by h) admins)) (logs_of h)
    (any-marked h (logs_of h) (openers_low h answered within) (open-marked h well answered))
