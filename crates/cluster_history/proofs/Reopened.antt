-- What a stop of all admins counts.
use Rattle.std.proofs.Common.{◌≡◌, ℕ, zero, suc, ◌+◌, ◌<◌, ◌≤◌, List, [], ◌∷◌, ◌++◌, Bool, true, false, cond, eqb, map, length, refl, sym, ap, ap₂, ◌∙◌, arith}
use Rattle.std.specs.Prelude.{◌==◌, if◌then◌else◌}
use Rattle.std.specs.List.{count_by, filter, sum, concat, list_any, range_with_len, AllByRecursion}
use Rattle.std.proofs.lemmas.Bool.{false≢true}
use Rattle.std.proofs.lemmas.Bool.Decides.{nat_tests}
use Rattle.std.proofs.lemmas.List.{length-append}
use Rattle.std.proofs.lemmas.List.Sums.{sum_by-cons}
use Rattle.job_values.specs.declared.words.PoolKind.TheVariants.{Fast as FastPool, Slow as SlowPool}
use Rattle.job_values.specs.declared.limits.TheConstants.{ADMINS}
use Rattle.cluster_history.specs.History.{History, opening_of}
use Rattle.cluster_history.specs.Nodes.{runs}
use Rattle.cluster_history.specs.Tickets.{Waiting, waiting, waiting_at, is_at}
use Rattle.cluster_history.specs.declared.taken.TakenLog.{TakenLog}
use Rattle.job_records.specs.declared.log.Log.{Log}
use Rattle.cluster_history.specs.Settling.{ended_log, ended_where}
use Rattle.cluster_history.specs.Logs.{logs_of, queued_at, is_open_of_any, open_at}
use Rattle.cluster_history.specs.Orders.{taken_of, taken_at, held_by}
use Rattle.cluster_history.specs.Nodes.{admins}
use Rattle.cluster_history.specs.Replies.{over_running}
use Rattle.cluster_history.specs.Runs.{OpensWell, IsAnswered, AreWithin, waiting_in}
use Rattle.cluster_history.proofs.Counting.{times, count-cons, count-append}
use Rattle.cluster_history.proofs.Marks.{has}
use Rattle.cluster_history.proofs.Stops.{open_count, ended_everywhere, same-has, same-length}
use Rattle.cluster_history.proofs.Running.{queue_stopped, runs_low, tickets_run, takers_run}

-- a sum over the admins that run is the sum over all, where the others have none
over-one : (running : Bool) (m n : ℕ) → (running ≡ true → m ≡ n) → (running ≡ false → n ≡ 0) → cond running m 0 ≡ n
over-one true m n same none = same refl
over-one false m n same none = sym (none refl)

over-range : (f : ℕ → Bool) (m n : ℕ → ℕ) (from count : ℕ) → ((a : ℕ) → a < from + count → f a ≡ true → m a ≡ n a) → ((a : ℕ) → a < from + count → f a ≡ false → n a ≡ 0)
    → sum (map (λ a. cond (f a) (m a) 0) (range_with_len from count)) ≡ sum (map n (range_with_len from count))
over-range f m n from zero same none = refl
over-range f m n from (suc count) same none =
    let here : cond (f from) (m from) 0 ≡ n from = over-one (f from) (m from) (n from) (same from (omega arith)) (none from (omega arith)) in
    let rest : sum (map (λ a. cond (f a) (m a) 0) (range_with_len (from + 1) count)) ≡ sum (map n (range_with_len (from + 1) count)) =
    over-range f m n (from + 1) count (λ a below. same a (omega arith)) (λ a below. none a (omega arith)) in
    omega (arith, sum_by-cons (λ x. x) (cond (f from) (m from) 0) (map (λ a. cond (f a) (m a) 0) (range_with_len (from + 1) count)), sum_by-cons (λ x. x) (n from) (map n (range_with_len (from + 1) count)))

none-at : (f : ℕ → Bool) (a : ℕ) (tickets : List Waiting) → f a ≡ false → AllByRecursion (λ ticket. f ticket.admin ≡ true) tickets → count_by (is_at a) tickets ≡ 0
none-at f a [] stopped run = refl
none-at f a (ticket ∷ tickets) stopped run =
    omega (arith, sum_by-cons (λ t. cond (is_at a t) 1 0) ticket tickets, none-at f a tickets stopped run.1, none (eqb ticket.admin a) refl)
  where
    none : (b : Bool) → eqb ticket.admin a ≡ b → cond {A = ℕ} b 1 0 ≡ 0
    none true test = let same : ticket.admin ≡ a = grind (arith, nat_tests) in absurd (false≢true (sym stopped ∙ sym (ap f same) ∙ run.0))
    none false test = refl

-- an admin that does not run has no waiting ticket
pub waiting_stopped : (h : History) → IsAnswered h → (a : ℕ) → runs h a ≡ false → waiting_at h a ≡ 0
waiting_stopped h answered a stopped = none-at (runs h) a (waiting h) stopped (tickets_run h answered)

-- and took no log that is not sent
none-of : (f : ℕ → Bool) (a : ℕ) (taken : List TakenLog) → f a ≡ false → AllByRecursion (λ t. f t.admin ≡ true) taken → map (λ t. t.log) (filter (λ t. eqb t.admin a) taken) ≡ []
none-of f a [] stopped run = refl
none-of f a (t ∷ taken) stopped run = by (eqb t.admin a) refl (none-of f a taken stopped run.1)
  where
    by : (b : Bool) → eqb t.admin a ≡ b → map (λ u. u.log) (filter (λ u. eqb u.admin a) taken) ≡ [] → map (λ u. u.log) (cond b (t ∷ filter (λ u. eqb u.admin a) taken) (filter (λ u. eqb u.admin a) taken)) ≡ []
    by true test rest = let same : t.admin ≡ a = grind (arith, nat_tests) in absurd (false≢true (sym stopped ∙ sym (ap f same) ∙ run.0))
    by false test rest = rest

none-taken : (h : History) → IsAnswered h → (a : ℕ) → runs h a ≡ false → taken_at h a ≡ []
none-taken h answered a stopped = none-of (runs h) a (taken_of h) stopped (takers_run h answered)

-- the stop of all loses the tickets of all admins
pub reopened_lost : (h : History) → IsAnswered h → over_running h (waiting_at h) ≡ waiting_in h
reopened_lost h answered = over-range (runs h) (waiting_at h) (waiting_at h) 0 ADMINS (λ a below is. refl) (λ a below stopped. waiting_stopped h answered a stopped)

-- and ends the logs that the admins have
pub reopened_ended : (h : History) → OpensWell (opening_of h) → IsAnswered h → over_running h (open_at h) ≡ sum (map (λ a. length (held_by h a)) admins)
reopened_ended h well answered =
    over-range (runs h) (open_at h) (λ a. length (held_by h a)) 0 ADMINS (λ a below is. open_count h well answered a)
    (λ a below stopped.
    ap₂ (λ (fast slow : List ℕ). length ((fast ++ slow) ++ taken_at h a)) (queue_stopped h answered a FastPool stopped) (queue_stopped h answered a SlowPool stopped)
    ∙ ap length (none-taken h answered a stopped))

-- sums over lists of numbers
sum-cons : (x : ℕ) (xs : List ℕ) → sum (x ∷ xs) ≡ x + sum xs
sum-cons x xs = sum_by-cons (λ n. n) x xs

sum-same : (f g : ℕ → ℕ) → ((a : ℕ) → f a ≡ g a) → (numbers : List ℕ) → sum (map f numbers) ≡ sum (map g numbers)
sum-same f g same [] = refl
sum-same f g same (a ∷ numbers) = omega (arith, sum-cons (f a) (map f numbers), sum-cons (g a) (map g numbers), same a, sum-same f g same numbers)

sum-both : (f g : ℕ → ℕ) (numbers : List ℕ) → sum (map (λ a. f a + g a) numbers) ≡ sum (map f numbers) + sum (map g numbers)
sum-both f g [] = refl
sum-both f g (a ∷ numbers) =
    omega (arith, sum-cons (f a + g a) (map (λ n. f n + g n) numbers), sum-cons (f a) (map f numbers), sum-cons (g a) (map g numbers), sum-both f g numbers)

sum-none : (numbers : List ℕ) → sum (map (λ a. 0) numbers) ≡ 0
sum-none [] = refl
sum-none (a ∷ numbers) = let one : sum (map (λ n. 0) (a ∷ numbers)) ≡ 0 + sum (map (λ n. 0) numbers) = sum-cons 0 (map (λ n. 0) numbers) in omega (arith, one, sum-none numbers)

-- what counts for one number alone
sum-miss : (x k from count : ℕ) → x < from → sum (map (λ a. cond (eqb x a) k 0) (range_with_len from count)) ≡ 0
sum-miss x k from zero below = refl
sum-miss x k from (suc count) below =
    let test : eqb x from ≡ false = grind (arith, nat_tests) in
    let here : cond (eqb x from) k 0 ≡ 0 = ap (λ b. cond b k 0) test in
    omega (arith, sum-cons (cond (eqb x from) k 0) (map (λ a. cond (eqb x a) k 0) (range_with_len (from + 1) count)), here, sum-miss x k (from + 1) count (omega arith))

sum-hit : (x k from count : ℕ) → from ≤ x → x < from + count → sum (map (λ a. cond (eqb x a) k 0) (range_with_len from count)) ≡ k
sum-hit x k from zero low high = let never : ⊥ = omega arith in absurd never
sum-hit x k from (suc count) low high = by (eqb x from) refl (λ more. sum-hit x k (from + 1) count more (omega arith))
  where
    rest : ℕ
    rest = sum (map (λ a. cond (eqb x a) k 0) (range_with_len (from + 1) count))

    by : (b : Bool) → eqb x from ≡ b → (from + 1 ≤ x → rest ≡ k) → sum (cond (eqb x from) k 0 ∷ map (λ a. cond (eqb x a) k 0) (range_with_len (from + 1) count)) ≡ k
    by true test later =
        let same : x ≡ from = grind (arith, nat_tests) in
        let here : cond (eqb x from) k 0 ≡ k = ap (λ b. cond b k 0) test in
        omega (arith, sum-cons (cond (eqb x from) k 0) (map (λ a. cond (eqb x a) k 0) (range_with_len (from + 1) count)), here, sum-miss x k (from + 1) count (omega arith))
    by false test later =
        let apart : from + 1 ≤ x = grind (arith, nat_tests) in
        let here : cond (eqb x from) k 0 ≡ 0 = ap (λ b. cond b k 0) test in
        omega (arith, sum-cons (cond (eqb x from) k 0) (map (λ a. cond (eqb x a) k 0) (range_with_len (from + 1) count)), here, later apart)

-- an id stands in lists that are joined as often as in all of them
times-joined : (n : ℕ) (f : ℕ → List ℕ) (numbers : List ℕ) → times n (concat (map f numbers)) ≡ sum (map (λ a. times n (f a)) numbers)
times-joined n f [] = refl
times-joined n f (a ∷ numbers) =
    omega (arith, count-append (λ i. eqb i n) (f a) (concat (map f numbers)), sum-cons (times n (f a)) (map (λ x. times n (f x)) numbers), times-joined n f numbers)

length-joined : (f : ℕ → List ℕ) (numbers : List ℕ) → sum (map (λ a. length (f a)) numbers) ≡ length (concat (map f numbers))
length-joined f [] = refl
length-joined f (a ∷ numbers) =
    omega (arith, length-append (f a) (concat (map f numbers)), sum-cons (length (f a)) (map (λ x. length (f x)) numbers), length-joined f numbers)

-- the taken logs are those of all admins
taken-first : (n : ℕ) (t : TakenLog) (taken : List TakenLog) (a : ℕ) (b : Bool)
    → times n (map (λ u. u.log) (cond b (t ∷ filter (λ u. eqb u.admin a) taken) (filter (λ u. eqb u.admin a) taken))) ≡ cond b (cond (eqb t.log n) 1 0) 0 + times n (map (λ u. u.log) (filter (λ u. eqb u.admin a) taken))
taken-first n t taken a true = count-cons (λ i. eqb i n) t.log (map (λ (u : TakenLog). u.log) (filter (λ u. eqb u.admin a) taken))
taken-first n t taken a false = omega arith

taken-joined : (n : ℕ) (taken : List TakenLog) → AllByRecursion (λ t. t.admin < ADMINS) taken → sum (map (λ a. times n (map (λ t. t.log) (filter (λ t. eqb t.admin a) taken))) admins) ≡ times n (map (λ t. t.log) taken)
taken-joined n [] low = sum-none admins
taken-joined n (t ∷ taken) low =
    let one : ℕ = cond {A = ℕ} (eqb t.log n) 1 0 in
    let hit : sum (map (λ a. cond (eqb t.admin a) (cond {A = ℕ} (eqb t.log n) 1 0) 0) admins) ≡ cond {A = ℕ} (eqb t.log n) 1 0 = sum-hit t.admin (cond {A = ℕ} (eqb t.log n) 1 0) 0 ADMINS (omega arith) (omega (arith, low.0)) in
    omega (
      arith,
      sum-same (λ a. times n (map (λ (u : TakenLog). u.log) (filter (λ u. eqb u.admin a) (t ∷ taken)))) (λ a. cond (eqb t.admin a) (cond {A = ℕ} (eqb t.log n) 1 0) 0 + times n (map (λ (u : TakenLog). u.log) (filter (λ u. eqb u.admin a) taken)))
          (λ a. taken-first n t taken a (eqb t.admin a)) admins,
      sum-both (λ a. cond (eqb t.admin a) (cond {A = ℕ} (eqb t.log n) 1 0) 0) (λ a. times n (map (λ (u : TakenLog). u.log) (filter (λ u. eqb u.admin a) taken))) admins,
      hit,
      taken-joined n taken low.1,
      count-cons (λ i. eqb i n) t.log (map (λ (u : TakenLog). u.log) taken),
    )

takers-low : (f : ℕ → Bool) → ((a : ℕ) → f a ≡ true → a < ADMINS) → (taken : List TakenLog) → AllByRecursion (λ t. f t.admin ≡ true) taken → AllByRecursion (λ t. t.admin < ADMINS) taken
takers-low f low [] run = tt
takers-low f low (t ∷ taken) run = (low t.admin run.0, takers-low f low taken run.1)

-- the ids of the logs that any admin has: in all pools, and taken
abbrev pub held_all : History → List ℕ
held_all h = concat (map (queued_at h) admins) ++ map (λ t. t.log) (taken_of h)

held-joined : (h : History) → IsAnswered h → AreWithin h → (n : ℕ) → times n (concat (map (held_by h) admins)) ≡ times n (held_all h)
held-joined h answered within n =
    omega (
      arith,
      times-joined n (held_by h) admins,
      sum-same (λ a. times n (held_by h a)) (λ a. times n (queued_at h a) + times n (taken_at h a)) (λ a. count-append (λ i. eqb i n) (queued_at h a) (taken_at h a)) admins,
      sum-both (λ a. times n (queued_at h a)) (λ a. times n (taken_at h a)) admins,
      times-joined n (queued_at h) admins,
      taken-joined n (taken_of h) (takers-low (runs h) (runs_low h within) (taken_of h) (takers_run h answered)),
      count-append (λ i. eqb i n) (concat (map (queued_at h) admins)) (map (λ (t : TakenLog). t.log) (taken_of h)),
    )

-- so the stop of all ends these, and so many
pub reopened_count : (h : History) → OpensWell (opening_of h) → IsAnswered h → AreWithin h → over_running h (open_at h) ≡ length (held_all h)
reopened_count h well answered within =
    reopened_ended h well answered ∙ length-joined (held_by h) admins ∙ same-length (concat (map (held_by h) admins)) (held_all h) (held-joined h answered within)

rows-same : (xs ys : List ℕ) → ((n : ℕ) → has xs n ≡ has ys n) → (logs : List Log)
    → map (λ log. if list_any (λ id. id == log.id) xs then ended_log log else log) logs ≡ map (λ log. if list_any (λ id. id == log.id) ys then ended_log log else log) logs
rows-same xs ys same [] = refl
rows-same xs ys same (log ∷ logs) =
    ap (λ b. cond b (ended_log log) log ∷ map (λ l. cond (has xs l.id) (ended_log l) l) logs) (same log.id) ∙ ap (λ ls. cond (has ys log.id) (ended_log log) log ∷ ls) (rows-same xs ys same logs)

pub reopened_rows : (h : History) → OpensWell (opening_of h) → IsAnswered h → AreWithin h
    → ended_where (is_open_of_any h) (logs_of h) ≡ map (λ log. if list_any (λ id. id == log.id) (held_all h) then ended_log log else log) (logs_of h)
reopened_rows h well answered within =
    ended_everywhere h well answered within
    ∙ rows-same (concat (map (held_by h) admins)) (held_all h) (same-has (concat (map (held_by h) admins)) (held_all h) (held-joined h answered within)) (logs_of h)
