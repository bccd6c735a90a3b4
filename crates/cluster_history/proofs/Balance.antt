-- After every answered history: what an admin has of an id is in its pools or taken.
use Rattle.std.proofs.Common.{◌≡◌, ℕ, zero, suc, ◌+◌, ◌<◌, ◌≤◌, ℤ, pos, List, [], ◌∷◌, ◌++◌, Bool, true, false, cond, eqb, ◌&&◌, not, is_some, Option, Some, None, length, drop, slice_get, refl, sym, ap, ◌∙◌, subst, arith, int_eq, int_le}
use Rattle.std.proofs.lemmas.Bool.{false≢true, true≢false}
use Rattle.std.proofs.lemmas.Bool.Decides.{nat_tests, Decides-int_eq}
use Rattle.job_values.specs.declared.words.PoolKind.{PoolKind}
use Rattle.job_values.specs.declared.words.PoolKind.TheVariants.{Fast as FastPool, Slow as SlowPool}
use Rattle.job_events.specs.declared.cluster.ClusterEvent.TheVariants.{NodeStop, ScanStep, Turn, TriggerJob, Take, Sent, Callback, Monitor, Lost, Clean, Reopen}
use Rattle.job_events.specs.declared.cluster.ClusterReply.{ClusterReply}
use Rattle.job_events.specs.declared.cluster.ClusterRefusal.TheVariants.{BadCode, AlreadySent}
use Rattle.rising_rows.proofs.RowLemmas.{found-id}
use Rattle.job_records.specs.declared.log.Log.{Log}
use Rattle.job_records.specs.Rows.{row_with}
use Rattle.cluster_history.specs.declared.taken.TakenLog.{TakenLog}
use Rattle.cluster_history.specs.History.{History, Begin, After, opening_of, is_refusal}
use Rattle.cluster_history.specs.Nodes.{runs}
use Rattle.cluster_history.specs.Registrations.{registry_of}
use Rattle.cluster_history.specs.Firings.{Shot, shots_stepped, shots_turned, shots_asked}
use Rattle.cluster_history.specs.Openings.{rows_of, added_to}
use Rattle.job_values.specs.declared.limits.TheConstants.{FAILURE}
use Rattle.cluster_history.specs.Settling.{is_positive, log_with, log_changed, logs_left, is_unsent, sent_log, settled_log, marked_log, logs_marked, logs_lost, first_failed, first_lost, lost_text}
use Rattle.cluster_history.specs.Logs.{is_own, opener_after, opener_of, without_first, logs_of, last_log, queue_of, pools_of, placed_at, shots_called, shots_watched}
use Rattle.cluster_history.specs.Orders.{log_at, front_of, choice_of, taken_by, put_taken, taken_with, taken_of, taken_log}
use Rattle.cluster_history.specs.Replies.{refused, if_positive, sent_reply, taken_reply, given_reply, reply_after}
use Rattle.cluster_history.specs.Runs.{OpensWell, IsAnswered}
use Rattle.cluster_history.proofs.RowIds.{logs_rise}
use Rattle.cluster_history.proofs.Counting.{times, count-cons, counted-found}
use Rattle.cluster_history.proofs.Unsent.{unsent_in, unsent-append, unsent-changed, unsent-sent, unsent-ended, unsent-ended_all, unsent-left, unsent-above, unsent-once}
use Rattle.cluster_history.proofs.OpenLogs.{taken_in, Has, has-opened}
use Rattle.cluster_history.proofs.TakenLogs.{count-put, taken-without, taken-stopped, taken-found}

-- an admin's logs without a trigger code are those in its pools, and those that it took
abbrev pub Balanced : History → ℕ → ℕ → Type 0
Balanced h a n = Has (opener_of h n) a (unsent_in n (logs_of h)) (times n (queue_of h a FastPool)) (times n (queue_of h a SlowPool)) (taken_in n a (taken_of h))

-- logs that an admin opens
opened : (h : History) (a admin n : ℕ) (shots : List Shot) (logs : List Log) → OpensWell (opening_of h) → unsent_in n logs ≡ unsent_in n (logs_of h) → Balanced h a n
    → Has (opener_after (last_log h) (length shots) admin n (opener_of h n)) a (unsent_in n (logs ++ rows_of (placed_at h admin shots)))
    (times n (cond (eqb a admin) (queue_of h a FastPool ++ added_to FastPool (placed_at h a shots)) (queue_of h a FastPool)))
    (times n (cond (eqb a admin) (queue_of h a SlowPool ++ added_to SlowPool (placed_at h a shots)) (queue_of h a SlowPool)))
    (taken_in n a (taken_of h))
opened h a admin n shots logs well same before =
    let P : ℕ → Type 0 = λ u. Has (opener_after (last_log h) (length shots) admin n (opener_of h n)) a u
    (times n (cond (eqb a admin) (queue_of h a FastPool ++ added_to FastPool (placed_at h a shots)) (queue_of h a FastPool)))
    (times n (cond (eqb a admin) (queue_of h a SlowPool ++ added_to SlowPool (placed_at h a shots)) (queue_of h a SlowPool)))
    (taken_in n a (taken_of h)) in
    subst P (sym (unsent-append n logs (rows_of (placed_at h admin shots)) ∙ ap (λ u. u + unsent_in n (rows_of (placed_at h admin shots))) same))
    (has-opened (opener_of h n) a admin n (last_log h) (pools_of h) shots (unsent_in n (logs_of h)) (queue_of h a FastPool) (queue_of h a SlowPool) (taken_in n a (taken_of h))
    (λ above. unsent-above n 0 (last_log h) (logs_of h) (logs_rise h well) above) before)

marked-same : (n : ℕ) (chosen : Option Log) (logs : List Log) → unsent_in n (logs_marked chosen logs) ≡ unsent_in n logs
marked-same n None logs = refl
marked-same n (Some log) logs = unsent-changed n log.id marked_log (λ l. refl) (λ l. refl) logs

lost-same : (n at : ℕ) (chosen : Option Log) (logs : List Log) → unsent_in n (logs_lost at chosen logs) ≡ unsent_in n logs
lost-same n at None logs = refl
lost-same n at (Some log) logs = unsent-changed n log.id (settled_log at FAILURE lost_text) (λ l. refl) (λ l. refl) logs

-- what changes the rows alone
rows-only : (h : History) (a n : ℕ) (logs : List Log) → unsent_in n logs ≡ unsent_in n (logs_of h) → Balanced h a n
    → Has (opener_of h n) a (unsent_in n logs) (times n (queue_of h a FastPool)) (times n (queue_of h a SlowPool)) (taken_in n a (taken_of h))
rows-only h a n logs same before =
    let P : ℕ → Type 0 = λ u. Has (opener_of h n) a u (times n (queue_of h a FastPool)) (times n (queue_of h a SlowPool)) (taken_in n a (taken_of h)) in
    subst P (sym same) before

-- the stop of an admin
stopped : (opener : Option ℕ) (a admin n unsent : ℕ) (fast slow : List ℕ) (taken ended left : ℕ) → ended ≡ cond (is_own opener admin) 0 unsent → left ≡ cond (eqb a admin) 0 taken → Has opener a unsent (times n fast) (times n slow) taken
    → Has opener a ended (times n (cond (eqb a admin) [] fast)) (times n (cond (eqb a admin) [] slow)) left
stopped opener a admin n unsent fast slow taken ended left e l before = by opener (eqb a admin) refl e l before
  where
    own-stopped : (c : Bool) → ended ≡ cond c 0 unsent → left ≡ 0 → cond c ended 0 ≡ (0 + 0) + left
    own-stopped true e l = omega (arith, e, l)
    own-stopped false e l = omega (arith, l)

    other : (x : ℕ) (c d : Bool) → eqb a admin ≡ false → eqb x a ≡ c → eqb x admin ≡ d → ended ≡ cond d 0 unsent → left ≡ taken → cond c unsent 0 ≡ (times n fast + times n slow) + taken → cond c ended 0 ≡ (times n fast + times n slow) + left
    other x true true test p q e l before = let never : ⊥ = grind (arith, nat_tests) in absurd never
    other x true false test p q e l before = omega (arith, e, l, before)
    other x false d test p q e l before = omega (arith, l, before)

    by : (o : Option ℕ) (b : Bool) → eqb a admin ≡ b → ended ≡ cond (is_own o admin) 0 unsent → left ≡ cond b 0 taken → Has o a unsent (times n fast) (times n slow) taken
        → cond (is_own o a) ended 0 ≡ (times n (cond b [] fast) + times n (cond b [] slow)) + left
    by None true test e l before = omega (arith, l)
    by None false test e l before = omega (arith, l, before)
    by (Some x) true test e l before =
        let same : a ≡ admin = grind (arith, nat_tests) in
        let own : eqb x admin ≡ eqb x a = ap (λ y. eqb x y) (sym same) in
        own-stopped (eqb x a) (e ∙ ap (λ c. cond c 0 unsent) own) l
    by (Some x) false test e l before = other x (eqb x a) (eqb x admin) test refl refl e l before

-- the stop of all
all-stopped : (opener : Option ℕ) (a unsent ended : ℕ) → ended ≡ cond (is_some opener) 0 unsent → cond (is_own opener a) ended 0 ≡ (0 + 0) + 0
all-stopped None a unsent ended e = refl
all-stopped (Some x) a unsent ended e = by (eqb x a)
  where
    by : (b : Bool) → cond b ended 0 ≡ (0 + 0) + 0
    by true = omega (arith, e)
    by false = refl

-- an id that some admin took is in no pool, and no other admin took it
one-owner : (opener : Option ℕ) (a b unsent fast slow taken : ℕ) → unsent ≤ 1 → Has opener a unsent fast slow taken → 0 < (fast + slow) + taken → (opener ≡ Some a) × ((fast + slow) + taken ≡ 1)
one-owner None a b unsent fast slow taken few has some = absurd (let never : ⊥ = omega (arith, has, some) in never)
one-owner (Some x) a b unsent fast slow taken few has some = by (eqb x a) refl has
  where
    by : (c : Bool) → eqb x a ≡ c → cond c unsent 0 ≡ (fast + slow) + taken → (Some x ≡ Some a) × ((fast + slow) + taken ≡ 1)
    by true test is = let same : x ≡ a = grind (arith, nat_tests) in (ap Some same, omega (arith, is, few, some))
    by false test is = absurd (let never : ⊥ = omega (arith, is, some) in never)

few : (h : History) (n : ℕ) → OpensWell (opening_of h) → unsent_in n (logs_of h) ≤ 1
few h n well = unsent-once n 0 (last_log h) (logs_of h) (logs_rise h well)

some-same : (x y : ℕ) → ◌≡◌ {A = Option ℕ} (Some x) (Some y) → x ≡ y
some-same x y e = (cc)

-- a log that waits in a pool is not taken
not-taken : (h : History) (admin id : ℕ) → OpensWell (opening_of h) → ((b : ℕ) → Balanced h b id) → 0 < times id (queue_of h admin FastPool) + times id (queue_of h admin SlowPool) → row_with (λ t. t.log) id (taken_of h) ≡ None
not-taken h admin id well all waits = by (row_with (λ (t : TakenLog). t.log) id (taken_of h)) refl
  where
    by : (o : Option TakenLog) → row_with (λ t. t.log) id (taken_of h) ≡ o → o ≡ None
    by None is = refl
    by (Some t) is =
        let found = taken-found id t (taken_of h) is in
        let at_queue = one-owner (opener_of h id) admin admin (unsent_in id (logs_of h)) (times id (queue_of h admin FastPool)) (times id (queue_of h admin SlowPool)) (taken_in id admin (taken_of h)) (few h id well) (all admin) (omega (arith, waits)) in
        let at_taken = one-owner (opener_of h id) t.admin t.admin (unsent_in id (logs_of h)) (times id (queue_of h t.admin FastPool)) (times id (queue_of h t.admin SlowPool)) (taken_in id t.admin (taken_of h)) (few h id well) (all t.admin) (omega (arith, found.1)) in
        let same : admin ≡ t.admin = some-same admin t.admin (sym at_queue.0 ∙ at_taken.0) in
        let here : 0 < taken_in id admin (taken_of h) = subst (λ b. 0 < taken_in id b (taken_of h)) (sym same) found.1 in
        absurd (let never : ⊥ = omega (arith, at_queue.1, waits, here) in never)

-- what a take moves from a pool to the taken logs
take-moves : (h : History) (admin word n a : ℕ) (queue : List ℕ) → ((id : ℕ) → 0 < times id queue → (log_with id (logs_of h) ≡ None → ⊥) × (row_with (λ t. t.log) id (taken_of h) ≡ None))
    → taken_in n a (taken_with h admin word (log_at (logs_of h) (slice_get queue 0)) (taken_of h)) + cond (eqb a admin) (times n (drop 1 queue)) 0 ≡ taken_in n a (taken_of h) + cond (eqb a admin) (times n queue) 0
take-moves h admin word n a [] known = refl
take-moves h admin word n a (id ∷ ids) known = by (log_with id (logs_of h)) refl
  where
    self : eqb id id ≡ true
    self = grind (arith, nat_tests)

    waits : 0 < times id (id ∷ ids)
    waits = let one = count-cons (λ i. eqb i id) id ids in let here : cond {A = ℕ} (eqb id id) 1 0 ≡ 1 = ap (λ b. cond {A = ℕ} b 1 0) self in omega (arith, one, here)

    on : (d : Bool) (put old more less one : ℕ) → put ≡ one + old → more ≡ cond {A = ℕ} d 1 0 + less → one ≡ cond {A = ℕ} (d && true) 1 0 → put + less ≡ old + more
    on true put old more less one p m o = omega (arith, p, m, o)
    on false put old more less one p m o = omega (arith, p, m, o)

    off : (d : Bool) (put old one : ℕ) → put ≡ one + old → one ≡ cond {A = ℕ} (d && false) 1 0 → put + 0 ≡ old + 0
    off true put old one p o = omega (arith, p, o)
    off false put old one p o = omega (arith, p, o)

    sum : (b c : Bool) (put old more less one : ℕ) → eqb a admin ≡ b → eqb admin a ≡ c → put ≡ one + old → more ≡ cond {A = ℕ} (eqb id n) 1 0 + less → one ≡ cond {A = ℕ} (eqb id n && c) 1 0 → put + cond b less 0 ≡ old + cond b more 0
    sum true true put old more less one p q e m o = on (eqb id n) put old more less one e m o
    sum true false put old more less one p q e m o = let never : ⊥ = grind (arith, nat_tests) in absurd never
    sum false true put old more less one p q e m o = let never : ⊥ = grind (arith, nat_tests) in absurd never
    sum false false put old more less one p q e m o = off (eqb id n) put old one e o

    by : (o : Option Log) → log_with id (logs_of h) ≡ o
        → taken_in n a (taken_with h admin word o (taken_of h)) + cond (eqb a admin) (times n ids) 0 ≡ taken_in n a (taken_of h) + cond (eqb a admin) (times n (id ∷ ids)) 0
    by None is = absurd ((known id waits).0 is)
    by (Some log) is =
        let same : log.id ≡ id = found-id (λ (l : Log). l.id) id (logs_of h) log is in
        let absent : row_with (λ (t : TakenLog). t.log) log.id (taken_of h) ≡ None = ap (λ i. row_with (λ (t : TakenLog). t.log) i (taken_of h)) same ∙ (known id waits).1 in
        let put = count-put (λ (t : TakenLog). t.log) (λ (t : TakenLog). eqb t.log n && eqb t.admin a) (taken_by admin (choice_of h admin word log) log) (taken_of h) absent in
        let e : cond {A = ℕ} (eqb log.id n && eqb admin a) 1 0 ≡ cond {A = ℕ} (eqb id n && eqb admin a) 1 0 = ap (λ i. cond {A = ℕ} (eqb i n && eqb admin a) 1 0) same in
        sum (eqb a admin) (eqb admin a) (taken_in n a (put_taken (taken_by admin (choice_of h admin word log) log) (taken_of h))) (taken_in n a (taken_of h)) (times n (id ∷ ids)) (times n ids) (cond {A = ℕ} (eqb log.id n && eqb admin a) 1 0) refl refl put (count-cons (λ i. eqb i n) id ids) e

times-if : (b : Bool) (n : ℕ) (xs ys : List ℕ) → times n (cond b xs ys) ≡ cond b (times n xs) (times n ys)
times-if true n xs ys = refl
times-if false n xs ys = refl

at-own : (f : ℕ → ℕ) (a admin : ℕ) → cond (eqb a admin) (f admin) 0 ≡ cond (eqb a admin) (f a) 0
at-own f a admin = by (eqb a admin) refl
  where
    by : (b : Bool) → eqb a admin ≡ b → cond b (f admin) 0 ≡ cond b (f a) 0
    by true test = let same : admin ≡ a = grind (arith, nat_tests) in ap f same
    by false test = refl

take-sum : (b : Bool) (own first second taken less more : ℕ) → own ≡ (first + second) + taken → more + cond b less 0 ≡ taken + cond b first 0 → own ≡ (cond b less first + second) + more
take-sum true own first second taken less more has moved = omega (arith, has, moved)
take-sum false own first second taken less more has moved = omega (arith, has, moved)

-- what waits in a pool is a present log that is not taken
known-waiting : (h : History) (admin : ℕ) → OpensWell (opening_of h) → ((b n : ℕ) → Balanced h b n) → (id : ℕ) → 0 < times id (queue_of h admin FastPool) + times id (queue_of h admin SlowPool)
    → (log_with id (logs_of h) ≡ None → ⊥) × (row_with (λ t. t.log) id (taken_of h) ≡ None)
known-waiting h admin well all id waits = (
  (λ none. counted-found (λ (l : Log). l.id) is_unsent id (logs_of h) (one (is_own (opener_of h id) admin) (all admin id)) none),
  not-taken h admin id well (λ b. all b id) waits,
)
  where
    one : (b : Bool) → cond b (unsent_in id (logs_of h)) 0 ≡ (times id (queue_of h admin FastPool) + times id (queue_of h admin SlowPool)) + taken_in id admin (taken_of h) → 0 < unsent_in id (logs_of h)
    one true is = omega (arith, is, waits)
    one false is = absurd (let never : ⊥ = omega (arith, is, waits) in never)

take-balance : (h : History) (a admin n word : ℕ) (from : PoolKind) → OpensWell (opening_of h) → ((b m : ℕ) → Balanced h b m)
    → Has (opener_of h n) a (unsent_in n (logs_of h)) (times n (cond (eqb a admin) (without_first from FastPool (queue_of h a FastPool)) (queue_of h a FastPool))) (times n (cond (eqb a admin) (without_first from SlowPool (queue_of h a SlowPool)) (queue_of h a SlowPool)))
    (taken_in n a (taken_with h admin word (front_of h admin from) (taken_of h)))
take-balance h a admin n word FastPool well all =
    let moved = take-moves h admin word n a (queue_of h admin FastPool) (λ id w. known-waiting h admin well all id (omega (arith, w))) in
    let here = at-own (λ x. times n (queue_of h x FastPool)) a admin in
    let here2 = at-own (λ x. times n (drop 1 (queue_of h x FastPool))) a admin in
    let less = times-if (eqb a admin) n (drop 1 (queue_of h a FastPool)) (queue_of h a FastPool) in
    let other = times-if (eqb a admin) n (queue_of h a SlowPool) (queue_of h a SlowPool) in
    let same : times n (cond (eqb a admin) (queue_of h a SlowPool) (queue_of h a SlowPool)) ≡ times n (queue_of h a SlowPool) = other ∙ both (eqb a admin) (times n (queue_of h a SlowPool)) in
    let sum = take-sum (eqb a admin) (cond (is_own (opener_of h n) a) (unsent_in n (logs_of h)) 0) (times n (queue_of h a FastPool)) (times n (queue_of h a SlowPool)) (taken_in n a (taken_of h)) (times n (drop 1 (queue_of h a FastPool))) (taken_in n a (taken_with h admin word (front_of h admin FastPool) (taken_of h))) (all a n) (omega (arith, moved, here, here2)) in
    omega (arith, sum, less, same)
  where
    both : (b : Bool) (m : ℕ) → cond b m m ≡ m
    both true m = refl
    both false m = refl
take-balance h a admin n word SlowPool well all =
    let moved = take-moves h admin word n a (queue_of h admin SlowPool) (λ id w. known-waiting h admin well all id (omega (arith, w))) in
    let here = at-own (λ x. times n (queue_of h x SlowPool)) a admin in
    let here2 = at-own (λ x. times n (drop 1 (queue_of h x SlowPool))) a admin in
    let less = times-if (eqb a admin) n (drop 1 (queue_of h a SlowPool)) (queue_of h a SlowPool) in
    let other = times-if (eqb a admin) n (queue_of h a FastPool) (queue_of h a FastPool) in
    let same : times n (cond (eqb a admin) (queue_of h a FastPool) (queue_of h a FastPool)) ≡ times n (queue_of h a FastPool) = other ∙ both (eqb a admin) (times n (queue_of h a FastPool)) in
    let has : cond (is_own (opener_of h n) a) (unsent_in n (logs_of h)) 0 ≡ (times n (queue_of h a SlowPool) + times n (queue_of h a FastPool)) + taken_in n a (taken_of h) = omega (arith, all a n) in
    let sum = take-sum (eqb a admin) (cond (is_own (opener_of h n) a) (unsent_in n (logs_of h)) 0) (times n (queue_of h a SlowPool)) (times n (queue_of h a FastPool)) (taken_in n a (taken_of h)) (times n (drop 1 (queue_of h a SlowPool))) (taken_in n a (taken_with h admin word (front_of h admin SlowPool) (taken_of h))) has (omega (arith, moved, here, here2)) in
    omega (arith, sum, less, same)
  where
    both : (b : Bool) (m : ℕ) → cond b m m ≡ m
    both true m = refl
    both false m = refl

-- a positive code is not 0
pub positive-not : (code : ℤ) → is_positive code ≡ true → int_eq code (pos 0) ≡ false
positive-not code positive = by (int_eq code (pos 0)) refl
  where
    by : (b : Bool) → int_eq code (pos 0) ≡ b → b ≡ false
    by false is = refl
    by true is = let zero_ : code ≡ pos 0 = (Decides-int_eq code (pos 0)).0 is in absurd (false≢true (sym (ap is_positive zero_) ∙ positive))

-- an accepted sending is of a taken log, with a positive code
pub sent-facts : (address : Option (List ℕ)) (code : ℤ) (taken : Option TakenLog) (row : Option Log) (r : ClusterReply) → r ≡ if_positive code (sent_reply address code taken row) → is_refusal r ≡ false
    → (is_positive code ≡ true) × ((t : TakenLog) × (taken ≡ Some t))
sent-facts address code taken row r is ok = by (is_positive code) refl (sym (ap is_refusal is) ∙ ok)
  where
    open_ : (b : Bool) (taken : Option TakenLog) (log : Log) → is_refusal (cond b (taken_reply address code taken) (refused (AlreadySent log.trigger_code))) ≡ false → (t : TakenLog) × (taken ≡ Some t)
    open_ false taken log e = absurd (true≢false e)
    open_ true None log e = absurd (true≢false e)
    open_ true (Some t) log e = (t, refl)

    of-row : (row : Option Log) → is_refusal (sent_reply address code taken row) ≡ false → (t : TakenLog) × (taken ≡ Some t)
    of-row None e = absurd (true≢false e)
    of-row (Some log) e = open_ (is_unsent log) taken log e

    by : (b : Bool) → is_positive code ≡ b → is_refusal (cond b (sent_reply address code taken row) (refused BadCode)) ≡ false → (is_positive code ≡ true) × ((t : TakenLog) × (taken ≡ Some t))
    by true test e = (test, of-row row e)
    by false test e = absurd (true≢false e)

sent-balance : (h : History) (a n log : ℕ) (address : Option (List ℕ)) (code : ℤ) (t : TakenLog) → OpensWell (opening_of h) → ((b m : ℕ) → Balanced h b m) → is_positive code ≡ true → taken_log log (taken_of h) ≡ Some t
    → (unsent taken : ℕ) → unsent ≡ cond (eqb n log) 0 (unsent_in n (logs_of h)) → taken ≡ cond (eqb n log) 0 (taken_in n a (taken_of h))
    → Has (opener_of h n) a unsent (times n (queue_of h a FastPool)) (times n (queue_of h a SlowPool)) taken
sent-balance h a n log address code t well all positive found unsent taken u_is t_is = by (eqb n log) refl u_is t_is
  where
    facts : (t.log ≡ log) × (0 < taken_in log t.admin (taken_of h))
    facts = taken-found log t (taken_of h) found

    owner : (opener_of h log ≡ Some t.admin) × ((times log (queue_of h t.admin FastPool) + times log (queue_of h t.admin SlowPool)) + taken_in log t.admin (taken_of h) ≡ 1)
    owner = one-owner (opener_of h log) t.admin t.admin (unsent_in log (logs_of h)) (times log (queue_of h t.admin FastPool)) (times log (queue_of h t.admin SlowPool)) (taken_in log t.admin (taken_of h)) (few h log well) (all t.admin log) (omega (arith, facts.1))

    empty : (b : Bool) → eqb t.admin a ≡ b → times log (queue_of h a FastPool) + times log (queue_of h a SlowPool) ≡ 0
    empty true test =
        let same : t.admin ≡ a = grind (arith, nat_tests) in
        let none : times log (queue_of h t.admin FastPool) + times log (queue_of h t.admin SlowPool) ≡ 0 = omega (arith, owner.1, facts.1) in
        ap (λ x. times log (queue_of h x FastPool) + times log (queue_of h x SlowPool)) (sym same) ∙ none
    empty false test =
        let P : Option ℕ → Type 0 = λ o. cond (is_own o a) (unsent_in log (logs_of h)) 0 ≡ (times log (queue_of h a FastPool) + times log (queue_of h a SlowPool)) + taken_in log a (taken_of h) in
        let mine : cond (eqb t.admin a) (unsent_in log (logs_of h)) 0 ≡ (times log (queue_of h a FastPool) + times log (queue_of h a SlowPool)) + taken_in log a (taken_of h) = subst P owner.0 (all a log) in
        let none : cond (eqb t.admin a) (unsent_in log (logs_of h)) 0 ≡ 0 = ap (λ b. cond b (unsent_in log (logs_of h)) 0) test in
        omega (arith, mine, none)

    zero_ : (b : Bool) → unsent ≡ 0 → taken ≡ 0 → times n (queue_of h a FastPool) + times n (queue_of h a SlowPool) ≡ 0 → cond b unsent 0 ≡ (times n (queue_of h a FastPool) + times n (queue_of h a SlowPool)) + taken
    zero_ true u_is t_is none = omega (arith, none, u_is, t_is)
    zero_ false u_is t_is none = omega (arith, none, t_is)

    by : (b : Bool) → eqb n log ≡ b → unsent ≡ cond b 0 (unsent_in n (logs_of h)) → taken ≡ cond b 0 (taken_in n a (taken_of h))
        → cond (is_own (opener_of h n) a) unsent 0 ≡ (times n (queue_of h a FastPool) + times n (queue_of h a SlowPool)) + taken
    by true test u_is t_is =
        let same : n ≡ log = grind (arith, nat_tests) in
        let none : times n (queue_of h a FastPool) + times n (queue_of h a SlowPool) ≡ 0 = ap (λ x. times x (queue_of h a FastPool) + times x (queue_of h a SlowPool)) same ∙ empty (eqb t.admin a) refl in
        zero_ (is_own (opener_of h n) a) u_is t_is none
    by false test u_is t_is =
        let P : ℕ → Type 0 = λ u. cond (is_own (opener_of h n) a) u 0 ≡ (times n (queue_of h a FastPool) + times n (queue_of h a SlowPool)) + taken in
        subst P (sym u_is) (omega (arith, all a n, t_is))

pub balanced : (h : History) → OpensWell (opening_of h) → IsAnswered h → (a n : ℕ) → Balanced h a n
balanced (Begin o) well answered a n = refl
balanced (After h (ScanStep admin) r) well answered a n = opened h a admin n (shots_stepped h) (logs_of h) well refl (balanced h well answered.0 a n)
balanced (After h (Turn admin at) r) well answered a n = opened h a admin n (shots_turned h admin at) (logs_of h) well refl (balanced h well answered.0 a n)
balanced (After h (TriggerJob admin at job param) r) well answered a n = opened h a admin n (shots_asked h at job param) (logs_of h) well refl (balanced h well answered.0 a n)
balanced (After h (Callback admin at item) r) well answered a n =
    opened h a admin n (shots_called h at item.code item.log) (log_changed item.log (settled_log at item.code item.msg) (logs_of h)) well (unsent-changed n item.log (settled_log at item.code item.msg) (λ l. refl) (λ l. refl) (logs_of h)) (balanced h well answered.0 a n)
balanced (After h (Monitor admin at) r) well answered a n =
    opened h a admin n (shots_watched h at) (logs_marked (first_failed (logs_of h)) (logs_of h)) well (marked-same n (first_failed (logs_of h)) (logs_of h)) (balanced h well answered.0 a n)
balanced (After h (Lost at) r) well answered a n = rows-only h a n (logs_lost at (first_lost at (registry_of h) (logs_of h)) (logs_of h)) (lost-same n at (first_lost at (registry_of h) (logs_of h)) (logs_of h)) (balanced h well answered.0 a n)
balanced (After h (Clean at) r) well answered a n = rows-only h a n (logs_left at (logs_of h)) (unsent-left n at (logs_of h)) (balanced h well answered.0 a n)
balanced (After h (NodeStop admin) r) well answered a n =
    stopped (opener_of h n) a admin n (unsent_in n (logs_of h)) (queue_of h a FastPool) (queue_of h a SlowPool) (taken_in n a (taken_of h)) _ _ (unsent-ended (opener_of h) n admin (logs_of h)) (taken-stopped n a admin (taken_of h)) (balanced h well answered.0 a n)
balanced (After h Reopen r) well answered a n = all-stopped (opener_of h n) a (unsent_in n (logs_of h)) _ (unsent-ended_all (opener_of h) n (logs_of h))
balanced (After h (Take admin from at word) r) well answered a n = take-balance h a admin n word from well (λ b m. balanced h well answered.0 b m)
balanced (After h (Sent log address code start end) r) well answered a n =
    let facts = sent-facts address code (taken_log log (taken_of h)) (log_with log (logs_of h)) r answered.1 answered.2 in
    sent-balance h a n log address code facts.1.0 well (λ b m. balanced h well answered.0 b m) facts.0 facts.1.1 _ _
    (unsent-sent n log (sent_log address code) (λ l. refl) (λ l. positive-not code facts.0) (logs_of h)) (taken-without n a log (taken_of h))
balanced (After h _ r) well answered a n = balanced h well answered.0 a n

-- a taken log was opened by the admin that took it
pub taken_owner : (h : History) → OpensWell (opening_of h) → IsAnswered h → (log : ℕ) (t : TakenLog) → taken_log log (taken_of h) ≡ Some t → opener_of h log ≡ Some t.admin
taken_owner h well answered log t found =
    let facts = taken-found log t (taken_of h) found in
    (one-owner (opener_of h log) t.admin t.admin (unsent_in log (logs_of h)) (times log (queue_of h t.admin FastPool)) (times log (queue_of h t.admin SlowPool)) (taken_in log t.admin (taken_of h)) (few h log well) (balanced h well answered t.admin log) (omega (arith, facts.1))).0
