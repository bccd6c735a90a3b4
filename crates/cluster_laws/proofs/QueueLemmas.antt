-- What waits in a pool is what was added, without what was taken.
use Rattle.std.proofs.Common.{◌≡◌, ℕ, zero, suc, ◌+◌, ◌<◌, ◌≤◌, List, [], ◌∷◌, ◌++◌, Bool, true, false, cond, eqb, Option, Some, None, slice_get, length, drop, length-append, length-drop, refl, sym, ap, ◌∙◌, arith}
use Rattle.std.proofs.lemmas.Bool.{true≢false}
use Rattle.std.proofs.lemmas.Bool.Decides.{nat_tests}
use Rattle.job_values.specs.declared.words.PoolKind.{PoolKind}
use Rattle.job_values.specs.declared.words.PoolKind.TheVariants.{Fast as FastPool, Slow as SlowPool}
use Rattle.job_events.specs.declared.cluster.ClusterEvent.TheVariants.{NodeStop, ScanStep, Turn, TriggerJob, Take, Callback, Monitor, Reopen}
use Rattle.job_events.specs.declared.cluster.ClusterReply.{ClusterReply}
use Rattle.job_records.specs.declared.log.Log.{Log}
use Rattle.cluster_history.specs.History.{History, Begin, After, accepted, is_refusal}
use Rattle.cluster_history.specs.Nodes.{runs}
use Rattle.cluster_history.specs.Orders.{log_at, front_of}
use Rattle.cluster_history.specs.Replies.{if_running, take_reply}
use Rattle.cluster_history.specs.Firings.{Shot, shots_stepped, shots_turned, shots_asked}
use Rattle.cluster_history.specs.Openings.{added_to}
use Rattle.cluster_history.specs.Logs.{without_first, logs_of, queue_of, placed_at, shots_called, shots_watched}
use Rattle.cluster_history.specs.Runs.{IsAnswered}
use Rattle.cluster_history.proofs.Answered.{legal_answered}
use Rattle.cluster_laws.specs.Opened.{told_opened, told_in}
use Rattle.cluster_laws.specs.Queues.{added_of, one_take, takes_of, QueuesAreLeft}
use Rattle.cluster_laws.proofs.OpenedLemmas.{Tells, step-tells, turn-tells, fire-tells, call-tells, watch-tells, added-told}

-- a queue is a list without its first
record Left (takes : ℕ) (added queue : List ℕ) : Type 0 where
  pub within : takes ≤ length added
  pub is : queue ≡ drop takes added

drop-behind : (n : ℕ) (xs ys : List ℕ) → n ≤ length xs → drop n (xs ++ ys) ≡ drop n xs ++ ys
drop-behind zero xs ys h = refl
drop-behind (suc n) [] ys h = absurd (let never : ⊥ = omega arith in never)
drop-behind (suc n) (x ∷ xs) ys h = drop-behind n xs ys (omega arith)

drop-next : (n : ℕ) (xs : List ℕ) → drop 1 (drop n xs) ≡ drop (suc n) xs
drop-next zero [] = refl
drop-next zero (x ∷ xs) = refl
drop-next (suc n) [] = refl
drop-next (suc n) (x ∷ xs) = drop-next n xs

left-more : (b : Bool) (takes : ℕ) (added queue told placed : List ℕ) → (b ≡ true → placed ≡ told) → Left takes added queue → Left takes (cond b (added ++ told) added) (cond b (queue ++ placed) queue)
left-more true takes added queue told placed same left = record {
  within = omega (arith, left.within, length-append added told);
  is = ap (λ (q : List ℕ). q ++ placed) left.is ∙ ap (λ (more : List ℕ). drop takes added ++ more) (same refl) ∙ sym (drop-behind takes added told left.within);
}
left-more false takes added queue told placed same left = left

left-stopped : (b : Bool) (takes : ℕ) (added queue : List ℕ) → Left takes added queue → Left (cond b 0 takes) (cond b [] added) (cond b [] queue)
left-stopped true takes added queue left = record { within = omega arith; is = refl }
left-stopped false takes added queue left = left

-- a take of the first
some-left : (takes : ℕ) (added queue : List ℕ) → Left takes added queue → (queue ≡ [] → ⊥) → takes < length added
some-left takes added [] left some = absurd (some refl)
some-left takes added (q ∷ queue) left some =
    let many : suc (length queue) ≡ length (drop takes added) = ap length left.is in
    omega (arith, many, length-drop takes added)

left-taken : (takes : ℕ) (added queue : List ℕ) → Left takes added queue → (queue ≡ [] → ⊥) → Left (takes + 1) added (drop 1 queue)
left-taken takes added queue left some =
    let e : suc takes ≡ takes + 1 = omega arith in
    record { within = omega (arith, some-left takes added queue left some); is = ap (drop 1) left.is ∙ drop-next takes added ∙ ap (λ n. drop n added) e }

left-take : (from pool : PoolKind) (takes : ℕ) (added queue : List ℕ) → Left takes added queue → (from ≡ pool → queue ≡ [] → ⊥) → Left (one_take from pool takes) added (without_first from pool queue)
left-take FastPool FastPool takes added queue left some = left-taken takes added queue left (some refl)
left-take SlowPool SlowPool takes added queue left some = left-taken takes added queue left (some refl)
left-take FastPool SlowPool takes added queue left some = left
left-take SlowPool FastPool takes added queue left some = left

-- an accepted take finds a log
take-finds : (running : Bool) (h : History) (admin word : ℕ) (front : Option Log) (r : ClusterReply) → r ≡ if_running running admin (take_reply h admin word front) → is_refusal r ≡ false → front ≡ None → ⊥
take-finds true h admin word None r is ok none = true≢false (sym (ap is_refusal is) ∙ ok)
take-finds true h admin word (Some log) r is ok none = (cc)
take-finds false h admin word front r is ok none = true≢false (sym (ap is_refusal is) ∙ ok)

left-if : (b : Bool) (from pool : PoolKind) (takes : ℕ) (added queue : List ℕ) → Left takes added queue → (b ≡ true → from ≡ pool → queue ≡ [] → ⊥) → Left (cond b (one_take from pool takes) takes) added (cond b (without_first from pool queue) queue)
left-if true from pool takes added queue left some = left-take from pool takes added queue left (some refl)
left-if false from pool takes added queue left some = left

-- an admin opens logs
left-opened : (h : History) (a admin : ℕ) (pool : PoolKind) (shots : List Shot) (r : ClusterReply) → Tells r (placed_at h admin shots) → Left (takes_of h a pool) (added_of h a pool) (queue_of h a pool)
    → Left (takes_of h a pool) (cond (eqb a admin) (added_of h a pool ++ told_in pool (told_opened r)) (added_of h a pool)) (cond (eqb a admin) (queue_of h a pool ++ added_to pool (placed_at h a shots)) (queue_of h a pool))
left-opened h a admin pool shots r tells left =
    left-more (eqb a admin) (takes_of h a pool) (added_of h a pool) (queue_of h a pool) (told_in pool (told_opened r)) (added_to pool (placed_at h a shots))
    (λ test.
    let same : a ≡ admin = grind (arith, nat_tests) in
    ap (λ (n : ℕ). added_to pool (placed_at h n shots)) same ∙ added-told pool (placed_at h admin shots) ∙ sym (ap (told_in pool) tells)) left

queue-left : (h : History) → IsAnswered h → (a : ℕ) (pool : PoolKind) → Left (takes_of h a pool) (added_of h a pool) (queue_of h a pool)
queue-left (Begin o) answered a pool = record { within = omega arith; is = refl }
queue-left (After h (NodeStop admin) r) answered a pool = left-stopped (eqb a admin) (takes_of h a pool) (added_of h a pool) (queue_of h a pool) (queue-left h answered.0 a pool)
queue-left (After h Reopen r) answered a pool = record { within = omega arith; is = refl }
queue-left (After h (ScanStep admin) r) answered a pool = left-opened h a admin pool (shots_stepped h) r (step-tells h admin r answered) (queue-left h answered.0 a pool)
queue-left (After h (Turn admin at) r) answered a pool = left-opened h a admin pool (shots_turned h admin at) r (turn-tells h admin at r answered) (queue-left h answered.0 a pool)
queue-left (After h (TriggerJob admin at job param) r) answered a pool = left-opened h a admin pool (shots_asked h at job param) r (fire-tells h admin at job param r answered) (queue-left h answered.0 a pool)
queue-left (After h (Callback admin at item) r) answered a pool =
    left-opened h a admin pool (shots_called h at item.code item.log) r (call-tells h admin at item r answered) (queue-left h answered.0 a pool)
queue-left (After h (Monitor admin at) r) answered a pool = left-opened h a admin pool (shots_watched h at) r (watch-tells h admin at r answered) (queue-left h answered.0 a pool)
queue-left (After h (Take admin from at word) r) answered a pool =
    left-if (eqb a admin) from pool (takes_of h a pool) (added_of h a pool) (queue_of h a pool) (queue-left h answered.0 a pool)
    (λ test same none.
    let here : admin ≡ a = grind (arith, nat_tests) in
    take-finds (runs h admin) h admin word (front_of h admin from) r answered.1 answered.2
    (ap (λ (x : ℕ). front_of h x from) here ∙ ap (front_of h a) same ∙ ap (λ (q : List ℕ). log_at (logs_of h) (slice_get q 0)) none))
queue-left (After h _ r) answered a pool = queue-left h answered.0 a pool

pub queues-are_left : QueuesAreLeft
queues-are_left h legal a pool = (queue-left (accepted h) (legal_answered h legal) a pool).is
