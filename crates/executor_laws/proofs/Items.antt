-- The items that an executor keeps: those that were given and not acknowledged.
use Rattle.std.proofs.Common.{◌≡◌, ℕ, zero, suc, ◌+◌, Bool, true, false, if◌then◌else◌, List, [], ◌∷◌, ◌++◌, filter, take, drop, refl, ap, arith}
use Rattle.job_values.specs.declared.run.CallbackItem.{CallbackItem}
use Rattle.job_events.specs.declared.executor.ExecutorEvent.{ExecutorEvent}
use Rattle.job_events.specs.declared.executor.ExecutorEvent.TheVariants as event
use Rattle.job_events.specs.declared.executor.ExecutorReply.{ExecutorReply}
use Rattle.callback_spool.specs.Batches.{batch_len}
use Rattle.executor_history.specs.History.{History, After}
use Rattle.executor_history.specs.Runs.{is_cover, is_late, run_on}
use Rattle.executor_history.specs.Items.{killed_items, expired_items, finished_items, by_number}
use Rattle.executor_history.specs.Past.{queued, on_runners, covered_items, waiting, batch, spooled, taken_batch, left_waiting}
use Rattle.executor_laws.specs.Given.{times, RunItem, expired_working, gives, items_of, kept_items, acknowledged}
use Rattle.executor_laws.proofs.Each.{map-map}
use Rattle.executor_laws.proofs.Known.{killed_same, covered_same, finished_same}
use Rattle.executor_laws.proofs.Once.{times-append}

times-parts : (p : CallbackItem → Bool) (n : ℕ) (xs : List CallbackItem) → times p (take n xs) + times p (drop n xs) ≡ times p xs
times-parts p zero xs = omega arith
times-parts p (suc n) [] = refl
times-parts p (suc n) (x ∷ xs) = let h = times-parts p n xs in omega (arith, h)

taken : (p : CallbackItem → Bool) (bs ws : List CallbackItem) → times p (taken_batch bs ws) + times p (left_waiting bs ws) ≡ times p bs + times p ws
taken p [] ws = let h = times-parts p (batch_len ws) ws in omega (arith, h)
taken p (b ∷ bs) ws = refl

failed : (p : CallbackItem → Bool) (saved : Bool) (bs ss ws : List CallbackItem) → times p (if saved then ss ++ bs else ss) + times p (if saved then ws else bs ++ ws) ≡ times p bs + (times p ss + times p ws)
failed p true bs ss ws = let a = times-append p ss bs in omega (arith, a)
failed p false bs ss ws = let a = times-append p bs ws in omega (arith, a)

-- the items of an event are those that it puts behind the waiting ones
more : (p : CallbackItem → Bool) (bs ss ws told new : List CallbackItem) → told ≡ new → times p (bs ++ ss ++ (ws ++ new)) + 0 ≡ times p (bs ++ ss ++ ws) + times p told
more p bs ss ws told new e =
    let a = times-append p (bs ++ ss) (ws ++ new) in
    let b = times-append p ws new in
    let c = times-append p (bs ++ ss) ws in
    let d : times p told ≡ times p new = ap (times p) e in
    omega (arith, a, b, c, d)

all_of : (p : CallbackItem → Bool) (bs ss ws : List CallbackItem) → times p (bs ++ ss ++ ws) ≡ times p bs + (times p ss + times p ws)
all_of p bs ss ws = let a = times-append p (bs ++ ss) ws in let b = times-append p bs ss in omega (arith, a, b)

pub conserved : (h : History) (e : ExecutorEvent) (r : ExecutorReply) (p : CallbackItem → Bool) → times p (kept_items (After h e r)) + times p (acknowledged h e) ≡ times p (kept_items h) + times p (items_of (gives h e))
conserved h (event.Run run at) r p = more p (batch h) (spooled h) (waiting h) _ (covered_items run (queued h)) (covered_same run (queued h) (is_cover run) refl)
conserved h (event.Kill job) r p = more p (batch h) (spooled h) (waiting h) _ (killed_items job (queued h)) (killed_same job (queued h))
conserved h (event.Finish runner at code text) r p = more p (batch h) (spooled h) (waiting h) _ (finished_items code text (run_on runner (on_runners h))) (finished_same code text (run_on runner (on_runners h)))
conserved h (event.Expire at) r p = more p (batch h) (spooled h) (waiting h) _ (expired_items at (on_runners h)) (map-map (λ (x : RunItem). x.item) expired_working (by_number (filter (is_late at) (on_runners h))))
conserved h event.BatchTake r p =
    let a = all_of p (taken_batch (batch h) (waiting h)) (spooled h) (left_waiting (batch h) (waiting h)) in
    let b = all_of p (batch h) (spooled h) (waiting h) in
    let c = taken p (batch h) (waiting h) in
    omega (arith, a, b, c)
conserved h event.BatchAck r p =
    let a = all_of p [] (spooled h) (waiting h) in
    let b = all_of p (batch h) (spooled h) (waiting h) in
    omega (arith, a, b)
conserved h (event.BatchFail saved) r p =
    let a = all_of p [] (if saved then spooled h ++ batch h else spooled h) (if saved then waiting h else batch h ++ waiting h) in
    let b = all_of p (batch h) (spooled h) (waiting h) in
    let c = failed p saved (batch h) (spooled h) (waiting h) in
    omega (arith, a, b, c)
conserved h event.Reload r p =
    let a = all_of p (batch h) [] (waiting h ++ spooled h) in
    let b = all_of p (batch h) (spooled h) (waiting h) in
    let c = times-append p (waiting h) (spooled h) in
    omega (arith, a, b, c)
conserved h e r p = refl
