-- What the accepted entries of a history say: each word looks back from the last entry.
use Rattle.std.specs.Prelude.{ℕ, ◌+◌, Bool, not, ◌&&◌, ◌==◌, nat_lt, if◌then◌else◌, List, [], ◌∷◌, ◌++◌, Option, None, Some, map, filter, find, take, drop}
use Rattle.std.specs.List.{list_any}
use Rattle.job_values.specs.declared.run.Run.{Run}
use Rattle.job_values.specs.declared.run.CallbackItem.{CallbackItem}
use Rattle.job_events.specs.declared.executor.ExecutorEvent.TheVariants as event
use Rattle.job_lane.specs.Runs.{without_first, put_before}
use Rattle.callback_spool.specs.Batches.{batch_len}
use Rattle.executor_history.specs.declared.records.Queued.{Queued}
use Rattle.executor_history.specs.declared.records.Working.{Working}
use Rattle.executor_history.specs.History.{History, Opening, After, handlers}
use Rattle.executor_history.specs.Runs.{is_cover, queued_run, is_queued_of, is_ready, ready_front, is_on, run_on, ended_of, expired_of, put_working}
use Rattle.executor_history.specs.Items.{killed_items, expired_items, finished_items}

-- how many runs were accepted
abbrev pub run_count : History → ℕ
run_count (Opening names kept) = 0
run_count (After h (event.Run run at) r) = run_count h + 1
run_count (After h _ r) = run_count h

-- the queued runs that a new run of the same job leaves
abbrev pub left_queued : Run → List Queued → List Queued
left_queued run queued = if is_cover run then filter (λ q. not (is_queued_of run.job q)) queued else queued

abbrev pub left_working : Run → List Working → List Working
left_working run on_runners = if is_cover run then map (ended_of run.job) on_runners else on_runners

-- the runs that are on runners, and those that wait, in order of acceptance: a poll gives the ready front that was accepted first
abbrev mutual
  pub queued : History → List Queued
  queued (Opening names kept) = []
  queued (After h (event.Run run at) r) = left_queued run (queued h) ++ record { job = run.job; run = queued_run (run_count h + 1) run } ∷ []
  queued (After h (event.Kill job) r) = filter (λ q. not (is_queued_of job q)) (queued h)
  queued (After h (event.Poll runner at) r) = without_first (is_ready (on_runners h)) (queued h)
  queued (After h _ r) = queued h

  pub on_runners : History → List Working
  on_runners (Opening names kept) = []
  on_runners (After h (event.Run run at) r) = left_working run (on_runners h)
  on_runners (After h (event.Kill job) r) = map (ended_of job) (on_runners h)
  on_runners (After h (event.Poll runner at) r) = put_working runner at (ready_front (queued h) (on_runners h)) (on_runners h)
  on_runners (After h (event.Finish runner at code text) r) = without_first (is_on runner) (on_runners h)
  on_runners (After h (event.Expire at) r) = map (expired_of at) (on_runners h)
  on_runners (After h _ r) = on_runners h

-- the items of the queued runs that a new run covers
abbrev pub covered_items : Run → List Queued → List CallbackItem
covered_items run queued = if is_cover run then killed_items run.job queued else []

-- a batch is taken where none is out
abbrev pub taken_batch : List CallbackItem → List CallbackItem → List CallbackItem
taken_batch [] waiting = take (batch_len waiting) waiting
taken_batch (item ∷ items) waiting = item ∷ items

-- the items that still wait then
abbrev pub left_waiting : List CallbackItem → List CallbackItem → List CallbackItem
left_waiting [] waiting = drop (batch_len waiting) waiting
left_waiting (item ∷ items) waiting = waiting

-- the items that wait, those of the batch that is out, and those that are spooled: a failed batch goes back in front, or behind the spooled ones
abbrev mutual
  pub waiting : History → List CallbackItem
  waiting (Opening names kept) = kept
  waiting (After h event.BatchTake r) = left_waiting (batch h) (waiting h)
  waiting (After h (event.BatchFail saved) r) = if saved then waiting h else batch h ++ waiting h
  waiting (After h event.Reload r) = waiting h ++ spooled h
  waiting (After h (event.Run run at) r) = waiting h ++ covered_items run (queued h)
  waiting (After h (event.Kill job) r) = waiting h ++ killed_items job (queued h)
  waiting (After h (event.Finish runner at code text) r) = waiting h ++ finished_items code text (run_on runner (on_runners h))
  waiting (After h (event.Expire at) r) = waiting h ++ expired_items at (on_runners h)
  waiting (After h _ r) = waiting h

  pub batch : History → List CallbackItem
  batch (Opening names kept) = []
  batch (After h event.BatchTake r) = taken_batch (batch h) (waiting h)
  batch (After h (event.BatchFail saved) r) = []
  batch (After h event.BatchAck r) = []
  batch (After h _ r) = batch h

  pub spooled : History → List CallbackItem
  spooled (Opening names kept) = []
  spooled (After h (event.BatchFail saved) r) = if saved then spooled h ++ batch h else spooled h
  spooled (After h event.Reload r) = []
  spooled (After h _ r) = spooled h

-- an id put among rising ones
abbrev pub put_id : ℕ → List ℕ → List ℕ
put_id id ids = put_before (nat_lt id) id ids

-- the ids of a list, put one after another
abbrev pub put_ids : List CallbackItem → List ℕ → List ℕ
put_ids [] ids = ids
put_ids (item ∷ items) ids = put_ids items (put_id item.log ids)

-- the ids without those of these items
abbrev pub released : List CallbackItem → List ℕ → List ℕ
released [] ids = ids
released (item ∷ items) ids = released items (filter (λ id. not (item.log == id)) ids)

-- the held ids, rising: an id is held from a run of it, or from the opening, until a batch with its item is acknowledged
abbrev pub held : History → List ℕ
held (Opening names kept) = put_ids kept []
held (After h (event.Run run at) r) = put_id run.log (held h)
held (After h event.BatchAck r) = released (batch h) (held h)
held (After h _ r) = held h

abbrev pub is_among : ℕ → List ℕ → Bool
is_among id ids = list_any (λ x. id == x) ids

-- a log that is known: the moment of its last run, and its lines since they were last trimmed
pub record Known : Type 0 where
  pub log : ℕ
  pub moment : ℕ
  pub lines : List (List ℕ)

-- a run makes its log known, and keeps its lines
abbrev pub known_run : ℕ → ℕ → List Known → List Known
known_run log moment [] = record { log = log; moment = moment; lines = [] } ∷ []
known_run log moment (k ∷ ks) =
    if log == k.log then record k { moment = moment } ∷ ks else (if nat_lt log k.log then record { log = log; moment = moment; lines = [] } ∷ k ∷ ks else k ∷ known_run log moment ks)

-- a line goes behind the others of its log
abbrev pub add_line : ℕ → List ℕ → List Known → List Known
add_line log text [] = []
add_line log text (k ∷ ks) = if log == k.log then record k { lines = k.lines ++ text ∷ [] } ∷ ks else k ∷ add_line log text ks

abbrev pub line_on : Option Working → List ℕ → List Known → List Known
line_on None text known = known
line_on (Some working) text known = add_line working.run.log text known

-- some run of the log is on a runner
abbrev pub is_on_runner : ℕ → List Working → Bool
is_on_runner log on_runners = list_any (λ working. log == working.run.log) on_runners

-- some run of the log waits
abbrev pub is_in_queue : ℕ → List Queued → Bool
is_in_queue log queued = list_any (λ q. log == q.run.log) queued

-- a trim at a moment drops the logs that are neither held nor on a runner, and whose last run has an earlier moment
abbrev pub is_trimmed : ℕ → List ℕ → List Working → Known → Bool
is_trimmed at ids on_runners k = not (is_among k.log ids) && (not (is_on_runner k.log on_runners) && nat_lt k.moment at)

-- the known logs, rising
abbrev pub known : History → List Known
known (Opening names kept) = []
known (After h (event.Run run at) r) = known_run run.log run.log_moment (known h)
known (After h (event.LogLine runner text) r) = line_on (run_on runner (on_runners h)) text (known h)
known (After h (event.Trim at) r) = filter (λ k. not (is_trimmed at (held h) (on_runners h) k)) (known h)
known (After h _ r) = known h

-- what is known of a log
abbrev pub known_of : ℕ → List Known → Option Known
known_of log known = find (λ k. log == k.log) known

-- what the accepted entries of a history leave
pub record Parts : Type 0 where
  pub handlers : List (List ℕ)
  pub runs : ℕ
  pub queued : List Queued
  pub on_runners : List Working
  pub waiting : List CallbackItem
  pub batch : List CallbackItem
  pub spooled : List CallbackItem
  pub held : List ℕ
  pub known : List Known

abbrev pub parts_of : History → Parts
parts_of h = record {
  handlers = handlers h;
  runs = run_count h;
  queued = queued h;
  on_runners = on_runners h;
  waiting = waiting h;
  batch = batch h;
  spooled = spooled h;
  held = held h;
  known = known h;
}
