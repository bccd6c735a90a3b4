-- What the entries of a history say of one log: whether its id is held, and what is known of it.
use Rattle.std.specs.Prelude.{ℕ, Bool, true, false, not, ◌&&◌, ◌==◌, nat_lt, if◌then◌else◌, List, [], ◌∷◌, ◌++◌, Option, None, Some}
use Rattle.job_events.specs.declared.executor.ExecutorEvent.TheVariants as event
use Rattle.callback_spool.specs.Different.{names}
use Rattle.executor_history.specs.declared.records.Working.{Working}
use Rattle.executor_history.specs.History.{History, Opening, After}
use Rattle.executor_history.specs.Runs.{run_on}
use Rattle.executor_history.specs.Past.{Known, on_runners, batch, is_on_runner}

-- an id is held from a run of it, or from the opening where an item of it was kept, until a batch with an item of it is acknowledged
abbrev pub is_held : ℕ → History → Bool
is_held log (Opening handlers kept) = names log kept
is_held log (After h (event.Run run at) r) = if log == run.log then true else is_held log h
is_held log (After h event.BatchAck r) = if names log (batch h) then false else is_held log h
is_held log (After h _ r) = is_held log h

-- the lines so far, if the log is known
abbrev pub lines_in : Option Known → List (List ℕ)
lines_in None = []
lines_in (Some k) = k.lines

abbrev pub with_line : List ℕ → Option Known → Option Known
with_line text None = None
with_line text (Some k) = Some (record k { lines = k.lines ++ text ∷ [] })

-- the run is one of this log
abbrev pub is_of_log : ℕ → Option Working → Bool
is_of_log log None = false
is_of_log log (Some w) = log == w.run.log

-- a Trim drops a log that is neither held nor on a runner, and whose last run has an earlier moment
abbrev pub left_by : ℕ → Bool → Bool → Option Known → Option Known
left_by at held running None = None
left_by at held running (Some k) = if not held && (not running && nat_lt k.moment at) then None else Some k

-- what is known of a log: a run makes it known, with the moment of its last run; its lines go on until a Trim drops it
abbrev pub known_at : ℕ → History → Option Known
known_at log (Opening handlers kept) = None
known_at log (After h (event.Run run at) r) = if log == run.log then Some (record { log = log; moment = run.log_moment; lines = lines_in (known_at log h) }) else known_at log h
known_at log (After h (event.LogLine runner text) r) = if is_of_log log (run_on runner (on_runners h)) then with_line text (known_at log h) else known_at log h
known_at log (After h (event.Trim at) r) = left_by at (is_held log h) (is_on_runner log (on_runners h)) (known_at log h)
known_at log (After h _ r) = known_at log h
