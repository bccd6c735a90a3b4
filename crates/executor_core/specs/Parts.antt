-- What an executor is seen as, and what its changes leave.
use Rattle.std.specs.Prelude.{◌≡◌, ◌<◌, ◌≤◌, ℕ, ◌+◌, false, not, if◌then◌else◌, List, [], ◌∷◌, ◌++◌, Option, None, Some, length, map, filter}
use Rattle.job_events.specs.declared.executor.ExecutorEvent.{ExecutorEvent}
use Rattle.job_events.specs.declared.executor.ExecutorEvent.TheVariants as event
use Rattle.job_events.specs.declared.executor.ExecutorReply.{ExecutorReply}
use Rattle.job_lane.specs.Runs.{without_first}
use Rattle.executor_history.specs.declared.records.Working.{Working}
use Rattle.executor_history.specs.History.{History, After, accepted, is_refusal}
use Rattle.executor_history.specs.Runs.{is_cover, queued_run, is_queued_of, is_ready, ready_front, is_on, run_on, ended_of, expired_of, put_working}
use Rattle.executor_history.specs.Items.{killed_items, expired_items, finished_items}
use Rattle.executor_history.specs.Past.{Parts, parts_of, covered_items, taken_batch, left_waiting, put_id, is_among, released, known_run, add_line, is_trimmed}
use Rattle.executor_history.specs.Replies.{reply_in, reply_of}
use Rattle.run_queues.specs.Order.{QueuesView, HasRoom}
use Rattle.executor_core.specs.declared.change.Change.{Change}
use Rattle.executor_core.specs.declared.change.Change.TheVariants as change
use Rattle.executor_core.specs.Rows.{LineRoom}

-- how much more goes into each list without memory
pub record Room : Type 0 where
  pub held : ℕ
  pub known : ℕ
  pub callbacks : ℕ

-- an executor: its parts, the queues, how many more lines of each known log go in without memory, and its room
pub record Whole : Type 0 where
  pub parts : Parts
  pub queues : QueuesView
  pub lines : List (ℕ × ℕ)
  pub room : Room

abbrev pub line_change : Option Working → List ℕ → Change
line_change None text = change.Nothing
line_change (Some working) text = change.Line working.run.log text

-- the change that an event makes where it is accepted
abbrev pub change_by : Parts → ExecutorEvent → Change
change_by p (event.Run run at) = change.Queue (record { job = run.job; run = queued_run (p.runs + 1) run }) (is_cover run) (covered_items run p.queued)
change_by p (event.Kill job) = change.Kill job (killed_items job p.queued)
change_by p (event.Poll runner at) = change.Poll runner at
change_by p (event.Finish runner at code text) = change.Finish runner (finished_items code text (run_on runner p.on_runners))
change_by p (event.Expire at) = change.Expire at (expired_items at p.on_runners)
change_by p (event.LogLine runner text) = line_change (run_on runner p.on_runners) text
change_by p (event.Trim at) = change.Trim at
change_by p event.BatchTake = change.Take
change_by p event.BatchAck = change.Ack
change_by p (event.BatchFail saved) = change.Fail saved
change_by p event.Reload = change.Reload
change_by p _ = change.Nothing

-- a refused event changes nothing
abbrev pub change_of : Parts → ExecutorEvent → Change
change_of p e = if is_refusal (reply_in p e) then change.Nothing else change_by p e

-- what a change leaves
abbrev pub parts_after : Parts → Change → Parts
parts_after p change.Nothing = p
parts_after p (change.Queue q cover items) = record p {
  runs = q.run.number;
  queued = (if cover then filter (λ other. not (is_queued_of q.job other)) p.queued else p.queued) ++ q ∷ [];
  on_runners = if cover then map (ended_of q.job) p.on_runners else p.on_runners;
  waiting = p.waiting ++ items;
  held = put_id q.run.log p.held;
  known = known_run q.run.log q.run.log_moment p.known;
}
parts_after p (change.Kill job items) = record p {
  queued = filter (λ q. not (is_queued_of job q)) p.queued;
  on_runners = map (ended_of job) p.on_runners;
  waiting = p.waiting ++ items;
}
parts_after p (change.Poll runner at) = record p {
  queued = without_first (is_ready p.on_runners) p.queued;
  on_runners = put_working runner at (ready_front p.queued p.on_runners) p.on_runners;
}
parts_after p (change.Finish runner items) = record p {
  on_runners = without_first (is_on runner) p.on_runners;
  waiting = p.waiting ++ items;
}
parts_after p (change.Expire at items) = record p {
  on_runners = map (expired_of at) p.on_runners;
  waiting = p.waiting ++ items;
}
parts_after p (change.Line log text) = record p { known = add_line log text p.known }
parts_after p (change.Trim at) = record p { known = filter (λ k. not (is_trimmed at p.held p.on_runners k)) p.known }
parts_after p change.Take = record p { waiting = left_waiting p.batch p.waiting; batch = taken_batch p.batch p.waiting }
parts_after p change.Ack = record p { batch = []; held = released p.batch p.held }
parts_after p (change.Fail saved) = record p {
  waiting = if saved then p.waiting else p.batch ++ p.waiting;
  batch = [];
  spooled = if saved then p.spooled ++ p.batch else p.spooled;
}
parts_after p change.Reload = record p { waiting = p.waiting ++ p.spooled; spooled = [] }

-- a new run has a later number than those before it, and its id is not held; a run is given to a free runner
abbrev pub Follows : Parts → Change → Type 0
Follows p (change.Queue q cover items) = (p.runs < q.run.number) × (is_among q.run.log p.held ≡ false)
Follows p (change.Poll runner at) = run_on runner p.on_runners ≡ None
Follows p _ = Unit {0}

-- an event that is ready to be committed: its reply and its change
pub record Prepared : Type 0 where
  pub reply : ExecutorReply
  pub change : Change

-- there is room for all that a change adds
abbrev pub HasRoomFor : Whole → Change → Type 0
HasRoomFor w (change.Queue q cover items) = HasRoom q.job w.queues × (1 ≤ w.room.held) × (1 ≤ w.room.known) × (length items ≤ w.room.callbacks)
HasRoomFor w (change.Kill job items) = length items ≤ w.room.callbacks
HasRoomFor w (change.Poll runner at) = 1 ≤ w.queues.runners
HasRoomFor w (change.Finish runner items) = length items ≤ w.room.callbacks
HasRoomFor w (change.Expire at items) = length items ≤ w.room.callbacks
HasRoomFor w (change.Line log text) = LineRoom log w.lines
HasRoomFor w _ = Unit {0}

-- a change can be made now
pub record CanCommit (w : Whole) (c : Change) : Type 0 where
  pub follows : Follows w.parts c
  pub room : HasRoomFor w c

-- an executor stands for a history where its parts are those that the history leaves
abbrev pub StandsFor : Parts → History → Type 0
StandsFor p h = p ≡ parts_of (accepted h)

-- an event answered: for each history that it stood for, the reply is the defined one, and it stands for the history with that entry
pub record Answered (h : History) (e : ExecutorEvent) (r : ExecutorReply) (after : Parts) : Type 0 where
  pub reply : r ≡ reply_of h e
  pub stands : StandsFor after (After h e r)

abbrev pub Answers : Parts → ExecutorEvent → ExecutorReply → Parts → Type 0
Answers before e r after = (h : History) → StandsFor before h → Answered h e r after
