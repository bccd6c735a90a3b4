-- The reply of an event: the first refusal that applies, else the answer.
use Rattle.std.specs.Prelude.{ℕ, ◌+◌, ◌-◌, ◌^◌, Bool, true, false, not, ◌&&◌, ◌||◌, ◌==◌, nat_lt, nat_le, codes, if◌then◌else◌, List, [], ◌∷◌, ◌++◌, Option, None, Some, take, drop, length, max, count_by}
use Rattle.std.specs.List.{list_any}
use Rattle.std.specs.Str.{bytes_eq}
use Rattle.job_values.specs.declared.limits.TheConstants.{FAILURE, HELD_IDS, LOG_LINES, LINES_READ}
use Rattle.job_values.specs.declared.run.Run.{Run}
use Rattle.job_values.specs.declared.run.CallbackItem.{CallbackItem}
use Rattle.job_events.specs.declared.executor.FinishCode.{FinishCode}
use Rattle.job_events.specs.declared.executor.ExecutorEvent.{ExecutorEvent}
use Rattle.job_events.specs.declared.executor.ExecutorEvent.TheVariants as event
use Rattle.job_events.specs.declared.executor.ExecutorReply.{ExecutorReply}
use Rattle.job_events.specs.declared.executor.ExecutorReply.TheVariants as reply
use Rattle.job_events.specs.declared.executor.ExecutorRefusal.TheVariants as refusal
use Rattle.callback_spool.specs.Batches.{batch_len}
use Rattle.executor_history.specs.declared.records.Queued.{Queued}
use Rattle.executor_history.specs.declared.records.Working.{Working}
use Rattle.executor_history.specs.History.{History, accepted}
use Rattle.executor_history.specs.Runs.{is_cover, is_discard, is_queued_of, is_busy, ready_front, run_on, is_late}
use Rattle.executor_history.specs.Items.{code_of}
use Rattle.executor_history.specs.Past.{Parts, parts_of, is_among, Known, known_of, is_on_runner, is_in_queue, is_trimmed}

-- how many queued runs of a job there are
abbrev pub queued_of : ℕ → List Queued → ℕ
queued_of job queued = count_by (is_queued_of job) queued

-- no more runs are taken: as many ids are held as may be, or the number of runs is at its end
abbrev pub is_full : ℕ → List ℕ → Bool
is_full runs ids = nat_le HELD_IDS (length ids) || runs == 2 ^ 64 - 1

abbrev pub idle_reply : Bool → ExecutorReply
idle_reply true = reply.Refused refusal.Running
idle_reply false = reply.Done

-- no run of the log waits or is on a runner
abbrev pub is_ended : ℕ → List Queued → List Working → Bool
is_ended log queued on_runners = not (is_in_queue log queued || is_on_runner log on_runners)

abbrev pub run_reply : Run → List (List ℕ) → ℕ → List Queued → List Working → List ℕ → ExecutorReply
run_reply run names runs queued on_runners ids =
    if is_among run.log ids then reply.Refused (refusal.Held run.log) else
    (if not (bytes_eq run.glue (codes "BEAN")) then reply.Refused refusal.NotBean else
    (if not (list_any (bytes_eq run.handler) names) then reply.Refused refusal.NoHandler else
    (if is_discard run && is_busy run.job queued on_runners then reply.Refused refusal.Discarded else
    (if is_full runs ids then reply.Refused refusal.HeldFull else
    reply.Queued (if is_cover run then queued_of run.job queued else 0)))))

-- a run is given to a free runner
abbrev pub given_reply : Option Queued → ExecutorReply
given_reply None = reply.Refused refusal.Nothing
given_reply (Some q) = reply.Runs (record { log = q.run.log; job = q.job; handler = q.run.handler; param = q.run.param; index = q.run.index; total = q.run.total })

abbrev pub poll_reply : Option Working → Option Queued → ExecutorReply
poll_reply None front = given_reply front
poll_reply (Some working) front = reply.Refused (refusal.RunnerBusy working.run.log)

abbrev pub finish_reply : FinishCode → Option Working → ExecutorReply
finish_reply code None = reply.Refused refusal.NotRunning
finish_reply code (Some working) =
    if working.run.given then reply.NoItem working.run.log else reply.Item working.run.log (if working.run.ended then FAILURE else code_of code)

abbrev pub has_room : Option Known → Bool
has_room None = true
has_room (Some k) = nat_lt (length k.lines) LOG_LINES

-- a log has a most number of lines
abbrev pub line_reply : Option Working → List Known → ExecutorReply
line_reply None known = reply.Refused refusal.NotRunning
line_reply (Some working) known = if has_room (known_of working.run.log known) then reply.Done else reply.Refused refusal.LinesFull

-- the lines from a number on, no more than are read at once
abbrev pub lines_from : ℕ → List (List ℕ) → List (List ℕ)
lines_from first lines = take LINES_READ (drop (first - 1) lines)

abbrev pub lines_reply : ℕ → Bool → Option Known → ExecutorReply
lines_reply first is_end None = reply.Refused refusal.NoLines
lines_reply first is_end (Some k) =
    reply.Lines (record { from = first; to = (first - 1) + length (lines_from first k.lines); is_end = is_end; lines = lines_from first k.lines })

abbrev pub take_reply : List CallbackItem → List CallbackItem → ExecutorReply
take_reply waiting (item ∷ items) = reply.Refused refusal.BatchOut
take_reply [] [] = reply.Refused refusal.Nothing
take_reply (item ∷ items) [] = reply.Batch (take (batch_len (item ∷ items)) (item ∷ items))

abbrev pub batch_reply : List CallbackItem → ExecutorReply
batch_reply [] = reply.Refused refusal.NoBatch
batch_reply (item ∷ items) = reply.Done

-- the reply of an event, by what the accepted entries left
abbrev pub reply_in : Parts → ExecutorEvent → ExecutorReply
reply_in p (event.Run run at) = run_reply run p.handlers p.runs p.queued p.on_runners p.held
reply_in p event.Beat = reply.Done
reply_in p (event.IdleBeat job) = idle_reply (is_busy job p.queued p.on_runners)
reply_in p (event.Kill job) = reply.Killed (queued_of job p.queued)
reply_in p (event.Poll runner at) = poll_reply (run_on runner p.on_runners) (ready_front p.queued p.on_runners)
reply_in p (event.Finish runner at code text) = finish_reply code (run_on runner p.on_runners)
reply_in p (event.Expire at) = reply.Expired (count_by (is_late at) p.on_runners)
reply_in p (event.LogLine runner text) = line_reply (run_on runner p.on_runners) p.known
reply_in p (event.ReadLines log first) = lines_reply (max first 1) (is_ended log p.queued p.on_runners) (known_of log p.known)
reply_in p (event.Trim at) = reply.Trimmed (count_by (is_trimmed at p.held p.on_runners) p.known)
reply_in p event.BatchTake = take_reply p.waiting p.batch
reply_in p event.BatchAck = batch_reply p.batch
reply_in p (event.BatchFail saved) = batch_reply p.batch
reply_in p event.Reload = reply.Reloaded (length p.spooled)
reply_in p event.Kept = reply.Kept (p.batch ++ p.spooled ++ p.waiting)

-- the reply of an event after a history
abbrev pub reply_of : History → ExecutorEvent → ExecutorReply
reply_of h e = reply_in (parts_of (accepted h)) e
