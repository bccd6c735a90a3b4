-- The items of a batch that an executor gives are results of its runs.
use Rattle.std.proofs.Common.{◌≡◌, ℕ, codes, max, not, ◌&&◌, Bool, true, false, if◌then◌else◌, List, [], ◌∷◌, Option, None, Some, refl}
use Rattle.std.specs.List.{list_any}
use Rattle.std.specs.Str.{bytes_eq}
use Rattle.job_values.specs.declared.limits.TheConstants.{FAILURE}
use Rattle.job_values.specs.declared.run.Run.{Run}
use Rattle.job_events.specs.declared.executor.ExecutorRefusal.TheVariants as refusal
use Rattle.executor_history.specs.Items.{code_of}
use Rattle.std.specs.List.{AllByRecursion as Each}
use Rattle.job_values.specs.declared.run.CallbackItem.{CallbackItem}
use Rattle.job_events.specs.declared.executor.FinishCode.{FinishCode}
use Rattle.job_events.specs.declared.executor.ExecutorEvent.{ExecutorEvent}
use Rattle.job_events.specs.declared.executor.ExecutorEvent.TheVariants as event
use Rattle.job_events.specs.declared.executor.ExecutorReply.{ExecutorReply}
use Rattle.job_events.specs.declared.executor.ExecutorReply.TheVariants as reply
use Rattle.callback_spool.specs.Batches.{batch_len}
use Rattle.executor_history.specs.declared.records.Queued.{Queued}
use Rattle.executor_history.specs.declared.records.Working.{Working}
use Rattle.executor_history.specs.History.{History, accepted}
use Rattle.executor_history.specs.Runs.{is_busy, is_discard, run_on, ready_front}
use Rattle.executor_history.specs.Past.{Parts, parts_of, Known as KnownLog, known_of, is_among}
use Rattle.executor_history.specs.Replies.{reply_in, reply_of, run_reply, is_full, is_ended, idle_reply, given_reply, poll_reply, finish_reply, line_reply, has_room, lines_reply, take_reply, batch_reply}
use Rattle.executor_laws.specs.Results.{IsOfRun, BeganEmpty, batch_told}
use Rattle.executor_laws.proofs.Each.{each-take, each-weaker}
use Rattle.executor_laws.proofs.Known.{Given, items, accepted_none}

module _ (P : CallbackItem → Type 0) where
  if_told : (b : Bool) (x y : ExecutorReply) → Each P (batch_told x) → Each P (batch_told y) → Each P (batch_told (if b then x else y))
  if_told true x y a c = a
  if_told false x y a c = c

  idle_told : (b : Bool) → Each P (batch_told (idle_reply b))
  idle_told true = tt
  idle_told false = tt

  front_told : (o : Option Queued) → Each P (batch_told (given_reply o))
  front_told None = tt
  front_told (Some q) = tt

  poll_told : (w : Option Working) (o : Option Queued) → Each P (batch_told (poll_reply w o))
  poll_told None o = front_told o
  poll_told (Some w) o = tt

  finish_told : (code : FinishCode) (w : Option Working) → Each P (batch_told (finish_reply code w))
  finish_told code None = tt
  finish_told code (Some w) = if_told w.run.given (reply.NoItem w.run.log) (reply.Item w.run.log (if w.run.ended then FAILURE else code_of code)) tt tt

  line_told : (w : Option Working) (known : List KnownLog) → Each P (batch_told (line_reply w known))
  line_told None known = tt
  line_told (Some w) known = if_told (has_room (known_of w.run.log known)) reply.Done (reply.Refused refusal.LinesFull) tt tt

  lines_told : (first : ℕ) (ended : Bool) (k : Option KnownLog) → Each P (batch_told (lines_reply first ended k))
  lines_told first ended None = tt
  lines_told first ended (Some k) = tt

  take_told : (ws bs : List CallbackItem) → Each P ws → Each P (batch_told (take_reply ws bs))
  take_told ws (b ∷ bs) all = tt
  take_told [] [] all = tt
  take_told (x ∷ ws) [] all = each-take P (batch_len (x ∷ ws)) (x ∷ ws) all

  out_told : (bs : List CallbackItem) → Each P (batch_told (batch_reply bs))
  out_told [] = tt
  out_told (b ∷ bs) = tt

  run_told : (run : Run) (names : List (List ℕ)) (runs : ℕ) (qs : List Queued) (ws : List Working) (ids : List ℕ) (a b c d f : Bool) → is_among run.log ids ≡ a → not (bytes_eq run.glue (codes "BEAN")) ≡ b → not (list_any (bytes_eq run.handler) names) ≡ c
      → (is_discard run && is_busy run.job qs ws) ≡ d → is_full runs ids ≡ f → Each P (batch_told (run_reply run names runs qs ws ids))
  run_told run names runs qs ws ids true b c d f ea eb ec ed ef = rw ea tt
  run_told run names runs qs ws ids false true c d f ea eb ec ed ef = rw (ea, eb) tt
  run_told run names runs qs ws ids false false true d f ea eb ec ed ef = rw (ea, eb, ec) tt
  run_told run names runs qs ws ids false false false true f ea eb ec ed ef = rw (ea, eb, ec, ed) tt
  run_told run names runs qs ws ids false false false false true ea eb ec ed ef = rw (ea, eb, ec, ed, ef) tt
  run_told run names runs qs ws ids false false false false false ea eb ec ed ef = rw (ea, eb, ec, ed, ef) tt

  pub reply_told : (p : Parts) (e : ExecutorEvent) → Each P p.waiting → Each P (batch_told (reply_in p e))
  reply_told p (event.Run run at) all = run_told run p.handlers p.runs p.queued p.on_runners p.held _ _ _ _ _ refl refl refl refl refl
  reply_told p event.Beat all = tt
  reply_told p (event.IdleBeat job) all = idle_told (is_busy job p.queued p.on_runners)
  reply_told p (event.Kill job) all = tt
  reply_told p (event.Poll runner at) all = poll_told (run_on runner p.on_runners) (ready_front p.queued p.on_runners)
  reply_told p (event.Finish runner at code text) all = finish_told code (run_on runner p.on_runners)
  reply_told p (event.Expire at) all = tt
  reply_told p (event.LogLine runner text) all = line_told (run_on runner p.on_runners) p.known
  reply_told p (event.ReadLines log first) all = lines_told (max first 1) (is_ended log p.queued p.on_runners) (known_of log p.known)
  reply_told p (event.Trim at) all = tt
  reply_told p event.BatchTake all = take_told p.waiting p.batch all
  reply_told p event.BatchAck all = out_told p.batch
  reply_told p (event.BatchFail saved) all = out_told p.batch
  reply_told p event.Reload all = tt
  reply_told p event.Kept all = tt

given_of : (h : History) (item : CallbackItem) → Given h item → IsOfRun h item
given_of h item g = record { number = g.number; run = g.known.run; is_run = g.known.is_run; of_log = g.known.of_log; is_given = g.result }

-- each item of a batch is one that a run was given
pub batch_given : (h : History) (e : ExecutorEvent) → BeganEmpty h → Each (IsOfRun (accepted h)) (batch_told (reply_of h e))
batch_given h e none =
    each-weaker (Given (accepted h)) (IsOfRun (accepted h)) (given_of (accepted h)) (batch_told (reply_of h e)) (reply_told (Given (accepted h)) (parts_of (accepted h)) e (items (accepted h) (accepted_none h none)).waits)
