-- What prepare and commit make of an event is what its history defines.
use Rattle.std.proofs.Common.{◌≡◌, ℕ, Bool, true, false, if◌then◌else◌, List, Option, None, Some, refl, sym, subst, arith}
use Rattle.std.proofs.lemmas.Bool.{false≢true}
use Rattle.job_values.specs.declared.run.Run.{Run}
use Rattle.executor_history.specs.declared.records.Queued.{Queued}
use Rattle.job_events.specs.declared.executor.ExecutorEvent.{ExecutorEvent}
use Rattle.job_events.specs.declared.executor.ExecutorEvent.TheVariants as event
use Rattle.job_events.specs.declared.executor.ExecutorReply.{ExecutorReply}
use Rattle.executor_history.specs.declared.records.Working.{Working}
use Rattle.executor_history.specs.History.{History, After, accepted, is_refusal, with_accepted}
use Rattle.executor_history.specs.Runs.{run_on, ready_front}
use Rattle.executor_history.specs.Past.{Parts, parts_of, line_on, on_runners, is_among}
use Rattle.executor_history.specs.Replies.{reply_in, run_reply, poll_reply}
use Rattle.executor_core.specs.declared.change.Change.{Change}
use Rattle.executor_core.specs.declared.change.Change.TheVariants as change
use Rattle.executor_core.specs.Parts.{line_change, change_by, change_of, parts_after, Follows, Answered, Answers}

line_after : (p : Parts) (o : Option Working) (text : List ℕ) → parts_after p (line_change o text) ≡ record p { known = line_on o text p.known }
line_after p None text = refl
line_after p (Some working) text = refl

-- an accepted event
changed : (h : History) (e : ExecutorEvent) (r : ExecutorReply) → parts_after (parts_of h) (change_by (parts_of h) e) ≡ parts_of (After h e r)
changed h (event.Run run at) r = refl
changed h event.Beat r = refl
changed h (event.IdleBeat job) r = refl
changed h (event.Kill job) r = refl
changed h (event.Poll runner at) r = refl
changed h (event.Finish runner at code text) r = refl
changed h (event.Expire at) r = refl
changed h (event.LogLine runner text) r = line_after (parts_of h) (run_on runner (on_runners h)) text
changed h (event.ReadLines log first) r = refl
changed h (event.Trim at) r = refl
changed h event.BatchTake r = refl
changed h event.BatchAck r = refl
changed h (event.BatchFail saved) r = refl
changed h event.Reload r = refl
changed h event.Kept r = refl

-- a refused one leaves all as it was
left : (h : History) (e : ExecutorEvent) (r : ExecutorReply) (b : Bool) → parts_after (parts_of h) (if b then change.Nothing else change_by (parts_of h) e) ≡ parts_of (with_accepted b h e r)
left h e r true = refl
left h e r false = changed h e r

answered_at : (h : History) (e : ExecutorEvent) → Answered h e (reply_in (parts_of (accepted h)) e) (parts_after (parts_of (accepted h)) (change_of (parts_of (accepted h)) e))
answered_at h e = record {
  reply = refl;
  stands = left (accepted h) e (reply_in (parts_of (accepted h)) e) (is_refusal (reply_in (parts_of (accepted h)) e));
}

answered_by : (p : Parts) (e : ExecutorEvent) → Answers p e (reply_in p e) (parts_after p (change_of p e))
answered_by p e h eq =
    let P : Parts → Type 0 = λ q. Answered h e (reply_in q e) (parts_after q (change_of q e)) in
    subst P (sym eq) (answered_at h e)

-- the reply and the change of an event answer it
pub answered : (p : Parts) (e : ExecutorEvent) (r : ExecutorReply) (c : Change) → r ≡ reply_in p e → c ≡ change_of p e → Answers p e r (parts_after p c)
answered p e r c is makes = rw (is, makes) (answered_by p e)

-- ---- a change that is made follows what came before
refused : (run : Run) (names : List (List ℕ)) (runs : ℕ) (qs : List Queued) (ws : List Working) (ids : List ℕ) (b : Bool) → is_among run.log ids ≡ b → is_refusal (run_reply run names runs qs ws ids) ≡ false → b ≡ false
refused run names runs qs ws ids true e h = let k = rw e at h in absurd (false≢true (sym k))
refused run names runs qs ws ids false e h = refl

line_follows : (p : Parts) (o : Option Working) (text : List ℕ) → Follows p (line_change o text)
line_follows p None text = tt
line_follows p (Some working) text = tt

free : (o : Option Working) (front : Option Queued) → is_refusal (poll_reply o front) ≡ false → o ≡ None
free None front h = refl
free (Some w) front h = absurd (false≢true (sym h))

follows_by : (p : Parts) (e : ExecutorEvent) → is_refusal (reply_in p e) ≡ false → Follows p (change_by p e)
follows_by p (event.Run run at) h = (omega arith, refused run p.handlers p.runs p.queued p.on_runners p.held (is_among run.log p.held) refl h)
follows_by p event.Beat h = tt
follows_by p (event.IdleBeat job) h = tt
follows_by p (event.Kill job) h = tt
follows_by p (event.Poll runner at) h = free (run_on runner p.on_runners) (ready_front p.queued p.on_runners) h
follows_by p (event.Finish runner at code text) h = tt
follows_by p (event.Expire at) h = tt
follows_by p (event.LogLine runner text) h = line_follows p (run_on runner p.on_runners) text
follows_by p (event.ReadLines log first) h = tt
follows_by p (event.Trim at) h = tt
follows_by p event.BatchTake h = tt
follows_by p event.BatchAck h = tt
follows_by p (event.BatchFail saved) h = tt
follows_by p event.Reload h = tt
follows_by p event.Kept h = tt

follows_if : (p : Parts) (e : ExecutorEvent) (b : Bool) → is_refusal (reply_in p e) ≡ b → Follows p (if b then change.Nothing else change_by p e)
follows_if p e true h = tt
follows_if p e false h = follows_by p e h

pub follows : (p : Parts) (e : ExecutorEvent) (c : Change) → c ≡ change_of p e → Follows p c
follows p e c is = rw is (follows_if p e (is_refusal (reply_in p e)) refl)
