-- Worked rows: the replies of short lists of events.
use Rattle.std.proofs.Common.{◌≡◌, ℕ, List, [], ◌∷◌, codes, pos, refl}
use Rattle.job_values.specs.declared.run.Run.{Run}
use Rattle.job_values.specs.declared.run.CallbackItem.{CallbackItem}
use Rattle.job_events.specs.declared.executor.FinishCode.TheVariants.{Success}
use Rattle.job_events.specs.declared.executor.ExecutorReply.{ExecutorReply}
use Rattle.job_events.specs.declared.executor.ExecutorEvent.TheVariants as event
use Rattle.job_events.specs.declared.executor.ExecutorReply.TheVariants as reply
use Rattle.job_events.specs.declared.executor.ExecutorRefusal.TheVariants as refusal
use Rattle.executor_history.specs.History.{History, Opening}
use Rattle.executor_history.specs.Legal.{replies}

-- an executor with the one handler `demo`
abbrev opening : History
opening = Opening (codes "demo" ∷ []) []

abbrev run_with : List ℕ → List ℕ → List ℕ → ℕ → ℕ → Run
run_with handler glue block timeout log = record {
  job = 1;
  log = log;
  handler = handler;
  param = [];
  block = block;
  glue = glue;
  timeout = timeout;
  log_moment = 100000;
  index = 0;
  total = 1;
}

abbrev run_of : List ℕ → ℕ → Run
run_of block log = run_with (codes "demo") (codes "BEAN") block 0 log

abbrev item_of : ℕ → ℕ → List ℕ → CallbackItem
item_of log code text = record { log = log; log_moment = 100000; code = pos code; msg = text }

abbrev runs_reply : ℕ → ExecutorReply
runs_reply log = reply.Runs (record { log = log; job = 1; handler = codes "demo"; param = []; index = 0; total = 1 })

serial : replies opening (event.Run (run_of (codes "SERIAL_EXECUTION") 1) 100000 ∷ event.Run (run_of (codes "SERIAL_EXECUTION") 2) 100000 ∷ event.Poll 0 100000 ∷ event.Poll 1 100000
    ∷ event.Kill 1 ∷ event.Finish 0 100000 Success [] ∷ event.BatchTake ∷ [])
    ≡ reply.Queued 0 ∷ reply.Queued 0 ∷ runs_reply 1 ∷ reply.Refused refusal.Nothing
    ∷ reply.Killed 1 ∷ reply.Item 1 (pos 500) ∷ reply.Batch (item_of 2 500 (codes "job killed in queue.") ∷ item_of 1 500 (codes "job running, killed.") ∷ []) ∷ []
serial = refl

cover : replies opening (event.Run (run_of (codes "COVER_EARLY") 1) 100000 ∷ event.Run (run_of (codes "COVER_EARLY") 2) 100000 ∷ []) ≡ reply.Queued 0 ∷ reply.Queued 1 ∷ []
cover = refl

not_bean : replies opening (event.Run (run_with (codes "demo") (codes "GLUE_GROOVY") (codes "SERIAL_EXECUTION") 0 1) 100000 ∷ []) ≡ reply.Refused refusal.NotBean ∷ []
not_bean = refl

no_handler : replies opening (event.Run (run_with (codes "none") (codes "BEAN") (codes "SERIAL_EXECUTION") 0 1) 100000 ∷ []) ≡ reply.Refused refusal.NoHandler ∷ []
no_handler = refl

-- a delivered copy of a held run is refused, also under cover; after the acknowledgement it runs again
cover_with_a_copy : replies opening (event.Run (run_of (codes "COVER_EARLY") 1) 100002 ∷ event.Run (run_of (codes "COVER_EARLY") 1) 100003 ∷ event.Poll 0 100004 ∷ event.Run (run_of (codes "COVER_EARLY") 1) 100005
    ∷ event.Finish 0 100006 Success [] ∷ event.BatchTake ∷ event.BatchAck ∷ event.Run (run_of (codes "COVER_EARLY") 1) 100008 ∷ event.Poll 0 100009 ∷ event.Finish 0 100010 Success [] ∷ event.BatchTake ∷ [])
    ≡ reply.Queued 0 ∷ reply.Refused (refusal.Held 1) ∷ runs_reply 1 ∷ reply.Refused (refusal.Held 1)
    ∷ reply.Item 1 (pos 200) ∷ reply.Batch (item_of 1 200 [] ∷ []) ∷ reply.Done ∷ reply.Queued 0 ∷ runs_reply 1 ∷ reply.Item 1 (pos 200) ∷ reply.Batch (item_of 1 200 [] ∷ []) ∷ []
cover_with_a_copy = refl

abbrev timed : ℕ → Run
timed log = run_with (codes "demo") (codes "BEAN") (codes "DISCARD_LATER") 5 log

-- a run that lasts too long frees its lane, keeps its runner, and gives one result
discard_with_a_timeout : replies opening (event.Run (timed 1) 100000 ∷ event.Poll 3 100000 ∷ event.Run (timed 2) 100100 ∷ event.IdleBeat 1 ∷ event.Expire 104999 ∷ event.Expire 105000
    ∷ event.Run (timed 2) 105001 ∷ event.Poll 3 105002 ∷ event.Poll 4 105002 ∷ event.Finish 3 106000 Success [] ∷ event.BatchTake ∷ event.BatchTake ∷ event.Kill 1 ∷ event.Finish 4 107000 Success [] ∷ event.ReadLines 9 1 ∷ [])
    ≡ reply.Queued 0 ∷ runs_reply 1 ∷ reply.Refused refusal.Discarded ∷ reply.Refused refusal.Running ∷ reply.Expired 0 ∷ reply.Expired 1
    ∷ reply.Queued 0 ∷ reply.Refused (refusal.RunnerBusy 1) ∷ runs_reply 2 ∷ reply.NoItem 1 ∷ reply.Batch (item_of 1 502 (codes "job execute timeout.") ∷ []) ∷ reply.Refused refusal.BatchOut ∷ reply.Killed 0 ∷ reply.Item 2 (pos 500) ∷ reply.Refused refusal.NoLines ∷ []
discard_with_a_timeout = refl
