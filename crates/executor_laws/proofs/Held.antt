-- A run is accepted where its id is not held.
use Rattle.std.proofs.Common.{◌≡◌, ℕ, Bool, true, false, List, refl, sym}
use Rattle.std.proofs.lemmas.Bool.{false≢true}
use Rattle.job_values.specs.declared.run.Run.{Run}
use Rattle.job_events.specs.declared.executor.ExecutorReply.{ExecutorReply}
use Rattle.job_events.specs.declared.executor.ExecutorEvent.TheVariants as event
use Rattle.executor_history.specs.declared.records.Queued.{Queued}
use Rattle.executor_history.specs.declared.records.Working.{Working}
use Rattle.executor_history.specs.History.{History, After, accepted, is_refusal}
use Rattle.executor_history.specs.Past.{held, is_among, parts_of}
use Rattle.executor_history.specs.Replies.{run_reply}
use Rattle.executor_history.specs.Legal.{IsLegal}

held_case : (run : Run) (names : List (List ℕ)) (runs : ℕ) (qs : List Queued) (ws : List Working) (ids : List ℕ) (b : Bool) → is_among run.log ids ≡ b → is_refusal (run_reply run names runs qs ws ids) ≡ false → b ≡ false
held_case run names runs qs ws ids true e h = let k = rw e at h in absurd (false≢true (sym k))
held_case run names runs qs ws ids false e h = refl

-- an accepted run's id is not held
pub alone : (h : History) (run : Run) (at : ℕ) (r : ExecutorReply) → IsLegal (After h (event.Run run at) r) → is_refusal r ≡ false → is_among run.log (held (accepted h)) ≡ false
alone h run at r legal e =
    let p = parts_of (accepted h) in
    held_case run p.handlers p.runs p.queued p.on_runners p.held (is_among run.log (held (accepted h))) refl (rw legal.1 at e)
