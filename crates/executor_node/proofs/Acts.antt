-- What acts of an executor's seat tell.
use Rattle.std.proofs.Common.{◌≡◌, ℕ, List, [], ◌∷◌, ◌++◌, Result, Ok, Err, IfOk, IfErr, refl, sym, ap, ◌∙◌, subst}
use Rattle.std.specs.Prelude.{OnErr}
use Rattle.turn_lock.specs.Seats.{SeatView, Adds, Sees, IsSameSeat}
use Rattle.turn_lock.specs.Gains.{Gains}
use Rattle.turn_lock.proofs.Gains.{gains_act, gains_see}
use Rattle.job_events.specs.declared.executor.ExecutorEvent.{ExecutorEvent}
use Rattle.job_events.specs.declared.executor.ExecutorReply.{ExecutorReply}
use Rattle.job_values.specs.declared.run.CallbackItem.{CallbackItem}
use Rattle.callback_spool.specs.Different.{HaveDifferentLogs}
use Rattle.executor_history.specs.History.{History, Opening, After}
use Rattle.executor_history.specs.Past.{Parts}
use Rattle.executor_history.specs.Legal.{IsLegal}
use Rattle.executor_core.specs.Parts.{StandsFor, Answers, Answered}
use Rattle.executor_node.specs.declared.machine.ExecutorOpening.{ExecutorOpening}
use Rattle.executor_node.specs.Standing.{Entry, after, history_of, IsLegalList, Stands, CanReply, opening_of}

pub after_push : (h : History) (log : List Entry) (e : Entry) → after h (log ++ e ∷ []) ≡ After (after h log) e.0 e.1
after_push h [] e = refl
after_push h (x ∷ xs) e = after_push (After h x.0 x.1) xs e

-- one more entry
pub stands_push : (o : ExecutorOpening) (log : List Entry) (before next : Parts) (e : ExecutorEvent) (r : ExecutorReply) → Stands o log before → Answers before e r next → Stands o (log ++ (e, r) ∷ []) next
stands_push o log before next e r stands answers =
    let now = answers (history_of o log) stands.0 in
    let more = after_push (history_of o []) log (e, r) in (
      subst (λ (h : History). StandsFor next h) (sym more) now.stands,
      subst (λ (h : History). IsLegal h) (sym more) (stands.1, now.reply),
    )

-- the reply of an own entry is that of its event
pub added_can : {X : Type 0} (v w : SeatView ExecutorOpening ExecutorEvent ExecutorReply X) (e : Entry) → Adds IsLegalList v e w → CanReply e.0 e.1
added_can v w e adds =
    let o = adds.legally.0 in
    let is = adds.legally.2 in
    let whole = subst (λ (log : List Entry). IsLegalList o log) adds.seen is in
    let last = subst (λ (h : History). IsLegal h) (after_push (history_of o []) adds.log e) whole in
    (history_of o adds.log, last.1)

-- a step of an executor that stands for these entries
pub stands_step : {X : Type 0} (o : ExecutorOpening) (log : List Entry) (before next : Parts) (e : ExecutorEvent) (result : Result ExecutorReply X) → IfOk result (λ r. Answers before e r next) → Stands o log before → IfOk result (λ r. Stands o (log ++ (e, r) ∷ []) next)
stands_step o log before next e (Ok r) answers stands = stands_push o log before next e r stands answers
stands_step o log before next e (Err x) answers stands = tt

-- a refused step
pub stands_same : {X : Type 0} (o : ExecutorOpening) (log : List Entry) (before next : Parts) (result : Result ExecutorReply X) → OnErr result (next ≡ before) → Stands o log before → IfErr result (λ x. Stands o log next × Unit {0})
stands_same o log before next (Ok r) same stands = tt
stands_same o log before next (Err x) same stands = (subst (λ (p : Parts). Stands o log p) (sym same) stands, tt)

-- one act: its entry, with a reply of its event
pub act_done : {X : Type 0} (v w : SeatView ExecutorOpening ExecutorEvent ExecutorReply X) (e : ExecutorEvent) (result : Result ExecutorReply X) → IsSameSeat v w → IfOk result (λ r. Adds IsLegalList v (e, r) w) → IfOk result (λ r. Gains IsLegalList v ((e, r) ∷ []) w × CanReply e r)
act_done v w e (Ok r) same adds = (gains_act IsLegalList v w (e, r) same adds, added_can v w (e, r) adds)
act_done v w e (Err x) same adds = tt

-- a refused act
pub act_refused : {X : Type 0} (v w : SeatView ExecutorOpening ExecutorEvent ExecutorReply X) (e : ExecutorEvent) (result : Result ExecutorReply X) → IsSameSeat v w → IfErr result (λ x. Sees (λ o log. IsLegalList o log × Unit {0}) v w) → OnErr result (Gains IsLegalList v [] w)
act_refused v w e (Ok r) same sees = tt
act_refused v w e (Err x) same sees = gains_see IsLegalList v w (λ o log. Unit {0}) same sees

-- a new executor stands for its opening
pub stands_fresh : (handlers : List (List ℕ)) (kept : List CallbackItem) (parts : Parts) → HaveDifferentLogs kept → StandsFor parts (Opening handlers kept) → Stands (opening_of parts) [] parts
stands_fresh handlers kept parts other is = subst (λ (p : Parts). Stands (opening_of p) [] p) (sym is) (refl, other)
