-- The lines and the result of a run, one entry behind another.
use Rattle.std.proofs.Common.{◌≡◌, ℕ, zero, suc, ◌+◌, ◌<◌, ◌≤◌, List, [], ◌∷◌, ◌++◌, length, take, get_or, Option, Result, Ok, Err, refl, sym, ap, ◌∙◌, subst, append-nil, add-one, arith}
use Rattle.std.specs.Prelude.{IsErr}
use Rattle.std.specs.Io.KnownBytes.{Appends}
use Rattle.std.proofs.KnownBytes.{Appends-nil, Appends-trans}
use Rattle.job_values.specs.declared.no_memory.NoMemory.{NoMemory}
use Rattle.job_events.specs.declared.executor.FinishCode.{FinishCode}
use Rattle.job_events.specs.declared.executor.ExecutorReply.{ExecutorReply}
use Rattle.job_events.specs.declared.executor.ExecutorEvent.TheVariants as event
use Rattle.turn_lock.specs.Gains.{Gains}
use Rattle.turn_lock.proofs.Gains.{gains_none, gains_then}
use Rattle.executor_node.specs.Standing.{Entry, IsLegalList}
use Rattle.executor_node.specs.Exchanges.{Viewed}
use Rattle.executor_calls.specs.declared.handler.RunInput.{RunInput}
use Rattle.executor_calls.specs.declared.handler.HandlerResult.{HandlerResult}
use Rattle.executor_calls.specs.declared.run.RunDone.{RunDone}
use Rattle.executor_calls.specs.declared.run.RunDone.TheVariants.{Idle}
use Rattle.executor_calls.specs.declared.run.Polled.{Polled}
use Rattle.executor_calls.specs.declared.run.Polled.TheVariants.{Nothing}
use Rattle.executor_calls.specs.Gaining.{Gained, GainedBy}
use Rattle.executor_calls.specs.Runs.{AreLines, LineGave, LinesGave, FinishGave, AfterLines, StoredGave, AfterPoll, RunGave, polled_of}

lines_append : (runner : ℕ) (xs ys : List (List ℕ)) (es fs : List Entry) → AreLines runner xs es → AreLines runner ys fs → AreLines runner (xs ++ ys) (es ++ fs)
lines_append runner [] ys [] fs are more = more
lines_append runner [] ys (e ∷ es) fs are more = absurd are
lines_append runner (x ∷ xs) ys [] fs are more = absurd are
lines_append runner (x ∷ xs) ys (e ∷ es) fs are more = (are.0, lines_append runner xs ys es fs are.1 more)

take_next : (all : List (List ℕ)) (i : ℕ) (a : List ℕ) → i < length all → a ≡ get_or all i a → take (suc i) all ≡ take i all ++ a ∷ []
take_next [] i a lt is = absurd (omega arith)
take_next (x ∷ xs) zero a lt is = ap (λ (b : List ℕ). b ∷ []) (sym is)
take_next (x ∷ xs) (suc i) a lt is = ap (λ (l : List (List ℕ)). x ∷ l) (take_next xs i a (omega arith) is)

take_more : (all : List (List ℕ)) (i : ℕ) (a : List ℕ) → i < length all → a ≡ get_or all i a → take (i + 1) all ≡ take i all ++ a ∷ []
take_more all i a lt is = rw add-one (take_next all i a lt is)

take_all : (all : List (List ℕ)) (i : ℕ) → length all ≤ i → take i all ≡ all
take_all [] zero le = refl
take_all [] (suc i) le = refl
take_all (x ∷ xs) zero le = absurd (omega arith)
take_all (x ∷ xs) (suc i) le = ap (λ (l : List (List ℕ)). x ∷ l) (take_all xs i (omega arith))

-- the first lines are stored
pub record Stored (v w : Viewed) (runner : ℕ) (all : List (List ℕ)) (i : ℕ) : Type 0 where
  pub shared : w.shared ≡ v.shared
  pub gained : Gained v w (λ es. AreLines runner (take i all) es)

pub stored_none : (v : Viewed) (runner : ℕ) (all : List (List ℕ)) → Stored v v runner all 0
stored_none v runner all = record { shared = refl; gained = ([], gains_none IsLegalList v, tt) }

pub stored_more : (v w u : Viewed) (runner : ℕ) (all : List (List ℕ)) (i : ℕ) (a : List ℕ) (x : Unit {0}) → i < length all → a ≡ get_or all i a → Stored v w runner all i → Gained w u (λ es. LineGave runner a es (Ok x)) → Stored v u runner all (i + 1)
stored_more v w u runner all i a x lt is so now = record {
  shared = now.1.same.shared ∙ so.shared;
  gained = (
    so.gained.0 ++ now.0,
    gains_then IsLegalList v w u so.gained.0 now.0 so.gained.1 now.1,
    subst (λ (l : List (List ℕ)). AreLines runner l (so.gained.0 ++ now.0)) (sym (take_more all i a lt is)) (lines_append runner (take i all) (a ∷ []) so.gained.0 now.0 so.gained.2 now.2),
  );
}

pub stored_all : (v w : Viewed) (runner : ℕ) (all : List (List ℕ)) (i : ℕ) (x : Unit {0}) → length all ≤ i → Stored v w runner all i → Gained v w (λ es. LinesGave runner all es (Ok x))
stored_all v w runner all i x le so = (so.gained.0, so.gained.1, subst (λ (l : List (List ℕ)). AreLines runner l so.gained.0) (take_all all i le) so.gained.2)

pub stored_wanted : (v w u : Viewed) (runner : ℕ) (all : List (List ℕ)) (i : ℕ) (a : List ℕ) (e e' : NoMemory) → Stored v w runner all i → Gained w u (λ es. LineGave runner a es (Err e)) → Gained v u (λ es. LinesGave runner all es (Err e'))
stored_wanted v w u runner all i a e e' so now = (
  so.gained.0 ++ now.0,
  gains_then IsLegalList v w u so.gained.0 now.0 so.gained.1 now.1,
  (i, subst (λ (l : List Entry). AreLines runner (take i all) l) (sym (ap (λ (l : List Entry). so.gained.0 ++ l) now.2 ∙ append-nil so.gained.0)) so.gained.2),
)

-- lines, and then the Finish
pub store_ok : (v w u : Viewed) (readings readings' : Option (List ℕ)) (runner log : ℕ) (lines : List (List ℕ)) (given : HandlerResult) (x : Unit {0}) (result : Result RunDone NoMemory)
    → Gained v w (λ es. LinesGave runner lines es (Ok x)) → GainedBy readings readings' w u (λ times es. AfterLines (Ok x) runner log given times es result) → GainedBy readings readings' v u (λ times es. StoredGave runner log lines given times es result)
store_ok v w u readings readings' runner log lines given x result first rest = (
  rest.0,
  rest.1,
  (
    first.0 ++ rest.2.0,
    gains_then IsLegalList v w u first.0 rest.2.0 first.1 rest.2.1,
    record { stored = first.0; rest = rest.2.0; entries = refl; told = Ok x; store = first.2; finish = rest.2.2 },
  ),
)

pub store_err : (v w : Viewed) (readings : Option (List ℕ)) (runner log : ℕ) (lines : List (List ℕ)) (given : HandlerResult) (e e' : NoMemory) → Gained v w (λ es. LinesGave runner lines es (Err e)) → GainedBy readings readings v w (λ times es. StoredGave runner log lines given times es (Err e'))
store_err v w readings runner log lines given e e' first = (
  [],
  Appends-nil readings,
  (first.0, first.1, record { stored = first.0; rest = []; entries = sym (append-nil first.0); told = Err e; store = first.2; finish = (refl, refl, refl) }),
)

-- a Poll, and what follows its reply
pub run_then : (v w u : Viewed) (a b c : Option (List ℕ)) (gives : List ℕ → RunInput → List (List ℕ) → HandlerResult → Type 0) (runner at : ℕ) (r : ExecutorReply) (polled : Polled) (result : Result RunDone NoMemory)
    → Appends a b (at ∷ []) → Gains IsLegalList v ((event.Poll runner at, r) ∷ []) w → polled ≡ polled_of r → GainedBy b c w u (λ times es. AfterPoll gives runner polled times es result) → GainedBy a c v u (λ times es. RunGave gives runner times es result)
run_then v w u a b c gives runner at r polled result read first is rest = (
  at ∷ rest.0,
  Appends-trans a b c (at ∷ []) rest.0 read rest.1,
  (
    (event.Poll runner at, r) ∷ rest.2.0,
    gains_then IsLegalList v w u ((event.Poll runner at, r) ∷ []) rest.2.0 first rest.2.1,
    (refl, subst (λ (p : Polled). AfterPoll gives runner p rest.0 rest.2.0 result) is rest.2.2),
  ),
)

-- the Finish with an equal code and an equal text
pub finish_as : (a b : Option (List ℕ)) (v w : Viewed) (runner log : ℕ) (code code' : FinishCode) (said said' : List ℕ) (result : Result RunDone NoMemory)
    → code ≡ code' → said ≡ said' → GainedBy a b v w (λ times es. FinishGave runner log code said times es result) → GainedBy a b v w (λ times es. FinishGave runner log code' said' times es result)
finish_as a b v w runner log code code' said said' result same text gave =
    subst (λ (x : FinishCode). GainedBy a b v w (λ times es. FinishGave runner log x said' times es result)) same
    (subst (λ (x : List ℕ). GainedBy a b v w (λ times es. FinishGave runner log code x times es result)) text gave)

-- no run was ready
pub idle_gave : (a : Option (List ℕ)) (v : Viewed) (gives : List ℕ → RunInput → List (List ℕ) → HandlerResult → Type 0) (runner : ℕ) (polled : Polled) → polled ≡ Nothing → GainedBy a a v v (λ times es. AfterPoll gives runner polled times es (Ok Idle))
idle_gave a v gives runner polled is =
    subst (λ (p : Polled). GainedBy a a v v (λ times es. AfterPoll gives runner p times es (Ok Idle))) (sym is) ([], Appends-nil a, ([], gains_none IsLegalList v, (refl, refl, refl)))
