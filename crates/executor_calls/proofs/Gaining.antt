-- Entries that a seat gains in one act after another.
use Rattle.std.proofs.Common.{◌≡◌, ◌⊎◌, ℕ, Bool, true, false, List, [], ◌∷◌, ◌++◌, Option, Some, None, Result, Ok, Err, refl, sym, ap, ◌∙◌, subst, inl, inr, append-nil, rules}
use Rattle.std.specs.Prelude.{IfOk, IsErr, is_ok, is_err, not}
use Rattle.job_values.specs.declared.no_memory.NoMemory.{NoMemory}
use Rattle.job_values.specs.declared.run.CallbackItem.{CallbackItem}
use Rattle.job_events.specs.declared.executor.ExecutorEvent.TheVariants as event
use Rattle.job_events.specs.declared.executor.ExecutorReply.{ExecutorReply}
use Rattle.job_events.specs.declared.executor.ExecutorReply.TheVariants as reply
use Rattle.turn_lock.specs.Gains.{Gains}
use Rattle.turn_lock.proofs.Gains.{gains_none, gains_then}
use Rattle.spool_text.specs.Spool.{spool_text}
use Rattle.executor_node.specs.Standing.{Entry, IsLegalList, CanReply}
use Rattle.executor_node.specs.Exchanges.{Viewed}
use Rattle.outside.specs.declared.dialed.Dialed.{Dialed}
use Rattle.executor_node.specs.declared.settings.ExecutorSettings.{ExecutorSettings}
use Rattle.executor_calls.specs.declared.callback.CallbackDone.{CallbackDone}
use Rattle.executor_calls.specs.declared.callback.CallbackDone.TheVariants.{Idle, Acked, Failed}
use Rattle.outside.specs.Spools.{SpoolView, Saves}
use Rattle.executor_calls.specs.Gaining.{Gained}
use Rattle.executor_calls.specs.Callbacks.{TakeGave, KeptGave, AckGave, FailGave, AskGave, SendGave, AfterItems, CallbackGave}

module _ (v w u : Viewed) where
  -- an act, and then what follows
  pub gained_then : (e : Entry) (P Q : List Entry → Type 0) → Gains IsLegalList v (e ∷ []) w → Gained w u Q → ((es : List Entry) → Q es → P (e ∷ es)) → Gained v u P
  gained_then e P Q first rest f = (e ∷ rest.0, gains_then IsLegalList v w u (e ∷ []) rest.0 first rest.1, f rest.0 rest.2)

  -- two acts
  pub gained_two : (e f : Entry) (P : List Entry → Type 0) → Gains IsLegalList v (e ∷ []) w → Gains IsLegalList w (f ∷ []) u → P (e ∷ f ∷ []) → Gained v u P
  gained_two e f P first second p = (e ∷ f ∷ [], gains_then IsLegalList v w u (e ∷ []) (f ∷ []) first second, p)

  -- an act, and one that was refused
  pub gained_one : (e : Entry) (P : List Entry → Type 0) → Gains IsLegalList v (e ∷ []) w → Gains IsLegalList w [] u → P (e ∷ []) → Gained v u P
  gained_one e P first second p = (e ∷ [], gains_then IsLegalList v w u (e ∷ []) [] first second, p)

  -- entries, and then others
  pub gained_both : (P Q R : List Entry → Type 0) → Gained v w P → Gained w u Q → ((es fs : List Entry) → P es → Q fs → R (es ++ fs)) → Gained v u R
  gained_both P Q R first second f = (first.0 ++ second.0, gains_then IsLegalList v w u first.0 second.0 first.1 second.1, f first.0 second.0 first.2 second.2)

-- the items that were kept, and their text
pub kept_gave : (r : ExecutorReply) (items : List CallbackItem) (result : Result (List ℕ) NoMemory) → r ≡ reply.Kept items → IfOk result (λ t. t ≡ spool_text items) → KeptGave ((event.Kept, r) ∷ []) result
kept_gave r items (Ok t) is says = (refl, (items, is, inr (ap (λ (x : List ℕ). Ok x) says)))
kept_gave r items (Err e) is says = (refl, (items, is, inl refl))

saves_now : (old new : SpoolView) (bytes said : List ℕ) → bytes ≡ said → Saves old new bytes → Saves old new said
saves_now old new bytes said is saves = subst (λ (x : List ℕ). Saves old new x) is saves

pub ok_not_err : {A B : Type 0} (r : Result A B) → is_ok r ≡ not (is_err r)
ok_not_err (Ok x) = refl
ok_not_err (Err e) = refl

module _ (v w u : Viewed) where
  -- the batch is acknowledged, and what is kept is saved
  pub ack_ok : (n : ℕ) (r : ExecutorReply) (said bytes : List ℕ) (old new : SpoolView) → Gains IsLegalList v ((event.BatchAck, r) ∷ []) w → Gained w u (λ es. KeptGave es (Ok said)) → bytes ≡ said → Saves old new bytes
      → Gained v u (λ es. AckGave n es old new (Ok (Acked n)))
  ack_ok n r said bytes old new first rest is saves =
      gained_then v w u (event.BatchAck, r) (λ (es : List Entry). AckGave n es old new (Ok (Acked n))) (λ (es : List Entry). KeptGave es (Ok said)) first rest (λ es p. (refl, (Ok said, p, (saves_now old new bytes said is saves, refl))))

  pub ack_err : (n : ℕ) (r : ExecutorReply) (e e' : NoMemory) (s : SpoolView) → Gains IsLegalList v ((event.BatchAck, r) ∷ []) w → Gained w u (λ es. KeptGave es (Err e)) → Gained v u (λ es. AckGave n es s s (Err e'))
  ack_err n r e e' s first rest =
      gained_then v w u (event.BatchAck, r) (λ (es : List Entry). AckGave n es s s (Err e')) (λ (es : List Entry). KeptGave es (Err e)) first rest (λ es p. (refl, (Err e, p, (refl, refl))))

  -- what is kept is saved, and the batch fails
  pub fail_ok : (r : ExecutorReply) (said bytes : List ℕ) (old new : SpoolView) (b saved : Bool) → Gained v w (λ es. KeptGave es (Ok said)) → Gains IsLegalList w ((event.BatchFail saved, r) ∷ []) u → bytes ≡ said → new.failed ≡ b → Saves old new bytes → saved ≡ not b
      → Gained v u (λ es. FailGave es old new (Ok (Failed saved)))
  fail_ok r said bytes old new b saved first last is same saves told =
      let all : saved ≡ not new.failed = told ∙ ap not (sym same) in (
        first.0 ++ (event.BatchFail saved, r) ∷ [],
        gains_then IsLegalList v w u first.0 ((event.BatchFail saved, r) ∷ []) first.1 last,
        (first.0, Ok said, first.2, (saves_now old new bytes said is saves, inr (r, ap (λ (x : Bool). first.0 ++ (event.BatchFail x, r) ∷ []) all, ap (λ (x : Bool). Ok (Failed x)) all))),
      )

  pub fail_err : (e : NoMemory) (said bytes : List ℕ) (old new : SpoolView) → Gained v w (λ es. KeptGave es (Ok said)) → Gains IsLegalList w [] u → bytes ≡ said → Saves old new bytes → Gained v u (λ es. FailGave es old new (Err e))
  fail_err e said bytes old new first last is saves = (
    first.0 ++ [],
    gains_then IsLegalList v w u first.0 [] first.1 last,
    (first.0, Ok said, first.2, (saves_now old new bytes said is saves, inl (append-nil first.0, refl))),
  )

  -- a batch is taken, and then what follows
  pub call_both : (s : ExecutorSettings) (taken : Result (Option (List CallbackItem)) NoMemory) (dials dials' : Option (List Dialed)) (old new : SpoolView) (result : Result CallbackDone NoMemory)
      → Gained v w (λ es. TakeGave es taken) → Gained w u (λ es. AfterItems s taken dials dials' old new es result) → Gained v u (λ es. CallbackGave s dials dials' old new es result)
  call_both s taken dials dials' old new result first rest = (
    first.0 ++ rest.0,
    gains_then IsLegalList v w u first.0 rest.0 first.1 rest.1,
    record { first = first.0; second = rest.0; entries = refl; taken = taken; takes = first.2; rest = rest.2 },
  )

pub call_err : (v w : Viewed) (s : ExecutorSettings) (e e' : NoMemory) (dials : Option (List Dialed)) (old : SpoolView) → Gained v w (λ es. TakeGave es (Err e)) → Gained v w (λ es. CallbackGave s dials dials old old es (Err e'))
call_err v w s e e' dials old first = call_both v w w s (Err e) dials dials old old (Err e') first ([], gains_none IsLegalList w, (refl, refl, refl, refl))

pub call_none : (v w : Viewed) (s : ExecutorSettings) (dials : Option (List Dialed)) (old : SpoolView) → Gained v w (λ es. TakeGave es (Ok None)) → Gained v w (λ es. CallbackGave s dials dials old old es (Ok Idle))
call_none v w s dials old first = call_both v w w s (Ok None) dials dials old old (Ok Idle) first ([], gains_none IsLegalList w, (refl, refl, refl, refl))

pub send_err : (v : Viewed) (s : ExecutorSettings) (items : List CallbackItem) (dials dials' : Option (List Dialed)) (old : SpoolView) (e e' : NoMemory) → AskGave s items dials dials' (Err e) → Gained v v (λ es. SendGave s items dials dials' old old es (Err e'))
send_err v s items dials dials' old e e' asks = ([], gains_none IsLegalList v, record { asked = Err e; asks = asks; rest = (refl, refl, refl) })
