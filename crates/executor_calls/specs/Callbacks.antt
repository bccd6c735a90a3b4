-- What a callback does: its entries, its asks and its save.
use Rattle.std.specs.Prelude.{◌≡◌, ◌⊎◌, ℕ, Bool, true, false, not, List, [], ◌∷◌, ◌++◌, length, Option, None, Some, Result, Ok, Err, IsErr, MatchBool}
use Rattle.job_values.specs.declared.no_memory.NoMemory.{NoMemory}
use Rattle.job_values.specs.declared.run.CallbackItem.{CallbackItem}
use Rattle.job_events.specs.declared.executor.ExecutorEvent.TheVariants as event
use Rattle.job_events.specs.declared.executor.ExecutorReply.{ExecutorReply}
use Rattle.job_events.specs.declared.executor.ExecutorReply.TheVariants as reply
use Rattle.job_events.specs.declared.executor.ExecutorRefusal.TheVariants as refusal
use Rattle.outside.specs.declared.dialed.Dialed.{Dialed}
use Rattle.outside.specs.Spools.{SpoolView, Saves}
use Rattle.spool_text.specs.Spool.{spool_text}
use Rattle.node_asks.specs.Asks.{FirstGave}
use Rattle.executor_calls.specs.declared.callback.CallbackDone.{CallbackDone}
use Rattle.executor_calls.specs.declared.callback.CallbackDone.TheVariants.{Idle, Acked, Failed}
use Rattle.executor_node.specs.declared.settings.ExecutorSettings.{ExecutorSettings}
use Rattle.executor_node.specs.Standing.{Entry}
use Rattle.executor_calls.specs.Asks.{callback_asks}

-- the items of a batch that was taken
abbrev pub items_in : ExecutorReply → Option (List CallbackItem)
items_in (reply.Batch items) = Some items
items_in _ = None

-- a batch that an earlier call left fails, and one is taken; fewer entries where memory ran out
abbrev pub AgainGave : List Entry → Result (Option (List CallbackItem)) NoMemory → Type 0
AgainGave [] result = IsErr result
AgainGave (e ∷ []) result = (e.0 ≡ event.BatchFail false) × IsErr result
AgainGave (e ∷ f ∷ []) result = (e.0 ≡ event.BatchFail false) × (f.0 ≡ event.BatchTake) × (result ≡ Ok (items_in f.1))
AgainGave (e ∷ f ∷ g ∷ es) result = ⊥

-- a batch is out
abbrev pub is_out : ExecutorReply → Bool
is_out (reply.Refused refusal.BatchOut) = true
is_out _ = false

-- what follows the reply to the first take
abbrev pub AfterTake : ExecutorReply → List Entry → Result (Option (List CallbackItem)) NoMemory → Type 0
AfterTake r es result = MatchBool (is_out r) (AgainGave es result) ((es ≡ []) × (result ≡ Ok (items_in r)))

abbrev pub TakeGave : List Entry → Result (Option (List CallbackItem)) NoMemory → Type 0
TakeGave [] result = IsErr result
TakeGave (e ∷ es) result = (e.0 ≡ event.BatchTake) × AfterTake e.1 es result

-- the spool text of the items that are kept
abbrev pub KeptGave : List Entry → Result (List ℕ) NoMemory → Type 0
KeptGave [] result = IsErr result
KeptGave (e ∷ []) result = (e.0 ≡ event.Kept) × ((items : List CallbackItem) × (e.1 ≡ reply.Kept items) × (IsErr result ⊎ (result ≡ Ok (spool_text items))))
KeptGave (e ∷ f ∷ es) result = ⊥

-- the text of what is kept was saved, or there was no memory for it
abbrev pub SavedAll : ℕ → Result (List ℕ) NoMemory → SpoolView → SpoolView → Result CallbackDone NoMemory → Type 0
SavedAll n (Err e) old new result = (new ≡ old) × IsErr result
SavedAll n (Ok text) old new result = Saves old new text × (result ≡ Ok (Acked n))

-- behind an ask that was answered with code 200: the batch is acknowledged, and what is kept is saved
abbrev pub AckGave : ℕ → List Entry → SpoolView → SpoolView → Result CallbackDone NoMemory → Type 0
AckGave n [] old new result = (new ≡ old) × IsErr result
AckGave n (e ∷ es) old new result =
    (e.0 ≡ event.BatchAck) × ((text : Result (List ℕ) NoMemory) × KeptGave es text × SavedAll n text old new result)

-- what is kept was saved, and then the batch failed, saved or not
abbrev pub FailedAll : List Entry → List Entry → Result (List ℕ) NoMemory → SpoolView → SpoolView → Result CallbackDone NoMemory → Type 0
FailedAll es before (Err e) old new result = (es ≡ before) × (new ≡ old) × IsErr result
FailedAll es before (Ok text) old new result =
    Saves old new text
    × (((es ≡ before) × IsErr result)
    ⊎ ((r : ExecutorReply) × (es ≡ before ++ (event.BatchFail (not new.failed), r) ∷ []) × (result ≡ Ok (Failed (not new.failed)))))

-- behind asks of which none was: what is kept is saved, and the batch fails
abbrev pub FailGave : List Entry → SpoolView → SpoolView → Result CallbackDone NoMemory → Type 0
FailGave es old new result =
    (before : List Entry) × (text : Result (List ℕ) NoMemory) × KeptGave before text × FailedAll es before text old new result

-- the items of a batch go to the admins in order, up to the first that takes them
abbrev pub AfterAsks : ℕ → Result (Option ℕ) NoMemory → List Entry → SpoolView → SpoolView → Result CallbackDone NoMemory → Type 0
AfterAsks n (Err e) es old new result = (es ≡ []) × (new ≡ old) × IsErr result
AfterAsks n (Ok (Some place)) es old new result = AckGave n es old new result
AfterAsks n (Ok None) es old new result = FailGave es old new result

-- there may be no memory for the request itself
abbrev pub AskGave : ExecutorSettings → List CallbackItem → Option (List Dialed) → Option (List Dialed) → Result (Option ℕ) NoMemory → Type 0
AskGave s items dials dials' asked = FirstGave dials dials' (callback_asks s items) asked ⊎ ((dials' ≡ dials) × IsErr asked)

pub record SendGave (s : ExecutorSettings) (items : List CallbackItem) (dials dials' : Option (List Dialed)) (old new : SpoolView) (es : List Entry) (result : Result CallbackDone NoMemory) : Type 0 where
  pub asked : Result (Option ℕ) NoMemory
  pub asks : AskGave s items dials dials' asked
  pub rest : AfterAsks (length items) asked es old new result

-- what follows the taking of a batch
abbrev pub AfterItems : ExecutorSettings → Result (Option (List CallbackItem)) NoMemory → Option (List Dialed) → Option (List Dialed) → SpoolView → SpoolView → List Entry → Result CallbackDone NoMemory → Type 0
AfterItems s (Err e) dials dials' old new es result = (es ≡ []) × (dials' ≡ dials) × (new ≡ old) × IsErr result
AfterItems s (Ok None) dials dials' old new es result = (es ≡ []) × (dials' ≡ dials) × (new ≡ old) × (result ≡ Ok Idle)
AfterItems s (Ok (Some items)) dials dials' old new es result = SendGave s items dials dials' old new es result

-- what a callback did
pub record CallbackGave (s : ExecutorSettings) (dials dials' : Option (List Dialed)) (old new : SpoolView) (es : List Entry) (result : Result CallbackDone NoMemory) : Type 0 where
  pub first : List Entry
  pub second : List Entry
  pub entries : es ≡ first ++ second
  pub taken : Result (Option (List CallbackItem)) NoMemory
  pub takes : TakeGave first taken
  pub rest : AfterItems s taken dials dials' old new second result
