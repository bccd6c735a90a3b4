use Rattle.std.proofs.Common.{◌≡◌, List, [], ◌∷◌, take, drop, Result, OnOk, OnErr, refl}
use Rattle.job_values.specs.declared.run.CallbackItem.{CallbackItem}
use Rattle.callback_spool.specs.declared.callbacks.CallbackRefusal.{CallbackRefusal}
use Rattle.callback_spool.specs.Batches.{batch_len}
use Rattle.callback_spool.specs.Lists.{Lists}
use Rattle.callback_spool.specs.Answers.{taken_answer}
use Rattle.executor_history.specs.Past.{taken_batch, left_waiting}
use Rattle.executor_core.proofs.add.take_out.Goals as goal

-- what a call that takes a batch leaves
waiting_by : (batch waiting : List CallbackItem) (old new : Lists) (r : Result (Unit {0}) CallbackRefusal) → old.batch ≡ batch → old.waiting ≡ waiting → r ≡ taken_answer waiting batch
    → OnErr r (new ≡ old) → OnOk r (new.waiting ≡ drop (batch_len waiting) waiting) → new.waiting ≡ left_waiting batch waiting
waiting_by (b ∷ bs) waiting old new r eb ew e err ok = let same = rw e at err in cc
waiting_by [] [] old new r eb ew e err ok = let same = rw e at err in cc
waiting_by [] (w ∷ ws) old new r eb ew e err ok = rw e at ok

batch_by : (batch waiting : List CallbackItem) (old new : Lists) (r : Result (Unit {0}) CallbackRefusal) → old.batch ≡ batch → old.waiting ≡ waiting → r ≡ taken_answer waiting batch
    → OnErr r (new ≡ old) → OnOk r (new.batch ≡ take (batch_len waiting) waiting) → new.batch ≡ taken_batch batch waiting
batch_by (b ∷ bs) waiting old new r eb ew e err ok = let same = rw e at err in cc
batch_by [] [] old new r eb ew e err ok = let same = rw e at err in cc
batch_by [] (w ∷ ws) old new r eb ew e err ok = rw e at ok

pub returns-clause-waiting : goal.returns-clause-waiting
returns-clause-waiting c =
    waiting_by c.args.callbacks.now.batch c.args.callbacks.now.waiting c.args.callbacks.now c.take_batch-taken.new.self c.take_batch-taken.result refl refl c.take_batch-taken.ensures.result c.take_batch-taken.ensures.err c.take_batch-taken.ensures.waiting

pub returns-clause-batch : goal.returns-clause-batch
returns-clause-batch c =
    batch_by c.args.callbacks.now.batch c.args.callbacks.now.waiting c.args.callbacks.now c.take_batch-taken.new.self c.take_batch-taken.result refl refl c.take_batch-taken.ensures.result c.take_batch-taken.ensures.err c.take_batch-taken.ensures.batch
