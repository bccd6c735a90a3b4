-- What the calls of the results answer.
use Rattle.std.specs.Prelude.{List, [], ◌∷◌, Result, Ok, Err}
use Rattle.job_values.specs.declared.run.CallbackItem.{CallbackItem}
use Rattle.callback_spool.specs.declared.callbacks.CallbackRefusal.{CallbackRefusal}
use Rattle.callback_spool.specs.declared.callbacks.CallbackRefusal.TheVariants.{BatchOut, Nothing, NoBatch}

-- a batch is taken where none is out and an item waits
abbrev pub taken_answer : List CallbackItem → List CallbackItem → Result (Unit {0}) CallbackRefusal
taken_answer waiting (item ∷ items) = Err BatchOut
taken_answer [] [] = Err Nothing
taken_answer (item ∷ items) [] = Ok tt

-- a batch is acknowledged or fails where it is out
abbrev pub batch_answer : List CallbackItem → Result (Unit {0}) CallbackRefusal
batch_answer [] = Err NoBatch
batch_answer (item ∷ items) = Ok tt
