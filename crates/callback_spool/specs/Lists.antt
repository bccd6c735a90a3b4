-- What the results of an executor are seen as.
use Rattle.std.specs.Prelude.{ℕ, List}
use Rattle.job_values.specs.declared.run.CallbackItem.{CallbackItem}

-- the items that wait, those of the batch that is out, those that are spooled, and how many more can be added without memory
pub record Lists : Type 0 where
  pub waiting : List CallbackItem
  pub batch : List CallbackItem
  pub spooled : List CallbackItem
  pub room : ℕ
