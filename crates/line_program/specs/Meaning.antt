-- What the lines of a program mean.
use Rattle.std.specs.Prelude.{ℕ, List}

pub record Meaning (E : Type 0) : Type 1 where
  -- the bytes are the line of this event
  pub is_line : E → List ℕ → Type 0
  -- the longest front of the bytes that begins some line ends before this column, counted from 1
  pub stops : List ℕ → ℕ → Type 0
  -- the text that answers an event behind those before it
  pub answer : List E → E → List ℕ
  -- the text of the report behind these events
  pub report : List E → List ℕ

-- What lines mean under some settings, and when a machine stands for the events that it took under them.
pub record Play (M E S : Type 0) : Type 1 where
  pub meaning : S → Meaning E
  pub stands : S → M → List E → Type 0
