-- What a buffer between the requests of a link keeps.
use Rattle.std.specs.Prelude.{ℕ, Bool, List}

-- bytes that were read and belong to no request yet, and whether a fault was met
pub record BufferView : Type 0 where
  pub bytes : List ℕ
  pub faulted : Bool
