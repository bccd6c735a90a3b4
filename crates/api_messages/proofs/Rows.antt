-- A message is read row by row: the next row has its value, or the fault.
use Rattle.std.proofs.Common.{◌≡◌, List, [], ◌∷◌, ◌++◌, Result, Ok, refl, inl, inr}
use Rattle.serde_json.specs.Data.{Data}
use Rattle.api_messages.specs.Members.{Cell, Row}
use Rattle.api_messages.specs.Reading.{Fails, cell_at, cells_from}
use Rattle.api_messages.specs.declared.fault.MessageFault.{MessageFault}

-- the next row has this value, and a later one the fault
pub later : (e : MessageFault) (before : List Cell) (row : Row) (rows : List Row) (d : Data) (c : Cell)
    → cell_at row d ≡ Ok c → Fails e (cells_from (before ++ c ∷ []) rows d) → Fails e (cells_from before (row ∷ rows) d)
unfolding cells_from
later e before row rows d c is rest = rw is rest

-- the next row has the fault
pub here : (e : MessageFault) (before : List Cell) (row : Row) (rows : List Row) (d : Data) → Fails e (cell_at row d) → Fails e (cells_from before (row ∷ rows) d)
unfolding cells_from
here e before row rows d (inl memory) = inl memory
here e before row rows d (inr is) = rw is (inr refl)

-- the next row has this value, and so have those after it
pub next : (given : Result (List Cell) MessageFault) (before : List Cell) (row : Row) (rows : List Row) (d : Data) (c : Cell)
    → cell_at row d ≡ Ok c → cells_from (before ++ c ∷ []) rows d ≡ given → cells_from before (row ∷ rows) d ≡ given
unfolding cells_from
next given before row rows d c is rest = rw is rest

-- no row is left
pub done : (before : List Cell) (d : Data) → cells_from before [] d ≡ Ok before
unfolding cells_from
done before d = refl
