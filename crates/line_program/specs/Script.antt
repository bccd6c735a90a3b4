-- Scripts, and the text that answers one.
use Rattle.std.specs.Prelude.{ℕ, ◌≡◌, ◌+◌, ◌<◌, true, false, List, [], ◌∷◌, ◌++◌, length}
use Rattle.line_program.specs.Cuts.{is_within, next_line, IsLineEnd}
use Rattle.line_program.specs.Meaning.{Meaning}

module _ {E : Type 0} (m : Meaning E) where
  -- the bytes are the line of this event, and have one end of a line, at their end
  pub record IsLineOf (event : E) (line : List ℕ) : Type 0 where
    pub says : m.is_line event line
    pub ends : IsLineEnd line

  -- the bytes are the lines of these events, each within the limits on lines and on the input, of which `before` bytes stand in front
  abbrev pub IsTaken : ℕ → List E → List ℕ → Type 0
  IsTaken before [] bytes = bytes ≡ []
  IsTaken before (e ∷ es) bytes =
      (line : List ℕ) × (rest : List ℕ) × IsLineOf e line × (is_within before line ≡ true) × IsTaken (before + length line) es rest × (bytes ≡ line ++ rest)

  -- no event has these bytes as its line, and the longest front of them that begins some line ends before this column, counted from 1
  pub record IsBad (line : List ℕ) (column : ℕ) : Type 0 where
    pub none : (event : E) → m.is_line event line → ⊥
    pub stops : m.stops line column

  -- behind so many bytes stands a line that is within the limits and no event's, with this column
  pub record IsBadNext (before : ℕ) (rest : List ℕ) (column : ℕ) : Type 0 where
    pub some : 0 < length rest
    pub within : is_within before (next_line rest) ≡ true
    pub bad : IsBad (next_line rest) column

  -- the answers to events that stand behind others
  abbrev pub answers_behind : List E → List E → List ℕ
  answers_behind before [] = []
  answers_behind before (e ∷ es) = m.answer before e ++ answers_behind (before ++ e ∷ []) es

  -- what is written for the replies to these events
  abbrev pub replies_text : List E → List ℕ
  replies_text events = answers_behind [] events

-- behind so many bytes stands a line that is past a limit
pub record IsLargeNext (before : ℕ) (rest : List ℕ) : Type 0 where
  pub some : 0 < length rest
  pub large : is_within before (next_line rest) ≡ false
