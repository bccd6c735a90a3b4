-- What is said of bytes that are no line.
use Rattle.std.specs.Prelude.{◌≡◌, ℕ, ◌+◌, ◌-◌, ◌^◌, min, List, length, Result, Ok, Err}
use Rattle.line_grammar.specs.Languages.{Stops}
use Rattle.script_text.specs.declared.faults.LineError.{LineError}
use Rattle.script_text.specs.declared.faults.LineError.TheVariants.{Bad, NoMemory}
use Rattle.script_text.specs.Lines.{IsLine}

-- ---- of any lines

-- the column is one more than the length of the longest prefix of the bytes that begins some line
abbrev pub IsColumnIn : {V : Type 0} → (V → List ℕ → Type 0) → List ℕ → ℕ → Type 0
IsColumnIn L bytes column = (left : ℕ) × Stops L bytes left × (column + left ≡ length bytes + 1)

-- the column as it is told: one that is above the greatest number of its type stays there
abbrev pub TellsColumnIn : {V : Type 0} → (V → List ℕ → Type 0) → List ℕ → ℕ → Type 0
TellsColumnIn L bytes told = (column : ℕ) × IsColumnIn L bytes column × (told ≡ min column (2 ^ 32 - 1))

-- the bytes are no line
abbrev pub IsNoneOf : {V : Type 0} → (V → List ℕ → Type 0) → List ℕ → Type 0
IsNoneOf {V} L bytes = (said : V) → L said bytes → ⊥

-- why these bytes were not read
abbrev pub IsFaultIn : {V : Type 0} → (V → List ℕ → Type 0) → List ℕ → LineError → Type 0
IsFaultIn L bytes (Bad fault) = TellsColumnIn L bytes fault.column × IsNoneOf L bytes
IsFaultIn L bytes NoMemory = Unit {0}

-- what the line says was read, unless memory ran out
abbrev pub IsReadAs : {V : Type 0} → V → Result V LineError → Type 0
IsReadAs said (Ok other) = other ≡ said
IsReadAs said (Err NoMemory) = Unit {0}
IsReadAs said (Err (Bad fault)) = ⊥

-- ---- of the lines of a script

abbrev pub IsColumn : List ℕ → ℕ → Type 0
IsColumn bytes column = IsColumnIn IsLine bytes column

abbrev pub TellsColumn : List ℕ → ℕ → Type 0
TellsColumn bytes told = TellsColumnIn IsLine bytes told

abbrev pub IsFaultOf : List ℕ → LineError → Type 0
IsFaultOf bytes error = IsFaultIn IsLine bytes error
