-- How a run over the lines of an input ends, and what it has written by then.
use Rattle.std.specs.Prelude.{ℕ, ◌≡◌, ◌+◌, ◌⊎◌, List, [], ◌∷◌, ◌++◌, length, codes, Option, Some, Result, Ok, Err}
use Rattle.std.specs.Io.KnownBytes.{Appends}
use Rattle.outside.specs.Causes.{Rose}
use Rattle.line_grammar.specs.Writing.{spaced_number}
use Rattle.line_program.specs.Meaning.{Meaning}
use Rattle.line_program.specs.Script.{IsTaken, IsBadNext, IsLargeNext, replies_text}
use Rattle.line_program.specs.Ports.{Ports}
use Rattle.line_program.specs.declared.stream.Ended.{Ended}
use Rattle.line_program.specs.declared.stream.Ended.TheVariants as ended
use Rattle.line_program.specs.declared.status.Status.{Status}
use Rattle.line_program.specs.declared.status.Status.TheVariants as status

-- what is written for a line that is none
abbrev pub bad_line : ℕ → ℕ → List ℕ
bad_line line column = codes "bad line" ++ spaced_number line ++ spaced_number column ++ 10 ∷ []

-- what is written for a line that is past a limit
abbrev pub large_line : ℕ → List ℕ
large_line line = codes "too large" ++ spaced_number line ++ 10 ∷ []

module _ {E : Type 0} (m : Meaning E) where
  -- the text behind the replies, if there is one: the report where nothing follows their lines, or the line that tells what follows
  abbrev pub IsLast : List E → List ℕ → List ℕ → List ℕ → Type 0
  IsLast events whole rest last =
      ((rest ≡ []) × (last ≡ m.report events))
      ⊎ ((column : ℕ) × IsBadNext m (length whole) rest column × (last ≡ bad_line (length events + 1) column))
      ⊎ (IsLargeNext (length whole) rest × (last ≡ large_line (length events + 1)))

  -- All of the input was played; its replies and the report were written.
  pub record Finished (before now : Option (List ℕ)) (input : List ℕ) : Type 0 where
    pub events : List E
    pub script : IsTaken m 0 events input
    pub written : Appends before now (replies_text m events ++ m.report events)

  -- Behind the lines of these events stands a line that is within the limits and no event's, with this column.
  pub record BadAt (events : List E) (input : List ℕ) (column : ℕ) : Type 0 where
    pub whole : List ℕ
    pub rest : List ℕ
    pub script : IsTaken m 0 events whole
    pub parts : input ≡ whole ++ rest
    pub next : IsBadNext m (length whole) rest column

  -- Behind the lines of these events stands a line that is past a limit.
  pub record LargeAt (events : List E) (input : List ℕ) : Type 0 where
    pub whole : List ℕ
    pub rest : List ℕ
    pub script : IsTaken m 0 events whole
    pub parts : input ≡ whole ++ rest
    pub next : IsLargeNext (length whole) rest

  -- The replies of the lines before a line that is none were written, and its place.
  pub record EndedBad (before now : Option (List ℕ)) (input : List ℕ) : Type 0 where
    pub events : List E
    pub column : ℕ
    pub at : BadAt events input column
    pub written : Appends before now (replies_text m events ++ bad_line (length events + 1) column)

  -- The replies of the lines before a line that is past a limit were written, and its number.
  pub record EndedLarge (before now : Option (List ℕ)) (input : List ℕ) : Type 0 where
    pub events : List E
    pub at : LargeAt events input
    pub written : Appends before now (replies_text m events ++ large_line (length events + 1))

  -- These bytes are this many lines, and this is the text of the replies to their events.
  pub record Plays (lines : ℕ) (whole text : List ℕ) : Type 0 where
    pub events : List E
    pub script : IsTaken m 0 events whole
    pub count : length events ≡ lines
    pub replies : text ≡ replies_text m events

  -- A front of the text of the replies to some lines at the front of the input was written.
  pub record Front (before now : Option (List ℕ)) (input : List ℕ) : Type 0 where
    pub lines : ℕ
    pub whole : List ℕ
    pub rest : List ℕ
    pub written : List ℕ
    pub unwritten : List ℕ
    pub plays : Plays lines whole (written ++ unwritten)
    pub parts : input ≡ whole ++ rest
    pub appended : Appends before now written

  -- All replies to the lines at the front of the input were to be written with the text behind them, and a front of that was.
  pub record Short (before now : Option (List ℕ)) (input : List ℕ) : Type 0 where
    pub events : List E
    pub whole : List ℕ
    pub rest : List ℕ
    pub last : List ℕ
    pub front : List ℕ
    pub unwritten : List ℕ
    pub script : IsTaken m 0 events whole
    pub parts : input ≡ whole ++ rest
    pub is_last : IsLast events whole rest last
    pub text : replies_text m events ++ last ≡ front ++ unwritten
    pub written : Appends before now front

  -- How a run ended, by what its ports showed before and after, and its status.
  abbrev pub RunEnds : Ports → Ports → Status → Type 0
  RunEnds before after status.Done =
      (input : List ℕ) → before.left ≡ Some input → (after.left ≡ Some []) × Finished before.taken after.taken input
  RunEnds before after status.BadLine = (input : List ℕ) → before.left ≡ Some input → EndedBad before.taken after.taken input
  RunEnds before after status.BadWords = ⊥
  RunEnds before after status.SourceFailed =
      Rose before.read_faults after.read_faults × ((input : List ℕ) → before.left ≡ Some input → Front before.taken after.taken input)
  RunEnds before after status.SinkFailed =
      Rose before.write_faults after.write_faults
      × ((input : List ℕ) → before.left ≡ Some input → Front before.taken after.taken input ⊎ Short before.taken after.taken input)
  RunEnds before after status.NoMemory = (input : List ℕ) → before.left ≡ Some input → Front before.taken after.taken input
  RunEnds before after status.TooLarge = (input : List ℕ) → before.left ≡ Some input → EndedLarge before.taken after.taken input

-- the status of a run whose last text was written, or failed to be
abbrev pub status_after : {A : Type 0} → Result A Ended → Status → Status
status_after (Ok written) good = good
status_after (Err ended.Sink) good = status.SinkFailed
status_after (Err _) good = status.NoMemory

-- the exit status
abbrev pub code_of : Status → ℕ
code_of status.Done = 0
code_of status.BadLine = 1
code_of status.BadWords = 2
code_of status.SourceFailed = 3
code_of status.SinkFailed = 4
code_of status.NoMemory = 5
code_of status.TooLarge = 6

-- this status, or that of a failed source, a failed sink or want of memory in its place
abbrev pub Yields : ℕ → ℕ → Type 0
Yields status result = (result ≡ status) ⊎ (result ≡ 3) ⊎ (result ≡ 4) ⊎ (result ≡ 5)
