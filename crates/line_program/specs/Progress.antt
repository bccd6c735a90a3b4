-- How far a run over lines has come: what was read, what was written, and how it stopped.
use Rattle.std.specs.Prelude.{ℕ, ◌≡◌, ◌≤◌, true, false, List, [], ◌∷◌, ◌++◌, length, Option, Some}
use Rattle.std.specs.Io.KnownBytes.{Appends}
use Rattle.outside.specs.Causes.{Rose}
use Rattle.line_program.specs.Cuts.{is_open, is_within, IsPart}
use Rattle.line_program.specs.Meaning.{Meaning, Play}
use Rattle.line_program.specs.Script.{IsTaken, IsBad, IsBadNext, IsLargeNext, replies_text}
use Rattle.line_program.specs.Outcome.{Plays, Front}
use Rattle.line_program.specs.declared.stream.LineStream.{LineStream}
use Rattle.line_program.specs.declared.stream.Ended.{Ended}
use Rattle.line_program.specs.declared.stream.Ended.TheVariants.{Bad, TooLarge, Source, Sink, Memory}

-- where a run began: its settings, and what the sink held
pub record Start (S : Type 0) : Type 0 where
  pub settings : S
  pub taken : Option (List ℕ)

-- The stream is where it was.
pub record Stays {M : Type 0} (old new : LineStream M) : Type 0 where
  pub machine : new.machine ≡ old.machine
  pub out : new.out.items ≡ old.out.items
  pub lines : new.lines ≡ old.lines
  pub size : new.size ≡ old.size

module _ {M E S : Type 0} (play : Play M E S) where
  -- These bytes are this many lines, this is the text of the replies to their events, and the machine stands for them.
  pub record Stands (settings : S) (machine : M) (lines : ℕ) (whole text : List ℕ) : Type 0 where
    pub events : List E
    pub script : IsTaken (play.meaning settings) 0 events whole
    pub count : length events ≡ lines
    pub replies : text ≡ replies_text (play.meaning settings) events
    pub stands : play.stands settings machine events

  -- The lines `whole` were taken; their replies are written, but for those that the buffer holds.
  pub record At (base : Start S) (now : Option (List ℕ)) (stream : LineStream M) (whole : List ℕ) : Type 0 where
    pub text : List ℕ
    pub written : List ℕ
    pub stands : Stands base.settings stream.machine stream.lines whole text
    pub appended : Appends base.taken now written
    pub buffered : text ≡ written ++ stream.out.items
    pub size : length whole ≡ stream.size
    pub few : stream.lines ≤ stream.size

  -- Of the bytes `given` all whole lines were taken, and `pending` is what has come of the next.
  pub record Has (base : Start S) (now : Option (List ℕ)) (stream : LineStream M) (given pending : List ℕ) : Type 0 where
    pub whole : List ℕ
    pub at : At base now stream whole
    pub parts : given ≡ whole ++ pending

  -- A front of the text of the replies to some lines at the front of `given` was written.
  abbrev pub FrontOf : Start S → Option (List ℕ) → List ℕ → Type 0
  FrontOf base now given = Front (play.meaning base.settings) base.taken now given

  -- Behind the lines that were taken stands one that is within the limits and no event's.
  pub record AtBad (base : Start S) (now : Option (List ℕ)) (stream : LineStream M) (given : List ℕ) (column : ℕ) : Type 0 where
    pub whole : List ℕ
    pub front : List ℕ
    pub rest : List ℕ
    pub at : At base now stream whole
    pub parts : given ≡ whole ++ (front ++ 10 ∷ rest)
    pub one : is_open front ≡ true
    pub within : is_within stream.size (front ++ 10 ∷ []) ≡ true
    pub bad : IsBad (play.meaning base.settings) (front ++ 10 ∷ []) column

  -- Behind the lines that were taken stands a part of a line that is past a limit already.
  pub record AtLarge (base : Start S) (now : Option (List ℕ)) (stream : LineStream M) (given : List ℕ) : Type 0 where
    pub whole : List ℕ
    pub part : List ℕ
    pub rest : List ℕ
    pub at : At base now stream whole
    pub parts : given ≡ whole ++ (part ++ rest)
    pub one : IsPart part
    pub large : is_within stream.size part ≡ false

  -- The run over these bytes ended so.
  abbrev pub Ends : Start S → Option (List ℕ) → LineStream M → List ℕ → Ended → Type 0
  Ends base now stream given (Bad column) = AtBad base now stream given column
  Ends base now stream given TooLarge = AtLarge base now stream given
  Ends base now stream given Source = FrontOf base now given
  Ends base now stream given Sink = FrontOf base now given
  Ends base now stream given Memory = FrontOf base now given

  -- From one state to another the stream went over these bytes.
  abbrev pub Goes : Option (List ℕ) → Option (List ℕ) → LineStream M → LineStream M → List ℕ → List ℕ → List ℕ → Type 0
  Goes before now old new pending left bytes = (base : Start S) (given : List ℕ) → Has base before old given pending → Has base now new (given ++ bytes) left

  -- From one state the stream went over these bytes and ended so.
  abbrev pub GoesTo : Option (List ℕ) → Option (List ℕ) → LineStream M → LineStream M → List ℕ → List ℕ → Ended → Type 0
  GoesTo before now old new pending bytes e = (base : Start S) (given : List ℕ) → Has base before old given pending → Ends base now new (given ++ bytes) e

  -- How a line that was not taken ended the run.
  abbrev pub Refuses : LineStream M → LineStream M → List ℕ → Ended → Type 0
  Refuses old new line (Bad column) = Stays old new × (is_within old.size line ≡ true) × ((settings : S) → IsBad (play.meaning settings) line column)
  Refuses old new line TooLarge = Stays old new × (is_within old.size line ≡ false)
  Refuses old new line Source = ⊥
  Refuses old new line Sink = ⊥
  Refuses old new line Memory = Unit {0}

  -- Behind the lines that were taken stands one that is within the limits and no event's.
  pub record StopsBad (base : Start S) (now : Option (List ℕ)) (stream : LineStream M) (input : List ℕ) (column : ℕ) : Type 0 where
    pub whole : List ℕ
    pub rest : List ℕ
    pub at : At base now stream whole
    pub parts : input ≡ whole ++ rest
    pub next : IsBadNext (play.meaning base.settings) (length whole) rest column

  -- Behind the lines that were taken stands one that is past a limit.
  pub record StopsLarge (base : Start S) (now : Option (List ℕ)) (stream : LineStream M) (input : List ℕ) : Type 0 where
    pub whole : List ℕ
    pub rest : List ℕ
    pub at : At base now stream whole
    pub parts : input ≡ whole ++ rest
    pub next : IsLargeNext (length whole) rest

  -- The run over this input stopped so.
  abbrev pub Stops : Start S → Option (List ℕ) → LineStream M → List ℕ → Ended → Type 0
  Stops base now stream input (Bad column) = StopsBad base now stream input column
  Stops base now stream input TooLarge = StopsLarge base now stream input
  Stops base now stream input Source = FrontOf base now input
  Stops base now stream input Sink = FrontOf base now input
  Stops base now stream input Memory = FrontOf base now input

  -- All of the input was taken, where it is told.
  abbrev pub PlaysAll : Option (List ℕ) → Option (List ℕ) → Option (List ℕ) → Option (List ℕ) → LineStream M → LineStream M → Type 0
  PlaysAll left left' before now old new =
      (input : List ℕ) → left ≡ Some input → (left' ≡ Some []) × ((base : Start S) → At base before old [] → At base now new input)

  -- The run stopped so, where the input is told.
  abbrev pub PlaysTo : Option (List ℕ) → Option (List ℕ) → Option (List ℕ) → LineStream M → LineStream M → Ended → Type 0
  PlaysTo left before now old new e = (input : List ℕ) → left ≡ Some input → (base : Start S) → At base before old [] → Stops base now new input e

  -- The replies to these lines and the last text were written.
  pub record Closed (start : Start S) (now : Option (List ℕ)) (whole : List ℕ) (last : S → List E → List ℕ) : Type 0 where
    pub events : List E
    pub script : IsTaken (play.meaning start.settings) 0 events whole
    pub written : Appends start.taken now (replies_text (play.meaning start.settings) events ++ last start.settings events)

  -- A front of the replies to these lines and of the last text was written.
  pub record CutShort (start : Start S) (now : Option (List ℕ)) (whole : List ℕ) (last : S → List E → List ℕ) : Type 0 where
    pub events : List E
    pub front : List ℕ
    pub unwritten : List ℕ
    pub script : IsTaken (play.meaning start.settings) 0 events whole
    pub text : replies_text (play.meaning start.settings) events ++ last start.settings events ≡ front ++ unwritten
    pub written : Appends start.taken now front

  -- How the writing of the last text failed.
  abbrev pub Fails : (S → List E → List ℕ) → Option (List ℕ) → Option (List ℕ) → ℕ → ℕ → LineStream M → Ended → Type 0
  Fails last before now wrote wrotes old (Bad column) = ⊥
  Fails last before now wrote wrotes old TooLarge = ⊥
  Fails last before now wrote wrotes old Source = ⊥
  Fails last before now wrote wrotes old Sink = Rose wrote wrotes × ((start : Start S) (whole : List ℕ) → At start before old whole → CutShort start now whole last)
  Fails last before now wrote wrotes old Memory = (start : Start S) (whole : List ℕ) → At start before old whole → FrontOf start now whole

-- Which ends of a run the counts of the source's and the sink's faults explain.
abbrev pub ExplainsBoth : ℕ → ℕ → ℕ → ℕ → Ended → Type 0
ExplainsBoth read reads wrote writes (Bad column) = Unit {0}
ExplainsBoth read reads wrote writes TooLarge = Unit {0}
ExplainsBoth read reads wrote writes Source = Rose read reads
ExplainsBoth read reads wrote writes Sink = Rose wrote writes
ExplainsBoth read reads wrote writes Memory = Unit {0}

-- Which ends of a run a count of the sink's faults explains, where the source was not read.
abbrev pub Explains : ℕ → ℕ → Ended → Type 0
Explains before now (Bad column) = Unit {0}
Explains before now TooLarge = Unit {0}
Explains before now Source = ⊥
Explains before now Sink = Rose before now
Explains before now Memory = Unit {0}
