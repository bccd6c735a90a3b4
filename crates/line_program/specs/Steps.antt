-- What a machine does with one line.
use Rattle.std.specs.Prelude.{◌≡◌, ℕ, List, [], ◌∷◌, ◌++◌}
use Rattle.line_program.specs.Meaning.{Meaning, Play}
use Rattle.line_program.specs.Script.{IsBad}
use Rattle.line_program.specs.declared.machine.Unread.{Unread}
use Rattle.line_program.specs.declared.machine.Unread.TheVariants.{Bad, NoMemory}

-- why these bytes were not read
abbrev pub IsUnread : {E : Type 0} → Meaning E → List ℕ → Unread → Type 0
IsUnread m line (Bad column) = IsBad m line column
IsUnread m line NoMemory = Unit {0}

-- The machine stands for one event more, and the text of its answer was put behind the buffer.
pub record Answered {M E S : Type 0} (play : Play M E S) (settings : S) (new : M) (events : List E) (event : E) (before after : List ℕ) : Type 0 where
  pub stands : play.stands settings new (events ++ event ∷ [])
  pub buffer : after ≡ before ++ (play.meaning settings).answer events event
