-- What holds of all scripts, and the numbers that the definitions cite.
use Rattle.std.specs.Prelude.{◌≡◌, ℕ, pos, List}
use Rattle.job_values.specs.declared.limits.TheConstants.{LAST_MOMENT, LAST_OFFSET}
use Rattle.job_events.specs.declared.cluster.ClusterEvent.{ClusterEvent}
use Rattle.script_text.specs.Lines.{IsLine}
use Rattle.line_program.specs.Cuts.{IsLineEnd}
use Rattle.replay_program.specs.declared.limits.TheConstants.{MOST_FAST, MOST_SLOW, MOST_TIMES}

-- each line of an event has one end of a line, at its end
abbrev pub EachLineEndsOnce : Type 0
EachLineEndsOnce = (event : ClusterEvent) (line : List ℕ) → IsLine event line → IsLineEnd line

-- the bounds of the words of a command, as numbers
pub record BoundsAre : Type 0 where
  pub moment : LAST_MOMENT ≡ 4102444799999
  pub offset : LAST_OFFSET ≡ pos 64800
  pub fast : MOST_FAST ≡ 200
  pub slow : MOST_SLOW ≡ 100
  pub times : MOST_TIMES ≡ 1000
