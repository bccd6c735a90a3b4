-- A clock in memory, as contracts see it.
use Rattle.std.specs.Prelude.{ℕ, List, [], ◌∷◌}

-- the moment that it shows, and those that come
pub record ClockView : Type 0 where
  pub shown : ℕ
  pub coming : List ℕ

abbrev pub moved_to : ℕ → List ℕ → ClockView
moved_to shown [] = record { shown = shown; coming = [] }
moved_to shown (next ∷ rest) = record { shown = next; coming = rest }

-- after a reading it shows the next moment, or stands at the last
abbrev pub moved_on : ClockView → ClockView
moved_on c = moved_to c.shown c.coming
