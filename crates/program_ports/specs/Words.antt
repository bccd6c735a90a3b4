-- Words in memory, as contracts see them.
use Rattle.std.specs.Prelude.{ℕ, List, [], ◌∷◌}

-- the word that comes next, and those behind it
pub record WordsView : Type 0 where
  pub next : ℕ
  pub coming : List ℕ

abbrev pub moved_to : ℕ → List ℕ → WordsView
moved_to next [] = record { next = next; coming = [] }
moved_to next (word ∷ rest) = record { next = word; coming = rest }

-- after a word the next one comes, or the last again
abbrev pub moved_on : WordsView → WordsView
moved_on w = moved_to w.next w.coming
