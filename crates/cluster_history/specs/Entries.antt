-- Entries and their places.
use Rattle.std.specs.Prelude.{◌≡◌, ℕ, ◌+◌, List, [], ◌∷◌, ◌++◌, Some}
use Rattle.cluster_history.specs.History.{History, After, Entry, after_all, entry_at, before}

-- the last of some entries comes behind the others, and the entry at a place comes behind those before it
pub record EntriesInOrder : Type 0 where
  pub last : (h : History) (entries : List Entry) (entry : Entry) → after_all h (entries ++ entry ∷ []) ≡ After (after_all h entries) entry.event entry.reply
  pub at : (h : History) (place : ℕ) (entry : Entry) → entry_at h place ≡ Some entry → before h (place + 1) ≡ After (before h place) entry.event entry.reply
