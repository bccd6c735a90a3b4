-- The entries of a history by their places. The first place is 1, and each entry has its place, also a refused one.
use Rattle.std.specs.Prelude.{ℕ, ◌+◌, ◌==◌, nat_lt, if◌then◌else◌, List, [], ◌∷◌, Option, None, Some}
use Rattle.job_events.specs.declared.executor.ExecutorEvent.{ExecutorEvent}
use Rattle.job_events.specs.declared.executor.ExecutorReply.{ExecutorReply}
use Rattle.executor_history.specs.History.{History, Opening, After}

-- an entry: an event with its reply
pub record Entry : Type 0 where
  pub event : ExecutorEvent
  pub reply : ExecutorReply

-- a history with these entries behind its own, the oldest first
abbrev pub after_all : History → List Entry → History
after_all h [] = h
after_all h (entry ∷ entries) = after_all (After h entry.event entry.reply) entries

-- how many entries there are, which is the place of the last one
abbrev pub places : History → ℕ
places (Opening names kept) = 0
places (After h e r) = places h + 1

-- the history of the entries before a place
abbrev pub before : History → ℕ → History
before (Opening names kept) place = Opening names kept
before (After h e r) place = if nat_lt (places h + 1) place then After h e r else before h place

-- the entry at a place, if there is one
abbrev pub entry_at : History → ℕ → Option Entry
entry_at (Opening names kept) place = None
entry_at (After h e r) place = if place == places h + 1 then Some (record { event = e; reply = r }) else entry_at h place
