-- Histories of the cluster: what it opened with, and each event with its reply, the last one outermost.
use Rattle.std.specs.Prelude.{ℕ, ◌+◌, ◌==◌, List, [], ◌∷◌, Bool, true, false, nat_lt, Option, Some, None, if◌then◌else◌}
use Rattle.job_events.specs.declared.cluster.ClusterEvent.{ClusterEvent}
use Rattle.job_events.specs.declared.cluster.ClusterReply.{ClusterReply}
use Rattle.job_events.specs.declared.cluster.ClusterReply.TheVariants.{Refused}
use Rattle.job_records.specs.Tables.{Tables, no_rows}
use Rattle.cluster_history.specs.declared.settings.Settings.{Settings}

-- what a cluster opens with: its settings, and the rows with the last ids that were given
pub record Opening : Type 0 where
  pub settings : Settings
  pub tables : Tables

-- an event with its reply
pub record Entry : Type 0 where
  pub event : ClusterEvent
  pub reply : ClusterReply

-- an opening, or a history with one entry more
pub data History : Type 0 where
  Begin : Opening → History
  After : History → ClusterEvent → ClusterReply → History

-- what a history opened with
abbrev pub opening_of : History → Opening
opening_of (Begin o) = o
opening_of (After h e r) = opening_of h

-- the history with these entries behind it, the oldest one first
abbrev pub after_all : History → List Entry → History
after_all h [] = h
after_all h (entry ∷ entries) = after_all (After h entry.event entry.reply) entries

-- how many entries there are, which is the place of the last one
abbrev pub places : History → ℕ
places (Begin o) = 0
places (After h e r) = places h + 1

-- the entry at a place, if there is one
abbrev pub entry_at : History → ℕ → Option Entry
entry_at (Begin o) place = None
entry_at (After h e r) place = if place == places h + 1 then Some (record { event = e; reply = r }) else entry_at h place

-- the history of the entries before a place
abbrev pub before : History → ℕ → History
before (Begin o) place = Begin o
before (After h e r) place = if nat_lt (places h + 1) place then After h e r else before h place

-- whether a reply refuses its event
abbrev pub is_refusal : ClusterReply → Bool
is_refusal (Refused why) = true
is_refusal _ = false

-- a history with an entry, unless it was refused
abbrev pub with_entry : Bool → History → ClusterEvent → ClusterReply → History
with_entry true h e r = h
with_entry false h e r = After h e r

-- the history without its refused entries, which change nothing
abbrev pub accepted : History → History
accepted (Begin o) = Begin o
accepted (After h e r) = with_entry (is_refusal r) (accepted h) e r

-- the settings stay
abbrev pub settings_of : History → Settings
settings_of (Begin o) = o.settings
settings_of (After h e r) = settings_of h

-- the opening of a new cluster
abbrev pub empty_opening : Settings → Opening
empty_opening settings = record { settings = settings; tables = no_rows }
