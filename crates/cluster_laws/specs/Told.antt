-- What the replies tell of the tickets' fates.
use Rattle.std.specs.Prelude.{◌≡◌, ℕ, ◌+◌, ◌<◌, ◌≤◌, ◌==◌, List, [], ◌∷◌, map, count_by, Bool, false, ◌&&◌, if◌then◌else◌}
use Rattle.job_events.specs.declared.opened.FiredTicket.{FiredTicket}
use Rattle.job_events.specs.declared.cluster.ClusterEvent.{ClusterEvent}
use Rattle.job_events.specs.declared.cluster.ClusterEvent.TheVariants.{NodeStop, Turn, Reopen}
use Rattle.job_events.specs.declared.cluster.ClusterReply.{ClusterReply}
use Rattle.job_events.specs.declared.cluster.ClusterReply.TheVariants.{Fired, Stopped, Reopened}
use Rattle.cluster_history.specs.History.{History, Begin, After, accepted, places}
use Rattle.cluster_history.specs.Replies.{counted_to}
use Rattle.cluster_history.specs.Runs.{IsLegal}
use Rattle.cluster_laws.specs.Dues.{DueFiring, fired_for, is_for}
use Rattle.cluster_laws.specs.Fates.{Fate, Taken, Lost, Put, puts_of}

-- whether a turn at this place took a ticket
abbrev pub is_taken_at : ℕ → Fate → Bool
is_taken_at place (Taken p) = place == p
is_taken_at place _ = false

-- whether a stop at this place lost it
abbrev pub is_lost_at : ℕ → Fate → Bool
is_lost_at place (Lost p) = place == p
is_lost_at place _ = false

-- whether a ticket is of this job in this edition, for this due time
abbrev pub is_put_for : ℕ → ℕ → ℕ → Put → Bool
is_put_for job edition due put = is_for job edition due (fired_for put.waiting)

-- a ticket that a reply tells
abbrev pub told_firing : FiredTicket → DueFiring
told_firing ticket = record { job = ticket.job; edition = ticket.edition; due = ticket.due }

-- the tickets in the reply of a turn
abbrev pub told_fired : ClusterEvent → ClusterReply → List DueFiring
told_fired (Turn admin at) (Fired tickets) = map told_firing tickets
told_fired _ r = []

-- the number of lost tickets in the reply of a stop
abbrev pub told_lost : ClusterEvent → ClusterReply → ℕ
told_lost (NodeStop admin) (Stopped lost ended) = lost
told_lost Reopen (Reopened lost ended) = lost
told_lost _ r = 0

-- the tickets that the reply at a place tells
abbrev pub fired_at : History → ℕ → List DueFiring
fired_at (Begin o) place = []
fired_at (After h e r) place = if place == places h + 1 then told_fired e r else fired_at h place

-- the number of lost tickets that it tells
abbrev pub lost_at : History → ℕ → ℕ
lost_at (Begin o) place = 0
lost_at (After h e r) place = if place == places h + 1 then told_lost e r else lost_at h place

-- the places of the steps rise, from above `low` up to `last`
abbrev pub PlacesRise : ℕ → List Put → ℕ → Type 0
PlacesRise low [] last = low ≤ last
PlacesRise low (put ∷ puts) last = (low < put.place) × PlacesRise put.place puts last

-- a step puts at most one ticket, none is put twice, and the reply at a place tells those whose fate is that place: of a turn each, of a stop their number
pub record FatesTold (h : History) : Type 0 where
  pub placed : PlacesRise 0 (puts_of h) (places h)
  pub once : (job edition due : ℕ) → count_by (is_put_for job edition due) (puts_of h) ≤ 1
  pub taken : (place job edition due : ℕ) →
      count_by (is_for job edition due) (fired_at h place) ≡ count_by (λ put. is_taken_at place put.fate && is_put_for job edition due put) (puts_of h)
  pub lost : (place : ℕ) → lost_at h place ≡ counted_to (count_by (λ put. is_lost_at place put.fate) (puts_of h))

-- so in every legal history
abbrev pub EachFateTold : Type 0
EachFateTold = (h : History) → IsLegal h → FatesTold (accepted h)
