-- What became of the tickets.
use Rattle.std.specs.Prelude.{◌≡◌, ℕ, ◌+◌, List, [], ◌++◌, map, filter, Bool, true, false, Option, if◌then◌else◌}
use Rattle.job_events.specs.declared.cluster.ClusterEvent.{ClusterEvent}
use Rattle.job_events.specs.declared.cluster.ClusterEvent.TheVariants.{NodeStop, ScanStep, Turn, Reopen}
use Rattle.cluster_history.specs.History.{History, Begin, After, places}
use Rattle.cluster_history.specs.Looks.{Looked}
use Rattle.cluster_history.specs.Jobs.{look_of}
use Rattle.cluster_history.specs.Tickets.{Waiting, waiting, is_at, is_taken, second_of, put_behind}

-- a ticket waits, or the entry at a place took it, as a turn of its admin, or lost it, as a stop of its admin or of all
pub data Fate : Type 0 where
  Undecided : Fate
  Taken : ℕ → Fate
  Lost : ℕ → Fate

-- a ticket, the place of the step that put it, and what became of it
pub record Put : Type 0 where
  pub place : ℕ
  pub waiting : Waiting
  pub fate : Fate

-- what the entry at a place does to a ticket that waits
abbrev pub fate_at : ClusterEvent → ℕ → Waiting → Fate
fate_at (Turn admin at) place ticket = if is_taken admin (second_of at) ticket then Taken place else Undecided
fate_at (NodeStop admin) place ticket = if is_at admin ticket then Lost place else Undecided
fate_at Reopen place ticket = Lost place
fate_at _ place ticket = Undecided

-- the first entry that ends its waiting is its fate
abbrev pub fate_after : ClusterEvent → ℕ → Waiting → Fate → Fate
fate_after e place ticket Undecided = fate_at e place ticket
fate_after e place ticket (Taken p) = Taken p
fate_after e place ticket (Lost p) = Lost p

-- a ticket after one entry more
abbrev pub aged : ClusterEvent → ℕ → Put → Put
aged e place put = record { place = put.place; waiting = put.waiting; fate = fate_after e place put.waiting put.fate }

-- a ticket that is put waits
abbrev pub put_new : ℕ → Waiting → Put
put_new place ticket = record { place = place; waiting = ticket; fate = Undecided }

-- the ticket that a step puts
abbrev pub puts_new : ClusterEvent → ℕ → Option Looked → List Put
puts_new (ScanStep admin) place look = map (put_new place) (put_behind admin look [])
puts_new _ place look = []

-- the tickets that were put, in order, each with its fate
abbrev pub puts_of : History → List Put
puts_of (Begin o) = []
puts_of (After h e r) = map (aged e (places h + 1)) (puts_of h) ++ puts_new e (places h + 1) (look_of h)

-- whether nothing ended its waiting yet
abbrev pub waits : Fate → Bool
waits Undecided = true
waits _ = false

-- the tickets that wait, by their fates
abbrev pub waiting_in : List Put → List Waiting
waiting_in puts = map (λ put. put.waiting) (filter (λ put. waits put.fate) puts)

-- so after every history
abbrev pub WaitingByFate : Type 0
WaitingByFate = (h : History) → waiting h ≡ waiting_in (puts_of h)
