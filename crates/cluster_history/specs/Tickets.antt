-- The tickets that wait in the rings.
use Rattle.std.specs.Prelude.{ℕ, ◌/◌, ◌==◌, List, [], ◌∷◌, ◌++◌, filter, count_by, Bool, ◌&&◌, ◌||◌, not, Option, Some, None}
use Rattle.job_values.specs.declared.limits.TheConstants.{SECOND}
use Rattle.job_events.specs.declared.cluster.ClusterEvent.TheVariants.{NodeStop, ScanStep, Turn, Reopen}
use Rattle.time_ring.specs.declared.ticket.Ticket.{Ticket}
use Rattle.time_ring.specs.Ring.{slot_of, slot_of_second, slot_before}
use Rattle.cluster_history.specs.History.{History, Begin, After}
use Rattle.cluster_history.specs.Looks.{Looked}
use Rattle.cluster_history.specs.Jobs.{look_of}

-- a ticket that waits in the ring of an admin
pub record Waiting : Type 0 where
  pub admin : ℕ
  pub ticket : Ticket

-- the second of a moment
abbrev pub second_of : ℕ → ℕ
second_of moment = moment / SECOND

-- whether a ticket is in a slot of an admin
abbrev pub is_in_slot : ℕ → ℕ → Waiting → Bool
is_in_slot admin slot one = (one.admin == admin) && (slot_of one.ticket.due == slot)

-- whether a turn of an admin at a second takes a ticket
abbrev pub is_taken : ℕ → ℕ → Waiting → Bool
is_taken admin second one = is_in_slot admin (slot_of_second second) one || is_in_slot admin (slot_before second) one

-- the tickets that it takes: those of the present slot, then those of the slot before, each in order
abbrev pub taken : ℕ → ℕ → List Waiting → List Waiting
taken admin second ones =
    filter (is_in_slot admin (slot_of_second second)) ones ++ filter (is_in_slot admin (slot_before second)) ones

-- the tickets that it leaves
abbrev pub left : ℕ → ℕ → List Waiting → List Waiting
left admin second ones = filter (λ one. not (is_taken admin second one)) ones

-- a time that is put makes a ticket behind the others
abbrev pub put_due : ℕ → ℕ → ℕ → Option ℕ → List Waiting → List Waiting
put_due admin job edition None others = others
put_due admin job edition (Some due) others =
    others ++ record { admin = admin; ticket = record { job = job; edition = edition; due = due } } ∷ []

-- the ticket of a look's job and edition, if it puts a time
abbrev pub put_behind : ℕ → Option Looked → List Waiting → List Waiting
put_behind admin None others = others
put_behind admin (Some look) others = put_due admin look.row.id look.row.edition look.decision.put others

-- whether a ticket is in the ring of an admin
abbrev pub is_at : ℕ → Waiting → Bool
is_at admin one = one.admin == admin

-- the tickets that no turn took and no stop lost, in the order of the steps that put them
abbrev pub waiting : History → List Waiting
waiting (Begin o) = []
waiting (After h (ScanStep admin) r) = put_behind admin (look_of h) (waiting h)
waiting (After h (Turn admin at) r) = left admin (second_of at) (waiting h)
waiting (After h (NodeStop admin) r) = filter (λ one. not (is_at admin one)) (waiting h)
waiting (After h Reopen r) = []
waiting (After h _ r) = waiting h

-- how many tickets wait in the ring of an admin
abbrev pub waiting_at : History → ℕ → ℕ
waiting_at h admin = count_by (is_at admin) (waiting h)
