-- What a step of the scan finds.
use Rattle.std.specs.Prelude.{[], ◌∷◌, ◌++◌, None, if◌then◌else◌, ◌≡◌, ℕ, ◌==◌, List, true, slice_get, Option, Some}
use Rattle.job_records.specs.declared.job.Job.{Job}
use Rattle.cluster_history.specs.declared.scan.Scan.{Scan}
use Rattle.job_events.specs.declared.cluster.ClusterRefusal.TheVariants.{NotScanning}
use Rattle.job_records.specs.declared.group.Group.{Group}
use Rattle.misfire_rules.specs.declared.decision.Decision.{Decision}
use Rattle.time_ring.specs.declared.ticket.Ticket.{Ticket as RingTicket}
use Rattle.cluster_history.specs.Firings.{Shot, shots_of, kind_of}
use Rattle.cluster_history.specs.Openings.{Pools}
use Rattle.cluster_history.specs.Looks.{Looked}
use Rattle.cluster_history.specs.Replies.{step_reply, refused}
use Rattle.scan_plans.specs.declared.pages.Standing.{Standing}
use Rattle.job_events.specs.declared.cluster.ClusterReply.TheVariants as reply
use Rattle.job_records.specs.declared.change.Change.TheVariants as change
use Rattle.log_opening.specs.declared.firing.Fired.{Fired}
use Rattle.cluster_plan.specs.Prepared.{PreparedEvent}
use Rattle.cluster_plan.specs.declared.prepared.NodeChange.{NodeChange}
use Rattle.cluster_plan.specs.declared.prepared.NodeChange.TheVariants as node

-- the admin owns the open scan, whose next entry and moment these are
pub record StandsAt (current : Option Scan) (admin : ℕ) (standing : Standing) : Type 0 where
  pub scan : Scan
  pub is : current ≡ Some scan
  pub owner : (scan.owner == admin) ≡ true
  pub entry : slice_get scan.page scan.steps ≡ Some standing.entry
  pub at : standing.at ≡ scan.at

-- a step of the admin is refused
abbrev pub IsNotScanning : Option Scan → ℕ → Type 0
IsNotScanning current admin = (last : ℕ) (pools : Pools) (shots : List Shot) (look : Option Looked) → step_reply last pools shots look admin current ≡ refused NotScanning

-- a scan that begins
abbrev pub begins : Option Scan → NodeChange
begins None = node.Nothing
begins (Some scan) = node.Begins scan

-- the ticket for a time that is put, if one is
abbrev pub ticket_put : Job → Option ℕ → Option RingTicket
ticket_put row None = None
ticket_put row (Some due) = Some (record { job = row.id; edition = row.edition; due = due })

-- what a look at a row is to open
abbrev pub shots_decided : List Group → ℕ → Decision → Job → List Shot
shots_decided groups at decision row = if decision.fire_now then shots_of groups (kind_of decision.case) at row else []

-- what is prepared for a look at a row: its reply, the rows of its logs and then that of its job, and the ticket for the time that it puts
abbrev pub looks_at : ℕ → Job → ℕ → Decision → Job → Fired → PreparedEvent
looks_at admin row due decision new fired = record {
  reply = reply.Look row.id decision.case due decision.next decision.put fired.opened;
  changes = fired.changes.items ++ change.PutJob new ∷ [];
  node = node.Steps admin (ticket_put row decision.put) fired.entering.items;
}
