-- Who may scan while a scan is open.
use Rattle.std.specs.Prelude.{◌≡◌, ℕ, ◌-◌, ◌==◌, false, Option, Some, None, if◌then◌else◌}
use Rattle.job_events.specs.declared.cluster.ClusterEvent.{ClusterEvent}
use Rattle.job_events.specs.declared.cluster.ClusterEvent.TheVariants.{NodeStop, ScanBegin, ScanStep, Reopen}
use Rattle.job_events.specs.declared.cluster.ClusterReply.{ClusterReply}
use Rattle.job_events.specs.declared.cluster.ClusterReply.TheVariants.{Begun}
use Rattle.cluster_history.specs.History.{History, Begin, After, accepted, is_refusal}
use Rattle.cluster_history.specs.Runs.{IsLegal}

-- an open scan: its owner, and how many steps it has left
pub record OpenScan : Type 0 where
  pub owner : ℕ
  pub left : ℕ

-- with no step left it is over
abbrev pub with_steps : ℕ → ℕ → Option OpenScan
with_steps owner left = if left == 0 then None else Some (record { owner = owner; left = left })

-- how many steps the reply to its begin tells
abbrev pub told_steps : ClusterReply → ℕ
told_steps (Begun count) = count
told_steps _ = 0

-- a step takes one
abbrev pub one_less : Option OpenScan → Option OpenScan
one_less None = None
one_less (Some scan) = with_steps scan.owner (scan.left - 1)

-- a stop of its owner ends it
abbrev pub unless_stopped : ℕ → Option OpenScan → Option OpenScan
unless_stopped admin None = None
unless_stopped admin (Some scan) = if scan.owner == admin then None else Some scan

-- a scan is open from a begin that told some steps to the last of them, a stop of its owner or a stop of all
abbrev pub open_scan : History → Option OpenScan
open_scan (Begin o) = None
open_scan (After h (ScanBegin admin at) r) = with_steps admin (told_steps r)
open_scan (After h (ScanStep admin) r) = one_less (open_scan h)
open_scan (After h (NodeStop admin) r) = unless_stopped admin (open_scan h)
open_scan (After h Reopen r) = None
open_scan (After h _ r) = open_scan h

-- who owns it
abbrev pub owner_in : Option OpenScan → Option ℕ
owner_in None = None
owner_in (Some scan) = Some scan.owner

-- a scan begins while none is open, and a step is the owner's of the open one
abbrev pub IsInTurn : Option OpenScan → ClusterEvent → Type 0
IsInTurn scan (ScanBegin admin at) = scan ≡ None
IsInTurn scan (ScanStep admin) = owner_in scan ≡ Some admin
IsInTurn scan _ = Unit {0}

-- so for every accepted event of a legal history
abbrev pub OneScan : Type 0
OneScan =
    (h : History) (event : ClusterEvent) (reply : ClusterReply) → IsLegal (After h event reply)
    → is_refusal reply ≡ false → IsInTurn (open_scan (accepted h)) event
