-- The open scan, by the place of its begin.
use Rattle.std.specs.Prelude.{◌≡◌, ℕ, ◌+◌, List, length, ◌&&◌, not, nat_lt, Option, Some, None, if◌then◌else◌}
use Rattle.job_events.specs.declared.cluster.ClusterEvent.{ClusterEvent}
use Rattle.job_events.specs.declared.cluster.ClusterEvent.TheVariants.{ScanBegin, ScanStep}
use Rattle.cluster_history.specs.declared.scan.Scan.{Scan}
use Rattle.cluster_history.specs.declared.scan.PageEntry.{PageEntry}
use Rattle.cluster_history.specs.History.{History, Begin, After, places, before}
use Rattle.cluster_history.specs.Jobs.{scan_of, page_of}
use Rattle.cluster_laws.specs.Ends.{stopped_since}

-- a begin of a scan: its place, its admin, and its moment
pub record BegunAt : Type 0 where
  pub place : ℕ
  pub admin : ℕ
  pub at : ℕ

-- the last begin, if there is one
abbrev pub last_begin : History → Option BegunAt
last_begin (Begin o) = None
last_begin (After h (ScanBegin admin at) r) = Some (record { place = places h + 1; admin = admin; at = at })
last_begin (After h _ r) = last_begin h

-- one more where an event is a step
abbrev pub step_in : ClusterEvent → ℕ
step_in (ScanStep admin) = 1
step_in _ = 0

-- how many steps stand behind a place
abbrev pub steps_since : History → ℕ → ℕ
steps_since (Begin o) place = 0
steps_since (After h e r) place = if nat_lt place (places h + 1) then steps_since h place + step_in e else steps_since h place

-- the page of a begin: that of the entries before it
abbrev pub page_at : History → BegunAt → List PageEntry
page_at h begun = page_of (before h begun.place) begun.at

-- the scan of a begin is open while there were fewer steps since than its page has entries, and no stop of its owner or of all
abbrev pub scan_since : History → BegunAt → Option Scan
scan_since h begun =
    if nat_lt (steps_since h begun.place) (length (page_at h begun)) && not (stopped_since h begun.place begun.admin)
    then Some (record { owner = begun.admin; at = begun.at; page = page_at h begun; steps = steps_since h begun.place })
    else None

-- by the last begin
abbrev pub scan_by : History → Option BegunAt → Option Scan
scan_by h None = None
scan_by h (Some begun) = scan_since h begun

-- the open scan of every history is that of its last begin
abbrev pub ScansByPlace : Type 0
ScansByPlace = (h : History) → scan_of h ≡ scan_by h (last_begin h)
