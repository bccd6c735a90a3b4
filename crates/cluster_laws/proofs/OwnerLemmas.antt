-- Who may scan while a scan is open.
use Rattle.std.proofs.Common.{◌≡◌, ℕ, ◌+◌, ◌-◌, ◌<◌, ◌≤◌, List, [], ◌∷◌, Bool, true, false, cond, eqb, ltb, length, Option, Some, None, refl, sym, ap, ◌∙◌, subst, arith}
use Rattle.std.specs.List.{slice_get}
use Rattle.std.proofs.lemmas.Bool.Decides.{nat_tests}
use Rattle.job_events.specs.declared.cluster.ClusterEvent.TheVariants.{NodeStop, ScanBegin, ScanStep, Reopen}
use Rattle.job_events.specs.declared.cluster.ClusterReply.{ClusterReply}
use Rattle.job_events.specs.declared.cluster.ClusterRefusal.TheVariants.{NotScanning}
use Rattle.cluster_history.specs.declared.scan.Scan.{Scan}
use Rattle.cluster_history.specs.declared.scan.PageEntry.{PageEntry}
use Rattle.cluster_history.specs.History.{History, Begin, After, accepted, is_refusal}
use Rattle.cluster_history.specs.Nodes.{runs}
use Rattle.cluster_history.specs.Pages.{begun, stepped, unless_owner}
use Rattle.cluster_history.specs.Looks.{Looked}
use Rattle.cluster_history.specs.Jobs.{scan_of, look_of, page_of}
use Rattle.cluster_history.specs.Firings.{Shot, shots_stepped}
use Rattle.cluster_history.specs.Openings.{Pools}
use Rattle.cluster_history.specs.Logs.{last_log, pools_of}
use Rattle.cluster_history.specs.Replies.{if_running, begin_reply, step_reply, entry_reply, refused}
use Rattle.cluster_history.specs.Runs.{IsAnswered}
use Rattle.cluster_history.proofs.Answered.{legal_answered}
use Rattle.cluster_laws.specs.Owners.{OpenScan, with_steps, told_steps, one_less, unless_stopped, open_scan, owner_in, OneScan}

-- the scan that the history has is the one that its entries tell
abbrev Agrees : Option Scan → Option OpenScan → Type 0
Agrees None None = Unit {0}
Agrees None (Some told) = ⊥
Agrees (Some scan) None = ⊥
Agrees (Some scan) (Some told) = (scan.owner ≡ told.owner) × (scan.steps + told.left ≡ length scan.page) × (0 < told.left)

begin-told : (b : Bool) (admin : ℕ) (scan : Option Scan) (page : List PageEntry) (r : ClusterReply) → r ≡ if_running b admin (begin_reply scan page) → is_refusal r ≡ false → told_steps r ≡ length page
begin-told false admin scan page r is ok = (cc)
begin-told true admin None page r is ok = ap told_steps is
begin-told true admin (Some scan) page r is ok = (cc)

begin-agrees : (admin at : ℕ) (page : List PageEntry) → Agrees (begun admin at page) (with_steps admin (length page))
begin-agrees admin at [] = tt
begin-agrees admin at (entry ∷ entries) = by (eqb (length (entry ∷ entries)) 0) refl
  where
    by : (b : Bool) → eqb (length (entry ∷ entries)) 0 ≡ b → Agrees (begun admin at (entry ∷ entries)) (cond b None (Some (record { owner = admin; left = length (entry ∷ entries) })))
    by true test = let never : length (entry ∷ entries) ≡ 0 = grind (arith, nat_tests) in omega arith
    by false test = (refl, omega arith, omega arith)

step-agrees_by : (scan : Scan) (told : OpenScan) (more over : Bool) → ltb (scan.steps + 1) (length scan.page) ≡ more → eqb (told.left - 1) 0 ≡ over → Agrees (Some scan) (Some told)
    → Agrees (cond more (Some (record { owner = scan.owner; at = scan.at; page = scan.page; steps = scan.steps + 1 })) None) (cond over None (Some (record { owner = told.owner; left = told.left - 1 })))
step-agrees_by scan told true true test over_test same =
    let few : scan.steps + 1 < length scan.page = grind (arith, nat_tests) in
    let none : told.left - 1 ≡ 0 = grind (arith, nat_tests) in
    let sum : scan.steps + told.left ≡ length scan.page = same.1 in
    omega arith
step-agrees_by scan told true false test over_test same =
    let few : scan.steps + 1 < length scan.page = grind (arith, nat_tests) in
    let sum : scan.steps + told.left ≡ length scan.page = same.1 in
    (same.0, omega arith, omega arith)
step-agrees_by scan told false true test over_test same = tt
step-agrees_by scan told false false test over_test same =
    let many : length scan.page ≤ scan.steps + 1 = grind (arith, nat_tests) in
    let some : told.left - 1 ≡ 0 → ⊥ = λ none. let never : eqb (told.left - 1) 0 ≡ true = grind (arith, nat_tests) in (cc) in
    let sum : scan.steps + told.left ≡ length scan.page = same.1 in
    some (omega arith)

step-agrees : (scan : Option Scan) (told : Option OpenScan) → Agrees scan told → Agrees (stepped scan) (one_less told)
step-agrees None None same = tt
step-agrees None (Some told) same = absurd same
step-agrees (Some scan) None same = absurd same
step-agrees (Some scan) (Some told) same = step-agrees_by scan told (ltb (scan.steps + 1) (length scan.page)) (eqb (told.left - 1) 0) refl refl same

stop-agrees_by : (scan : Scan) (told : OpenScan) (b c : Bool) → b ≡ c → Agrees (Some scan) (Some told) → Agrees (cond b None (Some scan)) (cond c None (Some told))
stop-agrees_by scan told true true e same = tt
stop-agrees_by scan told true false e same = (cc)
stop-agrees_by scan told false true e same = (cc)
stop-agrees_by scan told false false e same = same

stop-agrees : (admin : ℕ) (scan : Option Scan) (told : Option OpenScan) → Agrees scan told → Agrees (unless_owner admin scan) (unless_stopped admin told)
stop-agrees admin None None same = tt
stop-agrees admin None (Some told) same = absurd same
stop-agrees admin (Some scan) None same = absurd same
stop-agrees admin (Some scan) (Some told) same = stop-agrees_by scan told (eqb scan.owner admin) (eqb told.owner admin) (ap (λ n. eqb n admin) same.0) same

scan-agrees : (h : History) → IsAnswered h → Agrees (scan_of h) (open_scan h)
scan-agrees (Begin o) answered = tt
scan-agrees (After h (ScanBegin admin at) r) answered =
    let P : ℕ → Type 0 = λ n. Agrees (begun admin at (page_of h at)) (with_steps admin n) in
    subst P (sym (begin-told (runs h admin) admin (scan_of h) (page_of h at) r answered.1 answered.2)) (begin-agrees admin at (page_of h at))
scan-agrees (After h (ScanStep admin) r) answered = step-agrees (scan_of h) (open_scan h) (scan-agrees h answered.0)
scan-agrees (After h (NodeStop admin) r) answered = stop-agrees admin (scan_of h) (open_scan h) (scan-agrees h answered.0)
scan-agrees (After h Reopen r) answered = tt
scan-agrees (After h _ r) answered = scan-agrees h answered.0

-- a begin is accepted only while no scan is open
begin-free : (b : Bool) (admin : ℕ) (scan : Option Scan) (told : Option OpenScan) (page : List PageEntry) → Agrees scan told → is_refusal (if_running b admin (begin_reply scan page)) ≡ false → told ≡ None
begin-free false admin scan told page same ok = (cc)
begin-free true admin (Some scan) told page same ok = (cc)
begin-free true admin None None page same ok = refl
begin-free true admin None (Some told) page same ok = absurd same

-- a step only while its admin's scan is
step-owned : (same : Bool) (admin : ℕ) (scan : Scan) (answer : ClusterReply) → eqb scan.owner admin ≡ same → is_refusal (cond same answer (refused NotScanning)) ≡ false → scan.owner ≡ admin
step-owned false admin scan answer test ok = (cc)
step-owned true admin scan answer test ok = grind (arith, nat_tests)

step-free : (b : Bool) (admin last : ℕ) (pools : Pools) (shots : List Shot) (look : Option Looked) (scan : Option Scan) (told : Option OpenScan) → Agrees scan told
    → is_refusal (if_running b admin (step_reply last pools shots look admin scan)) ≡ false → owner_in told ≡ Some admin
step-free false admin last pools shots look scan told same ok = (cc)
step-free true admin last pools shots look None told same ok = (cc)
step-free true admin last pools shots look (Some scan) None same ok = absurd same
step-free true admin last pools shots look (Some scan) (Some told) same ok =
    let owned : scan.owner ≡ admin = step-owned (eqb scan.owner admin) admin scan (entry_reply last pools shots look (slice_get scan.page scan.steps)) refl ok in
    ap (λ n. Some n) (sym same.0 ∙ owned)

pub one-scan : OneScan
one-scan h (ScanBegin admin at) reply legal taken =
    begin-free (runs (accepted h) admin) admin (scan_of (accepted h)) (open_scan (accepted h)) (page_of (accepted h) at) (scan-agrees (accepted h) (legal_answered h legal.0)) (ap is_refusal (sym legal.2) ∙ taken)
one-scan h (ScanStep admin) reply legal taken =
    step-free (runs (accepted h) admin) admin (last_log (accepted h)) (pools_of (accepted h) admin) (shots_stepped (accepted h)) (look_of (accepted h)) (scan_of (accepted h)) (open_scan (accepted h))
    (scan-agrees (accepted h) (legal_answered h legal.0)) (ap is_refusal (sym legal.2) ∙ taken)
one-scan h _ reply legal taken = tt
