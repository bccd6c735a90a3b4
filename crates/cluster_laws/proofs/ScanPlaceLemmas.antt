-- The open scan is that of the last begin.
use Rattle.std.proofs.Common.{◌≡◌, ℕ, ◌+◌, ◌≤◌, List, [], ◌∷◌, Bool, true, false, cond, eqb, ltb, ◌&&◌, ◌||◌, not, length, Option, Some, None, refl, sym, ap, ◌∙◌, arith}
use Rattle.std.proofs.lemmas.Bool.Decides.{nat_tests}
use Rattle.job_events.specs.declared.cluster.ClusterEvent.{ClusterEvent}
use Rattle.job_events.specs.declared.cluster.ClusterEvent.TheVariants.{NodeStop, ScanBegin, ScanStep, Reopen}
use Rattle.job_events.specs.declared.cluster.ClusterReply.{ClusterReply}
use Rattle.cluster_history.specs.declared.scan.Scan.{Scan}
use Rattle.cluster_history.specs.declared.scan.PageEntry.{PageEntry}
use Rattle.cluster_history.specs.History.{History, Begin, After, places, before}
use Rattle.cluster_history.specs.Pages.{begun, stepped, unless_owner}
use Rattle.cluster_history.specs.Jobs.{scan_of, page_of}
use Rattle.cluster_history.proofs.Places.{before-all}
use Rattle.cluster_laws.specs.Ends.{stops, stopped_since}
use Rattle.cluster_laws.specs.ScanPlaces.{BegunAt, last_begin, step_in, steps_since, page_at, scan_since, scan_by, ScansByPlace}
use Rattle.cluster_laws.proofs.CodeLemmas.{stopped-none}

-- a scan that is open while it has steps left and no stop ended it
abbrev made : ℕ → ℕ → List PageEntry → ℕ → Bool → Option Scan
made owner at page steps stopped = cond (ltb steps (length page) && not stopped) (Some (record { owner = owner; at = at; page = page; steps = steps })) None

made-new : (owner at : ℕ) (page : List PageEntry) → begun owner at page ≡ made owner at page 0 false
made-new owner at [] = refl
made-new owner at (entry ∷ entries) =
    let some : ltb 0 (length (entry ∷ entries)) ≡ true = grind (arith, nat_tests) in
    sym (ap (λ b. cond (b && true) (Some (record { owner = owner; at = at; page = entry ∷ entries; steps = 0 })) None) some)

-- a step
made-stepped_by : (owner at : ℕ) (page : List PageEntry) (steps : ℕ) (more : Bool) (stopped : Bool) → ltb steps (length page) ≡ more
    → stepped (cond (more && not stopped) (Some (record { owner = owner; at = at; page = page; steps = steps })) None) ≡ made owner at page (steps + 1) stopped
made-stepped_by owner at page steps true false test = by (ltb (steps + 1) (length page))
  where
    by : (b : Bool) → ◌≡◌ {A = Option Scan} (cond b (Some (record { owner = owner; at = at; page = page; steps = steps + 1 })) None) (cond (b && true) (Some (record { owner = owner; at = at; page = page; steps = steps + 1 })) None)
    by true = refl
    by false = refl
made-stepped_by owner at page steps true true test = by (ltb (steps + 1) (length page))
  where
    by : (b : Bool) → ◌≡◌ {A = Option Scan} None (cond (b && false) (Some (record { owner = owner; at = at; page = page; steps = steps + 1 })) None)
    by true = refl
    by false = refl
made-stepped_by owner at page steps false stopped test =
    let over : ltb (steps + 1) (length page) ≡ false = grind (arith, nat_tests) in
    sym (ap (λ b. cond (b && not stopped) (Some (record { owner = owner; at = at; page = page; steps = steps + 1 })) None) over)

made-stepped : (owner at : ℕ) (page : List PageEntry) (steps : ℕ) (stopped : Bool) → stepped (made owner at page steps stopped) ≡ made owner at page (steps + 1) stopped
made-stepped owner at page steps stopped = made-stepped_by owner at page steps (ltb steps (length page)) stopped refl

-- a stop
made-stopped_by : (admin owner at : ℕ) (page : List PageEntry) (steps : ℕ) (more stopped ends : Bool) → eqb owner admin ≡ ends
    → unless_owner admin (cond (more && not stopped) (Some (record { owner = owner; at = at; page = page; steps = steps })) None) ≡ cond (more && not (ends || stopped)) (Some (record { owner = owner; at = at; page = page; steps = steps })) None
made-stopped_by admin owner at page steps true true true test = refl
made-stopped_by admin owner at page steps true true false test = refl
made-stopped_by admin owner at page steps true false true test = ap (λ b. cond b None (Some (record { owner = owner; at = at; page = page; steps = steps }))) test
made-stopped_by admin owner at page steps true false false test = ap (λ b. cond b None (Some (record { owner = owner; at = at; page = page; steps = steps }))) test
made-stopped_by admin owner at page steps false true true test = refl
made-stopped_by admin owner at page steps false true false test = refl
made-stopped_by admin owner at page steps false false true test = refl
made-stopped_by admin owner at page steps false false false test = refl

made-none : (owner at : ℕ) (page : List PageEntry) (steps : ℕ) (more : Bool) → ◌≡◌ {A = Option Scan} None (cond (more && false) (Some (record { owner = owner; at = at; page = page; steps = steps })) None)
made-none owner at page steps true = refl
made-none owner at page steps false = refl

-- the last begin is at a place that there is
pub begin-within : (h : History) (one : BegunAt) → last_begin h ≡ Some one → one.place ≤ places h
begin-within (Begin o) one is = (cc)
begin-within (After h (ScanBegin admin at) r) one is = let same : places h + 1 ≡ one.place = (cc) in omega arith
begin-within (After h _ r) one is = omega (arith, begin-within h one is)

-- no step stands behind the last place
steps-none : (h : History) (place : ℕ) → places h ≤ place → steps_since h place ≡ 0
steps-none (Begin o) place last = refl
steps-none (After h e r) place last =
    let test : ltb place (places h + 1) ≡ false = grind (arith, nat_tests) in
    ap (λ b. cond b (steps_since h place + step_in e) (steps_since h place)) test ∙ steps-none h place (omega arith)

-- an entry behind the begin
since-after : (h : History) (e : ClusterEvent) (r : ClusterReply) (one : BegunAt) → one.place ≤ places h
    → scan_since (After h e r) one ≡ made one.admin one.at (page_at h one) (steps_since h one.place + step_in e) (stops e one.admin || stopped_since h one.place one.admin)
since-after h e r one within =
    let early : ltb (places h + 1) one.place ≡ false = grind (arith, nat_tests) in
    let late : ltb one.place (places h + 1) ≡ true = grind (arith, nat_tests) in
    ap (λ b. made one.admin one.at (page_of (cond b (After h e r) (before h one.place)) one.at) (steps_since (After h e r) one.place) (stopped_since (After h e r) one.place one.admin)) early
    ∙ ap (λ b. made one.admin one.at (page_at h one) (cond b (steps_since h one.place + step_in e) (steps_since h one.place)) ((b && stops e one.admin) || stopped_since h one.place one.admin)) late

-- the scan after an entry that is no begin
step-on : (h : History) (admin : ℕ) (r : ClusterReply) (last : Option BegunAt) → last_begin h ≡ last → scan_of h ≡ scan_by h last → stepped (scan_of h) ≡ scan_by (After h (ScanStep admin) r) last
step-on h admin r None at is = ap stepped is
step-on h admin r (Some one) at is =
    ap stepped is
    ∙ made-stepped one.admin one.at (page_at h one) (steps_since h one.place) (stopped_since h one.place one.admin)
    ∙ sym (since-after h (ScanStep admin) r one (begin-within h one at))

stop-on : (h : History) (admin : ℕ) (r : ClusterReply) (last : Option BegunAt) → last_begin h ≡ last → scan_of h ≡ scan_by h last → unless_owner admin (scan_of h) ≡ scan_by (After h (NodeStop admin) r) last
stop-on h admin r None at is = ap (unless_owner admin) is
stop-on h admin r (Some one) at is =
    let same : steps_since h one.place ≡ steps_since h one.place + 0 = omega arith in
    ap (unless_owner admin) is
    ∙ made-stopped_by admin one.admin one.at (page_at h one) (steps_since h one.place) (ltb (steps_since h one.place) (length (page_at h one))) (stopped_since h one.place one.admin) (eqb one.admin admin) refl
    ∙ ap (λ n. made one.admin one.at (page_at h one) n (eqb one.admin admin || stopped_since h one.place one.admin)) same
    ∙ sym (since-after h (NodeStop admin) r one (begin-within h one at))

reopen-on : (h : History) (r : ClusterReply) (last : Option BegunAt) → last_begin h ≡ last → None ≡ scan_by (After h Reopen r) last
reopen-on h r None at = refl
reopen-on h r (Some one) at =
    made-none one.admin one.at (page_at h one) (steps_since h one.place + 0) (ltb (steps_since h one.place + 0) (length (page_at h one)))
    ∙ sym (since-after h Reopen r one (begin-within h one at))

other-on : (h : History) (e : ClusterEvent) (r : ClusterReply) (last : Option BegunAt) → step_in e ≡ 0 → ((a : ℕ) → stops e a ≡ false) → last_begin h ≡ last → scan_of h ≡ scan_by h last → scan_of h ≡ scan_by (After h e r) last
other-on h e r None no_step no_stop at is = is
other-on h e r (Some one) no_step no_stop at is =
    let same : steps_since h one.place ≡ steps_since h one.place + step_in e = omega (arith, no_step) in
    is
    ∙ ap (λ n. made one.admin one.at (page_at h one) n (stopped_since h one.place one.admin)) same
    ∙ ap (λ b. made one.admin one.at (page_at h one) (steps_since h one.place + step_in e) (b || stopped_since h one.place one.admin)) (sym (no_stop one.admin))
    ∙ sym (since-after h e r one (begin-within h one at))

begin-on : (h : History) (admin at : ℕ) (r : ClusterReply) → begun admin at (page_of h at) ≡ scan_since (After h (ScanBegin admin at) r) (record { place = places h + 1; admin = admin; at = at })
begin-on h admin at r =
    let early : ltb (places h + 1) (places h + 1) ≡ false = grind (arith, nat_tests) in
    made-new admin at (page_of h at)
    ∙ ap (λ (g : History). made admin at (page_of g at) 0 false) (sym (before-all h (places h + 1) (omega arith)))
    ∙ ap (λ b. made admin at (page_of (cond b (After h (ScanBegin admin at) r) (before h (places h + 1))) at) 0 false) (sym early)
    ∙ ap (λ n. made admin at (page_of (before (After h (ScanBegin admin at) r) (places h + 1)) at) n false) (sym (steps-none (After h (ScanBegin admin at) r) (places h + 1) (omega arith)))
    ∙ ap (λ b. made admin at (page_of (before (After h (ScanBegin admin at) r) (places h + 1)) at) (steps_since (After h (ScanBegin admin at) r) (places h + 1)) b) (sym (stopped-none (After h (ScanBegin admin at) r) (places h + 1) admin (omega arith)))

pub scans-by_place : ScansByPlace
scans-by_place (Begin o) = refl
scans-by_place (After h (ScanBegin admin at) r) = begin-on h admin at r
scans-by_place (After h (ScanStep admin) r) = step-on h admin r (last_begin h) refl (scans-by_place h)
scans-by_place (After h (NodeStop admin) r) = stop-on h admin r (last_begin h) refl (scans-by_place h)
scans-by_place (After h Reopen r) = reopen-on h r (last_begin h) refl
scans-by_place (After h e r) = other-on h e r (last_begin h) refl (λ a. refl) refl (scans-by_place h)
