-- No due time is fired for more often than it was looked at.
use Rattle.std.proofs.Common.{◌≡◌, ℕ, ◌+◌, ◌<◌, ◌≤◌, List, [], ◌∷◌, ◌++◌, Bool, true, false, cond, eqb, nat_lt, ◌&&◌, not, Option, Some, None, is_some, refl, sym, ap, subst, arith}
use Rattle.std.specs.List.{filter, count_by, slice_get}
use Rattle.std.proofs.lemmas.Bool.Decides.{nat_tests}
use Rattle.job_values.specs.declared.words.Misfire.{Misfire}
use Rattle.job_values.specs.declared.words.Case.TheVariants as case
use Rattle.job_events.specs.declared.cluster.ClusterEvent.TheVariants.{NodeStop, ScanStep, Turn, Reopen}
use Rattle.zone_texts.specs.declared.zone.Zone.{Zone}
use Rattle.cron_schedule.specs.declared.plan.Plan.{Plan}
use Rattle.cron_schedule.specs.After.{time_after, TimesRise}
use Rattle.misfire_rules.specs.declared.decision.Decision.{Decision}
use Rattle.misfire_rules.specs.Decide.{decided, misfire_decision, late_decision, late_with, early_decision, fires_once}
use Rattle.cluster_history.specs.declared.scan.Scan.{Scan}
use Rattle.cluster_history.specs.History.{History, Begin, After, accepted, settings_of}
use Rattle.cluster_history.specs.Zones.{zone_of}
use Rattle.cluster_history.specs.Looks.{Looked, look_in, job_with}
use Rattle.cluster_history.specs.Jobs.{jobs_of, scan_of, look_of}
use Rattle.cluster_history.specs.Tickets.{Waiting, waiting, is_at, taken, second_of, put_due, put_behind}
use Rattle.cluster_laws.specs.Dues.{times_by, times_of, dues_looked, dues_of, FallsFrom, Falls, fired_now, fired_for, is_for, times_fired, EachDueOnce}
use Rattle.cluster_laws.proofs.MomentLemmas.{LooksRight, entry-right}
use Rattle.cluster_history.proofs.Answered.{accepted_opens}
use Rattle.cluster_history.proofs.Counting.{count-cons, count-append, count-map, count-kept}
use Rattle.cluster_laws.proofs.TurnLemmas.{turn-covers}
use Rattle.cluster_laws.proofs.RiseLemmas.{dues-hold}

-- how often a put time is a time
abbrev put_count : ℕ → Option ℕ → ℕ
put_count t None = 0
put_count t (Some p) = cond (eqb t p) 1 0

abbrev fire_count : ℕ → ℕ → Bool → ℕ
fire_count t due fires = cond fires (cond (eqb t due) 1 0) 0

-- a decision fires and puts no time but its times, each once
abbrev Covers : ℕ → ℕ → Decision → Type 0
Covers t due d = fire_count t due d.fire_now + put_count t d.put ≤ count_by (λ x. eqb t x) (times_by d.case due d.put)

fire-most : (t due : ℕ) (fires : Bool) → fire_count t due fires ≤ cond (eqb t due) 1 0
fire-most t due true = omega arith
fire-most t due false = omega arith

late-covers : (t due near : ℕ) (zone : Zone) (plan : Plan) (b : Bool) → Covers t due (cond b (record { case = case.Late; fire_now = true; put = Some near; next = time_after plan zone near }) (record { case = case.Late; fire_now = true; put = None; next = Some near }))
late-covers t due near zone plan true = omega (arith, count-cons (λ x. eqb t x) near (due ∷ []), count-cons (λ x. eqb t x) due [])
late-covers t due near zone plan false = omega (arith, count-cons (λ x. eqb t x) due [])

after-covers : (t due now : ℕ) (zone : Zone) (plan : Plan) (after : Option ℕ) → Covers t due (late_with plan zone now after)
after-covers t due now zone plan None = omega (arith, count-cons (λ x. eqb t x) due [])
after-covers t due now zone plan (Some near) = late-covers t due near zone plan (nat_lt near (now + 5000))

decided-by_covers : (t due now : ℕ) (zone : Zone) (plan : Plan) (misfire : Misfire) (missed late : Bool) → Covers t due (cond missed (misfire_decision plan misfire zone now) (cond late (late_decision plan zone now) (early_decision plan zone due)))
decided-by_covers t due now zone plan misfire true late = omega (arith, count-cons (λ x. eqb t x) due [], fire-most t due (fires_once misfire))
decided-by_covers t due now zone plan misfire false true = after-covers t due now zone plan (time_after plan zone now)
decided-by_covers t due now zone plan misfire false false = omega (arith, count-cons (λ x. eqb t x) due [])

decided-covers : (t due now : ℕ) (zone : Zone) (plan : Plan) (misfire : Misfire) → Covers t due (decided due plan misfire zone now)
decided-covers t due now zone plan misfire = decided-by_covers t due now zone plan misfire (nat_lt (due + 5000) now) (nat_lt due now)

-- tickets that are for a due time of a job in an edition
abbrev pub waits_for : ℕ → ℕ → ℕ → Waiting → Bool
waits_for j e t ticket = is_for j e t (fired_for ticket)

fired-by : (j e t : ℕ) (look : Looked) (fires : Bool) → count_by (is_for j e t) (cond fires (record { job = look.row.id; edition = look.row.edition; due = look.due } ∷ []) [])
    ≡ cond fires (cond (((eqb j look.row.id) && (eqb e look.row.edition)) && (eqb t look.due)) 1 0) 0
fired-by j e t look true = omega (arith, count-cons (is_for j e t) (record { job = look.row.id; edition = look.row.edition; due = look.due }) [])
fired-by j e t look false = refl

put-by : (j e t admin job edition : ℕ) (put : Option ℕ) (ws : List Waiting) (b : Bool) → ((eqb j job) && (eqb e edition)) ≡ b → count_by (waits_for j e t) (put_due admin job edition put ws) ≡ count_by (waits_for j e t) ws + cond b (put_count t put) 0
put-by j e t admin job edition None ws true test = omega arith
put-by j e t admin job edition None ws false test = omega arith
put-by j e t admin job edition (Some due) ws true test =
    let ticket : Waiting = record { admin = admin; ticket = record { job = job; edition = edition; due = due } } in
    let here : cond {A = ℕ} (((eqb j job) && (eqb e edition)) && (eqb t due)) 1 0 ≡ cond {A = ℕ} (eqb t due) 1 0 = ap (λ (b : Bool). cond {A = ℕ} (b && (eqb t due)) 1 0) test in
    omega (arith, count-append (waits_for j e t) ws (record { admin = admin; ticket = record { job = job; edition = edition; due = due } } ∷ []), count-cons (waits_for j e t) (record { admin = admin; ticket = record { job = job; edition = edition; due = due } }) [])
put-by j e t admin job edition (Some due) ws false test =
    let here : cond {A = ℕ} (((eqb j job) && (eqb e edition)) && (eqb t due)) 1 0 ≡ 0 = ap (λ (b : Bool). cond {A = ℕ} (b && (eqb t due)) 1 0) test in
    omega (arith, count-append (waits_for j e t) ws (record { admin = admin; ticket = record { job = job; edition = edition; due = due } } ∷ []), count-cons (waits_for j e t) (record { admin = admin; ticket = record { job = job; edition = edition; due = due } }) [])

same-cond : (b : Bool) → cond {A = ℕ} b 0 0 ≡ 0
same-cond true = refl
same-cond false = refl

look-covers_by : (j e t admin fired : ℕ) (look : Looked) (ws : List Waiting) (dues : List ℕ) (b : Bool) → ((eqb j look.row.id) && (eqb e look.row.edition)) ≡ b → Covers t look.due look.decision → fired + count_by (waits_for j e t) ws ≤ count_by (λ x. eqb t x) dues
    → (cond look.decision.fire_now (cond (b && (eqb t look.due)) 1 0) 0 + fired) + (count_by (waits_for j e t) ws + cond b (put_count t look.decision.put) 0) ≤ count_by (λ x. eqb t x) (cond b (times_of look ++ dues) dues)
look-covers_by j e t admin fired look ws dues true test covers before = omega (arith, count-append (λ x. eqb t x) (times_of look) dues)
look-covers_by j e t admin fired look ws dues false test covers before = let none : cond {A = ℕ} look.decision.fire_now 0 0 ≡ 0 = same-cond look.decision.fire_now in omega arith

-- what a look fires and puts is among its times
look-covers : (h : History) (j e t admin fired : ℕ) (scan : Scan) (look : Looked) (ws : List Waiting) (dues : List ℕ) → LooksRight h scan look → fired + count_by (waits_for j e t) ws ≤ count_by (λ x. eqb t x) dues
    → (count_by (is_for j e t) (fired_now (Some look)) + fired) + count_by (waits_for j e t) (put_behind admin (Some look) ws) ≤ count_by (λ x. eqb t x) (dues_looked (Some look) j e dues)
look-covers h j e t admin fired scan look ws dues right before =
    let D : Decision → Type 0 = λ d. Covers t look.due d in
    let covers : Covers t look.due look.decision = subst D (sym right.decision) (decided-covers t look.due scan.at (zone_of (settings_of h) look.row.spec) look.row.schedule look.row.spec.misfire) in
    let f = fired-by j e t look look.decision.fire_now in
    let p = put-by j e t admin look.row.id look.row.edition look.decision.put ws ((eqb j look.row.id) && (eqb e look.row.edition)) refl in
    let all = look-covers_by j e t admin fired look ws dues ((eqb j look.row.id) && (eqb e look.row.edition)) refl covers before in
    omega (arith, f, p, all)

pub step-covers : (h : History) (j e t admin fired : ℕ) (scan : Option Scan) (look : Option Looked) (ws : List Waiting) (dues : List ℕ) → look_in (settings_of h) scan (jobs_of h) ≡ look → fired + count_by (waits_for j e t) ws ≤ count_by (λ x. eqb t x) dues
    → (count_by (is_for j e t) (fired_now look) + fired) + count_by (waits_for j e t) (put_behind admin look ws) ≤ count_by (λ x. eqb t x) (dues_looked look j e dues)
step-covers h j e t admin fired scan None ws dues is before = omega arith
step-covers h j e t admin fired None (Some look) ws dues is before = (cc)
step-covers h j e t admin fired (Some scan) (Some look) ws dues is before =
    look-covers h j e t admin fired scan look ws dues (entry-right h scan (slice_get scan.page scan.steps) look is) before

-- firings and waiting tickets for a due time are no more than the looks at it
covered : (h : History) (j e t : ℕ) → times_fired h j e t + count_by (waits_for j e t) (waiting h) ≤ count_by (λ x. eqb t x) (dues_of h j e)
covered (Begin o) j e t = omega arith
covered (After h (ScanStep admin) r) j e t = step-covers h j e t admin (times_fired h j e t) (scan_of h) (look_of h) (waiting h) (dues_of h j e) refl (covered h j e t)
covered (After h (Turn admin at) r) j e t =
    let present : Waiting → Bool = λ ticket. is_some (job_with ticket.ticket.job (jobs_of h)) in
    omega (
      arith,
      covered h j e t,
      count-map (is_for j e t) fired_for (filter (λ ticket. is_some (job_with ticket.ticket.job (jobs_of h))) (taken admin (second_of at) (waiting h))),
      turn-covers (waits_for j e t) (λ ticket. is_some (job_with ticket.ticket.job (jobs_of h))) admin (second_of at) (waiting h),
    )
covered (After h (NodeStop admin) r) j e t = omega (arith, covered h j e t, count-kept (waits_for j e t) (λ ticket. not (is_at admin ticket)) (waiting h))
covered (After h Reopen r) j e t = omega (arith, covered h j e t)
covered (After h _ r) j e t = omega (arith, covered h j e t)

-- a time that is not below the first is not among times that fall
not-above : (top t : ℕ) (ts : List ℕ) → FallsFrom top ts → top ≤ t → count_by (λ x. eqb t x) ts ≡ 0
not-above top t [] falls up = refl
not-above top t (x ∷ ts) falls up =
    let first : x < top = falls.0 in
    let other : eqb t x ≡ false = grind (arith, nat_tests) in
    let none : cond {A = ℕ} (eqb t x) 1 0 ≡ 0 = ap (λ (b : Bool). cond {A = ℕ} b 1 0) other in
    omega (arith, count-cons (λ y. eqb t y) x ts, not-above x t ts falls.1 (omega arith))

falls-once : (x t : ℕ) (ts : List ℕ) (b : Bool) → eqb t x ≡ b → FallsFrom x ts → count_by (λ y. eqb t y) ts ≤ 1 → cond b 1 0 + count_by (λ y. eqb t y) ts ≤ 1
falls-once x t ts true test falls few = let same : t ≡ x = grind (arith, nat_tests) in omega (arith, not-above x t ts falls (omega arith))
falls-once x t ts false test falls few = omega arith

from-once : (top t : ℕ) (ts : List ℕ) → FallsFrom top ts → count_by (λ x. eqb t x) ts ≤ 1
from-once top t [] falls = omega arith
from-once top t (x ∷ ts) falls = omega (arith, count-cons (λ y. eqb t y) x ts, falls-once x t ts (eqb t x) refl falls.1 (from-once x t ts falls.1))

pub all-once : (t : ℕ) (ts : List ℕ) → Falls ts → count_by (λ x. eqb t x) ts ≤ 1
all-once t [] falls = omega arith
all-once t (x ∷ ts) falls = omega (arith, count-cons (λ y. eqb t y) x ts, falls-once x t ts (eqb t x) refl falls (from-once x t ts falls))

pub each-once : TimesRise → EachDueOnce
each-once rise h legal j e =
    let holds = dues-hold rise (accepted h) j e (accepted_opens h legal) in
    record {
      falls = holds.falls;
      once = λ t. omega (arith, covered (accepted h) j e t, all-once t (dues_of (accepted h) j e) holds.falls);
      known = λ t. omega (arith, covered (accepted h) j e t);
    }
