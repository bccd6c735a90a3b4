-- The replies tell the fates.
use Rattle.std.proofs.Common.{◌≡◌, ℕ, ◌+◌, ◌≤◌, List, [], ◌∷◌, ◌++◌, Bool, true, false, cond, eqb, nat_lt, ◌&&◌, Option, map, length, refl, sym, ap, ◌∙◌, arith}
use Rattle.std.specs.List.{count_by, AllByRecursion}
use Rattle.std.proofs.lemmas.Bool.Decides.{nat_tests}
use Rattle.job_events.specs.declared.opened.FiredTicket.{FiredTicket}
use Rattle.job_events.specs.declared.cluster.ClusterEvent.{ClusterEvent}
use Rattle.job_events.specs.declared.cluster.ClusterEvent.TheVariants.{NodeStop, ScanStep, Turn, Reopen}
use Rattle.job_events.specs.declared.cluster.ClusterReply.{ClusterReply}
use Rattle.job_events.specs.declared.cluster.ClusterReply.TheVariants as reply
use Rattle.job_events.specs.declared.cluster.ClusterRefusal.TheVariants.{IdsSpent}
use Rattle.job_values.specs.declared.limits.TheConstants.{LAST_LOG_ID}
use Rattle.job_records.specs.declared.job.Job.{Job}
use Rattle.job_records.specs.declared.group.Group.{Group}
use Rattle.cluster_history.specs.History.{History, Begin, After, places, is_refusal}
use Rattle.cluster_history.specs.Nodes.{runs}
use Rattle.cluster_history.specs.Groups.{groups_of}
use Rattle.cluster_history.specs.Looks.{Looked}
use Rattle.cluster_history.specs.Jobs.{jobs_of, look_of}
use Rattle.cluster_history.specs.Tickets.{Waiting, waiting, waiting_at, is_at, is_taken, taken, second_of, put_behind}
use Rattle.cluster_history.specs.Firings.{shots_taken, shots_turned}
use Rattle.cluster_history.specs.Openings.{Pools, pools_after}
use Rattle.cluster_history.specs.Logs.{last_log, pools_of, open_at}
use Rattle.cluster_history.specs.Replies.{refused, if_running, fired_from, counted_to}
use Rattle.cluster_history.specs.Runs.{IsAnswered, AreWithin}
use Rattle.cluster_laws.specs.Dues.{is_for, fired_for}
use Rattle.cluster_laws.specs.Fates.{Fate, Undecided, Taken, Lost, Put, fate_at, fate_after, aged, put_new, puts_new, puts_of, waiting_in}
use Rattle.cluster_laws.specs.Told.{is_taken_at, is_lost_at, is_put_for, told_firing, told_fired, told_lost, fired_at, lost_at}
use Rattle.cluster_history.proofs.Counting.{count-cons, count-append, count-map, count-agree, count-none, count-all}
use Rattle.cluster_laws.proofs.TurnLemmas.{count-taken}
use Rattle.cluster_laws.proofs.FateLemmas.{waiting-is}
use Rattle.cluster_laws.proofs.LostLemmas.{lost-all}

-- a fate that was decided up to a place
abbrev IsPast : ℕ → Fate → Type 0
IsPast top Undecided = Unit {0}
IsPast top (Taken p) = p ≤ top
IsPast top (Lost p) = p ≤ top

past-more : (top : ℕ) (fate : Fate) → IsPast top fate → IsPast (top + 1) fate
past-more top Undecided past = tt
past-more top (Taken p) past = omega (arith, past)
past-more top (Lost p) past = omega (arith, past)

past-taken : (place : ℕ) (b : Bool) → IsPast place (cond b (Taken place) Undecided)
past-taken place true = omega arith
past-taken place false = tt

past-lost : (place : ℕ) (b : Bool) → IsPast place (cond b (Lost place) Undecided)
past-lost place true = omega arith
past-lost place false = tt

past-at : (e : ClusterEvent) (place : ℕ) (ticket : Waiting) → IsPast place (fate_at e place ticket)
past-at (Turn admin at) place ticket = past-taken place (is_taken admin (second_of at) ticket)
past-at (NodeStop admin) place ticket = past-lost place (is_at admin ticket)
past-at Reopen place ticket = omega arith
past-at _ place ticket = tt

past-after : (e : ClusterEvent) (top : ℕ) (ticket : Waiting) (fate : Fate) → IsPast top fate → IsPast (top + 1) (fate_after e (top + 1) ticket fate)
past-after e top ticket Undecided past = past-at e (top + 1) ticket
past-after e top ticket (Taken p) past = past-more top (Taken p) past
past-after e top ticket (Lost p) past = past-more top (Lost p) past

abbrev ArePast : ℕ → List Put → Type 0
ArePast top puts = AllByRecursion (λ put. IsPast top put.fate) puts

past-aged : (e : ClusterEvent) (top : ℕ) (puts more : List Put) → ArePast top puts → ArePast (top + 1) more → ArePast (top + 1) (map (aged e (top + 1)) puts ++ more)
past-aged e top [] more past new = new
past-aged e top (put ∷ puts) more past new = (past-after e top put.waiting put.fate past.0, past-aged e top puts more past.1 new)

past-put : (top : ℕ) (tickets : List Waiting) → ArePast top (map (put_new top) tickets)
past-put top [] = tt
past-put top (ticket ∷ tickets) = (tt, past-put top tickets)

past-all : (h : History) → ArePast (places h) (puts_of h)
past-all (Begin o) = tt
past-all (After h (ScanStep admin) r) = past-aged (ScanStep admin) (places h) (puts_of h) _ (past-all h) (past-put (places h + 1) (put_behind admin (look_of h) []))
past-all (After h e r) = past-aged e (places h) (puts_of h) [] (past-all h) tt

-- tickets by a test of their fates
abbrev passing : (Fate → Waiting → Bool) → List Put → ℕ
passing test puts = count_by (λ put. test put.fate put.waiting) puts

put-none : (test : Fate → Waiting → Bool) → ((t : Waiting) → test Undecided t ≡ false) → (place : ℕ) (tickets : List Waiting) → passing test (map (put_new place) tickets) ≡ 0
put-none test waits place [] = refl
put-none test waits place (t ∷ tickets) =
    let here : cond {A = ℕ} (test Undecided t) 1 0 ≡ 0 = ap (λ (b : Bool). cond {A = ℕ} b 1 0) (waits t) in
    omega (arith, count-cons (λ (put : Put). test put.fate put.waiting) (put_new place t) (map (put_new place) tickets), put-none test waits place tickets)

new-none : (test : Fate → Waiting → Bool) → ((t : Waiting) → test Undecided t ≡ false) → (e : ClusterEvent) (place : ℕ) (look : Option Looked) → passing test (puts_new e place look) ≡ 0
new-none test waits (ScanStep admin) place look = put-none test waits place (put_behind admin look [])
new-none test waits _ place look = refl

-- a test that what an entry decides does not pass counts what it counted before
old-one : (test : Fate → Waiting → Bool) (e : ClusterEvent) (place : ℕ) (t : Waiting) (fate : Fate) → test Undecided t ≡ false → test (fate_at e place t) t ≡ false → test (fate_after e place t fate) t ≡ test fate t
old-one test e place t Undecided waits then = then ∙ sym waits
old-one test e place t (Taken p) waits then = refl
old-one test e place t (Lost p) waits then = refl

old-passing : (test : Fate → Waiting → Bool) (e : ClusterEvent) (place : ℕ) → ((t : Waiting) → test Undecided t ≡ false) → ((t : Waiting) → test (fate_at e place t) t ≡ false) → (puts : List Put) (look : Option Looked)
    → passing test (map (aged e place) puts ++ puts_new e place look) ≡ passing test puts
old-passing test e place waits then puts look =
    omega (
      arith,
      count-append (λ (put : Put). test put.fate put.waiting) (map (aged e place) puts) (puts_new e place look),
      new-none test waits e place look,
      count-map (λ (put : Put). test put.fate put.waiting) (aged e place) puts,
      count-agree (λ (put : Put). test (fate_after e place put.waiting put.fate) put.waiting) (λ (put : Put). test put.fate put.waiting) (λ put. old-one test e place put.waiting put.fate (waits put.waiting) (then put.waiting)) puts,
    )

new-one : (test : Fate → Waiting → Bool) (e : ClusterEvent) (place top from : ℕ) (t : Waiting) (fate : Fate) (xs ys : List Put) → ((f : Fate) (u : Waiting) → IsPast top f → test f u ≡ false) → IsPast top fate
    → passing test xs ≡ count_by (λ u. test (fate_at e place u) u) (waiting_in ys)
    → passing test (record { place = from; waiting = t; fate = fate_after e place t fate } ∷ xs) ≡ count_by (λ u. test (fate_at e place u) u) (waiting_in (record { place = from; waiting = t; fate = fate } ∷ ys))
new-one test e place top from t Undecided xs ys before past more =
    omega (arith, count-cons (λ (put : Put). test put.fate put.waiting) (record { place = from; waiting = t; fate = fate_at e place t }) xs, count-cons (λ u. test (fate_at e place u) u) t (waiting_in ys))
new-one test e place top from t (Taken p) xs ys before past more =
    let here : cond {A = ℕ} (test (Taken p) t) 1 0 ≡ 0 = ap (λ (b : Bool). cond {A = ℕ} b 1 0) (before (Taken p) t past) in
    omega (arith, count-cons (λ (put : Put). test put.fate put.waiting) (record { place = from; waiting = t; fate = Taken p }) xs)
new-one test e place top from t (Lost p) xs ys before past more =
    let here : cond {A = ℕ} (test (Lost p) t) 1 0 ≡ 0 = ap (λ (b : Bool). cond {A = ℕ} b 1 0) (before (Lost p) t past) in
    omega (arith, count-cons (λ (put : Put). test put.fate put.waiting) (record { place = from; waiting = t; fate = Lost p }) xs)

new-aged : (test : Fate → Waiting → Bool) (e : ClusterEvent) (place top : ℕ) → ((f : Fate) (u : Waiting) → IsPast top f → test f u ≡ false) → (puts : List Put) → ArePast top puts
    → passing test (map (aged e place) puts) ≡ count_by (λ u. test (fate_at e place u) u) (waiting_in puts)
new-aged test e place top before [] past = refl
new-aged test e place top before (put ∷ puts) past =
    new-one test e place top put.place put.waiting put.fate (map (aged e place) puts) puts before past.0 (new-aged test e place top before puts past.1)

-- a test that no fate decided before passes counts, of the tickets that waited, those that the entry decides so
new-passing : (test : Fate → Waiting → Bool) (e : ClusterEvent) (place top : ℕ) → ((f : Fate) (u : Waiting) → IsPast top f → test f u ≡ false) → (puts : List Put) (look : Option Looked) → ArePast top puts
    → passing test (map (aged e place) puts ++ puts_new e place look) ≡ count_by (λ u. test (fate_at e place u) u) (waiting_in puts)
new-passing test e place top before puts look past =
    omega (
      arith,
      count-append (λ (put : Put). test put.fate put.waiting) (map (aged e place) puts) (puts_new e place look),
      new-none test (λ t. before Undecided t tt) e place look,
      new-aged test e place top before puts past,
    )

-- the place of an entry is none before it
apart-place : (place p top : ℕ) → eqb place (top + 1) ≡ true → p ≤ top → eqb place p ≡ false
apart-place place p top here below = let same : place ≡ top + 1 = grind (arith, nat_tests) in grind (arith, nat_tests)

past-not_taken : (place top : ℕ) (fate : Fate) → eqb place (top + 1) ≡ true → IsPast top fate → is_taken_at place fate ≡ false
past-not_taken place top Undecided here past = refl
past-not_taken place top (Taken p) here past = apart-place place p top here past
past-not_taken place top (Lost p) here past = refl

past-not_lost : (place top : ℕ) (fate : Fate) → eqb place (top + 1) ≡ true → IsPast top fate → is_lost_at place fate ≡ false
past-not_lost place top Undecided here past = refl
past-not_lost place top (Taken p) here past = refl
past-not_lost place top (Lost p) here past = apart-place place p top here past

-- what an entry at another place decides is not decided at this one
if-taken : (place p : ℕ) (b same : Bool) → eqb place p ≡ same → is_taken_at place (cond b (Taken p) Undecided) ≡ (b && same)
if-taken place p true same test = test
if-taken place p false same test = refl

if-lost : (place p : ℕ) (b same : Bool) → eqb place p ≡ same → is_lost_at place (cond b (Lost p) Undecided) ≡ (b && same)
if-lost place p true same test = test
if-lost place p false same test = refl

and-false : (b : Bool) → (b && false) ≡ false
and-false true = refl
and-false false = refl

and-true : (b : Bool) → (b && true) ≡ b
and-true true = refl
and-true false = refl

never-taken : (place p : ℕ) (b : Bool) → is_taken_at place (cond b (Lost p) Undecided) ≡ false
never-taken place p true = refl
never-taken place p false = refl

never-lost : (place p : ℕ) (b : Bool) → is_lost_at place (cond b (Taken p) Undecided) ≡ false
never-lost place p true = refl
never-lost place p false = refl

other-taken : (e : ClusterEvent) (place p : ℕ) (t : Waiting) → eqb place p ≡ false → is_taken_at place (fate_at e p t) ≡ false
other-taken (Turn admin at) place p t other = if-taken place p (is_taken admin (second_of at) t) false other ∙ and-false (is_taken admin (second_of at) t)
other-taken (NodeStop admin) place p t other = never-taken place p (is_at admin t)
other-taken Reopen place p t other = refl
other-taken _ place p t other = refl

other-lost : (e : ClusterEvent) (place p : ℕ) (t : Waiting) → eqb place p ≡ false → is_lost_at place (fate_at e p t) ≡ false
other-lost (Turn admin at) place p t other = never-lost place p (is_taken admin (second_of at) t)
other-lost (NodeStop admin) place p t other = if-lost place p (is_at admin t) false other ∙ and-false (is_at admin t)
other-lost Reopen place p t other = other
other-lost _ place p t other = refl

-- the tickets that a turn's reply tells are those that it takes
fired-told : (groups : List Group) (jobs : List Job) (at last : ℕ) (pools : Pools) (tickets : List Waiting) → map told_firing (fired_from groups jobs at last pools tickets) ≡ map fired_for tickets
fired-told groups jobs at last pools [] = refl
fired-told groups jobs at last pools (ticket ∷ tickets) =
    ap (λ firings. fired_for ticket ∷ firings)
    (fired-told groups jobs at (last + length (shots_taken groups jobs at ticket)) (pools_after pools (shots_taken groups jobs at ticket)) tickets)

turn-told_by : (b spent : Bool) (admin at : ℕ) (tickets : List FiredTicket) (r : ClusterReply) → r ≡ if_running b admin (cond spent (refused IdsSpent) (reply.Fired tickets)) → is_refusal r ≡ false → told_fired (Turn admin at) r ≡ map told_firing tickets
turn-told_by false spent admin at tickets r is ok = (cc)
turn-told_by true true admin at tickets r is ok = (cc)
turn-told_by true false admin at tickets r is ok = ap (told_fired (Turn admin at)) is

turn-told : (h : History) (admin at : ℕ) (r : ClusterReply) → IsAnswered (After h (Turn admin at) r) → told_fired (Turn admin at) r ≡ map fired_for (taken admin (second_of at) (waiting h))
turn-told h admin at r answered =
    turn-told_by (runs h admin) (nat_lt LAST_LOG_ID (last_log h + length (shots_turned h admin at))) admin at (fired_from (groups_of h) (jobs_of h) at (last_log h) (pools_of h admin) (taken admin (second_of at) (waiting h))) r answered.1 answered.2
    ∙ fired-told (groups_of h) (jobs_of h) at (last_log h) (pools_of h admin) (taken admin (second_of at) (waiting h))

stop-told_by : (b : Bool) (admin lost ended : ℕ) (r : ClusterReply) → r ≡ if_running b admin (reply.Stopped lost ended) → is_refusal r ≡ false → told_lost (NodeStop admin) r ≡ lost
stop-told_by false admin lost ended r is ok = (cc)
stop-told_by true admin lost ended r is ok = ap (told_lost (NodeStop admin)) is

-- a test of tickets that were taken at a place
abbrev taken_for : ℕ → ℕ → ℕ → ℕ → Fate → Waiting → Bool
taken_for place j d t fate ticket = is_taken_at place fate && is_for j d t (fired_for ticket)

turn-passes : (place p j d t admin second : ℕ) (ticket : Waiting) → eqb place p ≡ true
    → (is_taken admin second ticket && is_for j d t (fired_for ticket)) ≡ taken_for place j d t (cond (is_taken admin second ticket) (Taken p) Undecided) ticket
turn-passes place p j d t admin second ticket here =
    ap (λ b. b && is_for j d t (fired_for ticket)) (sym (if-taken place p (is_taken admin second ticket) true here ∙ and-true (is_taken admin second ticket)))

-- what the reply at the last place tells
last-fired : (h : History) (e : ClusterEvent) (r : ClusterReply) (place j d t : ℕ) → IsAnswered (After h e r) → eqb place (places h + 1) ≡ true
    → count_by (is_for j d t) (told_fired e r) ≡ count_by (λ u. taken_for place j d t (fate_at e (places h + 1) u) u) (waiting h)
last-fired h (Turn admin at) r place j d t answered here =
    ap (count_by (is_for j d t)) (turn-told h admin at r answered)
    ∙ count-map (is_for j d t) fired_for (taken admin (second_of at) (waiting h))
    ∙ count-taken (λ u. is_for j d t (fired_for u)) admin (second_of at) (waiting h)
    ∙ count-agree (λ u. is_taken admin (second_of at) u && is_for j d t (fired_for u)) (λ u. taken_for place j d t (fate_at (Turn admin at) (places h + 1) u) u) (λ u. turn-passes place (places h + 1) j d t admin (second_of at) u here) (waiting h)
last-fired h (NodeStop admin) r place j d t answered here =
    sym (count-none (λ u. taken_for place j d t (fate_at (NodeStop admin) (places h + 1) u) u) (λ u. ap (λ b. b && is_for j d t (fired_for u)) (never-taken place (places h + 1) (is_at admin u))) (waiting h))
last-fired h e r place j d t answered here = sym (count-none (λ u. taken_for place j d t (fate_at e (places h + 1) u) u) (λ u. refl) (waiting h))

last-lost : (h : History) (e : ClusterEvent) (r : ClusterReply) (place : ℕ) → IsAnswered (After h e r) → AreWithin h → eqb place (places h + 1) ≡ true
    → told_lost e r ≡ counted_to (count_by (λ u. is_lost_at place (fate_at e (places h + 1) u)) (waiting h))
last-lost h (NodeStop admin) r place answered within here =
    stop-told_by (runs h admin) admin (counted_to (waiting_at h admin)) (open_at h admin) r answered.1 answered.2
    ∙ ap counted_to (count-agree (is_at admin) (λ u. is_lost_at place (fate_at (NodeStop admin) (places h + 1) u)) (λ u. sym (if-lost place (places h + 1) (is_at admin u) true here ∙ and-true (is_at admin u))) (waiting h))
last-lost h Reopen r place answered within here =
    ap (told_lost Reopen) answered.1
    ∙ ap counted_to (lost-all h answered.0 within ∙ sym (count-all (λ u. eqb place (places h + 1)) (λ u. here) (waiting h)))
last-lost h (Turn admin at) r place answered within here =
    sym (ap counted_to (count-none (λ u. is_lost_at place (fate_at (Turn admin at) (places h + 1) u)) (λ u. never-lost place (places h + 1) (is_taken admin (second_of at) u)) (waiting h)))
last-lost h e r place answered within here =
    sym (ap counted_to (count-none (λ u. is_lost_at place (fate_at e (places h + 1) u)) (λ u. refl) (waiting h)))

fired-by : (h : History) (e : ClusterEvent) (r : ClusterReply) (place j d t : ℕ) (b : Bool) → eqb place (places h + 1) ≡ b → IsAnswered (After h e r)
    → count_by (is_for j d t) (fired_at h place) ≡ passing (taken_for place j d t) (puts_of h)
    → count_by (is_for j d t) (cond b (told_fired e r) (fired_at h place)) ≡ passing (taken_for place j d t) (puts_of (After h e r))
fired-by h e r place j d t true here answered before =
    last-fired h e r place j d t answered here
    ∙ ap (count_by (λ u. taken_for place j d t (fate_at e (places h + 1) u) u)) (waiting-is h)
    ∙ sym (new-passing (taken_for place j d t) e (places h + 1) (places h) (λ f u past. ap (λ b. b && is_for j d t (fired_for u)) (past-not_taken place (places h) f here past)) (puts_of h) (look_of h) (past-all h))
fired-by h e r place j d t false other answered before =
    before
    ∙ sym (old-passing (taken_for place j d t) e (places h + 1) (λ u. refl) (λ u. ap (λ b. b && is_for j d t (fired_for u)) (other-taken e place (places h + 1) u other)) (puts_of h) (look_of h))

pub fired-all : (h : History) → IsAnswered h → (place j d t : ℕ) → count_by (is_for j d t) (fired_at h place) ≡ count_by (λ put. is_taken_at place put.fate && is_put_for j d t put) (puts_of h)
fired-all (Begin o) answered place j d t = refl
fired-all (After h e r) answered place j d t = fired-by h e r place j d t (eqb place (places h + 1)) refl answered (fired-all h answered.0 place j d t)

-- a test of tickets that were lost at a place
abbrev lost_there : ℕ → Fate → Waiting → Bool
lost_there place fate ticket = is_lost_at place fate

lost-by : (h : History) (e : ClusterEvent) (r : ClusterReply) (place : ℕ) (b : Bool) → eqb place (places h + 1) ≡ b → IsAnswered (After h e r) → AreWithin h
    → lost_at h place ≡ counted_to (passing (lost_there place) (puts_of h))
    → cond b (told_lost e r) (lost_at h place) ≡ counted_to (passing (lost_there place) (puts_of (After h e r)))
lost-by h e r place true here answered within before =
    last-lost h e r place answered within here
    ∙ ap (λ tickets. counted_to (count_by (λ u. is_lost_at place (fate_at e (places h + 1) u)) tickets)) (waiting-is h)
    ∙ sym (ap counted_to (new-passing (lost_there place) e (places h + 1) (places h) (λ f u past. past-not_lost place (places h) f here past) (puts_of h) (look_of h) (past-all h)))
lost-by h e r place false other answered within before =
    before
    ∙ sym (ap counted_to (old-passing (lost_there place) e (places h + 1) (λ u. refl) (λ u. other-lost e place (places h + 1) u other) (puts_of h) (look_of h)))

pub lost-told : (h : History) → IsAnswered h → AreWithin h → (place : ℕ) → lost_at h place ≡ counted_to (count_by (λ put. is_lost_at place put.fate) (puts_of h))
lost-told (Begin o) answered within place = refl
lost-told (After h e r) answered within place =
    lost-by h e r place (eqb place (places h + 1)) refl answered within.0 (lost-told h answered.0 within.0 place)
