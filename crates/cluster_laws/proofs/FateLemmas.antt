-- The tickets that wait are those whose fate is not decided.
use Rattle.std.proofs.Common.{◌≡◌, ℕ, ◌+◌, List, [], ◌∷◌, ◌++◌, Bool, true, false, cond, Option, Some, None, map, not, refl, sym, ap, ◌∙◌, append-nil}
use Rattle.std.specs.List.{filter}
use Rattle.std.proofs.lemmas.List.{map-append}
use Rattle.std.proofs.lemmas.List.Elements.{filter-append, filter_agree}
use Rattle.job_events.specs.declared.cluster.ClusterEvent.{ClusterEvent}
use Rattle.job_events.specs.declared.cluster.ClusterEvent.TheVariants.{NodeStop, ScanStep, Turn, Reopen}
use Rattle.cluster_history.specs.History.{Begin, After, places}
use Rattle.cluster_history.specs.Looks.{Looked}
use Rattle.cluster_history.specs.Jobs.{look_of}
use Rattle.cluster_history.specs.Tickets.{Waiting, waiting, is_at, is_taken, second_of, put_behind, put_due}
use Rattle.cluster_history.proofs.Marks.{kept-none}
use Rattle.cluster_laws.specs.Fates.{Fate, Undecided, Taken, Lost, Put, fate_at, fate_after, aged, put_new, puts_of, waits, waiting_in, WaitingByFate}

waiting-append : (xs ys : List Put) → waiting_in (xs ++ ys) ≡ waiting_in xs ++ waiting_in ys
waiting-append xs ys =
    ap (λ puts. map (λ (put : Put). put.waiting) puts) (filter-append (λ (put : Put). waits put.fate) xs ys)
    ∙ map-append (λ (put : Put). put.waiting) (filter (λ (put : Put). waits put.fate) xs) (filter (λ (put : Put). waits put.fate) ys)

-- of the tickets that waited, those that the entry leaves wait
left-by : (place : ℕ) (ticket : Waiting) (fate : Fate) (puts : List Put) (ts : List Waiting) (b : Bool) → waits fate ≡ b → waiting_in puts ≡ ts
    → waiting_in (record { place = place; waiting = ticket; fate = fate } ∷ puts) ≡ cond b (ticket ∷ ts) ts
left-by place ticket fate puts ts true is more =
    ap (λ b. map (λ (put : Put). put.waiting) (cond b (record { place = place; waiting = ticket; fate = fate } ∷ filter (λ put. waits put.fate) puts) (filter (λ put. waits put.fate) puts))) is
    ∙ ap (λ us. ticket ∷ us) more
left-by place ticket fate puts ts false is more =
    ap (λ b. map (λ (put : Put). put.waiting) (cond b (record { place = place; waiting = ticket; fate = fate } ∷ filter (λ put. waits put.fate) puts) (filter (λ put. waits put.fate) puts))) is
    ∙ more

left-one : (e : ClusterEvent) (place from : ℕ) (ticket : Waiting) (fate : Fate) (xs ys : List Put) → waiting_in xs ≡ filter (λ t. waits (fate_at e place t)) (waiting_in ys)
    → waiting_in (record { place = from; waiting = ticket; fate = fate_after e place ticket fate } ∷ xs) ≡ filter (λ t. waits (fate_at e place t)) (waiting_in (record { place = from; waiting = ticket; fate = fate } ∷ ys))
left-one e place from ticket Undecided xs ys more = left-by from ticket (fate_at e place ticket) xs (filter (λ t. waits (fate_at e place t)) (waiting_in ys)) (waits (fate_at e place ticket)) refl more
left-one e place from ticket (Taken p) xs ys more = more
left-one e place from ticket (Lost p) xs ys more = more

left-aged : (e : ClusterEvent) (place : ℕ) (puts : List Put) → waiting_in (map (aged e place) puts) ≡ filter (λ t. waits (fate_at e place t)) (waiting_in puts)
left-aged e place [] = refl
left-aged e place (put ∷ puts) = left-one e place put.place put.waiting put.fate (map (aged e place) puts) puts (left-aged e place puts)

all-kept : (ts : List Waiting) → filter (λ t. true) ts ≡ ts
all-kept [] = refl
all-kept (t ∷ ts) = ap (λ us. t ∷ us) (all-kept ts)

-- an entry that puts no ticket leaves those that pass a test
left-those : (e : ClusterEvent) (place : ℕ) (test : Waiting → Bool) (puts : List Put) (ts : List Waiting) → ((t : Waiting) → test t ≡ waits (fate_at e place t)) → ts ≡ waiting_in puts
    → filter test ts ≡ waiting_in (map (aged e place) puts ++ [])
left-those e place test puts ts same before =
    ap (λ us. filter test us) before
    ∙ filter_agree test (λ t. waits (fate_at e place t)) same (waiting_in puts)
    ∙ sym (left-aged e place puts)
    ∙ sym (ap waiting_in (append-nil (map (aged e place) puts)))

taken-waits : (place : ℕ) (b : Bool) → not b ≡ waits (cond b (Taken place) Undecided)
taken-waits place true = refl
taken-waits place false = refl

lost-waits : (place : ℕ) (b : Bool) → not b ≡ waits (cond b (Lost place) Undecided)
lost-waits place true = refl
lost-waits place false = refl

-- a step puts its ticket behind the others
put-new_due : (admin job edition place : ℕ) (put : Option ℕ) (before : List Waiting) → put_due admin job edition put before ≡ before ++ waiting_in (map (put_new place) (put_due admin job edition put []))
put-new_due admin job edition place None before = sym (append-nil before)
put-new_due admin job edition place (Some due) before = refl

put-new_behind : (admin place : ℕ) (look : Option Looked) (before : List Waiting) → put_behind admin look before ≡ before ++ waiting_in (map (put_new place) (put_behind admin look []))
put-new_behind admin place None before = sym (append-nil before)
put-new_behind admin place (Some look) before = put-new_due admin look.row.id look.row.edition place look.decision.put before

pub waiting-is : WaitingByFate
waiting-is (Begin o) = refl
waiting-is (After h (ScanStep admin) r) =
    put-new_behind admin (places h + 1) (look_of h) (waiting h)
    ∙ ap (λ ts. ts ++ waiting_in (map (put_new (places h + 1)) (put_behind admin (look_of h) []))) (waiting-is h ∙ sym (all-kept (waiting_in (puts_of h))) ∙ sym (left-aged (ScanStep admin) (places h + 1) (puts_of h)))
    ∙ sym (waiting-append (map (aged (ScanStep admin) (places h + 1)) (puts_of h)) (map (put_new (places h + 1)) (put_behind admin (look_of h) [])))
waiting-is (After h (Turn admin at) r) =
    left-those (Turn admin at) (places h + 1) (λ t. not (is_taken admin (second_of at) t)) (puts_of h) (waiting h) (λ t. taken-waits (places h + 1) (is_taken admin (second_of at) t)) (waiting-is h)
waiting-is (After h (NodeStop admin) r) =
    left-those (NodeStop admin) (places h + 1) (λ t. not (is_at admin t)) (puts_of h) (waiting h) (λ t. lost-waits (places h + 1) (is_at admin t)) (waiting-is h)
waiting-is (After h Reopen r) = sym (kept-none (waiting h)) ∙ left-those Reopen (places h + 1) (λ t. false) (puts_of h) (waiting h) (λ t. refl) (waiting-is h)
waiting-is (After h e r) = sym (all-kept (waiting h)) ∙ left-those e (places h + 1) (λ t. true) (puts_of h) (waiting h) (λ t. refl) (waiting-is h)
