-- The fronts of a list of runs, and how they change with it.
use Rattle.std.proofs.Common.{◌≡◌, ℕ, ◌<◌, Bool, true, false, not, ◌==◌, nat_lt, List, [], ◌∷◌, ◌++◌, Option, None, Some, if◌then◌else◌, filter, find, drop, refl, sym, ap, subst, ◌∙◌, ◌||◌, arith, append-nil}
use Rattle.std.proofs.lemmas.Bool.Decides.{nat_tests}
use Rattle.std.proofs.lemmas.Bool.{false≢true}
use Rattle.std.specs.List.{list_any}
use Rattle.std.specs.Option.{option_map}
use Rattle.std.proofs.lemmas.List.Elements.{filter-append}
use Rattle.job_lane.specs.Runs.{without_first}
use Rattle.executor_history.specs.declared.records.Queued.{Queued}
use Rattle.executor_history.specs.Runs.{is_queued_of}
use Rattle.run_queues.specs.declared.front.Front.{Front}
use Rattle.rising_rows.specs.Rising.{RisesFrom}
use Rattle.rising_rows.proofs.RowLemmas.{rises-filter, rises-lower}
use Rattle.run_queues.specs.Order.{RisesWithin, front_of, fronts_of, put_front, put_found, first_of}
use Rattle.run_queues.proofs.Merged.{same_number, equal_of}

-- ---- filters
comm_step : {X : Type 0} (p q : X → Bool) (x : X) (xs : List X) (b c : Bool) → p x ≡ b → q x ≡ c → filter p (filter q xs) ≡ filter q (filter p xs) → filter p (filter q (x ∷ xs)) ≡ filter q (filter p (x ∷ xs))
comm_step p q x xs true true e f h = rw (e, f) (rw e (ap (λ ys. x ∷ ys) h))
comm_step p q x xs true false e f h = rw (e, f) h
comm_step p q x xs false true e f h = rw (e, f) (rw e h)
comm_step p q x xs false false e f h = rw (e, f) h

pub comm : {X : Type 0} (p q : X → Bool) (xs : List X) → filter p (filter q xs) ≡ filter q (filter p xs)
comm p q [] = refl
comm p q (x ∷ xs) = comm_step p q x xs (p x) (q x) refl refl (comm p q xs)

twice_step : {X : Type 0} (p : X → Bool) (x : X) (xs : List X) (b : Bool) → p x ≡ b → filter p (filter p xs) ≡ filter p xs → filter p (filter p (x ∷ xs)) ≡ filter p (x ∷ xs)
twice_step p x xs true e h = rw e (rw e (ap (λ ys. x ∷ ys) h))
twice_step p x xs false e h = rw e h

twice : {X : Type 0} (p : X → Bool) (xs : List X) → filter p (filter p xs) ≡ filter p xs
twice p [] = refl
twice p (x ∷ xs) = twice_step p x xs (p x) refl (twice p xs)

first_step : (p : Queued → Bool) (q : Queued) (qs : List Queued) (b : Bool) → p q ≡ b → find p qs ≡ first_of (filter p qs) → find p (q ∷ qs) ≡ first_of (filter p (q ∷ qs))
first_step p q qs true e h = rw e refl
first_step p q qs false e h = rw e h

-- the first run that passes
pub find-first : (p : Queued → Bool) (qs : List Queued) → find p qs ≡ first_of (filter p qs)
find-first p [] = refl
find-first p (q ∷ qs) = first_step p q qs (p q) refl (find-first p qs)

-- ---- numbers of fronts rise
abbrev FrontsRise : ℕ → List Front → Type 0
FrontsRise low fs = RisesFrom (λ (f : Front). f.number) low fs

rise-filter : (p : Front → Bool) (low : ℕ) (fs : List Front) → FrontsRise low fs → FrontsRise low (filter p fs)
rise-filter p low fs h = rises-filter (λ (f : Front). f.number) p low fs h

above_differs : (n m : ℕ) → n < m → (n == m) ≡ false
above_differs n m lt = grind (arith, nat_tests)

-- no front has a number that all pass
keep_all : (n : ℕ) (fs : List Front) → FrontsRise n fs → filter (λ (f : Front). not (n == f.number)) fs ≡ fs
keep_all n [] h = refl
keep_all n (f ∷ fs) h = rw (above_differs n f.number h.0) (ap (λ gs. f ∷ gs) (keep_all n fs (rises-lower (λ (g : Front). g.number) f.number n fs h.1 (omega (arith, h.0)))))

pub fronts-rise : (low high : ℕ) (qs : List Queued) → RisesWithin low qs high → FrontsRise low (fronts_of qs)
fronts-rise low high [] h = tt
fronts-rise low high (q ∷ qs) h = (h.0, rise-filter _ q.run.number (fronts_of qs) (fronts-rise q.run.number high qs h.1))

below_differs : (n m : ℕ) → m < n → (n == m) ≡ false
below_differs n m lt = grind (arith, nat_tests)

-- ---- the first run of a job
first_case : (p : Queued → Bool) (q x : Queued) (qs : List Queued) (b : Bool) (P : Type 0) → p q ≡ b → find p (q ∷ qs) ≡ Some x → (q ≡ x → p q ≡ true → P) → (find p qs ≡ Some x → p q ≡ false → P) → P
first_case p q x qs true P t e here later = let k = rw t at e in let same : q ≡ x = cc in here same t
first_case p q x qs false P t e here later = later (rw t at e) t

pub found_in : (p : Queued → Bool) (low high : ℕ) (qs : List Queued) (x : Queued) → RisesWithin low qs high → find p qs ≡ Some x → low < x.run.number
found_in p low high [] x h e = absurd cc
found_in p low high (q ∷ qs) x h e =
    first_case p q x qs (p q) (low < x.run.number) refl e (λ same t. rw (← same) h.0)
    (λ more t. let up = found_in p q.run.number high qs x h.1 more in omega (arith, up, h.0))

pub found_passes : (p : Queued → Bool) (qs : List Queued) (x : Queued) → find p qs ≡ Some x → p x ≡ true
found_passes p [] x e = absurd cc
found_passes p (q ∷ qs) x e = first_case p q x qs (p q) (p x ≡ true) refl e (λ same t. rw (← same) t) (λ more t. found_passes p qs x more)

-- a queued run that is the first of those that pass is the first of its job, where the test is one of jobs
pub found_own : (r : ℕ → Bool) (qs : List Queued) (x : Queued) → find (λ (q : Queued). r q.job) qs ≡ Some x → find (is_queued_of x.job) qs ≡ Some x
found_own r [] x e = absurd cc
found_own r (q ∷ qs) x e =
    first_case (λ (q : Queued). r q.job) q x qs (r q.job) (find (is_queued_of x.job) (q ∷ qs) ≡ Some x) refl e
    (λ same t. rw (← same) (rw same_number refl))
    (λ more t. rw (apart x.job q.job (found_passes (λ (q : Queued). r q.job) qs x more) t) (found_own r qs x more)) where
      apart : (i j : ℕ) → r i ≡ true → r j ≡ false → (i == j) ≡ false
      apart i j yes_i no_j = by_test (i == j) refl where
        by_test : (b : Bool) → (i == j) ≡ b → b ≡ false
        by_test true e = let same = equal_of i j e in absurd (false≢true (sym no_j ∙ (ap r (sym same) ∙ yes_i)))
        by_test false e = refl

-- ---- the fronts of what is left without a job
filtered_case : (job : ℕ) (q : Queued) (qs : List Queued) (b : Bool) → (job == q.job) ≡ b
    → fronts_of (filter (λ (x : Queued). not (is_queued_of job x)) qs) ≡ filter (λ (f : Front). not (job == f.job)) (fronts_of qs)
    → fronts_of (filter (λ (x : Queued). not (is_queued_of job x)) (q ∷ qs)) ≡ filter (λ (f : Front). not (job == f.job)) (fronts_of (q ∷ qs))
filtered_case job q qs true e h =
    let same : job ≡ q.job = equal_of job q.job e in
    let both : filter (λ (f : Front). not (job == f.job)) (filter (λ (f : Front). not (q.job == f.job)) (fronts_of qs)) ≡ filter (λ (f : Front). not (job == f.job)) (fronts_of qs) =
    rw (← same) (twice (λ (f : Front). not (job == f.job)) (fronts_of qs)) in
    rw (e, both) h
filtered_case job q qs false e h =
    rw e (ap (λ fs. front_of q ∷ fs) (ap (filter (λ (f : Front). not (q.job == f.job))) h ∙ comm (λ (f : Front). not (q.job == f.job)) (λ (f : Front). not (job == f.job)) (fronts_of qs)))

pub fronts-without : (job : ℕ) (qs : List Queued) → fronts_of (filter (λ (x : Queued). not (is_queued_of job x)) qs) ≡ filter (λ (f : Front). not (job == f.job)) (fronts_of qs)
fronts-without job [] = refl
fronts-without job (q ∷ qs) = filtered_case job q qs (job == q.job) refl (fronts-without job qs)

-- ---- the first front that passes
skip_step : (r : ℕ → Bool) (job : ℕ) (f : Front) (fs : List Front) (b c : Bool) → (job == f.job) ≡ b → r f.job ≡ c → r job ≡ false
    → find (λ (g : Front). r g.job) (filter (λ (g : Front). not (job == g.job)) fs) ≡ find (λ (g : Front). r g.job) fs
    → find (λ (g : Front). r g.job) (filter (λ (g : Front). not (job == g.job)) (f ∷ fs)) ≡ find (λ (g : Front). r g.job) (f ∷ fs)
skip_step r job f fs true true e t out h = absurd (false≢true (sym out ∙ (ap r (equal_of job f.job e) ∙ t)))
skip_step r job f fs true false e t out h = rw (e, t) h
skip_step r job f fs false true e t out h = rw (e, t) refl
skip_step r job f fs false false e t out h = rw (e, t) h

skip : (r : ℕ → Bool) (job : ℕ) (fs : List Front) → r job ≡ false → find (λ (g : Front). r g.job) (filter (λ (g : Front). not (job == g.job)) fs) ≡ find (λ (g : Front). r g.job) fs
skip r job [] out = refl
skip r job (f ∷ fs) out = skip_step r job f fs (job == f.job) (r f.job) refl refl out (skip r job fs out)

front_step : (r : ℕ → Bool) (q : Queued) (qs : List Queued) (b : Bool) → r q.job ≡ b → find (λ (f : Front). r f.job) (fronts_of qs) ≡ option_map front_of (find (λ (x : Queued). r x.job) qs)
    → find (λ (f : Front). r f.job) (fronts_of (q ∷ qs)) ≡ option_map front_of (find (λ (x : Queued). r x.job) (q ∷ qs))
front_step r q qs true t h = rw t refl
front_step r q qs false t h = rw t (skip r q.job (fronts_of qs) t ∙ h)

-- the first front whose job passes is the front of the first run whose job passes
pub find-front : (r : ℕ → Bool) (qs : List Queued) → find (λ (f : Front). r f.job) (fronts_of qs) ≡ option_map front_of (find (λ (x : Queued). r x.job) qs)
find-front r [] = refl
find-front r (q ∷ qs) = front_step r q qs (r q.job) refl (find-front r qs)

-- ---- the front of a job, taken out and put back
own_step : (job high : ℕ) (q x : Queued) (qs : List Queued) (b : Bool) → (job == q.job) ≡ b → RisesWithin q.run.number qs high → find (is_queued_of job) (q ∷ qs) ≡ Some x
    → (find (is_queued_of job) qs ≡ Some x → filter (λ (f : Front). not (x.run.number == f.number)) (fronts_of qs) ≡ filter (λ (f : Front). not (job == f.job)) (fronts_of qs))
    → filter (λ (f : Front). not (x.run.number == f.number)) (fronts_of (q ∷ qs)) ≡ filter (λ (f : Front). not (job == f.job)) (fronts_of (q ∷ qs))
own_step job high q x qs true e h is step =
    let k = rw e at is in
    let same : q ≡ x = cc in
    let as_job : job ≡ q.job = equal_of job q.job e in
    let rest : FrontsRise q.run.number (filter (λ (f : Front). not (q.job == f.job)) (fronts_of qs)) = rise-filter _ q.run.number (fronts_of qs) (fronts-rise q.run.number high qs h) in
    let both : filter (λ (f : Front). not (job == f.job)) (filter (λ (f : Front). not (q.job == f.job)) (fronts_of qs)) ≡ filter (λ (f : Front). not (q.job == f.job)) (fronts_of qs) =
    rw as_job (twice (λ (f : Front). not (q.job == f.job)) (fronts_of qs)) in
    let P : Queued → Type 0 = λ y. filter (λ (f : Front). not (y.run.number == f.number)) (fronts_of (q ∷ qs)) ≡ filter (λ (f : Front). not (job == f.job)) (fronts_of (q ∷ qs)) in
    subst P same (rw (same_number, e, both) (keep_all q.run.number (filter (λ (f : Front). not (q.job == f.job)) (fronts_of qs)) rest))
own_step job high q x qs false e h is step =
    let k : find (is_queued_of job) qs ≡ Some x = rw e at is in
    let up = found_in (is_queued_of job) q.run.number high qs x h k in
    rw (below_differs x.run.number q.run.number up, e) (ap (λ fs. front_of q ∷ fs)
    (comm (λ (f : Front). not (x.run.number == f.number)) (λ (f : Front). not (q.job == f.job)) (fronts_of qs)
    ∙ (ap (filter (λ (f : Front). not (q.job == f.job))) (step k) ∙ comm (λ (f : Front). not (q.job == f.job)) (λ (f : Front). not (job == f.job)) (fronts_of qs))))

-- the front with the number of the first run of a job is the one front of the job
pub own_front : (job low high : ℕ) (qs : List Queued) (x : Queued) → RisesWithin low qs high → find (is_queued_of job) qs ≡ Some x
    → filter (λ (f : Front). not (x.run.number == f.number)) (fronts_of qs) ≡ filter (λ (f : Front). not (job == f.job)) (fronts_of qs)
own_front job low high [] x h is = refl
own_front job low high (q ∷ qs) x h is = own_step job high q x qs (job == q.job) refl h.1 is (λ k. own_front job q.run.number high qs x h.1 k)

not_less : (m n : ℕ) → n < m → nat_lt m n ≡ false
not_less m n h = grind (arith, nat_tests)

less : (m n : ℕ) → m < n → nat_lt m n ≡ true
less m n h = grind (arith, nat_tests)

put_head : (f : Front) (fs : List Front) → FrontsRise f.number fs → put_front f fs ≡ f ∷ fs
put_head f [] h = refl
put_head f (g ∷ fs) h = rw (less f.number g.number h.0) refl

put_step : (keep : Front → Bool) (low : ℕ) (f g : Front) (gs : List Front) (b c : Bool) → nat_lt f.number g.number ≡ b → keep g ≡ c → keep f ≡ true → FrontsRise g.number gs
    → filter keep (put_front f gs) ≡ put_front f (filter keep gs) → filter keep (put_front f (g ∷ gs)) ≡ put_front f (filter keep (g ∷ gs))
put_step keep low f g gs true c lt t kept h step =
    let up : f.number < g.number = grind (arith, nat_tests) in
    let rest : FrontsRise f.number (filter keep (g ∷ gs)) = rise-filter keep f.number (g ∷ gs) (up, h) in
    rw (lt, kept) (sym (put_head f (filter keep (g ∷ gs)) rest))
put_step keep low f g gs false true lt t kept h step = rw (lt, t) (rw lt (ap (λ fs. g ∷ fs) step))
put_step keep low f g gs false false lt t kept h step = rw (lt, t) step

filter-put : (keep : Front → Bool) (low : ℕ) (f : Front) (fs : List Front) → keep f ≡ true → FrontsRise low fs → filter keep (put_front f fs) ≡ put_front f (filter keep fs)
filter-put keep low f [] kept h = rw kept refl
filter-put keep low f (g ∷ gs) kept h = put_step keep low f g gs (nat_lt f.number g.number) (keep g) refl refl kept h.1 (filter-put keep g.number f gs kept h.1)

restored_case : (job high : ℕ) (q : Queued) (qs : List Queued) (o : Option Queued) → (job == q.job) ≡ false → RisesWithin q.run.number qs high → find (is_queued_of job) qs ≡ o
    → fronts_of qs ≡ put_found o (filter (λ (f : Front). not (job == f.job)) (fronts_of qs))
    → filter (λ (f : Front). not (q.job == f.job)) (fronts_of qs) ≡ put_found o (filter (λ (f : Front). not (q.job == f.job)) (filter (λ (f : Front). not (job == f.job)) (fronts_of qs)))
restored_case job high q qs None e h is same = ap (filter (λ (f : Front). not (q.job == f.job))) same
restored_case job high q qs (Some x) e h is same =
    let own : job ≡ x.job = equal_of job x.job (found_passes (is_queued_of job) qs x is) in
    let kept : not (q.job == x.job) ≡ true = rw (← own, turn q.job job e) refl in
    let rises : FrontsRise q.run.number (filter (λ (f : Front). not (job == f.job)) (fronts_of qs)) = rise-filter _ q.run.number (fronts_of qs) (fronts-rise q.run.number high qs h) in
    ap (filter (λ (f : Front). not (q.job == f.job))) same
    ∙ filter-put (λ (f : Front). not (q.job == f.job)) q.run.number (front_of x) (filter (λ (f : Front). not (job == f.job)) (fronts_of qs)) kept rises where
      turn : (m n : ℕ) → (n == m) ≡ false → (m == n) ≡ false
      turn m n h = grind (arith, nat_tests)

put_found_past : (job high : ℕ) (q : Queued) (qs : List Queued) (o : Option Queued) (fs : List Front) → RisesWithin q.run.number qs high → find (is_queued_of job) qs ≡ o → put_found o (front_of q ∷ fs) ≡ front_of q ∷ put_found o fs
put_found_past job high q qs None fs h is = refl
put_found_past job high q qs (Some x) fs h is = rw (not_less x.run.number q.run.number (found_in (is_queued_of job) q.run.number high qs x h is)) refl

restored_step : (job high : ℕ) (q : Queued) (qs : List Queued) (b : Bool) → (job == q.job) ≡ b → RisesWithin q.run.number qs high
    → fronts_of qs ≡ put_found (find (is_queued_of job) qs) (filter (λ (f : Front). not (job == f.job)) (fronts_of qs))
    → fronts_of (q ∷ qs) ≡ put_found (find (is_queued_of job) (q ∷ qs)) (filter (λ (f : Front). not (job == f.job)) (fronts_of (q ∷ qs)))
restored_step job high q qs true e h same =
    let as_job : job ≡ q.job = equal_of job q.job e in
    let rest : FrontsRise q.run.number (filter (λ (f : Front). not (q.job == f.job)) (fronts_of qs)) = rise-filter _ q.run.number (fronts_of qs) (fronts-rise q.run.number high qs h) in
    let both : filter (λ (f : Front). not (job == f.job)) (filter (λ (f : Front). not (q.job == f.job)) (fronts_of qs)) ≡ filter (λ (f : Front). not (q.job == f.job)) (fronts_of qs) =
    rw as_job (twice (λ (f : Front). not (q.job == f.job)) (fronts_of qs)) in
    rw (e, both) (sym (put_head (front_of q) (filter (λ (f : Front). not (q.job == f.job)) (fronts_of qs)) rest))
restored_step job high q qs false e h same =
    rw e (ap (λ fs. front_of q ∷ fs)
    (restored_case job high q qs (find (is_queued_of job) qs) e h refl same ∙ ap (put_found (find (is_queued_of job) qs)) (comm (λ (f : Front). not (q.job == f.job)) (λ (f : Front). not (job == f.job)) (fronts_of qs)))
    ∙ sym (put_found_past job high q qs (find (is_queued_of job) qs) (filter (λ (f : Front). not (job == f.job)) (filter (λ (f : Front). not (q.job == f.job)) (fronts_of qs))) h refl))

-- the fronts are those of the other jobs, and that of this one
pub restored : (job low high : ℕ) (qs : List Queued) → RisesWithin low qs high → fronts_of qs ≡ put_found (find (is_queued_of job) qs) (filter (λ (f : Front). not (job == f.job)) (fronts_of qs))
restored job low high [] h = refl
restored job low high (q ∷ qs) h = restored_step job high q qs (job == q.job) refl h.1 (restored job q.run.number high qs h.1)

-- ---- a run put behind
pushed_case : (q new : Queued) (qs : List Queued) (b c : Bool) → (new.job == q.job) ≡ b → list_any (is_queued_of new.job) qs ≡ c
    → fronts_of (qs ++ new ∷ []) ≡ (if list_any (is_queued_of new.job) qs then fronts_of qs else fronts_of qs ++ front_of new ∷ [])
    → fronts_of ((q ∷ qs) ++ new ∷ []) ≡ (if list_any (is_queued_of new.job) (q ∷ qs) then fronts_of (q ∷ qs) else fronts_of (q ∷ qs) ++ front_of new ∷ [])
pushed_case q new qs b true e any h = let k = rw any at h in rw (any, by_or (is_queued_of new.job q)) (ap (λ fs. front_of q ∷ filter (λ (f : Front). not (q.job == f.job)) fs) k) where
  by_or : (b : Bool) → (b || true) ≡ true
  by_or true = refl
  by_or false = refl
pushed_case q new qs true false e any h =
    let k = rw any at h in
    let same : (q.job == new.job) ≡ true = turn new.job q.job e in
    rw (any, e) (ap (λ fs. front_of q ∷ fs) (ap (filter (λ (f : Front). not (q.job == f.job))) k ∙ (filter-append (λ (f : Front). not (q.job == f.job)) (fronts_of qs) (front_of new ∷ []) ∙ rw same (append-nil (filter (λ (f : Front). not (q.job == f.job)) (fronts_of qs)))))) where
      turn : (m n : ℕ) → (m == n) ≡ true → (n == m) ≡ true
      turn m n h = grind (arith, nat_tests)
pushed_case q new qs false false e any h =
    let k = rw any at h in
    let differs : (q.job == new.job) ≡ false = turn new.job q.job e in
    rw (any, e) (ap (λ fs. front_of q ∷ fs) (ap (filter (λ (f : Front). not (q.job == f.job))) k ∙ (filter-append (λ (f : Front). not (q.job == f.job)) (fronts_of qs) (front_of new ∷ []) ∙ rw differs refl))) where
      turn : (m n : ℕ) → (m == n) ≡ false → (n == m) ≡ false
      turn m n h = grind (arith, nat_tests)

-- a new run is a front where no run of its job waits
pub fronts-push : (qs : List Queued) (new : Queued) → fronts_of (qs ++ new ∷ []) ≡ (if list_any (is_queued_of new.job) qs then fronts_of qs else fronts_of qs ++ front_of new ∷ [])
fronts-push [] new = refl
fronts-push (q ∷ qs) new = pushed_case q new qs (new.job == q.job) (list_any (is_queued_of new.job) qs) refl refl (fronts-push qs new)

-- ---- the first run of a ready job taken out
gone_case : (r : ℕ → Bool) (q x : Queued) (qs : List Queued) (b : Bool) → r q.job ≡ b → find (λ (y : Queued). r y.job) (q ∷ qs) ≡ Some x
    → (find (λ (y : Queued). r y.job) qs ≡ Some x → filter (λ (y : Queued). not (is_queued_of x.job y)) (without_first (λ (y : Queued). r y.job) qs) ≡ filter (λ (y : Queued). not (is_queued_of x.job y)) qs)
    → filter (λ (y : Queued). not (is_queued_of x.job y)) (without_first (λ (y : Queued). r y.job) (q ∷ qs)) ≡ filter (λ (y : Queued). not (is_queued_of x.job y)) (q ∷ qs)
gone_case r q x qs true t is step =
    let k = rw t at is in
    let same : q ≡ x = cc in
    let P : Queued → Type 0 = λ z. filter (λ (y : Queued). not (is_queued_of z.job y)) (without_first (λ (y : Queued). r y.job) (q ∷ qs)) ≡ filter (λ (y : Queued). not (is_queued_of z.job y)) (q ∷ qs) in
    subst P same (rw (t, same_number) refl)
gone_case r q x qs false t is step = rw t (by_job (is_queued_of x.job q) refl (step (rw t at is))) where
  by_job : (c : Bool) → is_queued_of x.job q ≡ c → filter (λ (y : Queued). not (is_queued_of x.job y)) (without_first (λ (y : Queued). r y.job) qs) ≡ filter (λ (y : Queued). not (is_queued_of x.job y)) qs
      → filter (λ (y : Queued). not (is_queued_of x.job y)) (q ∷ without_first (λ (y : Queued). r y.job) qs) ≡ filter (λ (y : Queued). not (is_queued_of x.job y)) (q ∷ qs)
  by_job true e h = rw e h
  by_job false e h = rw e (ap (λ ys. q ∷ ys) h)

-- the other jobs keep their runs
pub gone : (r : ℕ → Bool) (x : Queued) (qs : List Queued) → find (λ (y : Queued). r y.job) qs ≡ Some x
    → filter (λ (y : Queued). not (is_queued_of x.job y)) (without_first (λ (y : Queued). r y.job) qs) ≡ filter (λ (y : Queued). not (is_queued_of x.job y)) qs
gone r x [] is = refl
gone r x (q ∷ qs) is = gone_case r q x qs (r q.job) refl is (gone r x qs)

own_case : (r : ℕ → Bool) (q x : Queued) (qs : List Queued) (b : Bool) → r q.job ≡ b → find (λ (y : Queued). r y.job) (q ∷ qs) ≡ Some x
    → (find (λ (y : Queued). r y.job) qs ≡ Some x → filter (is_queued_of x.job) (without_first (λ (y : Queued). r y.job) qs) ≡ drop 1 (filter (is_queued_of x.job) qs))
    → filter (is_queued_of x.job) (without_first (λ (y : Queued). r y.job) (q ∷ qs)) ≡ drop 1 (filter (is_queued_of x.job) (q ∷ qs))
own_case r q x qs true t is step =
    let k = rw t at is in
    let same : q ≡ x = cc in
    let P : Queued → Type 0 = λ z. filter (is_queued_of z.job) (without_first (λ (y : Queued). r y.job) (q ∷ qs)) ≡ drop 1 (filter (is_queued_of z.job) (q ∷ qs)) in
    subst P same (rw (t, same_number) refl)
own_case r q x qs false t is step =
    let own = found_own r (q ∷ qs) x is in
    let more = rw t at is in
    rw t (by_job (is_queued_of x.job q) refl (found_passes (λ (y : Queued). r y.job) qs x more) (step more)) where
      by_job : (c : Bool) → is_queued_of x.job q ≡ c → r x.job ≡ true → filter (is_queued_of x.job) (without_first (λ (y : Queued). r y.job) qs) ≡ drop 1 (filter (is_queued_of x.job) qs)
          → filter (is_queued_of x.job) (q ∷ without_first (λ (y : Queued). r y.job) qs) ≡ drop 1 (filter (is_queued_of x.job) (q ∷ qs))
      by_job true e ready h = absurd (false≢true (sym t ∙ (ap r (sym (equal_of x.job q.job e)) ∙ ready)))
      by_job false e ready h = rw e h

-- its own job loses its first run
pub own_taken : (r : ℕ → Bool) (x : Queued) (qs : List Queued) → find (λ (y : Queued). r y.job) qs ≡ Some x
    → filter (is_queued_of x.job) (without_first (λ (y : Queued). r y.job) qs) ≡ drop 1 (filter (is_queued_of x.job) qs)
own_taken r x [] is = absurd cc
own_taken r x (q ∷ qs) is = own_case r q x qs (r q.job) refl is (own_taken r x qs)

-- ---- a front whose number no other has
fresh_filter : (n : ℕ) (p : Front → Bool) (fs : List Front) → list_any (λ (g : Front). n == g.number) fs ≡ false → list_any (λ (g : Front). n == g.number) (filter p fs) ≡ false
fresh_filter n p [] h = refl
fresh_filter n p (f ∷ fs) h = by_tests (n == f.number) (p f) refl refl h (fresh_filter n p fs) where
  by_tests : (b c : Bool) → (n == f.number) ≡ b → p f ≡ c → list_any (λ (g : Front). n == g.number) (f ∷ fs) ≡ false → (list_any (λ (g : Front). n == g.number) fs ≡ false → list_any (λ (g : Front). n == g.number) (filter p fs) ≡ false) → list_any (λ (g : Front). n == g.number) (filter p (f ∷ fs)) ≡ false
  by_tests true c e t h rest = let k = rw e at h in absurd cc
  by_tests false true e t h rest = rw (t, e) (rest (rw e at h))
  by_tests false false e t h rest = rw t (rest (rw e at h))

fresh_above : (n : ℕ) (fs : List Front) → FrontsRise n fs → list_any (λ (g : Front). n == g.number) fs ≡ false
fresh_above n [] h = refl
fresh_above n (f ∷ fs) h = rw (above_differs n f.number h.0) (fresh_above n fs (rises-lower (λ (g : Front). g.number) f.number n fs h.1 (omega (arith, h.0))))

fresh_step : (job high : ℕ) (q x : Queued) (qs : List Queued) (b : Bool) → (job == q.job) ≡ b → RisesWithin q.run.number qs high → find (is_queued_of job) (q ∷ qs) ≡ Some x
    → (find (is_queued_of job) qs ≡ Some x → list_any (λ (g : Front). x.run.number == g.number) (filter (λ (f : Front). not (job == f.job)) (fronts_of qs)) ≡ false)
    → list_any (λ (g : Front). x.run.number == g.number) (filter (λ (f : Front). not (job == f.job)) (fronts_of (q ∷ qs))) ≡ false
fresh_step job high q x qs true e h is step =
    let k = rw e at is in
    let same : q ≡ x = cc in
    let P : Queued → Type 0 = λ y. list_any (λ (g : Front). y.run.number == g.number) (filter (λ (f : Front). not (job == f.job)) (fronts_of (q ∷ qs))) ≡ false in
    subst P same (rw e (fresh_filter q.run.number (λ (f : Front). not (job == f.job)) (filter (λ (f : Front). not (q.job == f.job)) (fronts_of qs))
    (fresh_filter q.run.number (λ (f : Front). not (q.job == f.job)) (fronts_of qs) (fresh_above q.run.number (fronts_of qs) (fronts-rise q.run.number high qs h)))))
fresh_step job high q x qs false e h is step =
    let k : find (is_queued_of job) qs ≡ Some x = rw e at is in
    let up = found_in (is_queued_of job) q.run.number high qs x h k in
    rw (e, below_differs x.run.number q.run.number up, comm (λ (f : Front). not (job == f.job)) (λ (f : Front). not (q.job == f.job)) (fronts_of qs))
    (fresh_filter x.run.number (λ (f : Front). not (q.job == f.job)) (filter (λ (f : Front). not (job == f.job)) (fronts_of qs)) (step k))

-- no front of another job has the number of the first run of a job
pub fresh : (job low high : ℕ) (qs : List Queued) (x : Queued) → RisesWithin low qs high → find (is_queued_of job) qs ≡ Some x → list_any (λ (g : Front). x.run.number == g.number) (filter (λ (f : Front). not (job == f.job)) (fronts_of qs)) ≡ false
fresh job low high [] x h is = absurd cc
fresh job low high (q ∷ qs) x h is = fresh_step job high q x qs (job == q.job) refl h.1 is (fresh job q.run.number high qs x h.1)
