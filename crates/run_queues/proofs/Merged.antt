-- The runs of all queues, merged by their numbers, are the one list that the queues hold.
use Rattle.std.proofs.Common.{◌≡◌, ℕ, ◌<◌, ◌≤◌, Bool, true, false, not, ◌==◌, nat_eq, nat_lt, List, [], ◌∷◌, ◌++◌, map, filter, refl, sym, ap, subst, ◌∙◌, arith}
use Rattle.std.proofs.lemmas.Bool.Decides.{nat_tests}
use Rattle.std.specs.List.{IsDistinct, AllByRecursion}
use Rattle.std.specs.Map.{keys_of}
use Rattle.job_lane.specs.Runs.{without_first}
use Rattle.job_lane.specs.Lanes.{LaneView}
use Rattle.executor_history.specs.declared.records.Queued.{Queued}
use Rattle.executor_history.specs.Runs.{is_queued_of}
use Rattle.run_queues.specs.Order.{queued_in, queue_of, put_run, put_runs, in_order, RisesWithin}

-- ---- rising numbers
pub weaken : (low x high : ℕ) (qs : List Queued) → low ≤ x → RisesWithin x qs high → RisesWithin low qs high
weaken low x high [] le h = omega (arith, le, h)
weaken low x high (q ∷ qs) le h = (omega (arith, le, h.0), h.1)

filter_step : (p : Queued → Bool) (low high : ℕ) (q : Queued) (qs : List Queued) (b : Bool) → p q ≡ b → low < q.run.number → RisesWithin q.run.number (filter p qs) high → RisesWithin low (filter p (q ∷ qs)) high
filter_step p low high q qs true e lt h = rw e (lt, h)
filter_step p low high q qs false e lt h = rw e (weaken low q.run.number high (filter p qs) (omega (arith, lt)) h)

pub rises-filter : (p : Queued → Bool) (low high : ℕ) (qs : List Queued) → RisesWithin low qs high → RisesWithin low (filter p qs) high
rises-filter p low high [] h = h
rises-filter p low high (q ∷ qs) h = filter_step p low high q qs (p q) refl h.0 (rises-filter p q.run.number high qs h.1)

without_step : (p : Queued → Bool) (low high : ℕ) (q : Queued) (qs : List Queued) (b : Bool) → p q ≡ b → low < q.run.number → RisesWithin q.run.number qs high → RisesWithin q.run.number (without_first p qs) high → RisesWithin low (without_first p (q ∷ qs)) high
without_step p low high q qs true e lt all h = rw e (weaken low q.run.number high qs (omega (arith, lt)) all)
without_step p low high q qs false e lt all h = rw e (lt, h)

pub rises-without : (p : Queued → Bool) (low high : ℕ) (qs : List Queued) → RisesWithin low qs high → RisesWithin low (without_first p qs) high
rises-without p low high [] h = h
rises-without p low high (q ∷ qs) h = without_step p low high q qs (p q) refl h.0 h.1 (rises-without p q.run.number high qs h.1)

pub rises-push : (low high : ℕ) (qs : List Queued) (q : Queued) → RisesWithin low qs high → high < q.run.number → RisesWithin low (qs ++ q ∷ []) q.run.number
rises-push low high [] q h lt = (omega (arith, h, lt), omega arith)
rises-push low high (x ∷ qs) q h lt = (h.0, rises-push x.run.number high qs q h.1 lt)

-- ---- a part put back among the others
not_below : (m n : ℕ) → m < n → nat_lt n m ≡ false
not_below m n h = grind (arith, nat_tests)

below : (m n : ℕ) → m < n → nat_lt m n ≡ true
below m n h = grind (arith, nat_tests)

put_head : (high : ℕ) (q : Queued) (qs : List Queued) → RisesWithin q.run.number qs high → put_run q qs ≡ q ∷ qs
put_head high q [] h = refl
put_head high q (x ∷ qs) h = rw (below q.run.number x.run.number h.0) refl

put_past : (high : ℕ) (q : Queued) (xs qs : List Queued) → RisesWithin q.run.number xs high → put_runs xs (q ∷ qs) ≡ q ∷ put_runs xs qs
put_past high q [] qs h = refl
put_past high q (x ∷ xs) qs h =
    rw (put_past high q xs qs (weaken q.run.number x.run.number high xs (omega (arith, h.0)) h.1)) (rw (not_below q.run.number x.run.number h.0) refl)

parts_step : (p : Queued → Bool) (high : ℕ) (q : Queued) (qs : List Queued) (b : Bool) → p q ≡ b → RisesWithin q.run.number qs high → put_runs (filter p qs) (filter (λ x. not (p x)) qs) ≡ qs → put_runs (filter p (q ∷ qs)) (filter (λ x. not (p x)) (q ∷ qs)) ≡ q ∷ qs
parts_step p high q qs true e h same = rw (e, same) (put_head high q qs h)
parts_step p high q qs false e h same = rw (e, put_past high q (filter p qs) (filter (λ x. not (p x)) qs) (rises-filter p q.run.number high qs h), same) refl

-- the runs that pass, put among those that don't
pub parts : (p : Queued → Bool) (low high : ℕ) (qs : List Queued) → RisesWithin low qs high → put_runs (filter p qs) (filter (λ x. not (p x)) qs) ≡ qs
parts p low high [] h = refl
parts p low high (q ∷ qs) h = parts_step p high q qs (p q) refl h.1 (parts p q.run.number high qs h.1)

-- ---- the runs of one job
pub same_number : (n : ℕ) → (n == n) ≡ true
same_number n = grind (arith, nat_tests)

pub equal_of : (m n : ℕ) → (m == n) ≡ true → m ≡ n
equal_of m n h = grind (arith, nat_tests)

-- the others of another job
others_step : (job other : ℕ) (q : Queued) (qs : List Queued) (b c : Bool) → (job == q.job) ≡ b → (other == q.job) ≡ c → (job == other) ≡ false
    → filter (is_queued_of job) (filter (λ x. not (is_queued_of other x)) qs) ≡ filter (is_queued_of job) qs
    → filter (is_queued_of job) (filter (λ x. not (is_queued_of other x)) (q ∷ qs)) ≡ filter (is_queued_of job) (q ∷ qs)
others_step job other q qs true true e f differs h = let x = equal_of job q.job e in let y = equal_of other q.job f in absurd (grind (arith, nat_tests))
others_step job other q qs true false e f differs h = rw (f, e) (ap (λ ys. q ∷ ys) h)
others_step job other q qs false true e f differs h = rw (f, e) h
others_step job other q qs false false e f differs h = rw (f, e) h

pub others : (job other : ℕ) (qs : List Queued) → (job == other) ≡ false → filter (is_queued_of job) (filter (λ x. not (is_queued_of other x)) qs) ≡ filter (is_queued_of job) qs
others job other [] differs = refl
others job other (q ∷ qs) differs = others_step job other q qs (job == q.job) (other == q.job) refl refl differs (others job other qs differs)

none_step : (job : ℕ) (q : Queued) (qs : List Queued) (b : Bool) → (job == q.job) ≡ b
    → filter (is_queued_of job) (filter (λ x. not (is_queued_of job x)) qs) ≡ []
    → filter (is_queued_of job) (filter (λ x. not (is_queued_of job x)) (q ∷ qs)) ≡ []
none_step job q qs true e h = rw e h
none_step job q qs false e h = rw (e, e) h

pub none_left : (job : ℕ) (qs : List Queued) → filter (is_queued_of job) (filter (λ x. not (is_queued_of job x)) qs) ≡ []
none_left job [] = refl
none_left job (q ∷ qs) = none_step job q qs (job == q.job) refl (none_left job qs)

-- ---- all queues
absent : (job : ℕ) (es : List (ℕ × LaneView)) → AllByRecursion (λ y. nat_eq job y ≡ false) (keys_of es) → queue_of job es ≡ []
absent job [] h = refl
absent job (e ∷ es) h = rw h.0 (absent job es h.1)

no_runs : (qs : List Queued) → ((job : ℕ) → filter (is_queued_of job) qs ≡ []) → [] ≡ qs
no_runs [] h = refl
no_runs (q ∷ qs) h = let k = rw same_number at (h q.job) in absurd cc

rest_by : (job : ℕ) (e : ℕ × LaneView) (es : List (ℕ × LaneView)) (qs : List Queued) (b : Bool) → (job == e.0) ≡ b → AllByRecursion (λ y. nat_eq e.0 y ≡ false) (keys_of es)
    → filter (is_queued_of job) qs ≡ queue_of job (e ∷ es) → filter (is_queued_of job) (filter (λ x. not (is_queued_of e.0 x)) qs) ≡ queue_of job es
rest_by job e es qs true is apart h =
    let same : job ≡ e.0 = equal_of job e.0 is in
    let P : ℕ → Type 0 = λ j. filter (is_queued_of j) (filter (λ x. not (is_queued_of e.0 x)) qs) ≡ queue_of j es in
    subst P (sym same) (none_left e.0 qs ∙ sym (absent e.0 es apart))
rest_by job e es qs false is apart h = others job e.0 qs is ∙ rw is at h

pub merged : (es : List (ℕ × LaneView)) (qs : List Queued) (high : ℕ) → IsDistinct nat_eq (keys_of es) → RisesWithin 0 qs high → ((job : ℕ) → filter (is_queued_of job) qs ≡ queue_of job es) → in_order es ≡ qs
unfolding IsDistinct
merged [] qs high once h are = no_runs qs are
merged (e ∷ es) qs high once h are =
    let head : filter (is_queued_of e.0) qs ≡ map (queued_in e.0) e.1.queue = rw same_number at (are e.0) in
    let rest : in_order es ≡ filter (λ x. not (is_queued_of e.0 x)) qs =
    merged es (filter (λ x. not (is_queued_of e.0 x)) qs) high once.1 (rises-filter _ 0 high qs h) (λ job. rest_by job e es qs (job == e.0) refl once.0 (are job)) in
    rw (rest, ← head) (parts (is_queued_of e.0) 0 high qs h)
