-- The held ids and the known logs are those that the entries say.
use Rattle.std.proofs.Common.{◌≡◌, ℕ, ◌<◌, ◌==◌, nat_lt, Bool, true, false, not, ◌||◌, if◌then◌else◌, List, [], ◌∷◌, Option, None, Some, filter, refl, sym, ap, ◌∙◌, arith}
use Rattle.std.proofs.lemmas.Bool.Decides.{nat_tests}
use Rattle.std.specs.List.{AllByRecursion as Each}
use Rattle.job_values.specs.declared.run.CallbackItem.{CallbackItem}
use Rattle.job_events.specs.declared.executor.ExecutorEvent.TheVariants as event
use Rattle.callback_spool.specs.Different.{names}
use Rattle.executor_history.specs.declared.records.Working.{Working}
use Rattle.executor_history.specs.History.{History, Opening, After}
use Rattle.executor_history.specs.Runs.{run_on}
use Rattle.executor_history.specs.Past.{Known, known, known_run, add_line, line_on, known_of, is_trimmed, held, put_id, put_ids, released, is_among, on_runners, batch, is_on_runner}
use Rattle.executor_laws.specs.Kept.{is_held, lines_in, with_line, is_of_log, left_by, known_at}
use Rattle.executor_laws.proofs.Each.{each-filter, each-weaker}

-- ---- held ids
swap : (a b c : Bool) → (a || (b || c)) ≡ (b || (a || c))
swap true true c = refl
swap true false c = refl
swap false true c = refl
swap false false c = refl

put_step : (log id x : ℕ) (xs : List ℕ) (b : Bool) → nat_lt id x ≡ b → is_among log (put_id id xs) ≡ ((log == id) || is_among log xs) → is_among log (put_id id (x ∷ xs)) ≡ ((log == id) || is_among log (x ∷ xs))
put_step log id x xs true e h = rw e refl
put_step log id x xs false e h = rw e (ap (λ (b : Bool). (log == x) || b) h ∙ swap (log == x) (log == id) (is_among log xs))

among-put : (log id : ℕ) (xs : List ℕ) → is_among log (put_id id xs) ≡ ((log == id) || is_among log xs)
among-put log id [] = refl
among-put log id (x ∷ xs) = put_step log id x xs (nat_lt id x) refl (among-put log id xs)

among-all : (log : ℕ) (items : List CallbackItem) (xs : List ℕ) → is_among log (put_ids items xs) ≡ (names log items || is_among log xs)
among-all log [] xs = refl
among-all log (item ∷ items) xs =
    among-all log items (put_id item.log xs) ∙ (ap (λ (b : Bool). names log items || b) (among-put log item.log xs) ∙ turned (names log items) (log == item.log) (is_among log xs)) where
      turned : (a b c : Bool) → (a || (b || c)) ≡ ((b || a) || c)
      turned true true c = refl
      turned true false c = refl
      turned false true c = refl
      turned false false c = refl

or_false : (b : Bool) → (b || false) ≡ b
or_false true = refl
or_false false = refl

or_if : (b c : Bool) → (b || c) ≡ (if b then true else c)
or_if true c = refl
or_if false c = refl

both_of : (log id x : ℕ) (b : Bool) → (id == x) ≡ b → (log == id) ≡ false → b ≡ true → (log == x) ≡ false
both_of log id x b e f g = grind (arith, nat_tests)

same_of : (log id x : ℕ) → (log == id) ≡ true → (id == x) ≡ false → (log == x) ≡ false
same_of log id x e f = grind (arith, nat_tests)

out_step : (log id x : ℕ) (xs : List ℕ) (b c : Bool) → (id == x) ≡ b → (log == id) ≡ c → is_among log (filter (λ y. not (id == y)) xs) ≡ (if log == id then false else is_among log xs)
    → is_among log (filter (λ y. not (id == y)) (x ∷ xs)) ≡ (if log == id then false else is_among log (x ∷ xs))
out_step log id x xs true true e f h = rw (e, f) (rw f at h)
out_step log id x xs true false e f h = rw (e, f) (rw (both_of log id x true e f refl) (rw f at h))
out_step log id x xs false true e f h = rw (e, f) (rw (same_of log id x f e) (rw f at h))
out_step log id x xs false false e f h = rw (e, f) (ap (λ (b : Bool). (log == x) || b) (rw f at h))

among-out : (log id : ℕ) (xs : List ℕ) → is_among log (filter (λ y. not (id == y)) xs) ≡ (if log == id then false else is_among log xs)
among-out log id [] = by_test (log == id) where
  by_test : (b : Bool) → false ≡ (if b then false else false)
  by_test true = refl
  by_test false = refl
among-out log id (x ∷ xs) = out_step log id x xs (id == x) (log == id) refl refl (among-out log id xs)

among-released : (log : ℕ) (items : List CallbackItem) (xs : List ℕ) → is_among log (released items xs) ≡ (if names log items then false else is_among log xs)
among-released log [] xs = refl
among-released log (item ∷ items) xs =
    among-released log items (filter (λ id. not (item.log == id)) xs) ∙ (ap (λ (b : Bool). if names log items then false else b) (among-out log item.log xs) ∙ joined (names log items) (log == item.log) (is_among log xs)) where
      joined : (a b c : Bool) → (if a then false else (if b then false else c)) ≡ (if b || a then false else c)
      joined true true c = refl
      joined true false c = refl
      joined false true c = refl
      joined false false c = refl

pub held_is : (log : ℕ) (h : History) → is_among log (held h) ≡ is_held log h
held_is log (Opening handlers kept) = among-all log kept [] ∙ or_false (names log kept)
held_is log (After h (event.Run run at) r) = among-put log run.log (held h) ∙ (ap (λ (b : Bool). (log == run.log) || b) (held_is log h) ∙ or_if (log == run.log) (is_held log h))
held_is log (After h event.BatchAck r) = among-released log (batch h) (held h) ∙ ap (λ (b : Bool). if names log (batch h) then false else b) (held_is log h)
held_is log (After h e r) = held_is log h

-- ---- known logs rise
abbrev pub Above : ℕ → List Known → Type 0
Above n ks = Each (λ (k : Known). n < k.log) ks

abbrev pub Rises : List Known → Type 0
Rises [] = Unit {0}
Rises (k ∷ ks) = Above k.log ks × Rises ks

known_below : (n log moment : ℕ) (ks : List Known) → n < log → Above n ks → Above n (known_run log moment ks)
known_below n log moment [] lt a = (lt, tt)
known_below n log moment (k ∷ ks) lt a = by_test (log == k.log) refl (nat_lt log k.log) refl (known_below n log moment ks lt a.1) where
  by_test : (b : Bool) → (log == k.log) ≡ b → (c : Bool) → nat_lt log k.log ≡ c → Above n (known_run log moment ks) → Above n (known_run log moment (k ∷ ks))
  by_test true e c f rest = rw e a
  by_test false e true f rest = rw (e, f) (lt, a)
  by_test false e false f rest = rw (e, f) (a.0, rest)

less_of : (n m : ℕ) → nat_lt n m ≡ true → n < m
less_of n m e = grind (arith, nat_tests)

more_of : (n m : ℕ) → (n == m) ≡ false → nat_lt n m ≡ false → m < n
more_of n m e f = grind (arith, nat_tests)

above_lower : (n m : ℕ) (ks : List Known) → n < m → Above m ks → Above n ks
above_lower n m ks lt a = each-weaker (λ (k : Known). m < k.log) (λ (k : Known). n < k.log) (λ k up. omega (arith, lt, up)) ks a

pub run_rises : (log moment : ℕ) (ks : List Known) → Rises ks → Rises (known_run log moment ks)
run_rises log moment [] rises = (tt, tt)
run_rises log moment (k ∷ ks) rises = by_test (log == k.log) refl (nat_lt log k.log) refl (run_rises log moment ks rises.1) where
  by_test : (b : Bool) → (log == k.log) ≡ b → (c : Bool) → nat_lt log k.log ≡ c → Rises (known_run log moment ks) → Rises (known_run log moment (k ∷ ks))
  by_test true e c f rest = rw e rises
  by_test false e true f rest = rw (e, f) ((less_of log k.log f, above_lower log k.log ks (less_of log k.log f) rises.0), rises)
  by_test false e false f rest = rw (e, f) (known_below k.log log moment ks (more_of log k.log e f) rises.0, rest)

line_below : (n log : ℕ) (text : List ℕ) (ks : List Known) → Above n ks → Above n (add_line log text ks)
line_below n log text [] a = tt
line_below n log text (k ∷ ks) a = by_test (log == k.log) refl (line_below n log text ks a.1) where
  by_test : (b : Bool) → (log == k.log) ≡ b → Above n (add_line log text ks) → Above n (add_line log text (k ∷ ks))
  by_test true e rest = rw e a
  by_test false e rest = rw e (a.0, rest)

pub line_rises : (log : ℕ) (text : List ℕ) (ks : List Known) → Rises ks → Rises (add_line log text ks)
line_rises log text [] rises = tt
line_rises log text (k ∷ ks) rises = by_test (log == k.log) refl (line_rises log text ks rises.1) where
  by_test : (b : Bool) → (log == k.log) ≡ b → Rises (add_line log text ks) → Rises (add_line log text (k ∷ ks))
  by_test true e rest = rw e rises
  by_test false e rest = rw e (line_below k.log log text ks rises.0, rest)

on_rises : (o : Option Working) (text : List ℕ) (ks : List Known) → Rises ks → Rises (line_on o text ks)
on_rises None text ks rises = rises
on_rises (Some w) text ks rises = line_rises w.run.log text ks rises

filter_rises : (p : Known → Bool) (ks : List Known) → Rises ks → Rises (filter p ks)
filter_rises p [] rises = tt
filter_rises p (k ∷ ks) rises = by_test (p k) refl (filter_rises p ks rises.1) where
  by_test : (b : Bool) → p k ≡ b → Rises (filter p ks) → Rises (filter p (k ∷ ks))
  by_test true e rest = rw e (each-filter (λ (x : Known). k.log < x.log) p ks rises.0, rest)
  by_test false e rest = rw e rest

known_rises : (h : History) → Rises (known h)
known_rises (Opening handlers kept) = tt
known_rises (After h (event.Run run at) r) = run_rises run.log run.log_moment (known h) (known_rises h)
known_rises (After h (event.LogLine runner text) r) = on_rises (run_on runner (on_runners h)) text (known h) (known_rises h)
known_rises (After h (event.Trim at) r) = filter_rises (λ k. not (is_trimmed at (held h) (on_runners h) k)) (known h) (known_rises h)
known_rises (After h e r) = known_rises h

-- ---- what is known of one log
equal_of : (n m : ℕ) → (n == m) ≡ true → n ≡ m
equal_of n m e = grind (arith, nat_tests)

same : (n : ℕ) → (n == n) ≡ true
same n = grind (arith, nat_tests)

apart_of : (log n m : ℕ) → (n == m) ≡ true → (log == n) ≡ false → (log == m) ≡ false
apart_of log n m e f = grind (arith, nat_tests)

not_above : (log : ℕ) (ks : List Known) → Above log ks → known_of log ks ≡ None
not_above log [] a = refl
not_above log (k ∷ ks) a = rw (differs log k.log a.0) (not_above log ks a.1) where
  differs : (n m : ℕ) → n < m → (n == m) ≡ false
  differs n m lt = grind (arith, nat_tests)

abbrev pub run_known : ℕ → ℕ → Option Known → Option Known
run_known log moment o = Some (record { log = log; moment = moment; lines = lines_in o })

own_run : (log moment : ℕ) (ks : List Known) → Rises ks → known_of log (known_run log moment ks) ≡ run_known log moment (known_of log ks)
own_run log moment [] rises = rw (same log) refl
own_run log moment (k ∷ ks) rises = by_test (log == k.log) refl (nat_lt log k.log) refl (own_run log moment ks rises.1) where
  by_test : (b : Bool) → (log == k.log) ≡ b → (c : Bool) → nat_lt log k.log ≡ c → known_of log (known_run log moment ks) ≡ run_known log moment (known_of log ks) → known_of log (known_run log moment (k ∷ ks)) ≡ run_known log moment (known_of log (k ∷ ks))
  by_test true e c f rest = let one = equal_of log k.log e in rw e (rw e (ap (λ (n : ℕ). Some (record { log = n; moment = moment; lines = k.lines })) (sym one)))
  by_test false e true f rest =
      let up = less_of log k.log f in
      rw (e, f) (rw (same log) (ap (run_known log moment) (sym (not_above log ks (above_lower log k.log ks up rises.0)))))
  by_test false e false f rest = rw (e, f) (rw e rest)

other_run : (log l moment : ℕ) (ks : List Known) → (log == l) ≡ false → known_of log (known_run l moment ks) ≡ known_of log ks
other_run log l moment [] apart = rw apart refl
other_run log l moment (k ∷ ks) apart = by_test (l == k.log) refl (nat_lt l k.log) refl (other_run log l moment ks apart) where
  by_test : (b : Bool) → (l == k.log) ≡ b → (c : Bool) → nat_lt l k.log ≡ c → known_of log (known_run l moment ks) ≡ known_of log ks → known_of log (known_run l moment (k ∷ ks)) ≡ known_of log (k ∷ ks)
  by_test true e c f rest = let no = apart_of log l k.log e apart in rw e (rw no refl)
  by_test false e true f rest = rw (e, f) (rw apart refl)
  by_test false e false f rest = rw (e, f) (ap (λ (o : Option Known). if log == k.log then Some k else o) rest)

pub run_case : (log l moment : ℕ) (ks : List Known) (b : Bool) → (log == l) ≡ b → Rises ks → known_of log (known_run l moment ks) ≡ (if log == l then run_known log moment (known_of log ks) else known_of log ks)
run_case log l moment ks true e rises = let one = equal_of log l e in rw e (rw (← one) (own_run log moment ks rises))
run_case log l moment ks false e rises = rw e (other_run log l moment ks e)

pub line_case : (log l : ℕ) (text : List ℕ) (ks : List Known) → known_of log (add_line l text ks) ≡ (if log == l then with_line text (known_of log ks) else known_of log ks)
line_case log l text [] = by_test (log == l) None where
  by_test : (b : Bool) (o : Option Known) → o ≡ (if b then o else o)
  by_test true o = refl
  by_test false o = refl
line_case log l text (k ∷ ks) = by_test (l == k.log) refl (log == l) refl (log == k.log) refl (line_case log l text ks) where
  by_test : (b : Bool) → (l == k.log) ≡ b → (c : Bool) → (log == l) ≡ c → (d : Bool) → (log == k.log) ≡ d → known_of log (add_line l text ks) ≡ (if log == l then with_line text (known_of log ks) else known_of log ks)
      → known_of log (add_line l text (k ∷ ks)) ≡ (if log == l then with_line text (known_of log (k ∷ ks)) else known_of log (k ∷ ks))
  by_test true e true f true g rest = rw (e, f) (rw g refl)
  by_test true e true f false g rest = absurd (clash log l k.log e f g) where
    clash : (a b c : ℕ) → (b == c) ≡ true → (a == b) ≡ true → (a == c) ≡ false → ⊥
    clash a b c e f g = grind (arith, nat_tests)
  by_test true e false f d g rest = let no = apart_of log l k.log e f in rw (e, f) (rw no refl)
  by_test false e c f true g rest = let no : (log == l) ≡ false = other log l k.log e g in rw (e, no) (rw g refl) where
    other : (a b c : ℕ) → (b == c) ≡ false → (a == c) ≡ true → (a == b) ≡ false
    other a b c e g = grind (arith, nat_tests)
  by_test false e c f false g rest = rw e (rw g rest)

on_case : (log : ℕ) (o : Option Working) (text : List ℕ) (ks : List Known) → known_of log (line_on o text ks) ≡ (if is_of_log log o then with_line text (known_of log ks) else known_of log ks)
on_case log None text ks = refl
on_case log (Some w) text ks = line_case log w.run.log text ks

abbrev kept : (Known → Bool) → Option Known → Option Known
kept p None = None
kept p (Some k) = if p k then Some k else None

filter_case : (log : ℕ) (p : Known → Bool) (ks : List Known) → Rises ks → known_of log (filter p ks) ≡ kept p (known_of log ks)
filter_case log p [] rises = refl
filter_case log p (k ∷ ks) rises = by_test (log == k.log) refl (p k) refl (filter_case log p ks rises.1) where
  by_test : (b : Bool) → (log == k.log) ≡ b → (c : Bool) → p k ≡ c → known_of log (filter p ks) ≡ kept p (known_of log ks) → known_of log (filter p (k ∷ ks)) ≡ kept p (known_of log (k ∷ ks))
  by_test true e true f rest = rw f (rw e (rw f refl))
  by_test true e false f rest =
      let one = equal_of log k.log e in
      let none : known_of log (filter p ks) ≡ None = not_above log (filter p ks) (each-filter (λ (x : Known). log < x.log) p ks (rw one rises.0)) in
      rw f (rw e (rw (f, none) refl))
  by_test false e true f rest = rw f (rw e rest)
  by_test false e false f rest = rw f (rw e rest)

not_cases : {X : Type 0} (b : Bool) (x : X) → (if not b then Some x else None) ≡ (if b then None else Some x)
not_cases true x = refl
not_cases false x = refl

found_log : (log : ℕ) (ks : List Known) (k : Known) → known_of log ks ≡ Some k → k.log ≡ log
found_log log [] k e = absurd cc
found_log log (x ∷ ks) k e = by_test (log == x.log) refl e (found_log log ks k) where
  by_test : (b : Bool) → (log == x.log) ≡ b → known_of log (x ∷ ks) ≡ Some k → (known_of log ks ≡ Some k → k.log ≡ log) → k.log ≡ log
  by_test true t is rest = let same : x ≡ k = cc (rw t at is) in let one = equal_of log x.log t in rw (← same) (sym one)
  by_test false t is rest = rest (rw t at is)

trim_case : (log at : ℕ) (ids : List ℕ) (ws : List Working) (held : Bool) (o : Option Known) → is_among log ids ≡ held → ((k : Known) → o ≡ Some k → k.log ≡ log) → kept (λ k. not (is_trimmed at ids ws k)) o ≡ left_by at held (is_on_runner log ws) o
trim_case log at ids ws held None e own = refl
trim_case log at ids ws held (Some k) e own = not_cases (is_trimmed at ids ws k) k ∙ ap (λ (b : Bool). if b then None else Some k) (rw (own k refl, e) refl)

pub known_is : (log : ℕ) (h : History) → known_of log (known h) ≡ known_at log h
known_is log (Opening handlers kept) = refl
known_is log (After h (event.Run run at) r) =
    run_case log run.log run.log_moment (known h) (log == run.log) refl (known_rises h) ∙ ap (λ (o : Option Known). if log == run.log then run_known log run.log_moment o else o) (known_is log h)
known_is log (After h (event.LogLine runner text) r) =
    on_case log (run_on runner (on_runners h)) text (known h) ∙ ap (λ (o : Option Known). if is_of_log log (run_on runner (on_runners h)) then with_line text o else o) (known_is log h)
known_is log (After h (event.Trim at) r) =
    filter_case log (λ k. not (is_trimmed at (held h) (on_runners h) k)) (known h) (known_rises h)
    ∙ (trim_case log at (held h) (on_runners h) (is_held log h) (known_of log (known h)) (held_is log h) (found_log log (known h)) ∙ ap (left_by at (is_held log h) (is_on_runner log (on_runners h))) (known_is log h))
known_is log (After h e r) = known_is log h
