-- Rows of known logs, and the last runs of all, over each change.
use Rattle.std.proofs.Common.{◌≡◌, ℕ, ◌+◌, ◌*◌, ◌^◌, ◌<◌, ◌≤◌, ◌==◌, Bool, true, false, not, ◌&&◌, ◌||◌, nat_eq, nat_lt, if◌then◌else◌, List, [], ◌∷◌, ◌++◌, Option, None, Some, map, filter, count_by, take, drop, get_or, refl, sym, ap, subst, ◌∙◌, ⊎_elim, arith, Bor, MatchOption}
use Rattle.std.proofs.lemmas.Bool.{cases_lt}
use Rattle.std.proofs.lemmas.Bool.Decides.{nat_tests}
use Rattle.std.specs.List.{IsDistinct, list_any, AllByRecursion as Each}
use Rattle.std.specs.Map.{keys_of, lookup}
use Rattle.std.specs.Option.{option_map, option_copied}
use Rattle.std.specs.List.Sorted.{IsPartitionedBy}
use Rattle.job_lane.specs.Runs.{put_before}
use Rattle.rising_rows.specs.Rising.{RisesFrom, without}
use Rattle.rising_rows.proofs.RowLemmas.{rises-filter, rises-apart}
use Rattle.executor_history.specs.declared.records.Working.{Working}
use Rattle.executor_history.specs.Past.{Known, known_run, add_line, known_of, is_trimmed}
use Rattle.executor_laws.specs.Kept.{lines_in, with_line}
use Rattle.executor_laws.proofs.Each.{each-weaker, each-filter, each-put}
use Rattle.executor_laws.proofs.Kept.{run_rises, line_rises, run_case, line_case}
use Rattle.executor_laws.proofs.Kept.{Rises as KnownRise}
use Rattle.executor_core.specs.declared.known_row.KnownRow.{KnownRow}
use Rattle.executor_core.specs.declared.last_runs.LastRun.{LastRun}
use Rattle.executor_core.specs.Rows.{known_as, row_of, by_key, known_in, last_run, run_rank, is_trimmed_run, HaveOwn, AreLast, row_room, room_in, rooms_in, line_room, LineRoom}
use Rattle.executor_core.proofs.Ranks.{older}
use Rattle.executor_core.proofs.Firsts.{each_at, any_first, count_first, filter_first}
use Rattle.executor_core.proofs.ByKey.{found, kept, equal_of, same_key, turn, found_key, found_put, own_put, own_filter, found_filter, Rises, rises_own, same_rows, found_sorted, rises_sorted, count_sorted, count_by-map, found_map, rises_map, first_differs, none_behind, less_of, more_of}

abbrev log_of : Known → ℕ
log_of k = k.log

abbrev log_in : LastRun → ℕ
log_in run = run.log

-- ---- what the rows say
found_entry : (n : ℕ) (e : ℕ × KnownRow) (es : List (ℕ × KnownRow)) (b : Bool) → nat_eq n e.0 ≡ b → found log_of n (map (λ (x : ℕ × KnownRow). known_as x.0 x.1) es) ≡ row_of n es → found log_of n (map (λ (x : ℕ × KnownRow). known_as x.0 x.1) (e ∷ es)) ≡ row_of n (e ∷ es)
found_entry n e es true t rest = let one = equal_of n e.0 t in rw t (ap (λ (m : ℕ). Some (known_as m e.1)) (sym one))
found_entry n e es false t rest = rw t rest

found_entries : (n : ℕ) (es : List (ℕ × KnownRow)) → found log_of n (map (λ (x : ℕ × KnownRow). known_as x.0 x.1) es) ≡ row_of n es
found_entries n [] = refl
found_entries n (e ∷ es) = found_entry n e es (nat_eq n e.0) refl (found_entries n es)

none_entries : (n : ℕ) (es : List (ℕ × KnownRow)) → Each (λ (k : ℕ). nat_eq n k ≡ false) (keys_of es) → found log_of n (map (λ (x : ℕ × KnownRow). known_as x.0 x.1) es) ≡ None
none_entries n [] a = refl
none_entries n (e ∷ es) a = rw a.0 (none_entries n es a.1)

own_entries : (es : List (ℕ × KnownRow)) → IsDistinct nat_eq (keys_of es) → HaveOwn log_of (map (λ (x : ℕ × KnownRow). known_as x.0 x.1) es)
unfolding IsDistinct
own_entries [] once = tt
own_entries (e ∷ es) once = (none_entries e.0 es once.0, own_entries es once.1)

pub known_rise : (es : List (ℕ × KnownRow)) → IsDistinct nat_eq (keys_of es) → Rises log_of (known_in es)
known_rise es once = rises_sorted log_of (map (λ (x : ℕ × KnownRow). known_as x.0 x.1) es) (own_entries es once)

pub found_known : (n : ℕ) (es : List (ℕ × KnownRow)) → IsDistinct nat_eq (keys_of es) → known_of n (known_in es) ≡ row_of n es
found_known n es once = found_sorted log_of n (map (λ (x : ℕ × KnownRow). known_as x.0 x.1) es) (own_entries es once) ∙ found_entries n es

to_rise : (ks : List Known) → Rises log_of ks → KnownRise ks
to_rise [] r = tt
to_rise (k ∷ ks) r = (r.0, to_rise ks r.1)

from_rise : (ks : List Known) → KnownRise ks → Rises log_of ks
from_rise [] r = tt
from_rise (k ∷ ks) r = (r.0, from_rise ks r.1)

-- rows that say the same of each log
pub same_known : (es es' : List (ℕ × KnownRow)) → IsDistinct nat_eq (keys_of es) → IsDistinct nat_eq (keys_of es') → ((l : ℕ) → row_of l es' ≡ row_of l es) → known_in es' ≡ known_in es
same_known es es' once twice same = same_rows log_of (known_in es') (known_in es) (known_rise es' twice) (known_rise es once) (λ l. found_known l es' twice ∙ (same l ∙ sym (found_known l es once)))

pub same_last : (es es' : List (ℕ × KnownRow)) (ls : List LastRun) → AreLast es ls → IsDistinct nat_eq (keys_of es') → ((l : ℕ) → row_of l es' ≡ row_of l es) → AreLast es' ls
same_last es es' ls h once same = record { once = once; rise = h.rise; own = h.own; ids = h.ids; are = λ l. h.are l ∙ ap (option_map last_run) (sym (same l)) }

-- ---- a line
lined_case : (l log : ℕ) (text : List ℕ) (ks : List Known) (o p : Option Known) (b : Bool) → (log == l) ≡ b → known_of l ks ≡ o → known_of log ks ≡ p → (if log == l then with_line text p else o) ≡ (if l == log then with_line text (known_of l ks) else known_of l ks)
lined_case l log text ks o p true e is was =
    let one : log ≡ l = equal_of log l e in
    let here : known_of l ks ≡ p = ap (λ (n : ℕ). known_of n ks) (sym one) ∙ was in
    rw e (rw (sym (turn log l) ∙ e) (ap (with_line text) (sym here)))
lined_case l log text ks o p false e is was = rw e (rw (sym (turn log l) ∙ e) (sym is))

pub line_known : (log : ℕ) (text : List ℕ) (es es' : List (ℕ × KnownRow)) → IsDistinct nat_eq (keys_of es) → IsDistinct nat_eq (keys_of es') → ((l : ℕ) → row_of l es' ≡ (if log == l then with_line text (row_of log es) else row_of l es)) → known_in es' ≡ add_line log text (known_in es)
line_known log text es es' once twice new =
    same_rows log_of (known_in es') (add_line log text (known_in es)) (known_rise es' twice) (from_rise (add_line log text (known_in es)) (line_rises log text (known_in es) (to_rise (known_in es) (known_rise es once))))
    (λ l. found_known l es' twice ∙ (new l ∙ (lined_case l log text (known_in es) (row_of l es) (row_of log es) (log == l) refl (found_known l es once) (found_known log es once) ∙ sym (line_case l log text (known_in es)))))

lined_last : (text : List ℕ) (o : Option Known) → option_map last_run (with_line text o) ≡ option_map last_run o
lined_last text None = refl
lined_last text (Some k) = refl

line_last_case : (log l : ℕ) (text : List ℕ) (es : List (ℕ × KnownRow)) (b : Bool) → (log == l) ≡ b → option_map last_run (if log == l then with_line text (row_of log es) else row_of l es) ≡ option_map last_run (row_of l es)
line_last_case log l text es true e = let one : log ≡ l = equal_of log l e in rw e (lined_last text (row_of log es) ∙ ap (λ (n : ℕ). option_map last_run (row_of n es)) one)
line_last_case log l text es false e = rw e refl

pub line_last : (log : ℕ) (text : List ℕ) (es es' : List (ℕ × KnownRow)) (ls : List LastRun) → AreLast es ls → IsDistinct nat_eq (keys_of es') → ((l : ℕ) → row_of l es' ≡ (if log == l then with_line text (row_of log es) else row_of l es)) → AreLast es' ls
line_last log text es es' ls h once new = record {
  once = once;
  rise = h.rise;
  own = h.own;
  ids = h.ids;
  are = λ l. h.are l ∙ (sym (line_last_case log l text es (log == l) refl) ∙ ap (option_map last_run) (sym (new l)));
}

-- ---- ranks
rank_log : (m n j k : ℕ) → j < 2 ^ 64 → k < 2 ^ 64 → m * 2 ^ 64 + j ≡ n * 2 ^ 64 + k → j ≡ k
rank_log m n j k lj lk e = omega (arith, lj, lk, e)

differs_case : (m n j k : ℕ) (b : Bool) → (m * 2 ^ 64 + j == n * 2 ^ 64 + k) ≡ b → j < 2 ^ 64 → k < 2 ^ 64 → (k == j) ≡ false → b ≡ false
differs_case m n j k true e lj lk apart = absurd (clash j k (rank_log m n j k lj lk (equal_of _ _ e)) apart) where
  clash : (j k : ℕ) → j ≡ k → (k == j) ≡ false → ⊥
  clash j k e f = grind (arith, nat_tests)
differs_case m n j k false e lj lk apart = refl

rank_differs : (x run : LastRun) → x.log < 2 ^ 64 → run.log < 2 ^ 64 → (run.log == x.log) ≡ false → (run_rank x == run_rank run) ≡ false
rank_differs x run lx lr apart = differs_case x.moment run.moment x.log run.log (run_rank x == run_rank run) refl lx lr apart

apart_same : (run : LastRun) (ls : List LastRun) → run.log < 2 ^ 64 → Each (λ (x : LastRun). x.log < 2 ^ 64) ls → found log_in run.log ls ≡ None → without run_rank (run_rank run) ls ≡ filter (λ (x : LastRun). not (run.log == x.log)) ls
apart_same run [] low ids none = refl
apart_same run (x ∷ ls) low ids none =
    let no = first_differs log_in run.log x ls none in
    rw (no, rank_differs x run ids.0 low no) (ap (λ xs. x ∷ xs) (apart_same run ls low ids.1 (none_behind log_in run.log x ls none)))

left_step : (run x : LastRun) (ls : List LastRun) (b : Bool) → (run.log == x.log) ≡ b → run.log < 2 ^ 64 → (x.log < 2 ^ 64) × Each (λ (y : LastRun). y.log < 2 ^ 64) ls → found log_in x.log ls ≡ None → found log_in run.log (x ∷ ls) ≡ Some run
    → (found log_in run.log ls ≡ Some run → without run_rank (run_rank run) ls ≡ filter (λ (y : LastRun). not (run.log == y.log)) ls) → without run_rank (run_rank run) (x ∷ ls) ≡ filter (λ (y : LastRun). not (run.log == y.log)) (x ∷ ls)
left_step run x ls true e low ids none is rest =
    let k = rw e at is in
    let same : x ≡ run = cc in
    let P : LastRun → Type 0 = λ y. found log_in y.log ls ≡ None → without run_rank (run_rank run) (y ∷ ls) ≡ filter (λ (z : LastRun). not (run.log == z.log)) (y ∷ ls) in
    let here : P run = λ gone. rw (same_key (run_rank run), same_key run.log) (apart_same run ls low ids.1 gone) in
    subst P (sym same) here none
left_step run x ls false e low ids none is rest = rw (e, rank_differs x run ids.0 low e) (ap (λ xs. x ∷ xs) (rest (rw e at is)))

-- the last run of a log, left out by its rank
pub left_run : (run : LastRun) (ls : List LastRun) → run.log < 2 ^ 64 → Each (λ (x : LastRun). x.log < 2 ^ 64) ls → HaveOwn log_in ls → found log_in run.log ls ≡ Some run → without run_rank (run_rank run) ls ≡ filter (λ (x : LastRun). not (run.log == x.log)) ls
left_run run [] low ids own is = absurd cc
left_run run (x ∷ ls) low ids own is = left_step run x ls (run.log == x.log) refl low ids own.0 is (left_run run ls low ids.1 own.1)

-- nothing is left out where there is none
pub left_none : (log : ℕ) (ls : List LastRun) → found log_in log ls ≡ None → filter (λ (x : LastRun). not (log == x.log)) ls ≡ ls
left_none log [] none = refl
left_none log (x ∷ ls) none = rw (first_differs log_in log x ls none) (ap (λ xs. x ∷ xs) (left_none log ls (none_behind log_in log x ls none)))

gone_step : (log : ℕ) (x : LastRun) (ls : List LastRun) (b : Bool) → (log == x.log) ≡ b → found log_in log (filter (λ (y : LastRun). not (log == y.log)) ls) ≡ None → found log_in log (filter (λ (y : LastRun). not (log == y.log)) (x ∷ ls)) ≡ None
gone_step log x ls true e rest = rw e rest
gone_step log x ls false e rest = rw e (rw e rest)

pub gone : (log : ℕ) (ls : List LastRun) → found log_in log (filter (λ (x : LastRun). not (log == x.log)) ls) ≡ None
gone log [] = refl
gone log (x ∷ ls) = gone_step log x ls (log == x.log) refl (gone log ls)

-- a run of another log has another rank
pub new_rank : (run : LastRun) (ls : List LastRun) → run.log < 2 ^ 64 → Each (λ (x : LastRun). x.log < 2 ^ 64) ls → found log_in run.log ls ≡ None → list_any (λ (x : LastRun). run_rank run == run_rank x) ls ≡ false
new_rank run [] low ids none = refl
new_rank run (x ∷ ls) low ids none =
    let no = rank_differs x run ids.0 low (first_differs log_in run.log x ls none) in
    rw (sym (turn (run_rank x) (run_rank run)) ∙ no) (new_rank run ls low ids.1 (none_behind log_in run.log x ls none))

any_step : {R : Type 0} (key : R → ℕ) (x y : R) (ys : List R) (b : Bool) → (key x == key y) ≡ b → list_any (λ z. key x == key z) (y ∷ ys) ≡ false → (b ≡ false) × (list_any (λ z. key x == key z) ys ≡ false)
any_step key x y ys true e new = let k = rw e at new in absurd cc
any_step key x y ys false e new = (refl, rw e at new)

put_rises_step : {R : Type 0} (key : R → ℕ) (low : ℕ) (x y : R) (ys : List R) (b : Bool) → nat_lt (key x) (key y) ≡ b → (key x == key y) ≡ false → low < key x → RisesFrom key low (y ∷ ys)
    → (key y < key x → RisesFrom key (key y) (put_before (λ z. nat_lt (key x) (key z)) x ys)) → RisesFrom key low (put_before (λ z. nat_lt (key x) (key z)) x (y ∷ ys))
put_rises_step key low x y ys true t apart lt h rest = rw t (lt, (less_of (key x) (key y) t, h.1))
put_rises_step key low x y ys false t apart lt h rest = rw t (h.0, rest (more_of (key x) (key y) apart t))

put_rises : {R : Type 0} (key : R → ℕ) (low : ℕ) (x : R) (xs : List R) → low < key x → list_any (λ y. key x == key y) xs ≡ false → RisesFrom key low xs → RisesFrom key low (put_before (λ y. nat_lt (key x) (key y)) x xs)
put_rises key low x [] lt new h = (lt, tt)
put_rises key low x (y ∷ ys) lt new h =
    let two = any_step key x y ys (key x == key y) refl new in
    put_rises_step key low x y ys (nat_lt (key x) (key y)) refl two.0 lt h (λ up. put_rises key (key y) x ys up two.1 h.1)

-- ---- a run
abbrev pub run_as : ℕ → ℕ → LastRun
run_as log moment = record { moment = moment; log = log }

abbrev pub renewed : ℕ → ℕ → List LastRun → List LastRun
renewed log moment ls = put_before (λ (x : LastRun). nat_lt (run_rank (run_as log moment)) (run_rank x)) (run_as log moment) (filter (λ (x : LastRun). not (log == x.log)) ls)

abbrev pub run_row : ℕ → ℕ → Option Known → Option Known
run_row log moment o = Some (record { log = log; moment = moment; lines = lines_in o })

kept_same : {R : Type 0} (q : R → Bool) (o : Option R) → ((x : R) → o ≡ Some x → q x ≡ true) → kept q o ≡ o
kept_same q None h = refl
kept_same q (Some x) h = rw (h x refl) refl

other_log : (log l : ℕ) (x : LastRun) (ls : List LastRun) → (log == l) ≡ false → found log_in l ls ≡ Some x → not (log == x.log) ≡ true
other_log log l x ls apart is = let one : l ≡ x.log = found_key log_in l x ls is in rw (← one) (rw apart refl)

renewed_case : (log moment l : ℕ) (es es' : List (ℕ × KnownRow)) (ls : List LastRun) (b : Bool) → (log == l) ≡ b → AreLast es ls → row_of l es' ≡ (if log == l then run_row log moment (row_of log es) else row_of l es) → found log_in l (renewed log moment ls) ≡ option_map last_run (row_of l es')
renewed_case log moment l es es' ls true e h new =
    let put = found_put log_in (λ (x : LastRun). nat_lt (run_rank (run_as log moment)) (run_rank x)) l (run_as log moment) (filter (λ (x : LastRun). not (log == x.log)) ls) (gone log ls) in
    let k = rw e at new in
    put ∙ (ap (λ (b : Bool). if b then Some (run_as log moment) else found log_in l (filter (λ (x : LastRun). not (log == x.log)) ls)) (sym (turn log l) ∙ e) ∙ ap (option_map last_run) (sym k))
renewed_case log moment l es es' ls false e h new =
    let put = found_put log_in (λ (x : LastRun). nat_lt (run_rank (run_as log moment)) (run_rank x)) l (run_as log moment) (filter (λ (x : LastRun). not (log == x.log)) ls) (gone log ls) in
    let k = rw e at new in
    put ∙ (ap (λ (b : Bool). if b then Some (run_as log moment) else found log_in l (filter (λ (x : LastRun). not (log == x.log)) ls)) (sym (turn log l) ∙ e)
    ∙ (found_filter log_in (λ (x : LastRun). not (log == x.log)) l ls h.own
    ∙ (kept_same (λ (x : LastRun). not (log == x.log)) (found log_in l ls) (λ x is. other_log log l x ls e is) ∙ (h.are l ∙ ap (option_map last_run) (sym k)))))

pub run_last : (log moment : ℕ) (es es' : List (ℕ × KnownRow)) (ls : List LastRun) → AreLast es ls → IsDistinct nat_eq (keys_of es') → 0 < log → log < 2 ^ 64 → ((l : ℕ) → row_of l es' ≡ (if log == l then run_row log moment (row_of log es) else row_of l es)) → AreLast es' (renewed log moment ls)
run_last log moment es es' ls h once up low new =
    let others = filter (λ (x : LastRun). not (log == x.log)) ls in
    let ids = each-filter (λ (x : LastRun). x.log < 2 ^ 64) (λ (x : LastRun). not (log == x.log)) ls h.ids in
    record {
      once = once;
      rise = put_rises run_rank 0 (run_as log moment) others (omega (arith, up)) (new_rank (run_as log moment) others low ids (gone log ls)) (rises-filter run_rank (λ (x : LastRun). not (log == x.log)) 0 ls h.rise);
      own = own_put log_in (λ (x : LastRun). nat_lt (run_rank (run_as log moment)) (run_rank x)) (run_as log moment) others (gone log ls) (own_filter log_in (λ (x : LastRun). not (log == x.log)) ls h.own);
      ids = each-put (λ (x : LastRun). x.log < 2 ^ 64) (λ (x : LastRun). nat_lt (run_rank (run_as log moment)) (run_rank x)) (run_as log moment) others low ids;
      are = λ l. renewed_case log moment l es es' ls (log == l) refl h (new l);
    }

ran_case : (l log moment : ℕ) (ks : List Known) (o p : Option Known) (b : Bool) → (log == l) ≡ b → known_of l ks ≡ o → known_of log ks ≡ p → (if log == l then run_row log moment p else o) ≡ (if l == log then run_row l moment (known_of l ks) else known_of l ks)
ran_case l log moment ks o p true e is was =
    let one : log ≡ l = equal_of log l e in
    let here : run_row log moment (known_of log ks) ≡ run_row l moment (known_of l ks) = ap (λ (n : ℕ). run_row n moment (known_of n ks)) one in
    rw e (rw (sym (turn log l) ∙ e) (ap (run_row log moment) (sym was) ∙ here))
ran_case l log moment ks o p false e is was = rw e (rw (sym (turn log l) ∙ e) (sym is))

pub run_known : (log moment : ℕ) (es es' : List (ℕ × KnownRow)) → IsDistinct nat_eq (keys_of es) → IsDistinct nat_eq (keys_of es') → ((l : ℕ) → row_of l es' ≡ (if log == l then run_row log moment (row_of log es) else row_of l es)) → known_in es' ≡ known_run log moment (known_in es)
run_known log moment es es' once twice new =
    let rises = to_rise (known_in es) (known_rise es once) in
    same_rows log_of (known_in es') (known_run log moment (known_in es)) (known_rise es' twice) (from_rise (known_run log moment (known_in es)) (run_rises log moment (known_in es) rises))
    (λ l. found_known l es' twice ∙ (new l ∙ (ran_case l log moment (known_in es) (row_of l es) (row_of log es) (log == l) refl (found_known l es once) (found_known log es once) ∙ sym (run_case l log moment (known_in es) (l == log) refl rises))))

-- ---- a trim
and_false : (a b : Bool) → (a && (b && false)) ≡ false
and_false true true = refl
and_false true false = refl
and_false false b = refl

pub not_trimmed : (at : ℕ) (ids : List ℕ) (ws : List Working) (run : LastRun) → nat_lt run.moment at ≡ false → is_trimmed_run at ids ws run ≡ false
not_trimmed at ids ws run e = rw e (and_false _ _)

below_at : (n at : ℕ) → n < at → nat_lt n at ≡ true
below_at n at lt = grind (arith, nat_tests)

-- the older ones come first
pub older_first : (at : ℕ) (ls : List LastRun) → RisesFrom run_rank 0 ls → Each (λ (x : LastRun). x.log < 2 ^ 64) ls → IsPartitionedBy (λ (run : LastRun). nat_lt run.moment at) ls
older_first at ls rises ids i j d le lt e =
    ⊎_elim
    (λ (before : i < j). below_at (get_or ls i d).moment at (older (get_or ls i d).moment (get_or ls j d).moment (get_or ls i d).log (get_or ls j d).log at (each_at (λ (x : LastRun). x.log < 2 ^ 64) j ls d ids lt) (rises-apart run_rank 0 ls i j d rises before lt) (less_of (get_or ls j d).moment at e)))
    (λ (after : j ≤ i). let one : i ≡ j = omega (arith, le, after) in let same : nat_lt (get_or ls i d).moment at ≡ nat_lt (get_or ls j d).moment at = ap (λ (n : ℕ). nat_lt (get_or ls n d).moment at) one in same ∙ e)
    (cases_lt i j)

-- whether the one that is found passes
abbrev passes : {R : Type 0} → (R → Bool) → Option R → Bool
passes q None = false
passes q (Some x) = q x

or_false : (b : Bool) → (b || false) ≡ b
or_false true = refl
or_false false = refl

any_found_step : (q : LastRun → Bool) (n : ℕ) (x : LastRun) (ls : List LastRun) (b : Bool) → (n == x.log) ≡ b → found log_in x.log ls ≡ None → list_any (λ (run : LastRun). n == run.log && q run) ls ≡ passes q (found log_in n ls) → list_any (λ (run : LastRun). n == run.log && q run) (x ∷ ls) ≡ passes q (found log_in n (x ∷ ls))
any_found_step q n x ls true e none rest =
    let one : n ≡ x.log = equal_of n x.log e in
    let nothing : found log_in n ls ≡ None = ap (λ (m : ℕ). found log_in m ls) one ∙ none in
    rw e (ap (λ (b : Bool). q x || b) (rest ∙ ap (passes q) nothing) ∙ or_false (q x))
any_found_step q n x ls false e none rest = rw e rest

any_found : (q : LastRun → Bool) (n : ℕ) (ls : List LastRun) → HaveOwn log_in ls → list_any (λ (run : LastRun). n == run.log && q run) ls ≡ passes q (found log_in n ls)
any_found q n [] own = refl
any_found q n (x ∷ ls) own = any_found_step q n x ls (n == x.log) refl own.0 (any_found q n ls own.1)

kept_last : (at : ℕ) (ids : List ℕ) (ws : List Working) (o : Option Known) → kept (λ (run : LastRun). not (is_trimmed_run at ids ws run)) (option_map last_run o) ≡ option_map last_run (if passes (is_trimmed_run at ids ws) (option_map last_run o) then None else o)
kept_last at ids ws None = refl
kept_last at ids ws (Some k) = by_test (is_trimmed_run at ids ws (last_run k)) where
  by_test : (b : Bool) → (if not b then Some (last_run k) else None) ≡ option_map last_run (if b then None else Some k)
  by_test true = refl
  by_test false = refl

kept_known : (at : ℕ) (ids : List ℕ) (ws : List Working) (o : Option Known) → (if passes (is_trimmed_run at ids ws) (option_map last_run o) then None else o) ≡ kept (λ (k : Known). not (is_trimmed at ids ws k)) o
kept_known at ids ws None = refl
kept_known at ids ws (Some k) = by_test (is_trimmed at ids ws k) where
  by_test : (b : Bool) → (if b then None else Some k) ≡ (if not b then Some k else None)
  by_test true = refl
  by_test false = refl

-- the rows without those of the logs whose last runs are among these
abbrev pub Trimmed : ℕ → List ℕ → List Working → List LastRun → List (ℕ × KnownRow) → List (ℕ × KnownRow) → Type 0
Trimmed at ids ws ls es es' = (l : ℕ) → row_of l es' ≡ (if list_any (λ (run : LastRun). l == run.log && is_trimmed_run at ids ws run) ls then None else row_of l es)

trimmed_row : (at : ℕ) (ids : List ℕ) (ws : List Working) (es es' : List (ℕ × KnownRow)) (ls : List LastRun) (l : ℕ) → AreLast es ls → Trimmed at ids ws ls es es' → row_of l es' ≡ (if passes (is_trimmed_run at ids ws) (option_map last_run (row_of l es)) then None else row_of l es)
trimmed_row at ids ws es es' ls l h new =
    new l ∙ ap (λ (b : Bool). if b then None else row_of l es) (any_found (is_trimmed_run at ids ws) l ls h.own ∙ ap (passes (is_trimmed_run at ids ws)) (h.are l))

pub trim_last : (at : ℕ) (ids : List ℕ) (ws : List Working) (es es' : List (ℕ × KnownRow)) (ls : List LastRun) → AreLast es ls → IsDistinct nat_eq (keys_of es') → Trimmed at ids ws ls es es' → AreLast es' (filter (λ (run : LastRun). not (is_trimmed_run at ids ws run)) ls)
trim_last at ids ws es es' ls h once new =
    let q = λ (run : LastRun). not (is_trimmed_run at ids ws run) in
    record {
      once = once;
      rise = rises-filter run_rank q 0 ls h.rise;
      own = own_filter log_in q ls h.own;
      ids = each-filter (λ (x : LastRun). x.log < 2 ^ 64) q ls h.ids;
      are = λ l. found_filter log_in q l ls h.own ∙ (ap (kept q) (h.are l) ∙ (kept_last at ids ws (row_of l es) ∙ ap (option_map last_run) (sym (trimmed_row at ids ws es es' ls l h new))));
    }

pub trim_known : (at : ℕ) (ids : List ℕ) (ws : List Working) (es es' : List (ℕ × KnownRow)) (ls : List LastRun) → AreLast es ls → IsDistinct nat_eq (keys_of es') → Trimmed at ids ws ls es es' → known_in es' ≡ filter (λ (k : Known). not (is_trimmed at ids ws k)) (known_in es)
trim_known at ids ws es es' ls h once new =
    let q = λ (k : Known). not (is_trimmed at ids ws k) in
    let rises = known_rise es h.once in
    same_rows log_of (known_in es') (filter q (known_in es)) (known_rise es' once) (filter_rises q (known_in es) rises)
    (λ l. found_known l es' once ∙ (trimmed_row at ids ws es es' ls l h new ∙ (kept_known at ids ws (row_of l es) ∙ (ap (kept q) (sym (found_known l es h.once)) ∙ sym (found_filter log_of q l (known_in es) (rises_own log_of (known_in es) rises)))))) where
      filter_rises : (p : Known → Bool) (ks : List Known) → Rises log_of ks → Rises log_of (filter p ks)
      filter_rises p [] rises = tt
      filter_rises p (k ∷ ks) rises = by_test (p k) refl (filter_rises p ks rises.1) where
        by_test : (b : Bool) → p k ≡ b → Rises log_of (filter p ks) → Rises log_of (filter p (k ∷ ks))
        by_test true e rest = rw e (each-filter (λ (x : Known). k.log < x.log) p ks rises.0, rest)
        by_test false e rest = rw e rest

-- ---- how many a trim drops
last_sorted : (es : List (ℕ × KnownRow)) (ls : List LastRun) → AreLast es ls → map last_run (known_in es) ≡ by_key log_in ls
last_sorted es ls h =
    same_rows log_in (map last_run (known_in es)) (by_key log_in ls) (rises_map log_in last_run (known_in es) (known_rise es h.once)) (rises_sorted log_in ls h.own)
    (λ l. found_map log_in last_run l (known_in es) ∙ (ap (option_map last_run) (found_known l es h.once) ∙ (sym (h.are l) ∙ sym (found_sorted log_in l ls h.own))))

pub trimmed_counts : (at : ℕ) (ids : List ℕ) (ws : List Working) (es : List (ℕ × KnownRow)) (ls : List LastRun) → AreLast es ls → count_by (is_trimmed_run at ids ws) ls ≡ count_by (is_trimmed at ids ws) (known_in es)
trimmed_counts at ids ws es ls h =
    sym (count_sorted log_in (is_trimmed_run at ids ws) ls) ∙ (ap (count_by (is_trimmed_run at ids ws)) (sym (last_sorted es ls h)) ∙ sym (count_by-map last_run (is_trimmed_run at ids ws) (known_in es)))

-- ---- of the first last runs, where none of the others is older
and_none : (a b : Bool) → b ≡ false → (a && b) ≡ false
and_none true b e = e
and_none false b e = refl

pub first_trimmed : (at : ℕ) (ids : List ℕ) (ws : List Working) (old : ℕ) (ls : List LastRun) (es es' : List (ℕ × KnownRow)) → Each (λ (run : LastRun). nat_lt run.moment at ≡ false) (drop old ls) → Trimmed at ids ws (take old ls) es es' → Trimmed at ids ws ls es es'
first_trimmed at ids ws old ls es es' rest new l =
    let q = λ (run : LastRun). l == run.log && is_trimmed_run at ids ws run in
    new l ∙ ap (λ (b : Bool). if b then None else row_of l es)
    (any_first q old ls (each-weaker (λ (run : LastRun). nat_lt run.moment at ≡ false) (λ (run : LastRun). q run ≡ false) (λ run e. and_none (l == run.log) (is_trimmed_run at ids ws run) (not_trimmed at ids ws run e)) (drop old ls) rest))

pub first_left : (at : ℕ) (ids : List ℕ) (ws : List Working) (old : ℕ) (ls : List LastRun) → Each (λ (run : LastRun). nat_lt run.moment at ≡ false) (drop old ls) → filter (λ (run : LastRun). not (is_trimmed_run at ids ws run)) (take old ls) ++ drop old ls ≡ filter (λ (run : LastRun). not (is_trimmed_run at ids ws run)) ls
first_left at ids ws old ls rest = filter_first (is_trimmed_run at ids ws) old ls (each-weaker (λ (run : LastRun). nat_lt run.moment at ≡ false) (λ (run : LastRun). is_trimmed_run at ids ws run ≡ false) (λ run e. not_trimmed at ids ws run e) (drop old ls) rest)

pub first_counts : (at : ℕ) (ids : List ℕ) (ws : List Working) (old : ℕ) (ls : List LastRun) → Each (λ (run : LastRun). nat_lt run.moment at ≡ false) (drop old ls) → count_by (is_trimmed_run at ids ws) (take old ls) ≡ count_by (is_trimmed_run at ids ws) ls
first_counts at ids ws old ls rest = count_first (is_trimmed_run at ids ws) old ls (each-weaker (λ (run : LastRun). nat_lt run.moment at ≡ false) (λ (run : LastRun). is_trimmed_run at ids ws run ≡ false) (λ run e. not_trimmed at ids ws run e) (drop old ls) rest)

-- ---- what a look-up tells
last_as : (log : ℕ) (o : Option KnownRow) → option_map last_run (option_map (known_as log) o) ≡ option_map (run_as log) (option_map (λ (k : Known). k.moment) (option_map (known_as log) o))
last_as log None = refl
last_as log (Some row) = refl

pub was_last : (log : ℕ) (es : List (ℕ × KnownRow)) (ls : List LastRun) (before : Option ℕ) → AreLast es ls → before ≡ option_map (λ (k : Known). k.moment) (row_of log es) → found log_in log ls ≡ option_map (run_as log) before
was_last log es ls before h is = h.are log ∙ (last_as log (lookup (nat_eq log) es) ∙ ap (option_map (run_as log)) (sym is))

pub told : (o : Option (Bor KnownRow)) (log : ℕ) (es : List (ℕ × KnownRow)) → IsDistinct nat_eq (keys_of es) → option_map (known_as log) (option_copied o) ≡ row_of log es → MatchOption o (known_of log (known_in es) ≡ None) (λ row. known_of log (known_in es) ≡ Some (known_as log row.now))
told None log es once e = found_known log es once ∙ sym e
told (Some row) log es once e = found_known log es once ∙ sym e

-- ---- no logs
pub none_last : AreLast [] []
unfolding IsDistinct
none_last = record { once = tt; rise = tt; own = tt; ids = tt; are = λ log. refl }

-- ---- room for a line
room_entry : (log : ℕ) (e : ℕ × KnownRow) (es : List (ℕ × KnownRow)) (b : Bool) → nat_eq log e.0 ≡ b → lookup (nat_eq log) (rooms_in es) ≡ option_map room_in (lookup (nat_eq log) es) → lookup (nat_eq log) (rooms_in (e ∷ es)) ≡ option_map room_in (lookup (nat_eq log) (e ∷ es))
room_entry log e es true t rest = rw t refl
room_entry log e es false t rest = rw t rest

room_entries : (log : ℕ) (es : List (ℕ × KnownRow)) → lookup (nat_eq log) (rooms_in es) ≡ option_map room_in (lookup (nat_eq log) es)
room_entries log [] = refl
room_entries log (e ∷ es) = room_entry log e es (nat_eq log e.0) refl (room_entries log es)

told_room : (o : Option KnownRow) → 1 ≤ row_room o → MatchOption (option_map room_in o) (Unit {0}) (λ room. 1 ≤ room)
told_room None room = tt
told_room (Some row) room = room

kept_room : (o : Option KnownRow) → MatchOption (option_map room_in o) (Unit {0}) (λ room. 1 ≤ room) → 1 ≤ row_room o
kept_room None room = omega arith
kept_room (Some row) room = room

pub line_told : (log : ℕ) (es : List (ℕ × KnownRow)) → 1 ≤ line_room log es → LineRoom log (rooms_in es)
line_told log es room =
    let P : Option ℕ → Type 0 = λ o. MatchOption o (Unit {0}) (λ room. 1 ≤ room) in
    subst P (sym (room_entries log es)) (told_room (lookup (nat_eq log) es) room)

pub line_kept : (log : ℕ) (es : List (ℕ × KnownRow)) → LineRoom log (rooms_in es) → 1 ≤ line_room log es
line_kept log es room =
    let P : Option ℕ → Type 0 = λ o. MatchOption o (Unit {0}) (λ room. 1 ≤ room) in
    kept_room (lookup (nat_eq log) es) (subst P (room_entries log es) room)
