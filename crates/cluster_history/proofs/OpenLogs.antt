-- What an admin has of a log's id, in its pools and taken, after logs are opened.
use Rattle.std.proofs.Common.{◌≡◌, ℕ, ◌+◌, ◌<◌, ◌≤◌, List, [], ◌∷◌, ◌++◌, Bool, true, false, cond, eqb, ltb, leb, ◌&&◌, ◌||◌, not, Option, Some, None, length, count_by, map, filter, drop, refl, sym, ap, ◌∙◌, subst, ⊎_elim, arith}
use Rattle.std.proofs.lemmas.Bool.{false≢true, true≢false, cases_lt}
use Rattle.std.proofs.lemmas.Bool.Decides.{nat_tests}
use Rattle.job_values.specs.declared.words.PoolKind.TheVariants.{Fast as FastPool, Slow as SlowPool}
use Rattle.job_records.specs.declared.log.Log.{Log}
use Rattle.cluster_history.specs.declared.taken.TakenLog.{TakenLog}
use Rattle.cluster_history.specs.Firings.{Shot}
use Rattle.cluster_history.specs.Openings.{Pools, placed_from, rows_of, added_to, is_in}
use Rattle.cluster_history.specs.Logs.{is_own, opener_after}
use Rattle.cluster_history.proofs.Counting.{times, count-append}
use Rattle.cluster_history.proofs.Unsent.{unsent_in, unsent-new, added-apart}

-- how many of the taken logs have an id and are an admin's
abbrev pub taken_in : ℕ → ℕ → List TakenLog → ℕ
taken_in n a taken = count_by (λ t. eqb t.log n && eqb t.admin a) taken

-- what an admin has of an id: in its pools, and taken
abbrev pub Has : Option ℕ → ℕ → ℕ → ℕ → ℕ → ℕ → Type 0
Has opener a unsent fast slow taken = cond (is_own opener a) unsent 0 ≡ (fast + slow) + taken

times-append : (n : ℕ) (xs ys : List ℕ) → times n (xs ++ ys) ≡ times n xs + times n ys
times-append n xs ys = count-append (λ id. eqb id n) xs ys

-- nothing is had of an id behind the last one
pub has-none : (opener : Option ℕ) (a unsent fast slow taken : ℕ) → unsent ≡ 0 → Has opener a unsent fast slow taken → (fast + slow) + taken ≡ 0
has-none opener a unsent fast slow taken none has = by (is_own opener a) has
  where
    by : (b : Bool) → cond b unsent 0 ≡ (fast + slow) + taken → (fast + slow) + taken ≡ 0
    by true is = omega (arith, is, none)
    by false is = omega (arith, is)

-- a queue with more logs behind it
queue-more : (b : Bool) (n more : ℕ) (queue added : List ℕ) → times n added ≡ more → times n (cond b (queue ++ added) queue) ≡ times n queue + cond b more 0
queue-more true n more queue added is = times-append n queue added ∙ ap (λ m. times n queue + m) is
queue-more false n more queue added is = omega arith

-- an admin opens logs
pub has-opened : (opener : Option ℕ) (a admin n last : ℕ) (pools : ℕ → Pools) (shots : List Shot) (unsent : ℕ) (fast slow : List ℕ) (taken : ℕ) → (last < n → unsent ≡ 0)
    → Has opener a unsent (times n fast) (times n slow) taken
    → Has (opener_after last (length shots) admin n opener) a (unsent + unsent_in n (rows_of (placed_from last (pools admin) shots)))
    (times n (cond (eqb a admin) (fast ++ added_to FastPool (placed_from last (pools a) shots)) fast))
    (times n (cond (eqb a admin) (slow ++ added_to SlowPool (placed_from last (pools a) shots)) slow)) taken
has-opened opener a admin n last pools shots unsent fast slow taken none has =
    let new = unsent-new n last (pools admin) shots in
    let fast_more = queue-more (eqb a admin) n (times n (added_to FastPool (placed_from last (pools a) shots))) fast (added_to FastPool (placed_from last (pools a) shots)) refl in
    let slow_more = queue-more (eqb a admin) n (times n (added_to SlowPool (placed_from last (pools a) shots))) slow (added_to SlowPool (placed_from last (pools a) shots)) refl in
    ⊎_elim
    (λ (above : last < n).
    ⊎_elim
    (λ (high : last + length shots < n).
    let low_test : leb n (last + length shots) ≡ false = grind (arith, nat_tests) in
    let test : ltb last n ≡ true = grind (arith, nat_tests) in
    let same : opener_after last (length shots) admin n opener ≡ opener = ap (λ b. cond (ltb last n && b) (Some admin) opener) low_test ∙ ap (λ b. cond (b && false) (Some admin) opener) test in
    let f1 = (added-apart n last (λ p. is_in FastPool p.pool) (pools admin) shots).1 high in
    let s1 = (added-apart n last (λ p. is_in SlowPool p.pool) (pools admin) shots).1 high in
    let f2 = (added-apart n last (λ p. is_in FastPool p.pool) (pools a) shots).1 high in
    let s2 = (added-apart n last (λ p. is_in SlowPool p.pool) (pools a) shots).1 high in
    let before = has-none opener a unsent (times n fast) (times n slow) taken (none above) has in
    nothing (is_own (opener_after last (length shots) admin n opener) a) (eqb a admin) _ _ _ _ _ (omega (arith, none above, new, f1, s1)) fast_more slow_more f2 s2 before)
    (λ (within : n ≤ last + length shots).
    let low_test : leb n (last + length shots) ≡ true = grind (arith, nat_tests) in
    let test : ltb last n ≡ true = grind (arith, nat_tests) in
    let own : opener_after last (length shots) admin n opener ≡ Some admin = ap (λ b. cond (ltb last n && b) (Some admin) opener) low_test ∙ ap (λ b. cond (b && true) (Some admin) opener) test in
    let before = has-none opener a unsent (times n fast) (times n slow) taken (none above) has in
    let P : Option ℕ → Type 0 = λ o. Has o a (unsent + unsent_in n (rows_of (placed_from last (pools admin) shots))) (times n (cond (eqb a admin) (fast ++ added_to FastPool (placed_from last (pools a) shots)) fast)) (times n (cond (eqb a admin) (slow ++ added_to SlowPool (placed_from last (pools a) shots)) slow)) taken in
    subst P (sym own) (given (eqb a admin) (eqb admin a) refl refl new fast_more slow_more before (none above)))
    (cases_lt (last + length shots) n))
    (λ (low : n ≤ last).
    let test : ltb last n ≡ false = grind (arith, nat_tests) in
    let same : opener_after last (length shots) admin n opener ≡ opener = ap (λ b. cond (b && leb n (last + length shots)) (Some admin) opener) test in
    let f1 = (added-apart n last (λ p. is_in FastPool p.pool) (pools admin) shots).0 low in
    let s1 = (added-apart n last (λ p. is_in SlowPool p.pool) (pools admin) shots).0 low in
    let f2 = (added-apart n last (λ p. is_in FastPool p.pool) (pools a) shots).0 low in
    let s2 = (added-apart n last (λ p. is_in SlowPool p.pool) (pools a) shots).0 low in
    let P : Option ℕ → Type 0 = λ o. Has o a (unsent + unsent_in n (rows_of (placed_from last (pools admin) shots))) (times n (cond (eqb a admin) (fast ++ added_to FastPool (placed_from last (pools a) shots)) fast)) (times n (cond (eqb a admin) (slow ++ added_to SlowPool (placed_from last (pools a) shots)) slow)) taken in
    subst P (sym same) (kept (is_own opener a) (eqb a admin) _ (omega (arith, new, f1, s1)) fast_more slow_more f2 s2 has))
    (cases_lt last n)
  where
    -- nothing before, and nothing new
    nothing : (o b : Bool) (u f s mf ms : ℕ) → u ≡ 0 → f ≡ times n fast + cond b mf 0 → s ≡ times n slow + cond b ms 0 → mf ≡ 0 → ms ≡ 0 → (times n fast + times n slow) + taken ≡ 0 → cond o u 0 ≡ (f + s) + taken
    nothing true true u f s mf ms none f_is s_is a_is b_is before = omega (arith, none, f_is, s_is, a_is, b_is, before)
    nothing true false u f s mf ms none f_is s_is a_is b_is before = omega (arith, none, f_is, s_is, a_is, b_is, before)
    nothing false true u f s mf ms none f_is s_is a_is b_is before = omega (arith, none, f_is, s_is, a_is, b_is, before)
    nothing false false u f s mf ms none f_is s_is a_is b_is before = omega (arith, none, f_is, s_is, a_is, b_is, before)

    -- something before, and nothing new
    kept : (o b : Bool) (u : ℕ) {f s mf ms : ℕ} → u ≡ 0 → f ≡ times n fast + cond b mf 0 → s ≡ times n slow + cond b ms 0 → mf ≡ 0 → ms ≡ 0 → cond o unsent 0 ≡ (times n fast + times n slow) + taken → cond o (unsent + u) 0 ≡ (f + s) + taken
    kept true true u none f_is s_is a_is b_is before = omega (arith, none, f_is, s_is, a_is, b_is, before)
    kept true false u none f_is s_is a_is b_is before = omega (arith, none, f_is, s_is, a_is, b_is, before)
    kept false true u none f_is s_is a_is b_is before = omega (arith, none, f_is, s_is, a_is, b_is, before)
    kept false false u none f_is s_is a_is b_is before = omega (arith, none, f_is, s_is, a_is, b_is, before)

    -- nothing before, and something new
    given : (b c : Bool) → eqb a admin ≡ b → eqb admin a ≡ c → unsent_in n (rows_of (placed_from last (pools admin) shots)) ≡ times n (added_to FastPool (placed_from last (pools admin) shots)) + times n (added_to SlowPool (placed_from last (pools admin) shots))
        → times n (cond (eqb a admin) (fast ++ added_to FastPool (placed_from last (pools a) shots)) fast) ≡ times n fast + cond (eqb a admin) (times n (added_to FastPool (placed_from last (pools a) shots))) 0
        → times n (cond (eqb a admin) (slow ++ added_to SlowPool (placed_from last (pools a) shots)) slow) ≡ times n slow + cond (eqb a admin) (times n (added_to SlowPool (placed_from last (pools a) shots))) 0
        → (times n fast + times n slow) + taken ≡ 0 → unsent ≡ 0
        → cond c (unsent + unsent_in n (rows_of (placed_from last (pools admin) shots))) 0
        ≡ (times n (cond (eqb a admin) (fast ++ added_to FastPool (placed_from last (pools a) shots)) fast) + times n (cond (eqb a admin) (slow ++ added_to SlowPool (placed_from last (pools a) shots)) slow)) + taken
    given true true test turned new f_is s_is before none =
        let same : a ≡ admin = grind (arith, nat_tests) in
        let f2 : times n (added_to FastPool (placed_from last (pools a) shots)) ≡ times n (added_to FastPool (placed_from last (pools admin) shots)) = ap (λ x. times n (added_to FastPool (placed_from last (pools x) shots))) same in
        let s2 : times n (added_to SlowPool (placed_from last (pools a) shots)) ≡ times n (added_to SlowPool (placed_from last (pools admin) shots)) = ap (λ x. times n (added_to SlowPool (placed_from last (pools x) shots))) same in
        let f3 : cond (eqb a admin) (times n (added_to FastPool (placed_from last (pools a) shots))) 0 ≡ times n (added_to FastPool (placed_from last (pools a) shots)) = ap (λ b. cond b (times n (added_to FastPool (placed_from last (pools a) shots))) 0) test in
        let s3 : cond (eqb a admin) (times n (added_to SlowPool (placed_from last (pools a) shots))) 0 ≡ times n (added_to SlowPool (placed_from last (pools a) shots)) = ap (λ b. cond b (times n (added_to SlowPool (placed_from last (pools a) shots))) 0) test in
        omega (arith, new, f_is, s_is, f2, s2, f3, s3, before, none)
    given true false test turned new f_is s_is before none = let never : ⊥ = grind (arith, nat_tests) in absurd never
    given false true test turned new f_is s_is before none = let never : ⊥ = grind (arith, nat_tests) in absurd never
    given false false test turned new f_is s_is before none =
        let f3 : cond (eqb a admin) (times n (added_to FastPool (placed_from last (pools a) shots))) 0 ≡ 0 = ap (λ b. cond b (times n (added_to FastPool (placed_from last (pools a) shots))) 0) test in
        let s3 : cond (eqb a admin) (times n (added_to SlowPool (placed_from last (pools a) shots))) 0 ≡ 0 = ap (λ b. cond b (times n (added_to SlowPool (placed_from last (pools a) shots))) 0) test in
        omega (arith, f_is, s_is, f3, s3, before)
