-- Which rows pass a test, by the ids of those that do.
use Rattle.std.proofs.Common.{◌≡◌, ℕ, ◌<◌, ◌≤◌, List, [], ◌∷◌, ◌++◌, Bool, true, false, cond, eqb, ◌||◌, map, refl, sym, ap, ◌∙◌, subst, arith, append_assoc}
use Rattle.std.specs.List.{filter, list_any, concat, AllByRecursion}
use Rattle.std.proofs.lemmas.Bool.Decides.{nat_tests}
use Rattle.std.proofs.lemmas.List.Folds.{list_any-append}
use Rattle.job_records.specs.Rows.{IsRising}

-- a filter that lets nothing through
pub kept-none : {X : Type 0} (xs : List X) → filter (λ x. false) xs ≡ []
kept-none [] = refl
kept-none (x ∷ xs) = kept-none xs

-- whether a list has this id
abbrev pub has : List ℕ → ℕ → Bool
has ids n = list_any (λ id. eqb id n) ids

-- no id of a list is above the top one
abbrev pub AreLow : ℕ → List ℕ → Type 0
AreLow top ids = AllByRecursion (λ id. id ≤ top) ids

low-lacks : (top n : ℕ) (ids : List ℕ) → AreLow top ids → top < n → has ids n ≡ false
low-lacks top n [] low above = refl
low-lacks top n (id ∷ ids) low above =
    let first : id ≤ top = low.0 in
    let test : eqb id n ≡ false = grind (arith, nat_tests) in
    ap (λ b. b || has ids n) test ∙ low-lacks top n ids low.1 above

pub low-more : (top more : ℕ) (ids : List ℕ) → AreLow top ids → top ≤ more → AreLow more ids
low-more top more [] low above = tt
low-more top more (id ∷ ids) low above = let first : id ≤ top = low.0 in (omega arith, low-more top more ids low.1 above)

low-push : (low id : ℕ) (ids : List ℕ) → AreLow low ids → low < id → AreLow id (ids ++ id ∷ [])
low-push low id [] ids_low above = (omega arith, tt)
low-push low id (first ∷ ids) ids_low above = let head : first ≤ low = ids_low.0 in (omega arith, low-push low id ids ids_low.1 above)

pub low-behind : (top : ℕ) (ids more : List ℕ) → AreLow top ids → AreLow top more → AreLow top (ids ++ more)
low-behind top [] more low low2 = low2
low-behind top (id ∷ ids) more low low2 = (low.0, low-behind top ids more low.1 low2)

-- the ids of rows that rise from above a bound are not below it
kept-lacks : {R : Type 0} (id_of : R → ℕ) (passes : R → Bool) (low last n : ℕ) (rows : List R) → IsRising id_of low rows last → n ≤ low → has (map id_of (filter passes rows)) n ≡ false
kept-lacks id_of passes low last n [] h below = refl
kept-lacks id_of passes low last n (row ∷ rows) h below =
    let first : low < id_of row = h.0 in
    let test : eqb (id_of row) n ≡ false = grind (arith, nat_tests) in
    let rest = kept-lacks id_of passes (id_of row) last n rows h.1 (omega arith) in
    by (passes row) test rest
  where
    by : (b : Bool) → eqb (id_of row) n ≡ false → has (map id_of (filter passes rows)) n ≡ false → has (map id_of (cond b (row ∷ filter passes rows) (filter passes rows))) n ≡ false
    by true test rest = ap (λ b. b || has (map id_of (filter passes rows)) n) test ∙ rest
    by false test rest = rest

-- each row passes where its id is among those of the rows that pass
abbrev Marked : {R : Type 0} → (R → ℕ) → (R → Bool) → List ℕ → List R → Type 0
Marked id_of passes ids rows = AllByRecursion (λ row. passes row ≡ has ids (id_of row)) rows

has-here : (before more : List ℕ) (n : ℕ) → has (before ++ n ∷ more) n ≡ true
has-here [] more n = let test : eqb n n ≡ true = grind (arith, nat_tests) in ap (λ b. b || has more n) test
has-here (id ∷ before) more n = by (eqb id n) (has-here before more n)
  where
    by : (b : Bool) → has (before ++ n ∷ more) n ≡ true → (b || has (before ++ n ∷ more) n) ≡ true
    by true rest = refl
    by false rest = rest

marked-from : {R : Type 0} (id_of : R → ℕ) (passes : R → Bool) (low last : ℕ) (before : List ℕ) (rows : List R) → AreLow low before → IsRising id_of low rows last
    → Marked id_of passes (before ++ map id_of (filter passes rows)) rows
marked-from id_of passes low last before [] ids_low h = tt
marked-from id_of passes low last before (row ∷ rows) ids_low h =
    by (passes row) refl (λ low2 before2 ids_low2 h2. marked-from id_of passes low2 last before2 rows ids_low2 h2)
  where
    by : (b : Bool) → passes row ≡ b → ((low2 : ℕ) (before2 : List ℕ) → AreLow low2 before2 → IsRising id_of low2 rows last → Marked id_of passes (before2 ++ map id_of (filter passes rows)) rows)
        → Marked id_of passes (before ++ map id_of (cond b (row ∷ filter passes rows) (filter passes rows))) (row ∷ rows)
    by true is more =
        let P : List ℕ → Type 0 = λ ids. Marked id_of passes ids rows in (
          is ∙ sym (has-here before (map id_of (filter passes rows)) (id_of row)),
          subst P (append_assoc before (id_of row ∷ []) (map id_of (filter passes rows))) (more (id_of row) (before ++ id_of row ∷ []) (low-push low (id_of row) before ids_low h.0) h.1),
        )
    by false is more =
        let first : low < id_of row = h.0 in (
          is ∙ sym (list_any-append (λ id. eqb id (id_of row)) before (map id_of (filter passes rows)) ∙ ap (λ b. b || has (map id_of (filter passes rows)) (id_of row)) (low-lacks low (id_of row) before ids_low h.0) ∙ kept-lacks id_of passes (id_of row) last (id_of row) rows h.1 (omega arith)),
          more (id_of row) before (low-more low (id_of row) before ids_low (omega arith)) h.1,
        )

pub marked : {R : Type 0} (id_of : R → ℕ) (passes : R → Bool) (low last : ℕ) (rows : List R) → IsRising id_of low rows last → Marked id_of passes (map id_of (filter passes rows)) rows
marked id_of passes low last rows h = marked-from id_of passes low last [] rows tt h

-- a change of the rows that pass is a change of those whose id is among the ids
pub changed-marked : {R : Type 0} (id_of : R → ℕ) (passes : R → Bool) (change : R → R) (ids : List ℕ) (rows : List R) → AllByRecursion (λ row. passes row ≡ has ids (id_of row)) rows
    → map (λ row. cond (passes row) (change row) row) rows ≡ map (λ row. cond (has ids (id_of row)) (change row) row) rows
changed-marked id_of passes change ids [] marks = refl
changed-marked id_of passes change ids (row ∷ rows) marks =
    ap (λ b. cond b (change row) row ∷ map (λ r. cond (passes r) (change r) r) rows) marks.0
    ∙ ap (λ rest. cond (has ids (id_of row)) (change row) row ∷ rest) (changed-marked id_of passes change ids rows marks.1)

-- what is so of some list is so of the joined lists
pub has-joined : (ids_of : ℕ → List ℕ) (n : ℕ) (numbers : List ℕ) → has (concat (map ids_of numbers)) n ≡ list_any (λ number. has (ids_of number) n) numbers
has-joined ids_of n [] = refl
has-joined ids_of n (number ∷ numbers) =
    list_any-append (λ id. eqb id n) (ids_of number) (concat (map ids_of numbers)) ∙ ap (λ b. has (ids_of number) n || b) (has-joined ids_of n numbers)
