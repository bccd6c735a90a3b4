-- Counts of lists.
use Rattle.std.proofs.Common.{◌≡◌, ℕ, ◌+◌, ◌≤◌, List, [], ◌∷◌, ◌++◌, Bool, true, false, cond, eqb, ◌&&◌, ◌||◌, not, Option, Some, None, ◌<◌, map, length, refl, ap, arith}
use Rattle.std.specs.List.{filter, count_by}
use Rattle.job_records.specs.Rows.{row_with}
use Rattle.std.proofs.lemmas.List.Sums.{sum_by-cons, sum_by-append}

-- how often a number stands in a list
abbrev pub times : ℕ → List ℕ → ℕ
times n ids = count_by (λ id. eqb id n) ids

pub count-cons : {X : Type 0} (p : X → Bool) (x : X) (xs : List X) → count_by p (x ∷ xs) ≡ cond (p x) 1 0 + count_by p xs
count-cons p x xs = sum_by-cons (λ y. cond (p y) 1 0) x xs

pub count-append : {X : Type 0} (p : X → Bool) (xs ys : List X) → count_by p (xs ++ ys) ≡ count_by p xs + count_by p ys
count-append p xs ys = sum_by-append (λ y. cond (p y) 1 0) xs ys

pub count-map : {X Y : Type 0} (p : Y → Bool) (f : X → Y) (xs : List X) → count_by p (map f xs) ≡ count_by (λ x. p (f x)) xs
count-map p f [] = refl
count-map p f (x ∷ xs) = omega (arith, count-cons p (f x) (map f xs), count-cons (λ y. p (f y)) x xs, count-map p f xs)

pub count-agree : {X : Type 0} (p q : X → Bool) → ((x : X) → p x ≡ q x) → (xs : List X) → count_by p xs ≡ count_by q xs
count-agree p q same [] = refl
count-agree p q same (x ∷ xs) =
    let here : cond {A = ℕ} (p x) 1 0 ≡ cond {A = ℕ} (q x) 1 0 = ap (λ (b : Bool). cond {A = ℕ} b 1 0) (same x) in
    omega (arith, count-cons p x xs, count-cons q x xs, count-agree p q same xs)

pub count-none : {X : Type 0} (p : X → Bool) → ((x : X) → p x ≡ false) → (xs : List X) → count_by p xs ≡ 0
count-none p none [] = refl
count-none p none (x ∷ xs) =
    let here : cond {A = ℕ} (p x) 1 0 ≡ 0 = ap (λ (b : Bool). cond {A = ℕ} b 1 0) (none x) in
    omega (arith, count-cons p x xs, count-none p none xs)

pub count-all : {X : Type 0} (p : X → Bool) → ((x : X) → p x ≡ true) → (xs : List X) → count_by p xs ≡ length xs
count-all p all [] = refl
count-all p all (x ∷ xs) =
    let here : cond {A = ℕ} (p x) 1 0 ≡ 1 = ap (λ (b : Bool). cond {A = ℕ} b 1 0) (all x) in
    omega (arith, count-cons p x xs, count-all p all xs)

filter-one : {X : Type 0} (q : X → Bool) (x : X) (b : Bool) (kept xs : List X) (p : X → Bool) → p x ≡ (b && q x) → count_by q kept ≡ count_by p xs → count_by q (cond b (x ∷ kept) kept) ≡ count_by p (x ∷ xs)
filter-one q x true kept xs p here rest =
    let same : cond {A = ℕ} (p x) 1 0 ≡ cond {A = ℕ} (q x) 1 0 = ap (λ (b : Bool). cond {A = ℕ} b 1 0) here in
    omega (arith, count-cons q x kept, count-cons p x xs)
filter-one q x false kept xs p here rest =
    let same : cond {A = ℕ} (p x) 1 0 ≡ 0 = ap (λ (b : Bool). cond {A = ℕ} b 1 0) here in
    omega (arith, count-cons p x xs)

pub count-filter : {X : Type 0} (q s : X → Bool) (xs : List X) → count_by q (filter s xs) ≡ count_by (λ x. s x && q x) xs
count-filter q s [] = refl
count-filter q s (x ∷ xs) = filter-one q x (s x) (filter s xs) xs (λ y. s y && q y) refl (count-filter q s xs)

either-one : (a b c : Bool) → (a ≡ true → b ≡ true → ⊥) → cond {A = ℕ} (a && c) 1 0 + cond {A = ℕ} (b && c) 1 0 ≡ cond {A = ℕ} ((a || b) && c) 1 0
either-one true true c apart = absurd (apart refl refl)
either-one true false c apart = omega arith
either-one false b c apart = omega arith

-- of two tests that no element passes both
pub count-either : {X : Type 0} (q s t : X → Bool) → ((x : X) → s x ≡ true → t x ≡ true → ⊥) → (xs : List X) → count_by (λ x. s x && q x) xs + count_by (λ x. t x && q x) xs ≡ count_by (λ x. (s x || t x) && q x) xs
count-either q s t apart [] = omega arith
count-either q s t apart (x ∷ xs) =
    omega (
      arith,
      count-cons (λ y. s y && q y) x xs,
      count-cons (λ y. t y && q y) x xs,
      count-cons (λ y. (s y || t y) && q y) x xs,
      count-either q s t apart xs,
      either-one (s x) (t x) (q x) (apart x),
    )

rest-one : (a c : Bool) → cond {A = ℕ} (a && c) 1 0 + cond {A = ℕ} (not a && c) 1 0 ≡ cond {A = ℕ} c 1 0
rest-one true c = omega arith
rest-one false c = omega arith

-- of a test and its opposite
pub count-rest : {X : Type 0} (q s : X → Bool) (xs : List X) → count_by (λ x. s x && q x) xs + count_by (λ x. not (s x) && q x) xs ≡ count_by q xs
count-rest q s [] = omega arith
count-rest q s (x ∷ xs) =
    omega (arith, count-cons (λ y. s y && q y) x xs, count-cons (λ y. not (s y) && q y) x xs, count-cons q x xs, count-rest q s xs, rest-one (s x) (q x))

-- what a filter keeps is no more
pub count-kept : {X : Type 0} (q s : X → Bool) (xs : List X) → count_by q (filter s xs) ≤ count_by q xs
count-kept q s xs = omega (arith, count-filter q s xs, count-rest q s xs)

-- what is counted is found
pub counted-found : {R : Type 0} (id_of : R → ℕ) (passes : R → Bool) (n : ℕ) (rows : List R) → 0 < count_by (λ row. eqb (id_of row) n && passes row) rows
    → row_with id_of n rows ≡ None → ⊥
counted-found id_of passes n [] some none = let never : 0 < 0 = some in omega arith
counted-found id_of passes n (row ∷ rows) some none = by (eqb (id_of row) n) refl none (λ more gone. counted-found id_of passes n rows more gone)
  where
    by : (b : Bool) → eqb (id_of row) n ≡ b → cond b (Some row) (row_with id_of n rows) ≡ None → (0 < count_by (λ r. eqb (id_of r) n && passes r) rows → row_with id_of n rows ≡ None → ⊥) → ⊥
    by true test is later = (cc)
    by false test is later =
        let here : count_by (λ r. eqb (id_of r) n && passes r) (row ∷ rows) ≡ cond (eqb (id_of row) n && passes row) 1 0 + count_by (λ r. eqb (id_of r) n && passes r) rows = count-cons (λ r. eqb (id_of r) n && passes r) row rows in
        let zero_ : cond {A = ℕ} (eqb (id_of row) n && passes row) 1 0 ≡ 0 = ap (λ t. cond {A = ℕ} (t && passes row) 1 0) test in
        later (omega (arith, here, zero_, some)) is
