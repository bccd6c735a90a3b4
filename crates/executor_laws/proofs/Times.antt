-- How counts change with a list.
use Rattle.std.proofs.Common.{◌≡◌, ℕ, ◌+◌, Bool, true, false, not, ◌&&◌, if◌then◌else◌, List, [], ◌∷◌, ◌++◌, Option, None, Some, map, filter, find, refl, ap, arith}
use Rattle.job_lane.specs.Runs.{without_first, put_before}
use Rattle.executor_laws.specs.Given.{times}

pub times-push : {X : Type 0} (p : X → Bool) (xs : List X) (x : X) → times p (xs ++ x ∷ []) ≡ times p xs + (if p x then 1 else 0)
times-push p [] x = omega arith
times-push p (y ∷ ys) x = omega (arith, times-push p ys x)

put_step : {X : Type 0} (p c : X → Bool) (x y : X) (ys : List X) (b : Bool) → c y ≡ b → times p (put_before c x ys) ≡ times p ys + (if p x then 1 else 0) → times p (put_before c x (y ∷ ys)) ≡ times p (y ∷ ys) + (if p x then 1 else 0)
put_step p c x y ys true e h = rw e (omega arith)
put_step p c x y ys false e h = rw e (omega (arith, h))

-- wherever the element is put
pub times-put : {X : Type 0} (p c : X → Bool) (x : X) (ys : List X) → times p (put_before c x ys) ≡ times p ys + (if p x then 1 else 0)
times-put p c x [] = omega arith
times-put p c x (y ∷ ys) = put_step p c x y ys (c y) refl (times-put p c x ys)

split_step : {X : Type 0} (j n : X → Bool) (x : X) (xs : List X) (bj bn : Bool) → j x ≡ bj → n x ≡ bn → times n (filter (λ y. not (j y)) xs) + times (λ y. j y && n y) xs ≡ times n xs → times n (filter (λ y. not (j y)) (x ∷ xs)) + times (λ y. j y && n y) (x ∷ xs) ≡ times n (x ∷ xs)
split_step j n x xs true true ej en h = rw (ej, en) (omega (arith, h))
split_step j n x xs true false ej en h = rw (ej, en) (omega (arith, h))
split_step j n x xs false true ej en h = rw (ej, en) (omega (arith, h))
split_step j n x xs false false ej en h = rw (ej, en) (omega (arith, h))

-- those that are left and those that go
pub times-split : {X : Type 0} (j n : X → Bool) (xs : List X) → times n (filter (λ y. not (j y)) xs) + times (λ y. j y && n y) xs ≡ times n xs
times-split j n [] = refl
times-split j n (x ∷ xs) = split_step j n x xs (j x) (n x) refl refl (times-split j n xs)

abbrev pub once_if : {X : Type 0} → (X → Bool) → Option X → ℕ
once_if p None = 0
once_if p (Some x) = if p x then 1 else 0

without_step : {X : Type 0} (f p : X → Bool) (x : X) (xs : List X) (b : Bool) → f x ≡ b → times p (without_first f xs) + once_if p (find f xs) ≡ times p xs → times p (without_first f (x ∷ xs)) + once_if p (find f (x ∷ xs)) ≡ times p (x ∷ xs)
without_step f p x xs true e h = rw e (omega arith)
without_step f p x xs false e h = rw e (omega (arith, h))

-- the one that goes
pub times-without : {X : Type 0} (f p : X → Bool) (xs : List X) → times p (without_first f xs) + once_if p (find f xs) ≡ times p xs
times-without f p [] = refl
times-without f p (x ∷ xs) = without_step f p x xs (f x) refl (times-without f p xs)

pub times-map : {X : Type 0} (g : X → X) (p : X → Bool) → ((x : X) → p (g x) ≡ p x) → (xs : List X) → times p (map g xs) ≡ times p xs
times-map g p same [] = refl
times-map g p same (x ∷ xs) = rw (same x) (ap (λ n. (if p x then 1 else 0) + n) (times-map g p same xs))

-- a map that takes from p those that pass q
pub times-map_split : {X : Type 0} (g : X → X) (p q : X → Bool) → ((x : X) → (if p (g x) then 1 else 0) + (if q x then 1 else 0) ≡ (if p x then 1 else 0)) → (xs : List X) → times p (map g xs) + times q xs ≡ times p xs
times-map_split g p q same [] = refl
times-map_split g p q same (x ∷ xs) = omega (arith, same x, times-map_split g p q same xs)
