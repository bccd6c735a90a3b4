-- What holds of each element of a list.
use Rattle.std.proofs.Common.{◌≡◌, ℕ, zero, suc, Bool, true, false, List, [], ◌∷◌, ◌++◌, Option, None, Some, map, filter, find, take, drop, refl, ap, arith}
use Rattle.std.specs.List.{AllByRecursion as Each}
use Rattle.executor_laws.specs.Given.{times}
use Rattle.job_lane.specs.Runs.{without_first, put_before}

pub each-append : {X : Type 0} (P : X → Type 0) (xs ys : List X) → Each P xs → Each P ys → Each P (xs ++ ys)
each-append P [] ys a b = b
each-append P (x ∷ xs) ys a b = (a.0, each-append P xs ys a.1 b)

pub each-weaker : {X : Type 0} (P Q : X → Type 0) → ((x : X) → P x → Q x) → (xs : List X) → Each P xs → Each Q xs
each-weaker P Q f [] a = tt
each-weaker P Q f (x ∷ xs) a = (f x a.0, each-weaker P Q f xs a.1)

pub each-map : {X Y : Type 0} (P : Y → Type 0) (f : X → Y) (xs : List X) → Each (λ x. P (f x)) xs → Each P (map f xs)
each-map P f [] a = tt
each-map P f (x ∷ xs) a = (a.0, each-map P f xs a.1)

filter-step : {X : Type 0} (P : X → Type 0) (p : X → Bool) (x : X) (xs : List X) (b : Bool) → p x ≡ b → P x → Each P (filter p xs) → Each P (filter p (x ∷ xs))
filter-step P p x xs true e a rest = rw e (a, rest)
filter-step P p x xs false e a rest = rw e rest

pub each-filter : {X : Type 0} (P : X → Type 0) (p : X → Bool) (xs : List X) → Each P xs → Each P (filter p xs)
each-filter P p [] a = tt
each-filter P p (x ∷ xs) a = filter-step P p x xs (p x) refl a.0 (each-filter P p xs a.1)

pub each-take : {X : Type 0} (P : X → Type 0) (n : ℕ) (xs : List X) → Each P xs → Each P (take n xs)
each-take P zero xs a = tt
each-take P (suc n) [] a = tt
each-take P (suc n) (x ∷ xs) a = (a.0, each-take P n xs a.1)

pub each-drop : {X : Type 0} (P : X → Type 0) (n : ℕ) (xs : List X) → Each P xs → Each P (drop n xs)
each-drop P zero xs a = a
each-drop P (suc n) [] a = tt
each-drop P (suc n) (x ∷ xs) a = each-drop P n xs a.1

without-step : {X : Type 0} (P : X → Type 0) (p : X → Bool) (x : X) (xs : List X) (b : Bool) → p x ≡ b → P x → Each P xs → Each P (without_first p xs) → Each P (without_first p (x ∷ xs))
without-step P p x xs true e a all rest = rw e all
without-step P p x xs false e a all rest = rw e (a, rest)

pub each-without : {X : Type 0} (P : X → Type 0) (p : X → Bool) (xs : List X) → Each P xs → Each P (without_first p xs)
each-without P p [] a = tt
each-without P p (x ∷ xs) a = without-step P p x xs (p x) refl a.0 a.1 (each-without P p xs a.1)

put-step : {X : Type 0} (P : X → Type 0) (p : X → Bool) (x y : X) (ys : List X) (b : Bool) → p y ≡ b → P x → P y → Each P ys → Each P (put_before p x ys) → Each P (put_before p x (y ∷ ys))
put-step P p x y ys true e a c all rest = rw e (a, (c, all))
put-step P p x y ys false e a c all rest = rw e (c, rest)

pub each-put : {X : Type 0} (P : X → Type 0) (p : X → Bool) (x : X) (ys : List X) → P x → Each P ys → Each P (put_before p x ys)
each-put P p x [] a b = (a, tt)
each-put P p x (y ∷ ys) a b = put-step P p x y ys (p y) refl a b.0 b.1 (each-put P p x ys a b.1)

-- what holds of each holds of the one that is found
abbrev pub IfFound : {X : Type 0} → (X → Type 0) → Option X → Type 0
IfFound P None = Unit {0}
IfFound P (Some x) = P x

found-step : {X : Type 0} (P : X → Type 0) (p : X → Bool) (x : X) (xs : List X) (b : Bool) → p x ≡ b → P x → IfFound P (find p xs) → IfFound P (find p (x ∷ xs))
found-step P p x xs true e a rest = rw e a
found-step P p x xs false e a rest = rw e rest

pub each-find : {X : Type 0} (P : X → Type 0) (p : X → Bool) (xs : List X) → Each P xs → IfFound P (find p xs)
each-find P p [] a = tt
each-find P p (x ∷ xs) a = found-step P p x xs (p x) refl a.0 (each-find P p xs a.1)

pub map-map : {X Y Z : Type 0} (f : Y → Z) (g : X → Y) (xs : List X) → map f (map g xs) ≡ map (λ x. f (g x)) xs
map-map f g [] = refl
map-map f g (x ∷ xs) = ap (λ ys. f (g x) ∷ ys) (map-map f g xs)

kept-step : {X : Type 0} (P : X → Type 0) (p : X → Bool) (x : X) (xs : List X) (b : Bool) → p x ≡ b → P x → Each (λ y. P y × (p y ≡ true)) (filter p xs) → Each (λ y. P y × (p y ≡ true)) (filter p (x ∷ xs))
kept-step P p x xs true e a rest = rw e ((a, e), rest)
kept-step P p x xs false e a rest = rw e rest

-- those that are kept pass
pub each-kept : {X : Type 0} (P : X → Type 0) (p : X → Bool) (xs : List X) → Each P xs → Each (λ y. P y × (p y ≡ true)) (filter p xs)
each-kept P p [] a = tt
each-kept P p (x ∷ xs) a = kept-step P p x xs (p x) refl a.0 (each-kept P p xs a.1)

pub each-both : {X : Type 0} (P Q : X → Type 0) (xs : List X) → Each P xs → Each Q xs → Each (λ x. P x × Q x) xs
each-both P Q [] a b = tt
each-both P Q (x ∷ xs) a b = ((a.0, b.0), each-both P Q xs a.1 b.1)

none-step : {X : Type 0} (p : X → Bool) (x : X) (xs : List X) (b : Bool) → p x ≡ b → times p (x ∷ xs) ≡ 0 → (times p xs ≡ 0 → Each (λ y. p y ≡ false) xs) → Each (λ y. p y ≡ false) (x ∷ xs)
none-step p x xs true e h rest = let k = rw e at h in absurd (omega (arith, k))
none-step p x xs false e h rest = let k = rw e at h in (e, rest (omega (arith, k)))

-- where none passes, each fails, and the other way round
pub times-none : {X : Type 0} (p : X → Bool) (xs : List X) → times p xs ≡ 0 → Each (λ y. p y ≡ false) xs
times-none p [] h = tt
times-none p (x ∷ xs) h = none-step p x xs (p x) refl h (times-none p xs)

pub none-times : {X : Type 0} (p : X → Bool) (xs : List X) → Each (λ y. p y ≡ false) xs → times p xs ≡ 0
none-times p [] a = refl
none-times p (x ∷ xs) a = rw a.0 (omega (arith, none-times p xs a.1))

found-passes-step : {X : Type 0} (p : X → Bool) (x : X) (xs : List X) (b : Bool) → p x ≡ b → IfFound (λ y. p y ≡ true) (find p xs) → IfFound (λ y. p y ≡ true) (find p (x ∷ xs))
found-passes-step p x xs true e rest = rw e e
found-passes-step p x xs false e rest = rw e rest

-- the one that is found passes
pub found-passes : {X : Type 0} (p : X → Bool) (xs : List X) → IfFound (λ y. p y ≡ true) (find p xs)
found-passes p [] = tt
found-passes p (x ∷ xs) = found-passes-step p x xs (p x) refl (found-passes p xs)

absent-step : {X : Type 0} (p : X → Bool) (x : X) (xs : List X) (b : Bool) → p x ≡ b → find p (x ∷ xs) ≡ None → (find p xs ≡ None → times p xs ≡ 0) → times p (x ∷ xs) ≡ 0
absent-step p x xs true e h rest = let k = rw e at h in absurd cc
absent-step p x xs false e h rest = let k = rw e at h in rw e (omega (arith, rest k))

-- none passes where none is found
pub not-found : {X : Type 0} (p : X → Bool) (xs : List X) → find p xs ≡ None → times p xs ≡ 0
not-found p [] h = refl
not-found p (x ∷ xs) h = absent-step p x xs (p x) refl h (not-found p xs)
