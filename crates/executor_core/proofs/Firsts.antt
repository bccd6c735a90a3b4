-- The first rows of a list, where none of the others passes a test.
use Rattle.std.proofs.Common.{◌≡◌, ℕ, zero, suc, ◌+◌, ◌<◌, Bool, true, false, cond, not, ◌||◌, List, [], ◌∷◌, ◌++◌, filter, count_by, take, drop, length, get_or, refl, sym, ap, ◌∙◌, arith}
use Rattle.std.proofs.lemmas.List.Sums.{sum_by-cons}
use Rattle.std.specs.List.{list_any, AllWithin, AllByRecursion as Each}

pub count-cons : {R : Type 0} (p : R → Bool) (x : R) (xs : List R) → count_by p (x ∷ xs) ≡ cond (p x) 1 0 + count_by p xs
count-cons p x xs = sum_by-cons (λ y. cond (p y) 1 0) x xs

none_any : {R : Type 0} (q : R → Bool) (xs : List R) → Each (λ x. q x ≡ false) xs → list_any q xs ≡ false
none_any q [] a = refl
none_any q (x ∷ xs) a = rw a.0 (none_any q xs a.1)

none_counted : {R : Type 0} (q : R → Bool) (xs : List R) → Each (λ x. q x ≡ false) xs → count_by q xs ≡ 0
none_counted q [] a = refl
none_counted q (x ∷ xs) a =
    let none : cond {A = ℕ} (q x) 1 0 ≡ 0 = rw a.0 refl in
    omega (arith, count-cons q x xs, none, none_counted q xs a.1)

none_left_out : {R : Type 0} (q : R → Bool) (xs : List R) → Each (λ x. q x ≡ false) xs → filter (λ x. not (q x)) xs ≡ xs
none_left_out q [] a = refl
none_left_out q (x ∷ xs) a = rw a.0 (ap (λ ys. x ∷ ys) (none_left_out q xs a.1))

pub any_first : {R : Type 0} (q : R → Bool) (n : ℕ) (xs : List R) → Each (λ x. q x ≡ false) (drop n xs) → list_any q (take n xs) ≡ list_any q xs
any_first q zero xs a = sym (none_any q xs a)
any_first q (suc n) [] a = refl
any_first q (suc n) (x ∷ xs) a = ap (λ (b : Bool). q x || b) (any_first q n xs a)

pub count_first : {R : Type 0} (q : R → Bool) (n : ℕ) (xs : List R) → Each (λ x. q x ≡ false) (drop n xs) → count_by q (take n xs) ≡ count_by q xs
count_first q zero xs a = sym (none_counted q xs a)
count_first q (suc n) [] a = refl
count_first q (suc n) (x ∷ xs) a = count-cons q x (take n xs) ∙ (ap (λ m. cond (q x) 1 0 + m) (count_first q n xs a) ∙ sym (count-cons q x xs))

first_step : {R : Type 0} (q : R → Bool) (n : ℕ) (x : R) (xs : List R) (b : Bool) → q x ≡ b → filter (λ y. not (q y)) (take n xs) ++ drop n xs ≡ filter (λ y. not (q y)) xs → filter (λ y. not (q y)) (x ∷ take n xs) ++ drop n xs ≡ filter (λ y. not (q y)) (x ∷ xs)
first_step q n x xs true e rest = rw e rest
first_step q n x xs false e rest = rw e (ap (λ ys. x ∷ ys) rest)

pub filter_first : {R : Type 0} (q : R → Bool) (n : ℕ) (xs : List R) → Each (λ x. q x ≡ false) (drop n xs) → filter (λ x. not (q x)) (take n xs) ++ drop n xs ≡ filter (λ x. not (q x)) xs
filter_first q zero xs a = sym (none_left_out q xs a)
filter_first q (suc n) [] a = refl
filter_first q (suc n) (x ∷ xs) a = first_step q n x xs (q x) refl (filter_first q n xs a)

-- what holds of the rows from a place on
pub each_within : {R : Type 0} (P : R → Type 0) (n : ℕ) (xs : List R) → AllWithin P xs n (length xs) → Each P (drop n xs)
each_within P n [] a = nothing n where
  nothing : (n : ℕ) → Each P (drop n [])
  nothing zero = tt
  nothing (suc n) = tt
each_within P zero (x ∷ xs) a = (a 0 x (omega arith) (omega arith), each_within P zero xs (λ k d low high. a (suc k) d (omega arith) (omega (arith, high))))
each_within P (suc n) (x ∷ xs) a = each_within P n xs (λ k d low high. a (suc k) d (omega (arith, low)) (omega (arith, high)))

pub each_at : {R : Type 0} (P : R → Type 0) (n : ℕ) (xs : List R) (d : R) → Each P xs → n < length xs → P (get_or xs n d)
each_at P n [] d a lt = absurd (omega (arith, lt))
each_at P zero (x ∷ xs) d a lt = a.0
each_at P (suc n) (x ∷ xs) d a lt = each_at P n xs d a.1 (omega (arith, lt))

-- ---- rows read from the front, of which those that pass go to the back
abbrev pub turned : {R : Type 0} → (R → Bool) → ℕ → List R → List R
turned q n xs = drop n xs ++ filter q (take n xs)

back_dropped : {R : Type 0} (xs ys : List R) → drop (length xs) (xs ++ ys) ≡ ys
back_dropped [] ys = refl
back_dropped (x ∷ xs) ys = back_dropped xs ys

back_taken : {R : Type 0} (xs ys : List R) → take (length xs) (xs ++ ys) ≡ xs
back_taken [] ys = refl
back_taken (x ∷ xs) ys = ap (λ zs. x ∷ zs) (back_taken xs ys)

turned_back : {R : Type 0} (xs ys : List R) (n : ℕ) → n ≡ length xs → drop n (xs ++ ys) ++ take n (xs ++ ys) ≡ ys ++ xs
turned_back xs ys n is = rw (is, back_dropped xs ys, back_taken xs ys) refl

-- those at the back go to the front again
pub turned_all : {R : Type 0} (q : R → Bool) (n m : ℕ) (xs : List R) → m ≡ length (drop n xs) → drop m (turned q n xs) ++ take m (turned q n xs) ≡ filter q (take n xs) ++ drop n xs
turned_all q n m xs is = turned_back (drop n xs) (filter q (take n xs)) m is
