-- Rows that have keys: found by them, left out, and put in order of them.
use Rattle.std.proofs.Common.{◌≡◌, ℕ, ◌+◌, ◌<◌, ◌==◌, Bool, true, false, cond, nat_lt, if◌then◌else◌, List, [], ◌∷◌, Option, None, Some, map, filter, find, count_by, refl, sym, ap, ◌∙◌, arith}
use Rattle.std.proofs.lemmas.Bool.Decides.{nat_tests}
use Rattle.std.specs.List.{AllByRecursion as Each}
use Rattle.std.specs.Option.{option_map}
use Rattle.job_lane.specs.Runs.{put_before}
use Rattle.executor_laws.proofs.Each.{each-weaker, each-put}
use Rattle.executor_core.specs.Rows.{by_key, HaveOwn}
use Rattle.executor_core.proofs.Firsts.{count-cons}

pub equal_of : (n m : ℕ) → (n == m) ≡ true → n ≡ m
equal_of n m e = grind (arith, nat_tests)

pub same_key : (n : ℕ) → (n == n) ≡ true
same_key n = grind (arith, nat_tests)

turned : (m n : ℕ) (b : Bool) → (m == n) ≡ b → (n == m) ≡ b
turned m n true e = grind (arith, nat_tests)
turned m n false e = grind (arith, nat_tests)

pub turn : (m n : ℕ) → (m == n) ≡ (n == m)
turn m n = sym (turned m n (m == n) refl)

pub less_of : (n m : ℕ) → nat_lt n m ≡ true → n < m
less_of n m e = grind (arith, nat_tests)

pub more_of : (n m : ℕ) → (n == m) ≡ false → nat_lt n m ≡ false → m < n
more_of n m e f = grind (arith, nat_tests)

below_differs : (n m : ℕ) → n < m → (n == m) ≡ false
below_differs n m lt = grind (arith, nat_tests)

-- ---- the row of a key
abbrev pub found : {R : Type 0} → (R → ℕ) → ℕ → List R → Option R
found key n xs = find (λ x. n == key x) xs

-- where none is found, the first row has another key, and none of the others has this one
not_first : {R : Type 0} (key : R → ℕ) (n : ℕ) (x : R) (xs : List R) (b : Bool) → (n == key x) ≡ b → found key n (x ∷ xs) ≡ None → (b ≡ false) × (found key n xs ≡ None)
not_first key n x xs true e none = let k = rw e at none in absurd cc
not_first key n x xs false e none = (refl, rw e at none)

pub first_differs : {R : Type 0} (key : R → ℕ) (n : ℕ) (x : R) (xs : List R) → found key n (x ∷ xs) ≡ None → (n == key x) ≡ false
first_differs key n x xs none = (not_first key n x xs (n == key x) refl none).0

pub none_behind : {R : Type 0} (key : R → ℕ) (n : ℕ) (x : R) (xs : List R) → found key n (x ∷ xs) ≡ None → found key n xs ≡ None
none_behind key n x xs none = (not_first key n x xs (n == key x) refl none).1

found_key_step : {R : Type 0} (key : R → ℕ) (n : ℕ) (x y : R) (xs : List R) (b : Bool) → (n == key y) ≡ b → found key n (y ∷ xs) ≡ Some x → (found key n xs ≡ Some x → n ≡ key x) → n ≡ key x
found_key_step key n x y xs true e is rest = let k = rw e at is in let same : y ≡ x = cc in equal_of n (key y) e ∙ ap key same
found_key_step key n x y xs false e is rest = rest (rw e at is)

-- the row that is found has the key
pub found_key : {R : Type 0} (key : R → ℕ) (n : ℕ) (x : R) (xs : List R) → found key n xs ≡ Some x → n ≡ key x
found_key key n x [] is = absurd cc
found_key key n x (y ∷ xs) is = found_key_step key n x y xs (n == key y) refl is (found_key key n x xs)

-- ---- a row put among others
apart_of : (n k m : ℕ) → (n == m) ≡ true → (k == m) ≡ false → (n == k) ≡ false
apart_of n k m e f = grind (arith, nat_tests)

found_put_step : {R : Type 0} (key : R → ℕ) (p : R → Bool) (n : ℕ) (x y : R) (ys : List R) (b c : Bool) → p y ≡ b → (n == key y) ≡ c → (key x == key y) ≡ false
    → found key n (put_before p x ys) ≡ (if n == key x then Some x else found key n ys) → found key n (put_before p x (y ∷ ys)) ≡ (if n == key x then Some x else found key n (y ∷ ys))
found_put_step key p n x y ys true c t e apart rest = rw t refl
found_put_step key p n x y ys false true t e apart rest = rw t (rw (e, apart_of n (key x) (key y) e apart) refl)
found_put_step key p n x y ys false false t e apart rest = rw t (rw e rest)

pub found_put : {R : Type 0} (key : R → ℕ) (p : R → Bool) (n : ℕ) (x : R) (xs : List R) → found key (key x) xs ≡ None → found key n (put_before p x xs) ≡ (if n == key x then Some x else found key n xs)
found_put key p n x [] none = refl
found_put key p n x (y ∷ ys) none =
    found_put_step key p n x y ys (p y) (n == key y) refl refl (first_differs key (key x) y ys none) (found_put key p n x ys (none_behind key (key x) y ys none))

own_put_step : {R : Type 0} (key : R → ℕ) (p : R → Bool) (x y : R) (ys : List R) (b : Bool) → p y ≡ b → (key x == key y) ≡ false → found key (key x) (y ∷ ys) ≡ None → found key (key x) ys ≡ None → HaveOwn key (y ∷ ys) → HaveOwn key (put_before p x ys) → HaveOwn key (put_before p x (y ∷ ys))
own_put_step key p x y ys true t apart none behind own rest = rw t (none, own)
own_put_step key p x y ys false t apart none behind own rest =
    rw t (found_put key p (key y) x ys behind ∙ ap (λ (b : Bool). if b then Some x else found key (key y) ys) (sym (turn (key x) (key y)) ∙ apart) ∙ own.0, rest)

pub own_put : {R : Type 0} (key : R → ℕ) (p : R → Bool) (x : R) (xs : List R) → found key (key x) xs ≡ None → HaveOwn key xs → HaveOwn key (put_before p x xs)
own_put key p x [] none own = (refl, tt)
own_put key p x (y ∷ ys) none own =
    own_put_step key p x y ys (p y) refl (first_differs key (key x) y ys none) none (none_behind key (key x) y ys none) own (own_put key p x ys (none_behind key (key x) y ys none) own.1)

-- ---- rows left out
abbrev pub kept : {R : Type 0} → (R → Bool) → Option R → Option R
kept q None = None
kept q (Some x) = if q x then Some x else None

none_filter_step : {R : Type 0} (key : R → ℕ) (q : R → Bool) (n : ℕ) (x : R) (xs : List R) (b : Bool) → q x ≡ b → (n == key x) ≡ false → found key n (filter q xs) ≡ None → found key n (filter q (x ∷ xs)) ≡ None
none_filter_step key q n x xs true t e rest = rw t (rw e rest)
none_filter_step key q n x xs false t e rest = rw t rest

pub none_filter : {R : Type 0} (key : R → ℕ) (q : R → Bool) (n : ℕ) (xs : List R) → found key n xs ≡ None → found key n (filter q xs) ≡ None
none_filter key q n [] none = refl
none_filter key q n (x ∷ xs) none = none_filter_step key q n x xs (q x) refl (first_differs key n x xs none) (none_filter key q n xs (none_behind key n x xs none))

own_filter_step : {R : Type 0} (key : R → ℕ) (q : R → Bool) (x : R) (xs : List R) (b : Bool) → q x ≡ b → found key (key x) (filter q xs) ≡ None → HaveOwn key (filter q xs) → HaveOwn key (filter q (x ∷ xs))
own_filter_step key q x xs true t none rest = rw t (none, rest)
own_filter_step key q x xs false t none rest = rw t rest

pub own_filter : {R : Type 0} (key : R → ℕ) (q : R → Bool) (xs : List R) → HaveOwn key xs → HaveOwn key (filter q xs)
own_filter key q [] own = tt
own_filter key q (x ∷ xs) own = own_filter_step key q x xs (q x) refl (none_filter key q (key x) xs own.0) (own_filter key q xs own.1)

found_filter_step : {R : Type 0} (key : R → ℕ) (q : R → Bool) (n : ℕ) (x : R) (xs : List R) (b c : Bool) → q x ≡ b → (n == key x) ≡ c → found key (key x) xs ≡ None → found key n (filter q xs) ≡ kept q (found key n xs) → found key n (filter q (x ∷ xs)) ≡ kept q (found key n (x ∷ xs))
found_filter_step key q n x xs true true t e own rest = rw t (rw e (rw t refl))
found_filter_step key q n x xs false true t e own rest =
    let one = equal_of n (key x) e in
    rw t (rw e (rw (t, one) (none_filter key q (key x) xs own)))
found_filter_step key q n x xs true false t e own rest = rw t (rw e rest)
found_filter_step key q n x xs false false t e own rest = rw t (rw e rest)

pub found_filter : {R : Type 0} (key : R → ℕ) (q : R → Bool) (n : ℕ) (xs : List R) → HaveOwn key xs → found key n (filter q xs) ≡ kept q (found key n xs)
found_filter key q n [] own = refl
found_filter key q n (x ∷ xs) own = found_filter_step key q n x xs (q x) (n == key x) refl refl own.0 (found_filter key q n xs own.1)

-- ---- rows in order
abbrev pub Above : {R : Type 0} → (R → ℕ) → ℕ → List R → Type 0
Above key n xs = Each (λ x. n < key x) xs

abbrev pub Rises : {R : Type 0} → (R → ℕ) → List R → Type 0
Rises key [] = Unit {0}
Rises key (x ∷ xs) = Above key (key x) xs × Rises key xs

above_lower : {R : Type 0} (key : R → ℕ) (n m : ℕ) (xs : List R) → n < m → Above key m xs → Above key n xs
above_lower key n m xs lt a = each-weaker (λ x. m < key x) (λ x. n < key x) (λ x up. omega (arith, lt, up)) xs a

rises_put_step : {R : Type 0} (key : R → ℕ) (x y : R) (ys : List R) (b : Bool) → nat_lt (key x) (key y) ≡ b → (key x == key y) ≡ false → Rises key (y ∷ ys) → Rises key (put_before (λ z. nat_lt (key x) (key z)) x ys) → Rises key (put_before (λ z. nat_lt (key x) (key z)) x (y ∷ ys))
rises_put_step key x y ys true t apart rises rest = let lt = less_of (key x) (key y) t in rw t ((lt, above_lower key (key x) (key y) ys lt rises.0), rises)
rises_put_step key x y ys false t apart rises rest = rw t (each-put (λ z. key y < key z) (λ z. nat_lt (key x) (key z)) x ys (more_of (key x) (key y) apart t) rises.0, rest)

rises_put : {R : Type 0} (key : R → ℕ) (x : R) (xs : List R) → found key (key x) xs ≡ None → Rises key xs → Rises key (put_before (λ z. nat_lt (key x) (key z)) x xs)
rises_put key x [] none rises = (tt, tt)
rises_put key x (y ∷ ys) none rises = rises_put_step key x y ys (nat_lt (key x) (key y)) refl (first_differs key (key x) y ys none) rises (rises_put key x ys (none_behind key (key x) y ys none) rises.1)

not_above : {R : Type 0} (key : R → ℕ) (n : ℕ) (xs : List R) → Above key n xs → found key n xs ≡ None
not_above key n [] a = refl
not_above key n (x ∷ xs) a = rw (below_differs n (key x) a.0) (not_above key n xs a.1)

pub rises_own : {R : Type 0} (key : R → ℕ) (xs : List R) → Rises key xs → HaveOwn key xs
rises_own key [] rises = tt
rises_own key (x ∷ xs) rises = (not_above key (key x) xs rises.0, rises_own key xs rises.1)

found_above_step : {R : Type 0} (key : R → ℕ) (n m : ℕ) (x y : R) (ys : List R) (b : Bool) → (m == key y) ≡ b → n < key y → found key m (y ∷ ys) ≡ Some x → (found key m ys ≡ Some x → n < m) → n < m
found_above_step key n m x y ys true e lt is rest = let one = equal_of m (key y) e in omega (arith, one, lt)
found_above_step key n m x y ys false e lt is rest = rest (rw e at is)

found_above : {R : Type 0} (key : R → ℕ) (n m : ℕ) (x : R) (xs : List R) → Above key n xs → found key m xs ≡ Some x → n < m
found_above key n m x [] a is = absurd cc
found_above key n m x (y ∷ ys) a is = found_above_step key n m x y ys (m == key y) refl a.0 is (found_above key n m x ys a.1)

first_found : {R : Type 0} (key : R → ℕ) (x : R) (xs : List R) → found key (key x) (x ∷ xs) ≡ Some x
first_found key x xs = rw (same_key (key x)) refl

first_above : {R : Type 0} (key : R → ℕ) (x y : R) (ys : List R) → Above key (key y) ys → found key (key x) (y ∷ ys) ≡ Some x → (key x == key y) ≡ false → key y < key x
first_above key x y ys a is apart = found_above key (key y) (key x) x ys a (rw apart at is)

first_same : {R : Type 0} (key : R → ℕ) (x y : R) (xs ys : List R) (b : Bool) → (key x == key y) ≡ b → Rises key (x ∷ xs) → Rises key (y ∷ ys) → ((n : ℕ) → found key n (x ∷ xs) ≡ found key n (y ∷ ys)) → x ≡ y
first_same key x y xs ys true e r s same = let k = rw e at (sym (first_found key x xs) ∙ same (key x)) in cc
first_same key x y xs ys false e r s same =
    let low : key y < key x = first_above key x y ys s.0 (sym (same (key x)) ∙ first_found key x xs) e in
    let high : key x < key y = first_above key y x xs r.0 (same (key y) ∙ first_found key y ys) (sym (turn (key x) (key y)) ∙ e) in
    absurd (omega (arith, low, high))

rest_same : {R : Type 0} (key : R → ℕ) (n : ℕ) (x : R) (xs ys : List R) (b : Bool) → (n == key x) ≡ b → Above key (key x) xs → Above key (key x) ys → found key n (x ∷ xs) ≡ found key n (x ∷ ys) → found key n xs ≡ found key n ys
rest_same key n x xs ys true e a c same = let one = equal_of n (key x) e in rw one (not_above key (key x) xs a ∙ sym (not_above key (key x) ys c))
rest_same key n x xs ys false e a c same = rw e at same

-- rows in order are told by what is found among them
pub same_rows : {R : Type 0} (key : R → ℕ) (xs ys : List R) → Rises key xs → Rises key ys → ((n : ℕ) → found key n xs ≡ found key n ys) → xs ≡ ys
same_rows key [] [] r s same = refl
same_rows key [] (y ∷ ys) r s same = let k = same (key y) ∙ first_found key y ys in absurd cc
same_rows key (x ∷ xs) [] r s same = let k = sym (same (key x)) ∙ first_found key x xs in absurd cc
same_rows key (x ∷ xs) (y ∷ ys) r s same =
    let one : x ≡ y = first_same key x y xs ys (key x == key y) refl r s same in
    let above : Above key (key x) ys = rw one s.0 in
    let rest : xs ≡ ys = same_rows key xs ys r.1 s.1 (λ n. rest_same key n x xs ys (n == key x) refl r.0 above (same n ∙ rw one refl)) in
    rw (one, rest) refl

-- ---- rows put in order
pub found_sorted : {R : Type 0} (key : R → ℕ) (n : ℕ) (xs : List R) → HaveOwn key xs → found key n (by_key key xs) ≡ found key n xs
found_sorted key n [] own = refl
found_sorted key n (x ∷ xs) own =
    found_put key (λ z. nat_lt (key x) (key z)) n x (by_key key xs) (found_sorted key (key x) xs own.1 ∙ own.0) ∙ ap (λ o. if n == key x then Some x else o) (found_sorted key n xs own.1)

pub rises_sorted : {R : Type 0} (key : R → ℕ) (xs : List R) → HaveOwn key xs → Rises key (by_key key xs)
rises_sorted key [] own = tt
rises_sorted key (x ∷ xs) own = rises_put key x (by_key key xs) (found_sorted key (key x) xs own.1 ∙ own.0) (rises_sorted key xs own.1)

count_put_step : {R : Type 0} (p q : R → Bool) (x y : R) (ys : List R) (b : Bool) → q y ≡ b → count_by p (put_before q x ys) ≡ cond (p x) 1 0 + count_by p ys → count_by p (put_before q x (y ∷ ys)) ≡ cond (p x) 1 0 + count_by p (y ∷ ys)
count_put_step p q x y ys true t rest = rw t (count-cons p x (y ∷ ys))
count_put_step p q x y ys false t rest = rw t (omega (arith, count-cons p y (put_before q x ys), count-cons p y ys, rest))

count_put : {R : Type 0} (p q : R → Bool) (x : R) (xs : List R) → count_by p (put_before q x xs) ≡ cond (p x) 1 0 + count_by p xs
count_put p q x [] = count-cons p x []
count_put p q x (y ∷ ys) = count_put_step p q x y ys (q y) refl (count_put p q x ys)

pub count_sorted : {R : Type 0} (key : R → ℕ) (p : R → Bool) (xs : List R) → count_by p (by_key key xs) ≡ count_by p xs
count_sorted key p [] = refl
count_sorted key p (x ∷ xs) =
    count_put p (λ z. nat_lt (key x) (key z)) x (by_key key xs) ∙ (ap (λ n. cond (p x) 1 0 + n) (count_sorted key p xs) ∙ sym (count-cons p x xs))

-- ---- what rows say
pub count_by-map : {A B : Type 0} (f : A → B) (p : B → Bool) (xs : List A) → count_by (λ y. p (f y)) xs ≡ count_by p (map f xs)
count_by-map f p [] = refl
count_by-map f p (x ∷ xs) = count-cons (λ y. p (f y)) x xs ∙ (ap (λ n. cond (p (f x)) 1 0 + n) (count_by-map f p xs) ∙ sym (count-cons p (f x) (map f xs)))

found_map_step : {A B : Type 0} (key : B → ℕ) (f : A → B) (n : ℕ) (x : A) (xs : List A) (b : Bool) → (n == key (f x)) ≡ b → found key n (map f xs) ≡ option_map f (found (λ y. key (f y)) n xs) → found key n (map f (x ∷ xs)) ≡ option_map f (found (λ y. key (f y)) n (x ∷ xs))
found_map_step key f n x xs true e rest = rw e refl
found_map_step key f n x xs false e rest = rw e rest

pub found_map : {A B : Type 0} (key : B → ℕ) (f : A → B) (n : ℕ) (xs : List A) → found key n (map f xs) ≡ option_map f (found (λ y. key (f y)) n xs)
found_map key f n [] = refl
found_map key f n (x ∷ xs) = found_map_step key f n x xs (n == key (f x)) refl (found_map key f n xs)

above_map : {A B : Type 0} (key : B → ℕ) (f : A → B) (n : ℕ) (xs : List A) → Above (λ y. key (f y)) n xs → Above key n (map f xs)
above_map key f n [] a = tt
above_map key f n (x ∷ xs) a = (a.0, above_map key f n xs a.1)

pub rises_map : {A B : Type 0} (key : B → ℕ) (f : A → B) (xs : List A) → Rises (λ y. key (f y)) xs → Rises key (map f xs)
rises_map key f [] r = tt
rises_map key f (x ∷ xs) r = (above_map key f (key (f x)) xs r.0, rises_map key f xs r.1)
