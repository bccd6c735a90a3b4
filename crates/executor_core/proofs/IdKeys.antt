-- Ids in rising order, and the keys that they are made of.
use Rattle.std.proofs.Common.{◌≡◌, ℕ, ◌+◌, ◌<◌, ◌==◌, Bool, true, false, not, ◌||◌, nat_lt, nat_eq, if◌then◌else◌, List, [], ◌∷◌, ◌++◌, filter, length, refl, sym, ap, ◌∙◌, arith}
use Rattle.std.proofs.lemmas.Bool.{false≢true}
use Rattle.std.proofs.lemmas.Bool.Decides.{nat_tests}
use Rattle.std.specs.List.{IsDistinct, AllByRecursion as Each}
use Rattle.executor_history.specs.Past.{put_id, is_among}
use Rattle.executor_core.specs.Ids.{in_rise}

-- ---- what is among them
swap : (a b c : Bool) → (a || (b || c)) ≡ (b || (a || c))
swap true true c = refl
swap true false c = refl
swap false true c = refl
swap false false c = refl

put_step : (k id x : ℕ) (xs : List ℕ) (b : Bool) → nat_lt id x ≡ b → is_among k (put_id id xs) ≡ ((k == id) || is_among k xs) → is_among k (put_id id (x ∷ xs)) ≡ ((k == id) || is_among k (x ∷ xs))
put_step k id x xs true e h = rw e refl
put_step k id x xs false e h = rw e (ap (λ (b : Bool). (k == x) || b) h ∙ swap (k == x) (k == id) (is_among k xs))

among-put : (k id : ℕ) (xs : List ℕ) → is_among k (put_id id xs) ≡ ((k == id) || is_among k xs)
among-put k id [] = refl
among-put k id (x ∷ xs) = put_step k id x xs (nat_lt id x) refl (among-put k id xs)

pub among-keys : (k : ℕ) (keys ids : List ℕ) → is_among k (in_rise keys ids) ≡ (is_among k keys || is_among k ids)
among-keys k [] ids = refl
among-keys k (key ∷ keys) ids =
    among-keys k keys (put_id key ids) ∙ (ap (λ (b : Bool). is_among k keys || b) (among-put k key ids) ∙ turned (is_among k keys) (k == key) (is_among k ids)) where
      turned : (a b c : Bool) → (a || (b || c)) ≡ ((b || a) || c)
      turned true true c = refl
      turned true false c = refl
      turned false true c = refl
      turned false false c = refl

or_false : (b : Bool) → (b || false) ≡ b
or_false true = refl
or_false false = refl

pub among-own : (k : ℕ) (keys : List ℕ) → is_among k (in_rise keys []) ≡ is_among k keys
among-own k keys = among-keys k keys [] ∙ or_false (is_among k keys)

both_of : (k id x : ℕ) → (id == x) ≡ true → (k == id) ≡ false → (k == x) ≡ false
both_of k id x e f = grind (arith, nat_tests)

same_of : (k id x : ℕ) → (k == id) ≡ true → (id == x) ≡ false → (k == x) ≡ false
same_of k id x e f = grind (arith, nat_tests)

out_step : (k id x : ℕ) (xs : List ℕ) (b c : Bool) → (id == x) ≡ b → (k == id) ≡ c → is_among k (filter (λ y. not (id == y)) xs) ≡ (if k == id then false else is_among k xs)
    → is_among k (filter (λ y. not (id == y)) (x ∷ xs)) ≡ (if k == id then false else is_among k (x ∷ xs))
out_step k id x xs true true e f h = rw (e, f) (rw f at h)
out_step k id x xs true false e f h = rw (e, f) (rw (both_of k id x e f) (rw f at h))
out_step k id x xs false true e f h = rw (e, f) (rw (same_of k id x f e) (rw f at h))
out_step k id x xs false false e f h = rw (e, f) (ap (λ (b : Bool). (k == x) || b) (rw f at h))

among-out : (k id : ℕ) (xs : List ℕ) → is_among k (filter (λ y. not (id == y)) xs) ≡ (if k == id then false else is_among k xs)
among-out k id [] = by_test (k == id) where
  by_test : (b : Bool) → false ≡ (if b then false else false)
  by_test true = refl
  by_test false = refl
among-out k id (x ∷ xs) = out_step k id x xs (id == x) (k == id) refl refl (among-out k id xs)

-- ---- rising
abbrev pub Above : ℕ → List ℕ → Type 0
Above n xs = Each (λ (x : ℕ). n < x) xs

abbrev pub Rises : List ℕ → Type 0
Rises [] = Unit {0}
Rises (x ∷ xs) = Above x xs × Rises xs

above_lower : (n m : ℕ) (xs : List ℕ) → n < m → Above m xs → Above n xs
above_lower n m [] lt a = tt
above_lower n m (x ∷ xs) lt a = (omega (arith, lt, a.0), above_lower n m xs lt a.1)

above_put_step : (n id x : ℕ) (xs : List ℕ) (b : Bool) → nat_lt id x ≡ b → n < id → Above n (x ∷ xs) → Above n (put_id id xs) → Above n (put_id id (x ∷ xs))
above_put_step n id x xs true e lt a rest = rw e (lt, a)
above_put_step n id x xs false e lt a rest = rw e (a.0, rest)

above_put : (n id : ℕ) (xs : List ℕ) → n < id → Above n xs → Above n (put_id id xs)
above_put n id [] lt a = (lt, tt)
above_put n id (x ∷ xs) lt a = above_put_step n id x xs (nat_lt id x) refl lt a (above_put n id xs lt a.1)

less_of : (n m : ℕ) → nat_lt n m ≡ true → n < m
less_of n m e = grind (arith, nat_tests)

more_of : (n m : ℕ) → (n == m) ≡ false → nat_lt n m ≡ false → m < n
more_of n m e f = grind (arith, nat_tests)

or_left : (a b : Bool) → (a || b) ≡ false → a ≡ false
or_left true b e = absurd (false≢true (sym e))
or_left false b e = refl

or_right : (a b : Bool) → (a || b) ≡ false → b ≡ false
or_right true b e = absurd (false≢true (sym e))
or_right false b e = e

rises_put_step : (id x : ℕ) (xs : List ℕ) (b : Bool) → nat_lt id x ≡ b → (id == x) ≡ false → Rises (x ∷ xs) → Rises (put_id id xs) → Rises (put_id id (x ∷ xs))
rises_put_step id x xs true e new r rest = let lt = less_of id x e in rw e ((lt, above_lower id x xs lt r.0), r)
rises_put_step id x xs false e new r rest = rw e (above_put x id xs (more_of id x new e) r.0, rest)

rises_put : (id : ℕ) (xs : List ℕ) → is_among id xs ≡ false → Rises xs → Rises (put_id id xs)
rises_put id [] new r = (tt, tt)
rises_put id (x ∷ xs) new r = rises_put_step id x xs (nat_lt id x) refl (or_left (id == x) (is_among id xs) new) r (rises_put id xs (or_right (id == x) (is_among id xs) new) r.1)

above_filter : (n id : ℕ) (xs : List ℕ) → Above n xs → Above n (filter (λ y. not (id == y)) xs)
above_filter n id [] a = tt
above_filter n id (x ∷ xs) a = by_test (id == x) refl (above_filter n id xs a.1) where
  by_test : (b : Bool) → (id == x) ≡ b → Above n (filter (λ y. not (id == y)) xs) → Above n (filter (λ y. not (id == y)) (x ∷ xs))
  by_test true e rest = rw e rest
  by_test false e rest = rw e (a.0, rest)

rises_filter : (id : ℕ) (xs : List ℕ) → Rises xs → Rises (filter (λ y. not (id == y)) xs)
rises_filter id [] r = tt
rises_filter id (x ∷ xs) r = by_test (id == x) refl (rises_filter id xs r.1) where
  by_test : (b : Bool) → (id == x) ≡ b → Rises (filter (λ y. not (id == y)) xs) → Rises (filter (λ y. not (id == y)) (x ∷ xs))
  by_test true e rest = rw e rest
  by_test false e rest = rw e (above_filter x id xs r.0, rest)

-- keys that are distinct and new rise
abbrev AreNew : List ℕ → List ℕ → Type 0
AreNew keys ids = Each (λ (key : ℕ). is_among key ids ≡ false) keys

turn : (m n : ℕ) (b : Bool) → (m == n) ≡ b → (n == m) ≡ b
turn m n true e = grind (arith, nat_tests)
turn m n false e = grind (arith, nat_tests)

new_put : (key : ℕ) (keys ids : List ℕ) → Each (λ (y : ℕ). nat_eq key y ≡ false) keys → AreNew keys ids → AreNew keys (put_id key ids)
new_put key [] ids apart new = tt
new_put key (k ∷ keys) ids apart new =
    (among-put k key ids ∙ rw (turn key k false apart.0) new.0, new_put key keys ids apart.1 new.1)

rises_keys : (keys ids : List ℕ) → IsDistinct nat_eq keys → AreNew keys ids → Rises ids → Rises (in_rise keys ids)
unfolding IsDistinct
rises_keys [] ids once new r = r
rises_keys (key ∷ keys) ids once new r = rises_keys keys (put_id key ids) once.1 (new_put key keys ids once.0 new.1) (rises_put key ids new.0 r)

all_new : (keys : List ℕ) → AreNew keys []
all_new [] = tt
all_new (key ∷ keys) = (refl, all_new keys)

-- ---- rising ids are told by what is among them
not_above : (k : ℕ) (xs : List ℕ) → Above k xs → is_among k xs ≡ false
not_above k [] a = refl
not_above k (x ∷ xs) a = rw (differs k x a.0) (not_above k xs a.1) where
  differs : (n m : ℕ) → n < m → (n == m) ≡ false
  differs n m lt = grind (arith, nat_tests)

same_key : (n : ℕ) → (n == n) ≡ true
same_key n = grind (arith, nat_tests)

equal_of : (n m : ℕ) → (n == m) ≡ true → n ≡ m
equal_of n m e = grind (arith, nat_tests)

above_among : (n k : ℕ) (xs : List ℕ) → Above n xs → is_among k xs ≡ true → n < k
above_among n k [] a e = absurd (false≢true e)
above_among n k (x ∷ xs) a e = by_test (k == x) refl (λ more. above_among n k xs a.1 more) where
  by_test : (b : Bool) → (k == x) ≡ b → (is_among k xs ≡ true → n < k) → n < k
  by_test true t rest = let one = equal_of k x t in rw one a.0
  by_test false t rest = rest (rw t at e)

first_up_to : (x y : ℕ) (ys : List ℕ) → Above y ys → is_among x (y ∷ ys) ≡ true → (x == y) ≡ false → y < x
first_up_to x y ys a e differs = above_among y x ys a (rw differs at e)

here_among : (x : ℕ) (xs : List ℕ) → is_among x (x ∷ xs) ≡ true
here_among x xs = rw (same_key x) refl

first_same : (x y : ℕ) (xs ys : List ℕ) (b : Bool) → (x == y) ≡ b → Rises (x ∷ xs) → Rises (y ∷ ys) → ((k : ℕ) → is_among k (x ∷ xs) ≡ is_among k (y ∷ ys)) → x ≡ y
first_same x y xs ys true e r s same = equal_of x y e
first_same x y xs ys false e r s same =
    let low : y < x = first_up_to x y ys s.0 (sym (same x) ∙ here_among x xs) e in
    let high : x < y = first_up_to y x xs r.0 (same y ∙ here_among y ys) (turn x y false e) in
    absurd (omega (arith, low, high))

rest_same : (k x : ℕ) (xs ys : List ℕ) (b : Bool) → (k == x) ≡ b → Above x xs → Above x ys → is_among k (x ∷ xs) ≡ is_among k (x ∷ ys) → is_among k xs ≡ is_among k ys
rest_same k x xs ys true e a c same = let one = equal_of k x e in rw one (not_above x xs a ∙ sym (not_above x ys c))
rest_same k x xs ys false e a c same = rw e at same

pub rising-same : (xs ys : List ℕ) → Rises xs → Rises ys → ((k : ℕ) → is_among k xs ≡ is_among k ys) → xs ≡ ys
rising-same [] [] r s same = refl
rising-same [] (y ∷ ys) r s same = absurd (false≢true (same y ∙ here_among y ys))
rising-same (x ∷ xs) [] r s same = absurd (false≢true (sym (same x) ∙ here_among x xs))
rising-same (x ∷ xs) (y ∷ ys) r s same =
    let one : x ≡ y = first_same x y xs ys (x == y) refl r s same in
    let above : Above x ys = rw one s.0 in
    let rest : xs ≡ ys = rising-same xs ys r.1 s.1 (λ k. rest_same k x xs ys (k == x) refl r.0 above (same k ∙ rw one refl)) in
    rw (one, rest) refl

-- ---- the changes
pub keys-push : (id : ℕ) (keys ids : List ℕ) → in_rise (keys ++ id ∷ []) ids ≡ put_id id (in_rise keys ids)
keys-push id [] ids = refl
keys-push id (key ∷ keys) ids = keys-push id keys (put_id key ids)

put_len : (id : ℕ) (xs : List ℕ) → length (put_id id xs) ≡ length xs + 1
put_len id [] = refl
put_len id (x ∷ xs) = by_test (nat_lt id x) refl (put_len id xs) where
  by_test : (b : Bool) → nat_lt id x ≡ b → length (put_id id xs) ≡ length xs + 1 → length (put_id id (x ∷ xs)) ≡ length (x ∷ xs) + 1
  by_test true e h = rw e (omega arith)
  by_test false e h = rw e (omega (arith, h))

pub keys-len : (keys ids : List ℕ) → length (in_rise keys ids) ≡ length keys + length ids
keys-len [] ids = omega arith
keys-len (key ∷ keys) ids = let a = keys-len keys (put_id key ids) in let b = put_len key ids in omega (arith, a, b)

pub keys-out : (id : ℕ) (keys left : List ℕ) → IsDistinct nat_eq keys → IsDistinct nat_eq left → ((k : ℕ) → is_among k left ≡ (if k == id then false else is_among k keys)) → in_rise left [] ≡ filter (λ x. not (id == x)) (in_rise keys [])
keys-out id keys left once twice among =
    rising-same (in_rise left []) (filter (λ x. not (id == x)) (in_rise keys [])) (rises_keys left [] twice (all_new left) tt) (rises_filter id (in_rise keys []) (rises_keys keys [] once (all_new keys) tt))
    (λ k. among-own k left ∙ (among k ∙ (ap (λ (b : Bool). if k == id then false else b) (sym (among-own k keys)) ∙ sym (among-out k id (in_rise keys [])))))
