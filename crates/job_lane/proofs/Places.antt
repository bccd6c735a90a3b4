-- Where the first element that passes stands, and the list without it.
use Rattle.std.proofs.Common.{◌≡◌, ℕ, ◌+◌, ◌<◌, ◌≤◌, Bool, true, false, cond, List, [], ◌∷◌, ◌++◌, Some, None, length, get_or, take, drop, find, position, IsSome, refl, ap, arith, ltb, zero, suc, add-one}
use Rattle.std.specs.List.{position_or_len}
use Rattle.std.proofs.lemmas.List.Quantifiers.{position-Some}
use borrow.Author.Tests.{ltb-false}
use Rattle.job_lane.specs.Runs.{without_first}

-- what a search answers where none passes
pub record Nowhere {X : Type 0} (p : X → Bool) (xs : List X) : Type 0 where
  pub found : find p xs ≡ None
  pub left : without_first p xs ≡ xs

-- and where the first one that passes stands at a place
pub record FoundAt {X : Type 0} (p : X → Bool) (xs : List X) (i : ℕ) (d : X) : Type 0 where
  pub found : find p xs ≡ Some (get_or xs i d)
  pub left : without_first p xs ≡ take i xs ++ drop (i + 1) xs

nowhere_step : {X : Type 0} (p : X → Bool) (x : X) (xs : List X) (b : Bool) → p x ≡ b → Nowhere p xs → b ≡ false → Nowhere p (x ∷ xs)
nowhere_step p x xs b e h n = record { found = rw (e, n) h.found; left = rw (e, n) (ap (λ ys. x ∷ ys) h.left) }

pub nowhere : {X : Type 0} (p : X → Bool) (xs : List X) → ((k : ℕ) (d : X) → k < length xs → p (get_or xs k d) ≡ false) → Nowhere p xs
nowhere p [] h = record { found = refl; left = refl }
nowhere p (x ∷ xs) h = nowhere_step p x xs (p x) refl (nowhere p xs (λ k d lt. h (suc k) d (omega arith))) (h 0 x (omega arith))

pub found_at : {X : Type 0} (p : X → Bool) (xs : List X) (i : ℕ) (d : X) → i < length xs → p (get_or xs i d) ≡ true → ((k : ℕ) → k < i → p (get_or xs k d) ≡ false) → FoundAt p xs i d
found_at p [] i d lt e h = absurd (omega arith)
found_at p (x ∷ xs) zero d lt e h = record { found = rw e refl; left = rw e refl }
found_at p (x ∷ xs) (suc i) d lt e h =
    let no : p x ≡ false = h 0 (omega arith) in
    let step = found_at p xs i d (omega arith) e (λ k below. h (suc k) (omega arith)) in
    record { found = rw no step.found; left = rw (no, add-one, step.left) (simp add-one) }

none_from : (b : Bool) (n : ℕ) → cond b (Some n) None ≡ None → b ≡ false
none_from true n e = cc
none_from false n e = refl

nowhere_past : {X : Type 0} (p : X → Bool) (x : X) (xs : List X) (b : Bool) → p x ≡ b → length (x ∷ xs) ≤ position_or_len p (x ∷ xs) → (length xs ≤ position_or_len p xs → Nowhere p xs) → Nowhere p (x ∷ xs)
nowhere_past p x xs true e h step = let k = rw e at h in absurd (omega arith)
nowhere_past p x xs false e h step = let k = rw e at h in nowhere_step p x xs false e (step (omega arith)) refl

nowhere_by : {X : Type 0} (p : X → Bool) (xs : List X) → length xs ≤ position_or_len p xs → Nowhere p xs
nowhere_by p [] h = record { found = refl; left = refl }
nowhere_by p (x ∷ xs) h = nowhere_past p x xs (p x) refl h (nowhere_by p xs)

pub nowhere_of : {X : Type 0} (p : X → Bool) (xs : List X) → position p xs ≡ None → Nowhere p xs
nowhere_of p xs e = nowhere_by p xs (ltb-false _ _ (none_from (ltb (position_or_len p xs) (length xs)) (position_or_len p xs) e))

pub found_of : {X : Type 0} (p : X → Bool) (xs : List X) (i : ℕ) (d : X) → position p xs ≡ Some i → FoundAt p xs i d
found_of p xs i d e = let at = position-Some p xs i d e in found_at p xs i d at.0 at.1 at.2
