-- One more act of a counter.
use Rattle.std.proofs.Common.{◌≡◌, ℕ, ◌+◌, ◌≤◌, List, [], ◌∷◌, ◌++◌, refl, arith}
use Rattle.shared_counter.specs.declared.counter.Add.{Add}
use Rattle.shared_counter.specs.declared.counter.Counter.{Counter}
use Rattle.shared_counter.specs.Counting.{value_after, IsLegalFrom, Stands}

pub value_after-push : (value : ℕ) (log : List (Add × ℕ)) (e : Add × ℕ) → value_after value (log ++ e ∷ []) ≡ value_after value log + e.0.by
value_after-push value [] e = refl
value_after-push value (x ∷ xs) e = value_after-push (value + x.0.by) xs e

legal_push : (limit value : ℕ) (log : List (Add × ℕ)) (e : Add × ℕ) → IsLegalFrom limit value log → e.1 ≡ value_after value log + e.0.by → e.1 ≤ limit → IsLegalFrom limit value (log ++ e ∷ [])
legal_push limit value [] e legal is within = (is, within, tt)
legal_push limit value (x ∷ xs) e legal is within = (legal.0, legal.1, legal_push limit (value + x.0.by) xs e legal.2 is within)

-- the counter stands for one entry more
pub stands_push : (start : Counter) (log : List (Add × ℕ)) (old new : Counter) (e : Add × ℕ) → Stands start log old → new.limit ≡ old.limit → new.value ≡ old.value + e.0.by → e.1 ≡ new.value → new.value ≤ new.limit → Stands start (log ++ e ∷ []) new
stands_push start log old new e stands limit value reply within =
    let l = stands.0 in
    let v = stands.1 in
    let push = value_after-push start.value log e in
    (omega arith, omega arith, legal_push start.limit start.value log e stands.2 (omega arith) (omega arith))
