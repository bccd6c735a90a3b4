-- Lists of lines that are read.
use Rattle.std.proofs.Common.{◌≡◌, ℕ, ◌≤◌, List, length, take, sym, ◌∙◌, arith}
use Rattle.std.proofs.lemmas.List.{take_all}

pub short_take : {X : Type 0} (xs : List X) (n m : ℕ) → length xs ≤ n → n ≤ m → take n xs ≡ take m xs
short_take xs n m h le = take_all n xs h ∙ sym (take_all m xs (omega arith))
