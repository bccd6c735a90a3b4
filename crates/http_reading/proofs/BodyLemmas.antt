-- Bodies as parts of the bytes that are held.
use Rattle.std.proofs.Common.{◌≡◌, ℕ, ◌+◌, ◌-◌, ◌≤◌, List, ◌++◌, length, take, drop, sym, ap, ◌∙◌, arith, length-take, length-drop, take-append-drop}
use Rattle.std.proofs.lemmas.List.{drop-drop}

-- so many bytes from a place on, and what follows them
pub part_is : (xs held part : List ℕ) (start count : ℕ) → start ≤ length xs → count ≤ length xs - start → held ≡ xs
    → part ≡ take ((start + count) - start) (drop start held) → (length part ≡ count) × (drop start xs ≡ part ++ drop (start + count) xs)
part_is xs held part start count inside enough same is =
    let size : (start + count) - start ≡ count = omega arith in
    let exact : part ≡ take count (drop start xs) = is ∙ ap (λ (n : ℕ). take n (drop start held)) size ∙ ap (λ (t : List ℕ). take count (drop start t)) same in (
      ap length exact ∙ omega (arith, length-take count (drop start xs), length-drop start xs),
      sym (take-append-drop count (drop start xs))
          ∙ ap (λ (t : List ℕ). t ++ drop count (drop start xs)) (sym exact)
          ∙ ap (λ (t : List ℕ). part ++ t) (drop-drop count start xs),
    )
