-- Lists with one entry for each admin.
use Rattle.std.proofs.Common.{◌≡◌, ℕ, ◌<◌, List, [], ◌∷◌, true, false, eqb, map, get_or, set, refl, sym, ap, ◌∙◌, subst, ⊎_elim, arith}
use Rattle.std.proofs.lemmas.Bool.{cases_eq}
use Rattle.std.proofs.lemmas.Bool.Decides.{nat_tests}
use Rattle.std.proofs.lemmas.List.{get_or-set_same, get_or-set_other, length-set}
use Rattle.std.proofs.lemmas.List.FromFn.{length-map-range_with_len, get_or-map-range_with_len, fill_by_all}
use Rattle.std.specs.List.{range_with_len}
use Rattle.job_values.specs.declared.limits.TheConstants.{ADMINS}
use Rattle.cluster_history.specs.Nodes.{admins}

pub at-admin : {X : Type 0} (f : ℕ → X) (a : ℕ) (d : X) → a < ADMINS → get_or (map f admins) a d ≡ f a
at-admin f a d h = get_or-map-range_with_len f 0 ADMINS a a d h (omega arith)

pub same-admin : (a : ℕ) → eqb a a ≡ true
same-admin a = grind (arith, nat_tests)

pub other-admin : (a b : ℕ) → (a ≡ b → ⊥) → eqb a b ≡ false
other-admin a b other = grind (arith, nat_tests, other)

-- a list over numbers, written at one of them
pub set-range_as : {X : Type 0} (f g : ℕ → X) (n i : ℕ) (v : X) → i < n → v ≡ g i → ((x : ℕ) → (x ≡ i → ⊥) → f x ≡ g x) → set (map f (range_with_len 0 n)) i v ≡ map g (range_with_len 0 n)
set-range_as f g n i v h here others =
    let all = map f (range_with_len 0 n) in
    fill_by_all g (set all i v) n v (length-set all i v ∙ length-map-range_with_len f 0 n) (λ k lt.
    ⊎_elim (λ same. ap (λ m. get_or (set all i v) m v) same ∙ get_or-set_same all i v v (subst (λ m. i < m) (sym (length-map-range_with_len f 0 n)) h) ∙ here ∙ ap g (sym same))
    (λ other. get_or-set_other all i k v v other ∙ get_or-map-range_with_len f 0 n k k v lt (omega arith) ∙ others k other)
    (cases_eq k i))

pub map-same : {X : Type 0} (f g : ℕ → X) → ((x : ℕ) → f x ≡ g x) → (xs : List ℕ) → map f xs ≡ map g xs
map-same f g e [] = refl
map-same f g e (x ∷ xs) = ap (λ y. y ∷ map f xs) (e x) ∙ ap (λ ys. g x ∷ ys) (map-same f g e xs)

pub map-mapped : {X Y Z : Type 0} (f : Y → Z) (g : X → Y) (xs : List X) → map f (map g xs) ≡ map (λ x. f (g x)) xs
map-mapped f g [] = refl
map-mapped f g (x ∷ xs) = ap (λ ys. f (g x) ∷ ys) (map-mapped f g xs)
