-- Two ways to take a list apart.
use Rattle.std.proofs.Common.{◌≡◌, ℕ, List, [], ◌∷◌, ◌++◌, refl, sym, ap, ◌∙◌}

pub cons_parts : (a b : ℕ) (x y : List ℕ) → a ∷ x ≡ b ∷ y → (a ≡ b) × (x ≡ y)
cons_parts a b x y e = (cc, cc)

-- of two fronts of one list, the first goes past the second by at least one byte, or is a front of the second
pub longer : (x y front : List ℕ) (b : ℕ) (more : List ℕ) → x ++ y ≡ front ++ (b ∷ more) → (P : Type 0)
    → ((others : List ℕ) → x ≡ front ++ (b ∷ others) → P) → ((rest : List ℕ) → front ≡ x ++ rest → P) → P
longer [] y front b more e P past short = short front refl
longer (a ∷ x) y [] b more e P past short = past x (ap (λ (c : ℕ). c ∷ x) (cons_parts a b (x ++ y) more e).0)
longer (a ∷ x) y (c ∷ front) b more e P past short =
    let p = cons_parts a c (x ++ y) (front ++ (b ∷ more)) e in
    longer x y front b more p.1 P
    (λ others h. past others (ap (λ (t : List ℕ). a ∷ t) h ∙ ap (λ (k : ℕ). k ∷ (front ++ (b ∷ others))) p.0))
    (λ rest h. short rest (ap (λ (k : ℕ). k ∷ front) (sym p.0) ∙ ap (λ (t : List ℕ). a ∷ t) h))
