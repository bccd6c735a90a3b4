-- Languages: a relation between values and the texts that say them.
use Rattle.std.specs.Prelude.{◌≡◌, ℕ, List, [], ◌∷◌, ◌++◌, length, Result, Ok, Err}

-- the bytes begin some text of the language
abbrev pub Begins : {V : Type 0} → (V → List ℕ → Type 0) → List ℕ → Type 0
Begins {V} L bytes = (v : V) × (more : List ℕ) × L v (bytes ++ more)

-- the longest prefix of the bytes that begins some text ends where this many bytes are left
pub record Stops {V : Type 0} (L : V → List ℕ → Type 0) (bytes : List ℕ) (left : ℕ) : Type 0 where
  pub front : List ℕ
  pub back : List ℕ
  pub parts : bytes ≡ front ++ back
  pub left_is : length back ≡ left
  pub begins : Begins L front
  pub longest : (b : ℕ) (more : List ℕ) → back ≡ b ∷ more → Begins L (front ++ b ∷ []) → ⊥

-- one value, by no byte
abbrev pub IsOnly : {V : Type 0} → V → V → List ℕ → Type 0
IsOnly x v text = (v ≡ x) × (text ≡ [])

-- a text of the first language and behind it one of a second, which may depend on what the first said
abbrev pub Then : {V W : Type 0} → (V → List ℕ → Type 0) → (V → W → List ℕ → Type 0) → W → List ℕ → Type 0
Then {V} L M w text = (v : V) × (first : List ℕ) × (second : List ℕ) × L v first × M v w second × (text ≡ first ++ second)

-- the reading function reads exactly the language, and stops where no text goes on
pub record Reads {V : Type 0} (L : V → List ℕ → Type 0) (read : List ℕ → Result (V × List ℕ) ℕ) : Type 0 where
  -- what is read is said by the bytes in front
  pub found : (bytes : List ℕ) (v : V) (rest : List ℕ) → read bytes ≡ Ok (v, rest) → (text : List ℕ) × L v text × (bytes ≡ text ++ rest)
  -- what is said is read, whatever stands behind it
  pub again : (v : V) (text rest : List ℕ) → L v text → read (text ++ rest) ≡ Ok (v, rest)
  -- where reading stops, no text of the language goes on
  pub stops : (bytes : List ℕ) (left : ℕ) → read bytes ≡ Err left → Stops L bytes left
  -- something can be said
  pub some : (v : V) × (text : List ℕ) × L v text
