-- Grammars of short texts, byte by byte.
use Rattle.std.specs.Prelude.{◌≡◌, ℕ, suc, ◌⊎◌, Bool, true, if◌then◌else◌, List, [], ◌∷◌, length, Result, Ok, Err}

pub data Grammar (V : Type 0) : Type 0 where
  -- nothing more stands there, and the text says this
  Gives : V → Grammar V
  -- a byte of a class, and what may stand behind that byte
  One : (ℕ → Bool) → (ℕ → Grammar V) → Grammar V
  -- a byte of a class and what may stand behind it, or another grammar
  Or : (ℕ → Bool) → (ℕ → Grammar V) → Grammar V → Grammar V

-- the whole text says this value
abbrev pub Says : {V : Type 0} → Grammar V → V → List ℕ → Type 0
Says (Gives x) v text = (v ≡ x) × (text ≡ [])
Says (One class next) v [] = ⊥
Says (One class next) v (b ∷ text) = (class b ≡ true) × Says (next b) v text
Says (Or class next other) v [] = Says other v []
Says (Or class next other) v (b ∷ text) = ((class b ≡ true) × Says (next b) v text) ⊎ Says other v (b ∷ text)

-- ---- grammars put together

-- one behind the other, which may depend on what the first says
abbrev pub and_then : {V W : Type 0} → Grammar V → (V → Grammar W) → Grammar W
and_then (Gives x) behind = behind x
and_then (One class next) behind = One class (λ b. and_then (next b) behind)
and_then (Or class next other) behind = Or class (λ b. and_then (next b) behind) (and_then other behind)

-- one or the other
abbrev pub or_else : {V : Type 0} → Grammar V → Grammar V → Grammar V
or_else (Gives x) other = Gives x
or_else (One class next) other = Or class next other
or_else (Or class next first) other = Or class next (or_else first other)

-- ---- reading from left to right

-- one step and then another; an error ends both
infixl 10 ◌>>=◌
abbrev pub ◌>>=◌ : {A B : Type 0} → Result A ℕ → (A → Result B ℕ) → Result B ℕ
(Ok x) >>= f = f x
(Err left) >>= f = Err left

-- what is said and the bytes behind it, or how many bytes are left where no text goes on
abbrev pub reading : {V : Type 0} → Grammar V → List ℕ → Result (V × List ℕ) ℕ
reading (Gives x) bytes = Ok (x, bytes)
reading (One class next) [] = Err 0
reading (One class next) (b ∷ bytes) = if class b then reading (next b) bytes else Err (suc (length bytes))
reading (Or class next other) [] = reading other []
reading (Or class next other) (b ∷ bytes) = if class b then reading (next b) bytes else reading other (b ∷ bytes)

-- the text ends here
abbrev pub at_end : {V : Type 0} → V × List ℕ → Result V ℕ
at_end (v, []) = Ok v
at_end (v, b ∷ bytes) = Err (suc (length bytes))

-- what the whole text says, or how many bytes are left where no text goes on
abbrev pub whole : {V : Type 0} → Grammar V → List ℕ → Result V ℕ
whole g bytes = reading g bytes >>= at_end
