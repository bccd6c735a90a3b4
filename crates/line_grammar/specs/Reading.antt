-- Reading from left to right. What a step of reading gives is a value and the bytes behind it, or the number of bytes left where it stopped.
use Rattle.std.specs.Prelude.{◌≡◌, ℕ, List, Result, Ok, Err}
use Rattle.line_grammar.specs.declared.faults.ReadError.{ReadError}
use Rattle.line_grammar.specs.declared.faults.ReadError.TheVariants.{Memory, Bad}

-- one step and then another; an error ends both
infixl 10 ◌>>=◌
abbrev pub ◌>>=◌ : {A B : Type 0} → Result A ℕ → (A → Result B ℕ) → Result B ℕ
(Ok x) >>= f = f x
(Err left) >>= f = Err left

-- a reader's error is the one that reading gives, unless memory ran out
abbrev pub Fails : {Y : Type 0} → ReadError → Result Y ℕ → Type 0
Fails Memory read = Unit {0}
Fails (Bad left) read = read ≡ Err left

-- what a reader returned, seen by view, and the bytes that it left are what reading gives
abbrev pub Takes : {X Y : Type 0} → (X → Y) → Result X ReadError → List ℕ → Result (Y × List ℕ) ℕ → Type 0
Takes view (Ok x) rest read = read ≡ Ok (view x, rest)
Takes view (Err e) rest read = Fails e read
