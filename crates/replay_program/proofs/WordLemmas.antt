-- Numbers in words.
use Rattle.std.proofs.Common.{◌≡◌, ◌≢◌, length, map, ℕ, ◌+◌, ◌-◌, ◌*◌, ◌<◌, List, [], ◌∷◌, Bool, true, false, cond, None, option_and_then, refl, arith}
use Rattle.std.specs.Prelude.{Option}
use Rattle.std.specs.Char.{is_ascii_digit}
use Rattle.replay_program.specs.Words.{digits_from, in_bounds, settings_said}
use Rattle.replay_program.specs.Next.{next_said}

-- a number above the greatest is out of bounds
out_of_bounds : (n most : ℕ) → most < n → in_bounds 0 most n ≡ None
out_of_bounds n most h = grind arith

if_none : (d : Bool) (most : ℕ) (x : Option ℕ) → option_and_then (in_bounds 0 most) x ≡ None → option_and_then (in_bounds 0 most) (cond d x None) ≡ None
if_none true most x h = h
if_none false most x h = refl

-- digits behind a number above the greatest don't make it smaller
pub above_none : (bytes : List ℕ) (value most : ℕ) → most < value → option_and_then (in_bounds 0 most) (digits_from value bytes) ≡ None
above_none [] value most h = out_of_bounds value most h
above_none (b ∷ bs) value most h =
    if_none (is_ascii_digit b) most (digits_from (value * 10 + (b - 48)) bs) (above_none bs (value * 10 + (b - 48)) most (omega (arith, h)))

-- only one word and four words are a command
pub no_command : {A : Type 0} (bytes : A → List ℕ) (words : List A) → length words ≢ 1 → length words ≢ 4 → settings_said (map bytes words) ≡ None
no_command bytes [] one four = refl
no_command bytes (a ∷ []) one four = absurd (one refl)
no_command bytes (a ∷ b ∷ []) one four = refl
no_command bytes (a ∷ b ∷ c ∷ []) one four = refl
no_command bytes (a ∷ b ∷ c ∷ d ∷ []) one four = absurd (four refl)
no_command bytes (a ∷ b ∷ c ∷ d ∷ e ∷ rest) one four = refl

-- only six and seven words ask for next times
pub no_question : {A : Type 0} (bytes : A → List ℕ) (words : List A) → length words ≢ 6 → length words ≢ 7 → next_said (map bytes words) ≡ None
no_question bytes [] six seven = refl
no_question bytes (a ∷ []) six seven = refl
no_question bytes (a ∷ b ∷ []) six seven = refl
no_question bytes (a ∷ b ∷ c ∷ []) six seven = refl
no_question bytes (a ∷ b ∷ c ∷ d ∷ []) six seven = refl
no_question bytes (a ∷ b ∷ c ∷ d ∷ e ∷ []) six seven = refl
no_question bytes (a ∷ b ∷ c ∷ d ∷ e ∷ f ∷ []) six seven = absurd (six refl)
no_question bytes (a ∷ b ∷ c ∷ d ∷ e ∷ f ∷ g ∷ []) six seven = absurd (seven refl)
no_question bytes (a ∷ b ∷ c ∷ d ∷ e ∷ f ∷ g ∷ h ∷ rest) six seven = refl
