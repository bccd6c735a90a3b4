-- Numbers in decimal digits without sign or leading zeros, within bounds.
use Rattle.std.specs.Prelude.{◌≡◌, ℕ, zero, suc, ◌+◌, ◌-◌, ◌*◌, ◌≤◌, ◌^◌, Bool, ◌&&◌, ◌||◌, nat_lt, nat_le, ◌==◌, if◌then◌else◌, List, [], ◌∷◌, ◌++◌, Result, decimal}
use Rattle.line_grammar.specs.declared.ends.End.{End}
use Rattle.line_grammar.specs.declared.numbers.NumberForm.{NumberForm}
use Rattle.line_grammar.specs.declared.numbers.NumberStage.{NumberStage}
use Rattle.line_grammar.specs.declared.numbers.NumberStage.TheVariants.{First, Zero, Value}
use Rattle.line_grammar.specs.declared.numbers.NumberMove.{NumberMove}
use Rattle.line_grammar.specs.declared.numbers.NumberMove.TheVariants.{More, Whole, Wrong}
use Rattle.line_grammar.specs.Ends.{end_byte}
use Rattle.line_grammar.specs.Automata.{Step, Goes, Ends, Refuses, run}

-- what stands behind a number
abbrev pub end_of : NumberForm → ℕ → End
end_of form zero = form.behind_zero
end_of form (suc n) = form.behind

-- the one spelling of a number
abbrev pub number_text : NumberForm → ℕ → List ℕ
number_text form n = decimal n ++ end_byte (end_of form n) ∷ []

-- the text says this number, which is within the bounds
abbrev pub IsNumber : NumberForm → ℕ → List ℕ → Type 0
IsNumber form n text = (form.least ≤ n) × (n ≤ form.greatest) × (text ≡ number_text form n)

-- the bounds are such that each number's front begins a number
abbrev pub is_number_form : NumberForm → Bool
is_number_form form = nat_le form.least 1 && (nat_le 1 form.greatest && nat_lt form.greatest (2 ^ 64))

-- what a byte does
abbrev pub number_move : NumberForm → NumberStage → ℕ → NumberMove
number_move form First b =
    if b == 48 then (if form.least == 0 then More Zero else Wrong)
    else (if nat_lt b 48 || nat_lt 57 b || nat_lt form.greatest (b - 48) then Wrong else More (Value (b - 48)))
number_move form Zero b = if b == end_byte form.behind_zero then Whole 0 else Wrong
number_move form (Value n) b =
    if nat_lt b 48 || nat_lt 57 b then (if b == end_byte form.behind then Whole n else Wrong)
    else (if nat_le (10 * n + (b - 48)) form.greatest then More (Value (10 * n + (b - 48))) else Wrong)

abbrev pub number_step_of : NumberMove → Step NumberStage ℕ
number_step_of (More s) = Goes s
number_step_of (Whole n) = Ends n
number_step_of Wrong = Refuses

abbrev pub number_step : NumberForm → NumberStage → ℕ → Step NumberStage ℕ
number_step form s b = number_step_of (number_move form s b)

-- reading a number
unfoldable pub number_at : NumberForm → List ℕ → Result (ℕ × List ℕ) ℕ
number_at form bytes = run (number_step form) First bytes
