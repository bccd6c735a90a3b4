-- Numbers in texts: decimal digits without sign, leading zeros allowed.
use Rattle.std.specs.Prelude.{ℕ, ◌+◌, ◌-◌, ◌*◌, List, Bool, ◌&&◌, nat_le, length, fold, Option, Some, None, if◌then◌else◌}
use Rattle.std.specs.Char.{is_ascii_digit}
use Rattle.std.specs.List.{list_all}

-- the number with one digit more at its end
abbrev pub with_digit : ℕ → ℕ → ℕ
with_digit n byte = n * 10 + (byte - 48)

-- the number that decimal digits spell
abbrev pub digits_value : List ℕ → ℕ
digits_value text = fold with_digit 0 text

-- one to so many bytes, each a decimal digit
abbrev pub is_number : ℕ → List ℕ → Bool
is_number longest text =
    nat_le 1 (length text) && nat_le (length text) longest && list_all is_ascii_digit text

-- the number that a text of one to so many decimal digits spells
abbrev pub number_of : ℕ → List ℕ → Option ℕ
number_of longest text = if is_number longest text then Some (digits_value text) else None
