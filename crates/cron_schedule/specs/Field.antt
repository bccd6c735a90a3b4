-- The values and the greatest steps of the seven fields.
use Rattle.std.specs.Prelude.{ℕ, ◌==◌, ◌||◌, if◌then◌else◌}

-- the least value of a field
abbrev pub least : ℕ → ℕ
least field =
    if field == 7 then 1970 else if (field == 4) || (field == 5) || (field == 6) then 1 else 0

-- the greatest value of a field
abbrev pub greatest : ℕ → ℕ
greatest field =
    if field == 7 then 2099 else if field == 6 then 7 else if field == 5 then 12
    else if field == 4 then 31 else if field == 3 then 23 else 59

-- the greatest step of a field
abbrev pub greatest_step : ℕ → ℕ
greatest_step field = if field == 7 then 129 else greatest field
