-- Seconds of a civil clock.
use Rattle.std.specs.Prelude.{◌≡◌, ℕ, nat_lt, ℤ, pos, negsuc, ◌+ℤ◌, if◌then◌else◌}

-- the second of UTC at a second of the clock
abbrev pub IsUtc : ℤ → ℕ → ℕ → Type 0
IsUtc offset second utc = pos utc +ℤ offset ≡ pos second

-- a second of the clock, moved to 1970 or to the end of 2099 where it lies outside
abbrev pub clip : ℤ → ℕ
clip (pos v) = if nat_lt v 4102444800 then v else 4102444800
clip (negsuc v) = 0
